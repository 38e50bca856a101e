use Rattle.sha2.specs.Sha512.{sha384}
use Rattle.kdf_suite.specs.Hmac.{hmac_sha384}
use Rattle.kdf_suite.proofs.Keys.{key_block-long, key_block-short}
use Rattle.kdf_suite.proofs.hmac.hmac384.Goals as goal

pub returns-then-key-gt-SHA512_BLOCK : goal.returns-then-key-gt-SHA512_BLOCK
unfolding hmac_sha384
returns-then-key-gt-SHA512_BLOCK c =
    rw (key_block-long sha384 128 c.args.key.now c.if-key-gt-SHA512_BLOCK.true, ← c.digest.ensures) c.hmac384_under.ensures

pub returns : goal.returns
unfolding hmac_sha384
returns c = rw (key_block-short sha384 128 c.args.key.now c.if-key-gt-SHA512_BLOCK.false) c.hmac384_under-2.ensures
