use Rattle.sha2.specs.Sha512.{sha512}
use Rattle.kdf_suite.specs.Hmac.{hmac_sha512}
use Rattle.kdf_suite.proofs.Keys.{key_block-long, key_block-short}
use Rattle.kdf_suite.proofs.hmac.hmac512.Goals as goal

pub returns-then-key-gt-SHA512_BLOCK : goal.returns-then-key-gt-SHA512_BLOCK
unfolding hmac_sha512
returns-then-key-gt-SHA512_BLOCK c =
    rw (key_block-long sha512 128 c.args.key.now c.if-key-gt-SHA512_BLOCK.true, ← c.digest.ensures) c.hmac512_under.ensures

pub returns : goal.returns
unfolding hmac_sha512
returns c = rw (key_block-short sha512 128 c.args.key.now c.if-key-gt-SHA512_BLOCK.false) c.hmac512_under-2.ensures
