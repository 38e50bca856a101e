use Rattle.std.proofs.Common.{◌∙◌, ◌++◌, ap}
use Rattle.sha2.specs.Sha256.{sha256}
use Rattle.kdf_suite.specs.Hmac.{hmac_sha256, key_block, xored_with}
use Rattle.kdf_suite.specs.HmacPieces.{HoldsText}
use Rattle.kdf_suite.proofs.hmac.HmacPieces.finish.Goals as goal

pub returns : goal.returns
unfolding hmac_sha256
returns c = λ key text told.
    let held : HoldsText (record { inner = c.self.inside.inner; outer = c.self.inside.outer }) key text = rw (← c.self.view_is) at told in
    c.finalize-2.ensures _ (c.update.ensures _ held.outer)
    ∙ ap (λ digest. sha256 (xored_with 0x5C (key_block sha256 64 key) ++ digest)) (c.finalize.ensures _ held.inner)
