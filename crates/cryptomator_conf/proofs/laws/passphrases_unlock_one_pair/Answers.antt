use Rattle.std.proofs.Common.{ℕ, List, ap₂}
use Rattle.vault_values.specs.declared.keys.CmKeys.{CmKeys}
use Rattle.cryptomator_conf.proofs.laws.passphrases_unlock_one_pair.Goals as goal

pub returns : goal.returns
returns c = λ file pass keys other are others unlocks unlocks_others.
    let once = c.unwraps_to_one_key.ensures in
    let make : List ℕ → List ℕ → CmKeys = λ enc mac. record { enc = enc; mac = mac } in
    ap₂ make (once _ _ _ _ are.enc others.enc unlocks.enc unlocks_others.enc) (once _ _ _ _ are.mac others.mac unlocks.mac unlocks_others.mac)
