use Rattle.std.proofs.Common.{inl, inr, refl}
use Rattle.vault_read.proofs.loading.unlock_master.Goals as goal

pub returns-in-Ok-check_signature-clause-keys : goal.returns-in-Ok-check_signature-clause-keys
returns-in-Ok-check_signature-clause-keys c =
    inl (c.in-Ok.keys, c.are_keys.ensures, c.in-Ok.ensures.keys, inl (c.in-Ok-check_signature.ensures.0 refl, refl))

pub returns-in-Err-clause-fault : goal.returns-in-Err-clause-fault
returns-in-Err-clause-fault c =
    λ root. inl (c.in-Ok.keys, c.are_keys.ensures, c.in-Ok.ensures.keys, inr (λ same. (let no = c.in-Err.ensures.1 same in cc no), refl))
