use Rattle.std.proofs.Common.{Ok, ap, Err, inr, refl}
use Rattle.vault_read.proofs.loading.unlock_go.Goals as goal

pub returns-in-Err-WrongPass-clause-fault : goal.returns-in-Err-WrongPass-clause-fault
returns-in-Err-WrongPass-clause-fault c =
    (Ok c.in-Ok.conf, c.in-Ok.ensures.conf, inr (c.in-Err-WrongPass.ensures.wrong_pass (ap Err c.in-Err-WrongPass.field-0-is), refl))
