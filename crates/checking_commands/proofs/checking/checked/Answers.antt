use Rattle.std.proofs.Common.{Err, sym, ap, subst}
use Rattle.folder_spec.specs.Seen.{IsSeen}
use Rattle.checking_commands.specs.Fsck.{ShowsReport}
use Rattle.open_for_reading.specs.Refusing.{Unless}
use Rattle.open_for_reading.specs.Shown.{refused}
use Rattle.checking_commands.proofs.Checks.{check_refused, report_told}
use Rattle.checking_commands.proofs.checking.checked.Goals as goal

pub returns-in-Ok-clause-report : goal.returns-in-Ok-clause-report
returns-in-Ok-clause-report g c = λ v is.
    let later = subst (λ t. IsSeen t v) (sym c.in_ok-vault.ensures.told) is in
    report_told c.args.target.now c.in_ok-vault.vault.root c.in_ok-vault.vault.vault v c.in-Ok.report c.in_ok-vault.ensures.root (c.in_ok-vault.ensures.opened v is)
    (c.in-Ok.ensures.report v later) (c.in-Ok.ensures.within v later) (c.in-Ok.ensures.short v later)

pub returns-clause-refused : goal.returns-clause-refused
returns-clause-refused g c = λ v is.
    let later = subst (λ t. IsSeen t v) (sym c.in_ok-vault.ensures.told) is in
    subst (λ answer. Unless answer (ShowsReport c.args.target.now v (refused answer))) (sym c.answer_to_check.ensures)
    (check_refused c.args.target.now c.in_ok-vault.vault.root c.in_ok-vault.vault.vault v c.in-Err.fault c.in_ok-vault.ensures.root (c.in_ok-vault.ensures.opened v is) c.in-Err.ensures.fault
    (λ same. c.in-Err.ensures.items (ap Err same) v later) (λ same. c.in-Err.ensures.depth (ap Err same) v later) (λ at same. (c.in-Err.ensures.length at (ap Err same) v later, c.in-Err.ensures.limits_first at (ap Err same) v later)))
