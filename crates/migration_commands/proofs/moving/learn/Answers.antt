use Rattle.std.proofs.Common.{IfErr, subst, sym}
use Rattle.std.proofs.lemmas.Result.{err_from_is_err_and}
use Rattle.folder_spec.specs.Seen.{IfSeen}
use Rattle.migration_commands.specs.Moving.{FailPasses}
use Rattle.migration_commands.proofs.Migrations.{cut_short}
use Rattle.migration_commands.proofs.moving.learn.Goals as goal

pub returns-in_err-journal-clause-refused : goal.returns-in_err-journal-clause-refused
returns-in_err-journal-clause-refused g c =
    let passes = c.args.resuming.now.passes in
    let told = g.F.Folder.told c.args.folder.now in
    let p = err_from_is_err_and c.from_residual-in_err-journal.result c.from_residual-in_err-journal.ensures.1 in
    subst (λ r. IfErr r (λ answer. IfSeen told (λ v. FailPasses passes v answer))) (sym p.1) (λ v is.
    subst (λ answer. FailPasses passes v answer) (sym p.2) (cut_short passes v c.in_err-journal.field-0.0 c.in_err-journal.ensures.cut))
