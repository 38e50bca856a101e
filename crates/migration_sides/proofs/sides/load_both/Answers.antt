use Rattle.std.proofs.Common.{subst, sym}
use Rattle.folder_spec.specs.Seen.{IsSeen}
use Rattle.std.proofs.lemmas.Result.{err_from_is_err_and}
use Rattle.migration_sides.proofs.Told.{source_refused, target_refused}
use Rattle.migration_sides.proofs.sides.load_both.Goals as goal

pub returns-clause-opens_target : goal.returns-clause-opens_target
returns-clause-opens_target g c = λ v seen. c.in_ok-target.ensures.vault v (subst (λ t. IsSeen t v) (sym c.in_ok-source.ensures.told) seen)

pub returns-in_err-source-clause-cause : goal.returns-in_err-source-clause-cause
returns-in_err-source-clause-cause g c =
    let why = c.in_err-source.field-0.0 in
    let p = err_from_is_err_and c.from_residual.result c.from_residual.ensures.1 in
    rw (p.1, p.2) (λ v seen. source_refused v c.args.source.now c.args.target.now c.args.source_pass.now c.args.target_pass.now why (c.in_err-source.ensures.cause v seen))

pub returns-in_err-target-clause-cause : goal.returns-in_err-target-clause-cause
returns-in_err-target-clause-cause g c =
    let why = c.in_err-target.field-0.0 in
    let p = err_from_is_err_and c.from_residual-in_err-target.result c.from_residual-in_err-target.ensures.1 in
    rw (p.1, p.2) (λ v seen. target_refused v c.args.source.now c.args.target.now c.args.source_pass.now c.args.target_pass.now c.in_ok-source.source.vault why (c.in_ok-source.ensures.vault v seen)
    (c.in_err-target.ensures.cause v (subst (λ t. IsSeen t v) (sym c.in_ok-source.ensures.told) seen)))
