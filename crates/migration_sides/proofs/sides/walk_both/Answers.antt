use Rattle.std.proofs.Common.{subst, sym}
use Rattle.migration_sides.specs.Sides.{IsWalked}
use Rattle.std.proofs.lemmas.Result.{err_from_is_err_and}
use Rattle.migration_sides.proofs.Told.{first_refused, second_refused}
use Rattle.folder_spec.specs.Seen.{IsSeen}
use Rattle.migration_sides.proofs.sides.walk_both.Goals as goal

pub returns-clause-target : goal.returns-clause-target
returns-clause-target g c = subst (λ t. IsWalked t c.args.sides.now.target c.in_ok-target.target.items) c.in_ok-source.ensures.told c.in_ok-target.ensures.walked

pub returns-in_err-source-clause-cause : goal.returns-in_err-source-clause-cause
returns-in_err-source-clause-cause g c =
    let p = err_from_is_err_and c.from_residual.result c.from_residual.ensures.1 in
    rw (p.1, p.2) (λ v seen. first_refused c.args.sides.now.source c.args.sides.now.target v c.in_err-source.field-0.0 (c.in_err-source.ensures.cause v seen))

pub returns-in_err-target-clause-cause : goal.returns-in_err-target-clause-cause
returns-in_err-target-clause-cause g c =
    let p = err_from_is_err_and c.from_residual-in_err-target.result c.from_residual-in_err-target.ensures.1 in
    rw (p.1, p.2) (λ v seen. second_refused c.args.sides.now.source c.args.sides.now.target v c.in_ok-source.source.items c.in_err-target.field-0.0 (c.in_ok-source.ensures.passed v seen)
    (c.in_err-target.ensures.cause v (subst (λ t. IsSeen t v) (sym c.in_ok-source.ensures.told) seen)))

pub returns-clause-passed_target : goal.returns-clause-passed_target
returns-clause-passed_target g c v seen = c.in_ok-target.ensures.passed v (subst (λ t. IsSeen t v) (sym c.in_ok-source.ensures.told) seen)
