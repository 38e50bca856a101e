use Rattle.std.proofs.lemmas.Result.{err_from_is_err_and}
use Rattle.migration_sides.proofs.Told.{one_refused}
use Rattle.std.proofs.Common.{Err, ap}
use Rattle.migration_sides.proofs.sides.walk_one.Goals as goal

pub returns-clause-walked : goal.returns-clause-walked
returns-clause-walked g c =
    let e = c.in_ok-walk.ensures in
    record { clean = e.clean; ordered = e.ordered; files = e.files; behind = e.behind; size = e.size; plan = e.plan }

pub returns-clause-passed : goal.returns-clause-passed
returns-clause-passed g c v seen = (c.in_ok-walk.ensures.within v seen, c.in_ok-walk.ensures.clean v seen, c.in_ok-walk.ensures.plan v seen)

pub returns-in_err-walk-clause-cause : goal.returns-in_err-walk-clause-cause
returns-in_err-walk-clause-cause g c =
    let why = c.in_err-walk.field-0.0 in
    let e = c.in_err-walk.ensures in
    let p = err_from_is_err_and c.from_residual.result c.from_residual.ensures.1 in
    rw (p.1, p.2) (λ v seen. one_refused c.args.vault.now v why e.fault (record {
      not_clean = λ finding is. e.not_clean finding (ap Err is) v seen;
      items = λ is. e.items (ap Err is) v seen;
      depth = λ is. e.depth (ap Err is) v seen;
      limits_first = λ finding is. e.limits_first finding (ap Err is) v seen;
    }))
