use Rattle.std.proofs.Common.{sym, subst}
use Rattle.host_places.specs.Noted.{Sees}
use Rattle.host_places.proofs.Dirs.{sees_from, sees_one, sees_one_seen}
use Rattle.host_places.proofs.noted.Noted.see.Goals as goal

pub returns-in_err-add-3-clause-sees : goal.returns-in_err-add-3-clause-sees
returns-in_err-add-3-clause-sees c =
    subst (λ known. Sees c.args.self.now (record { known = known; seen = c.add-2.new.dirs.keys; changed = c.self.inside.changed.keys })) (sym c.in_err-add-3.ensures.same)
    (sees_from (sym c.self.view_is) (sees_one_seen _ _ _ c.in_ok-add-2.ensures.more))

pub returns-clause-sees : goal.returns-clause-sees
returns-clause-sees c = sees_from (sym c.self.view_is) (sees_one _ _ _ c.args.dir.now c.in_ok-add-2.ensures.more c.in_ok-add-3.ensures.more)
