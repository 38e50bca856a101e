use Rattle.std.proofs.Common.{sym, subst, IsTrue}
use Rattle.std.specs.Prelude.{IsFalse}
use Rattle.folder_spec.specs.Path.{Path}
use Rattle.host_places.specs.Noted.{has, same}
use Rattle.host_places.proofs.Dirs.{has_less_stays, sees_but_from, sees_forgotten}
use Rattle.host_places.proofs.noted.Noted.forget.Goals as goal

pub returns-clause-sees : goal.returns-clause-sees
returns-clause-sees c = sees_but_from (sym c.self.view_is) (sees_forgotten _ _ _ _ _ c.remove.ensures.updates.0 c.remove-2.ensures.updates.0 c.remove-3.ensures.updates.0)

pub returns-clause-keeps : goal.returns-clause-keeps
returns-clause-keeps c =
    subst (λ dirs. (at : Path) → IsFalse (same c.args.dir.now at) → IsTrue (has dirs.changed at) → IsTrue (has c.remove-3.new.self.keys at)) c.self.view_is
    (has_less_stays c.self.inside.changed.keys c.remove-3.new.self.keys _ c.remove-3.ensures.updates.0)
