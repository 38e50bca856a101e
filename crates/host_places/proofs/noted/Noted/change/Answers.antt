use Rattle.std.proofs.Common.{sym, subst, IsTrue}
use Rattle.std.specs.Prelude.{◌⊎◌}
use Rattle.folder_spec.specs.Path.{Path}
use Rattle.host_places.specs.Noted.{has, same}
use Rattle.host_places.proofs.Dirs.{has_more_stays, just_more, sees_change, sees_from}
use Rattle.host_places.proofs.noted.Noted.change.Goals as goal

pub returns-clause-sees : goal.returns-clause-sees
returns-clause-sees c = sees_from (sym c.self.view_is) (sees_change _ _ _ c.in_ok-put.ensures.more)

pub returns-clause-keeps : goal.returns-clause-keeps
returns-clause-keeps c =
    subst (λ dirs. (at : Path) → IsTrue (has dirs.changed at) → IsTrue (has c.put.new.dirs.keys at)) c.self.view_is
    (has_more_stays c.self.inside.changed.keys c.put.new.dirs.keys _ c.in_ok-put.ensures.more)

pub returns-clause-just : goal.returns-clause-just
returns-clause-just c = λ at is.
    subst (λ dirs. IsTrue (has dirs.changed at) ⊎ IsTrue (same c.args.dir at)) c.self.view_is
    (just_more c.self.inside.changed.keys c.put.new.dirs.keys _ c.in_ok-put.ensures.more at is)
