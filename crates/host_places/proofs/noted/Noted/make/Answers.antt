use Rattle.std.proofs.Common.{sym, subst, IsTrue}
use Rattle.folder_spec.specs.Path.{Path}
use Rattle.host_places.specs.Noted.{Sees, has}
use Rattle.host_places.proofs.Dirs.{has_more_stays, sees_change, sees_from, sees_made}
use Rattle.host_places.proofs.noted.Noted.make.Goals as goal

pub returns-in_err-put-clause-sees : goal.returns-in_err-put-clause-sees
returns-in_err-put-clause-sees c =
    subst (λ known. Sees c.args.self.now (record { known = known; seen = c.self.inside.seen.keys; changed = c.add.new.dirs.keys })) (sym c.in_err-put.ensures.same)
    (sees_from (sym c.self.view_is) (sees_change _ _ _ c.in_ok-add.ensures.more))

pub returns-clause-sees : goal.returns-clause-sees
returns-clause-sees c = sees_from (sym c.self.view_is) (sees_made _ _ _ _ c.in_ok-add.ensures.more c.in_ok-put.ensures.more)

pub returns-in_err-put-clause-keeps : goal.returns-in_err-put-clause-keeps
returns-in_err-put-clause-keeps c =
    subst (λ dirs. (at : Path) → IsTrue (has dirs.changed at) → IsTrue (has c.add.new.dirs.keys at)) c.self.view_is
    (has_more_stays c.self.inside.changed.keys c.add.new.dirs.keys _ c.in_ok-add.ensures.more)

pub returns-clause-keeps : goal.returns-clause-keeps
returns-clause-keeps c =
    subst (λ dirs. (at : Path) → IsTrue (has dirs.changed at) → IsTrue (has c.add.new.dirs.keys at)) c.self.view_is
    (has_more_stays c.self.inside.changed.keys c.add.new.dirs.keys _ c.in_ok-add.ensures.more)
