use Rattle.std.proofs.Common.{sym}
use Rattle.host_places.proofs.Dirs.{sees_from, sees_unknown}
use Rattle.host_places.proofs.noted.Noted.unknow_one.Goals as goal

pub returns-clause-sees : goal.returns-clause-sees
returns-clause-sees c = sees_from (sym c.self.view_is) (sees_unknown _ _ _ c.remove.ensures.updates.0)
