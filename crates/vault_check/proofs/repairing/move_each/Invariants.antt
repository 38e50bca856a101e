use Rattle.std.proofs.Common.{◌≤◌, take}
use Rattle.folder_spec.specs.Event.{FromTo}
use Rattle.vault_check.specs.Repairing.{HasMadeAll, renames}
use Rattle.vault_check.proofs.MovedStates.{HasGone}
use Rattle.vault_check.proofs.repairing.move_each.Given as goal

abbrev pub invariant-loop-k : goal.invariant-loop-k
invariant-loop-k g l = record {
  goes : FromTo (HasGone l.lost l.strays l.k) (g.F.Folder.told l.initial.folder) (g.F.Folder.told l.folder);
  all : FromTo (HasMadeAll (renames l.lost 0 (take l.k l.strays))) (g.F.Folder.told l.initial.folder) (g.F.Folder.told l.folder);
  grows : g.F.Folder.faults l.initial.folder ≤ g.F.Folder.faults l.folder;
}
