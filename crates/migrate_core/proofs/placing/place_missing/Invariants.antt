use Rattle.std.proofs.Common.{◌≡◌, ◌≤◌, ◌++◌, take, []}
use Rattle.folder_spec.specs.Seen.{IfSeen}
use Rattle.migration_spec.specs.Alone.{Begun}
use Rattle.vault_walk.specs.Survey.{IsOrdered}
use Rattle.item_making.specs.Making.{is_apart}
use Rattle.work_folder.specs.Entering.{IsReady}
use Rattle.vault_write.specs.Calls.{IsKept}
use Rattle.migrate_core.specs.Copying.{CopiesAll}
use Rattle.migrate_core.specs.Drawing.{Drew}
use Rattle.migrate_core.specs.Leading.{HasLed}
use Rattle.migrate_core.specs.Moved.{lacking}
use Rattle.migrate_core.specs.Moving.{MovesBeside}
use Rattle.migrate_core.specs.Sharing.{FillsOnly}
use Rattle.migrate_core.specs.Sides.{StandAll}
use Rattle.migrate_core.specs.Written.{WritesAll, lacked}
use Rattle.migrate_core.proofs.placing.place_missing.Given as goal

abbrev pub invariant-loop-item : goal.invariant-loop-item
invariant-loop-item g l = record {
  grows : g.F.Folder.faults l.initial.folder ≤ g.F.Folder.faults l.folder;
  random : g.R.Randoms.faults l.initial.random ≤ g.R.Randoms.faults l.random;
  drew : Drew ⊥ (g.R.Randoms.left l.initial.random) (g.R.Randoms.left l.random);
  few : l.placed ≤ l.item-index;
  ready : IfSeen (g.F.Folder.told l.folder) (λ v. IsReady v l.work);
  led : HasLed l.sides.names l.sides.source l.sides.target l.work Begun Begun (g.F.Folder.told l.initial.folder) (g.F.Folder.told l.folder);
  moves : MovesBeside (is_apart l.work l.sides.target.root) l.work l.sides.target.root (g.F.Folder.told l.initial.folder) (g.F.Folder.told l.folder);
  counted : IsOrdered l.there → l.placed ≡ lacking l.there (take l.item-index l.items);
  written : IsOrdered l.there → WritesAll l.sides.source l.sides.target (lacked l.there (take l.item-index l.items)) [] (g.R.Randoms.left l.initial.random) (g.R.Randoms.left l.random)
      (g.F.Folder.told l.initial.folder) (g.F.Folder.told l.folder);
  copied : CopiesAll l.sides.names l.sides.source l.sides.target l.there (l.there ++ take l.item-index l.items) (g.F.Folder.told l.initial.folder) (g.F.Folder.told l.folder);
  fills : FillsOnly l.sides.names l.sides.source l.sides.target l.there (take l.item-index l.items) (g.F.Folder.told l.initial.folder) (g.F.Folder.told l.folder);
  kept : IsKept l.sides.target (g.F.Folder.told l.folder) l.carried.kept.dir;
  none : StandAll l.items l.there → g.F.Folder.told l.folder ≡ g.F.Folder.told l.initial.folder;
}
