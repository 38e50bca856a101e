use Rattle.std.proofs.Common.{◌≤◌}
use Rattle.folder_spec.specs.Event.{FromTo}
use Rattle.folder_spec.specs.Seen.{IfSeen}
use Rattle.item_making.specs.Making.{is_apart}
use Rattle.work_folder.specs.Entering.{IsReady}
use Rattle.demo_core.specs.Drawing.{Drew}
use Rattle.demo_core.specs.Making.{HoldsAlone, IsBeside}
use Rattle.demo_core.proofs.making.place_items.Given as goal

abbrev pub invariant-loop-number : goal.invariant-loop-number
invariant-loop-number g l = record {
  ready : IfSeen (g.F.Folder.told l.folder) (λ v. IsReady v l.work);
  adds : FromTo (λ a b. HoldsAlone l.vault l.seed 0 a.state → HoldsAlone l.vault l.seed l.number b.state) (g.F.Folder.told l.initial.folder) (g.F.Folder.told l.folder);
  beside : IsBeside (is_apart l.work l.vault.root) (g.F.Folder.told l.initial.folder) (g.F.Folder.told l.folder);
  drew : Drew ⊥ (g.R.Randoms.left l.initial.random) (g.R.Randoms.left l.random);
  grows : g.F.Folder.faults l.initial.folder ≤ g.F.Folder.faults l.folder;
  counted : g.R.Randoms.faults l.initial.random ≤ g.R.Randoms.faults l.random;
}
