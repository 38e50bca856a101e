use Rattle.std.proofs.Common.{◌≡◌, ◌≤◌, take}
use Rattle.folder_spec.specs.Seen.{IfSeen, under}
use Rattle.vault_walk.specs.Apart.{HaveRoles, HoldInShelves}
use Rattle.vault_walk.proofs.apart.in_shelves.Given as goal

-- what stands in the shelves so far is placed
abbrev pub invariant-loop-shelf : goal.invariant-loop-shelf
invariant-loop-shelf g l = record {
  told : g.F.Folder.told l.folder ≡ g.F.Folder.told l.fn.folder;
  grows : g.F.Folder.faults l.fn.folder ≤ g.F.Folder.faults l.folder;
  roles : IfSeen (g.F.Folder.told l.fn.folder) (λ v. HaveRoles (under l.vault.root v) l.tops → HaveRoles (under l.vault.root v) l.places.items);
  all : IfSeen (g.F.Folder.told l.fn.folder) (λ v. HoldInShelves (under l.vault.root v) (take l.shelf-index l.tops) l.places.items);
}
