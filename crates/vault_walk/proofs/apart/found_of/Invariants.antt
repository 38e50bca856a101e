use Rattle.std.proofs.Common.{◌≡◌, ◌≤◌, take}
use Rattle.std.specs.Prelude.{Contains}
use Rattle.folder_spec.specs.Seen.{IsSeen, under}
use Rattle.folder_spec.specs.View.{View}
use Rattle.vault_spec.specs.Vault.{format_of}
use Rattle.vault_walk.specs.Apart.{AreFoundAt, AreReachedFolders}
use Rattle.vault_walk.specs.Names.{role_of}
use Rattle.vault_walk.specs.declared.apart.Place.{Place}
use Rattle.vault_walk.proofs.apart.found_of.Given as goal

-- this is found at the places so far
abbrev pub invariant-loop-place : goal.invariant-loop-place
invariant-loop-place g l = record {
  told : g.F.Folder.told l.folder ≡ g.F.Folder.told l.fn.folder;
  grows : g.F.Folder.faults l.fn.folder ≤ g.F.Folder.faults l.folder;
  found : (v : View) → IsSeen (g.F.Folder.told l.fn.folder) v → AreReachedFolders (format_of l.vault.vault) (under l.vault.root v) l.reached
      → ((place : Place) → Contains l.places place → role_of place.role ≡ (format_of l.vault.vault).role place.at (under l.vault.root v place.at))
      → AreFoundAt (format_of l.vault.vault) (under l.vault.root v) (take l.place-index l.places) l.found.items;
}
