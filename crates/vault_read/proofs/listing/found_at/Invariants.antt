use Rattle.std.proofs.Common.{◌≡◌, ◌≤◌, take}
use Rattle.folder_spec.specs.View.{View}
use Rattle.folder_spec.specs.Seen.{IsSeen, under}
use Rattle.vault_spec.specs.Vault.{format_of}
use Rattle.vault_read.specs.Listing.{HasItems, HavePlaces, items_of}
use Rattle.vault_read.proofs.listing.found_at.Given as goal

-- these are the items of the entries so far
abbrev pub invariant-loop-entry : goal.invariant-loop-entry
invariant-loop-entry g l =
    (g.F.Folder.told l.folder ≡ g.F.Folder.told l.fn.folder)
    × (g.F.Folder.faults l.fn.folder ≤ g.F.Folder.faults l.folder)
    × ((v : View) → IsSeen (g.F.Folder.told l.fn.folder) v
    → HasItems (format_of l.vault.vault) (under l.vault.root v) l.dir (take l.entry-index l.entries) (items_of l.all.items))
    × ((v : View) → IsSeen (g.F.Folder.told l.fn.folder) v → HavePlaces l.vault.root (format_of l.vault.vault) (under l.vault.root v) l.dir l.all.items)
