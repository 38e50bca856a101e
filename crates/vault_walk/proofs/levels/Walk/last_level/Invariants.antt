use Rattle.std.proofs.Common.{◌≡◌, ◌≤◌, [], Contains}
use Rattle.folder_spec.specs.Seen.{IfSeen, IsSeen, under}
use Rattle.folder_spec.specs.View.{View}
use Rattle.vault_spec.specs.Vault.{format_of}
use Rattle.vault_walk.specs.Levels.{HasWalked, IsAtLevel}
use Rattle.vault_walk.specs.Survey.{depth_limit}
use Rattle.vault_walk.specs.Walking.{Way, HoldsItem}
use Rattle.vault_walk.proofs.levels.Walk.last_level.Given as goal

-- those so far were visited, and hold no items
abbrev pub invariant-loop-way : goal.invariant-loop-way
invariant-loop-way g l = record {
  told : g.F.Folder.told l.folder ≡ g.F.Folder.told l.fn.folder;
  counts : g.F.Folder.faults l.fn.folder ≤ g.F.Folder.faults l.folder;
  items : l.self.items.items ≡ l.fn.self.items.items;
  level : (v : View) → IsSeen (g.F.Folder.told l.fn.folder) v → HasWalked (format_of l.vault.vault) (under l.vault.root v) depth_limit l.fn.self l.fn.waiting.items
      → IsAtLevel (format_of l.vault.vault) (under l.vault.root v) depth_limit l.fn.self.visits.items l.fn.waiting.items l.yielded l.self [];
  none : IfSeen (g.F.Folder.told l.fn.folder) (λ v. (way : Way) → Contains l.yielded way → ¬ HoldsItem (format_of l.vault.vault) (under l.vault.root v) way);
}
