use Rattle.std.proofs.Common.{◌≡◌, ◌≤◌, ℕ, length}
use Rattle.folder_spec.specs.Seen.{IsSeen, under}
use Rattle.folder_spec.specs.View.{View}
use Rattle.vault_spec.specs.Vault.{format_of}
use Rattle.vault_walk.specs.Levels.{HasWalked, IsAtLevel, WaysFit}
use Rattle.vault_walk.specs.Survey.{item_limit}
use Rattle.vault_walk.proofs.levels.Walk.next_level.Given as goal

-- those so far were visited
abbrev pub invariant-loop-way : goal.invariant-loop-way
invariant-loop-way g l = record {
  told : g.F.Folder.told l.folder ≡ g.F.Folder.told l.fn.folder;
  counts : g.F.Folder.faults l.fn.folder ≤ g.F.Folder.faults l.folder;
  fits : WaysFit l.vault.vault l.next.items;
  size : length l.fn.self.items.items ≤ item_limit → length l.self.items.items ≤ item_limit;
  level : (v : View) → IsSeen (g.F.Folder.told l.fn.folder) v → (steps : ℕ) → HasWalked (format_of l.vault.vault) (under l.vault.root v) steps l.fn.self l.fn.waiting.items
      → IsAtLevel (format_of l.vault.vault) (under l.vault.root v) steps l.fn.self.visits.items l.fn.waiting.items l.yielded l.self l.next.items;
}
