use Rattle.std.proofs.Common.{◌≡◌, ◌≤◌, length}
use Rattle.folder_spec.specs.Seen.{IfSeen, under}
use Rattle.vault_spec.specs.Vault.{format_of}
use Rattle.vault_walk.specs.Levels.{HasWalked, WaysFit}
use Rattle.vault_walk.specs.Survey.{item_limit}
use Rattle.vault_walk.proofs.levels.walked.Given as goal

-- the levels so far were visited
abbrev pub invariant-loop-depth : goal.invariant-loop-depth
invariant-loop-depth g l = record {
  told : g.F.Folder.told l.folder ≡ g.F.Folder.told l.fn.folder;
  counts : g.F.Folder.faults l.fn.folder ≤ g.F.Folder.faults l.folder;
  fits : WaysFit l.vault.vault l.waiting.items;
  size : length l.walk.items.items ≤ item_limit;
  walked : IfSeen (g.F.Folder.told l.fn.folder) (λ v. HasWalked (format_of l.vault.vault) (under l.vault.root v) l._depth l.walk l.waiting.items);
}
