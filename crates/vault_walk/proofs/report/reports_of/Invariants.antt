use Rattle.std.proofs.Common.{◌≡◌, ◌≤◌, take}
use Rattle.folder_spec.specs.Seen.{IsSeen, under}
use Rattle.folder_spec.specs.View.{View}
use Rattle.vault_spec.specs.Vault.{format_of}
use Rattle.vault_walk.specs.Report.{FitMembers, HasReported}
use Rattle.vault_walk.proofs.report.reports_of.Given as goal

-- this is the report of the entries so far
abbrev pub invariant-loop-entry : goal.invariant-loop-entry
invariant-loop-entry g l = record {
  told : g.F.Folder.told l.folder ≡ g.F.Folder.told l.fn.folder;
  grows : g.F.Folder.faults l.fn.folder ≤ g.F.Folder.faults l.folder;
  fits : FitMembers l.vault.vault l.report.members.items;
  reported : (v : View) → IsSeen (g.F.Folder.told l.fn.folder) v
      → HasReported (format_of l.vault.vault) (under l.vault.root v) l.dir (take l.entry-index l.entries) l.report;
}
