use Rattle.std.proofs.Common.{◌≡◌, ◌≤◌, [], drop}
use Rattle.folder_spec.specs.View.{View}
use Rattle.folder_spec.specs.Seen.{IsSeen, under}
use Rattle.vault_spec.specs.Standing.{root_of}
use Rattle.vault_spec.specs.Vault.{format_of}
use Rattle.vault_read.specs.Finding.{reached_from}
use Rattle.vault_read.specs.Stands.{standing_of, EntersFit}
use Rattle.vault_read.proofs.finding.standing_found.Given as goal

-- what is reached by the whole path is what is reached from here by the names that are left
abbrev pub invariant-loop-name : goal.invariant-loop-name
invariant-loop-name g l =
    (g.F.Folder.told l.folder ≡ g.F.Folder.told l.fn.folder)
    × (g.F.Folder.faults l.fn.folder ≤ g.F.Folder.faults l.folder)
    × EntersFit l.vault.vault l.here
    × ((v : View) → IsSeen (g.F.Folder.told l.fn.folder) v
    → reached_from (format_of l.vault.vault) (under l.vault.root v) [] (root_of (format_of l.vault.vault) (under l.vault.root v)) l.path
    ≡ reached_from (format_of l.vault.vault) (under l.vault.root v) l.front (standing_of l.here) (drop l.name-index l.name-items))
