-- At which content comparing the two vaults stops when it passes the limit.
use Rattle.std.specs.Prelude.{◌≡◌, ◌⊎◌, ◌*◌, ◌+◌, ◌≤◌, ◌<◌, ◌++◌, ℕ, true, nat_eq, List, length, Option, Result, Ok, Err}
use Rattle.std.specs.List.{starts_with}
use Rattle.chunk_files.specs.Reading.{Wanting}
use Rattle.item_making.specs.declared.fault.PutFault.TheVariants as put
use Rattle.folder_spec.specs.Event.{Told}
use Rattle.folder_spec.specs.Path.{Path}
use Rattle.folder_spec.specs.Seen.{IfSeen, under}
use Rattle.folder_spec.specs.View.{FileOf, View}
use Rattle.move_journal.specs.Journal.{IsJournal}
use Rattle.move_journal.specs.declared.journal.Journal.{Journal}
use Rattle.move_journal.specs.Reading.{StandsIn}
use Rattle.plain_tree.specs.Mapped.{mapped_path}
use Rattle.plain_tree.specs.Names as plain
use Rattle.plain_tree.specs.declared.name_map.NameMap.{NameMap}
use Rattle.tree_match.specs.Comparing.{Content, content_at}
use Rattle.tree_match.specs.declared.answer.MatchFault.TheVariants as match
use Rattle.vault_faults.specs.Limits.{content_limit}
use Rattle.vault_read.specs.OwnFolders.{HasOwnFolders}
use Rattle.vault_spec.specs.Opened.{OpenedVault}
use Rattle.vault_faults.specs.declared.fault.Limit.TheVariants as limit
use Rattle.vault_spec.specs.Opens as opens
use Rattle.vault_spec.specs.Opens.{Opened, Tree}
use Rattle.vault_spec.specs.Standing.{File, standing}
use Rattle.vault_spec.specs.Vault.{Vault, IsVault, format_of}
use Rattle.migration_sides.specs.Sides.{opened_in}
use Rattle.migrate_core.specs.declared.fault.MoveFault.{MoveFault}
use Rattle.migrate_core.specs.Sharing.{IsOfTaken}
use Rattle.migrate_core.specs.declared.fault.MoveFault.TheVariants.{Match, Place}

-- reading the one ends at the limit, at this path, and the other begins with all that was read of it
pub record IsCut (at : Path) (one other : Content) : Type 0 where
  pub place : one.at ≡ at
  pub wanting : one.ending ≡ Wanting
  pub begins : starts_with nat_eq other.bytes one.bytes ≡ true

-- where no two directories of the vault share a folder, this is where the content of the file at the plain path stands
abbrev pub IsContentAt : OpenedVault → View → plain.Path → Path → Type 0
IsContentAt a v path rest = HasOwnFolders a.vault (under a.root v) → standing (format_of a.vault) (under a.root v) path ≡ File rest

abbrev pub content_in : OpenedVault → View → Path → Content
content_in a v rest = content_at (format_of a.vault).content v (a.root ++ rest)

-- the source has a file at a plain path and the target at the mapped one, and of their two contents the one at this path passes the limit
-- before they part
pub record PassesLimit (rule : NameMap) (from to : OpenedVault) (v : View) (at : Path) : Type 0 where
  pub path : plain.Path
  pub source : Path
  pub target : Path
  pub in_source : IsContentAt from v path source
  pub in_target : IsContentAt to v (mapped_path rule path) target
  pub cut : IsCut at (content_in from v source) (content_in to v target) ⊎ IsCut at (content_in to v target) (content_in from v source)

-- of a fault that names a content past the limit where the vaults are compared, this is so of its path
abbrev pub IsOfLimit : (Path → Type 0) → MoveFault → Type 0
IsOfLimit P (Match (match.Limit (limit.Length at))) = P at
IsOfLimit P fault = Unit {0}

-- so it is of the vaults that two roots and their passphrases are, as is seen when the call ends
pub record PassesInTree (rule : NameMap) (from to : Path) (from_pass to_pass : List ℕ) (told told' : Option Told) (at : Path) : Type 0 where
  pub source : Vault
  pub target : Vault
  pub opens_source : IfSeen told (λ v. IsVault (under from v) from_pass source)
  pub opens_target : IfSeen told (λ v. IsVault (under to v) to_pass target)
  pub passes : IfSeen told' (λ v. PassesLimit rule (opened_in from source) (opened_in to target) v at)

-- of those that the journal tells which stands in the work folder
pub record PassesAsTold (work : Path) (from_pass to_pass : List ℕ) (told told' : Option Told) (v : View) (at : Path) : Type 0 where
  pub journal : Journal
  pub is : IsJournal journal
  pub stands : StandsIn work journal v
  pub passes : PassesInTree journal.names journal.source journal.target from_pass to_pass told told' at

-- ---- small contents

-- there are more bytes than the limit
pub record IsLonger (v : View) (at : Path) : Type 0 where
  pub bytes : List ℕ
  pub file : v at ≡ FileOf bytes
  pub more : content_limit < length bytes

-- whatever opens there is whole, and so small that no content file of it passes the limit
abbrev pub IsSmall : Opened → Type 0
IsSmall opens.NoItem = Unit {0}
IsSmall opens.Directory = Unit {0}
IsSmall (opens.Content bytes) = 64 * (length bytes + 2) ≤ content_limit
IsSmall (opens.Broken chunks fault) = ⊥

abbrev pub HasSmallContents : Tree → Type 0
HasSmallContents t = (path : plain.Path) → IsSmall (t path)

-- ---- between two opened vaults (private contracts only)

-- the fault isn't one of comparing, and of a taken place this is so
abbrev pub StopsFor : Type 0 → MoveFault → Type 0
StopsFor P (Match fault) = ⊥
StopsFor P (Place (put.Taken at)) = P
StopsFor P fault = Unit {0}

-- it is neither
abbrev pub StopsElsewhere : MoveFault → Type 0
StopsElsewhere fault = StopsFor ⊥ fault

-- where the fault says so, that is seen then
abbrev pub PassesSeen : NameMap → OpenedVault → OpenedVault → Option Told → MoveFault → Type 0
PassesSeen rule from to told fault = IfSeen told (λ v. IsOfLimit (PassesLimit rule from to v) fault)

-- by the answer: this, or why it stopped at a content or at a taken place
abbrev pub EndsBy : {T : Type 0} → Type 0 → Type 0 → NameMap → OpenedVault → OpenedVault → Option Told → Result T MoveFault → Type 0
EndsBy P Q rule from to told (Ok value) = P
EndsBy P Q rule from to told (Err fault) = PassesSeen rule from to told fault × IsOfTaken Q fault
