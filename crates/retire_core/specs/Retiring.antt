-- What `retire` changes in the folder, and when; and what is so once a source is retired.
use Rattle.std.specs.Prelude.{◌≡◌, ◌≢◌, ◌⊎◌, ℕ, List, Option, IsTrue}
use Rattle.folder_spec.specs.Path.{Path}
use Rattle.folder_spec.specs.Event.{Call, MakeDir, Create, Append, Sync, Settle, Rename, RemoveFile, RemoveDir, Told}
use Rattle.folder_spec.specs.Moments.{Moments}
use Rattle.folder_spec.specs.Region.{IsAsBefore, apart_from_both, at_or_below}
use Rattle.folder_spec.specs.Seen.{IfSeen, seen, under}
use Rattle.folder_spec.specs.State.{State, Table, IsTableOf, present}
use Rattle.folder_spec.specs.declared.Spot.TheVariants.{Nothing}
use Rattle.folder_spec.specs.View.{NoEntry, View}
use Rattle.migration_sides.specs.Sides.{opened_in}
use Rattle.move_journal.specs.Journal.{IsJournal}
use Rattle.move_journal.specs.declared.journal.Journal.{Journal}
use Rattle.move_journal.specs.declared.journal.Phase.{Phase}
use Rattle.move_journal.specs.declared.journal.Phase.TheVariants.{Done}
use Rattle.move_journal.specs.Reading.{StandsIn}
use Rattle.migration_spec.specs.Guard.{old_path}
use Rattle.work_folder.specs.Entries.{journal_path}
use Rattle.vault_spec.specs.Mapped.{IsHeldIn}
use Rattle.plain_tree.specs.declared.name_map.NameMap.{NameMap}
use Rattle.vault_read.specs.OwnFolders.{HasOwnFolders}
use Rattle.vault_spec.specs.Opened.{OpenedVault}
use Rattle.vault_spec.specs.Opens.{tree}
use Rattle.vault_spec.specs.Vault.{Vault, IsVault, format_of}

-- Where a source and a target stand, through which work folder and by which rule for names, by which passphrases they open, and how far the
-- journal says that the migration has come.
pub record Retiring : Type 0 where
  pub from : Path
  pub to : Path
  pub work : Path
  pub names : NameMap
  pub from_pass : List ℕ
  pub to_pass : List ℕ
  pub phase : Phase

-- Where no two directories of either vault share a folder, each item of the first opens in the second, at its mapped path, as the same
-- directory or with the same content.
abbrev pub AreHeld : NameMap → OpenedVault → OpenedVault → View → Type 0
AreHeld rule a b v = HasOwnFolders a.vault (under a.root v) → HasOwnFolders b.vault (under b.root v)
    → IsHeldIn rule (tree (format_of a.vault) (under a.root v)) (tree (format_of b.vault) (under b.root v))

-- Both vaults open, and the target holds each item of the source.
pub record IsHeld (r : Retiring) (v : View) : Type 0 where
  pub source : Vault
  pub target : Vault
  pub opens_source : IsVault (under r.from v) r.from_pass source
  pub opens_target : IsVault (under r.to v) r.to_pass target
  pub held : AreHeld r.names (opened_in r.from source) (opened_in r.to target) v

-- The call removes something in the work folder or the work folder itself, or settles; or it moves the source as a whole into the work
-- folder, in a state in which the target holds all of it.
abbrev pub Touches : Retiring → State → Call → Type 0
Touches r s (RemoveFile p) = IsTrue (at_or_below r.work p)
Touches r s (RemoveDir p) = IsTrue (at_or_below r.work p)
Touches r s Settle = Unit {0}
Touches r s (Rename old new) = (old ≡ r.from) × (new ≡ old_path r.work) × IsHeld r (seen s)
Touches r s (MakeDir p) = ⊥
Touches r s (Create p) = ⊥
Touches r s (Append p piece) = ⊥
Touches r s (Sync p) = ⊥

-- At every moment all but the source and the work folder is as it was, and each call touches no more than that.
abbrev pub TouchesOnly : Retiring → Option Told → Option Told → Type 0
TouchesOnly r = Moments (IsAsBefore (apart_from_both r.from r.work)) (λ s0 s e. Touches r s e.call)

-- Something may be removed from `old`: the source was there when the call began and is no longer, so it was moved there in this call;
-- or when the call began `old` was there and the source was not, and the journal said that all is done.
abbrev pub MayEmpty : Retiring → State → State → Type 0
MayEmpty r s0 s = ((seen s0 r.from ≢ NoEntry) × (seen s r.from ≡ NoEntry)) ⊎ ((seen s0 (old_path r.work) ≢ NoEntry) × (seen s0 r.from ≡ NoEntry) × (r.phase ≡ Done))

abbrev pub Removes : Retiring → State → State → Call → Type 0
Removes r s0 s (RemoveFile p) = IsTrue (at_or_below (old_path r.work) p) → MayEmpty r s0 s
Removes r s0 s (RemoveDir p) = IsTrue (at_or_below (old_path r.work) p) → MayEmpty r s0 s
Removes r s0 s (MakeDir p) = Unit {0}
Removes r s0 s (Create p) = Unit {0}
Removes r s0 s (Append p piece) = Unit {0}
Removes r s0 s (Sync p) = Unit {0}
Removes r s0 s Settle = Unit {0}
Removes r s0 s (Rename old new) = Unit {0}

-- each call removes from `old` only where it may
abbrev pub RemovesOnly : Retiring → Option Told → Option Told → Type 0
RemovesOnly r = Moments (λ s0 s. Unit {0}) (λ s0 s e. Removes r s0 s e.call)

-- Since s0: in each name table in which something stands at `old`, what stood at `journal` stands there; and all files are as they were.
pub record StandsBesideOld (work : Path) (s0 s : State) : Type 0 where
  pub journal : (t : Table) → IsTableOf s t → t (old_path work) ≢ Nothing → t (journal_path work) ≡ present s0 (journal_path work)
  pub nodes : s.nodes ≡ s0.nodes

-- So it is at every moment of a call, or the state is still that of its begin.
abbrev pub KeepsInOrder : Path → Option Told → Option Told → Type 0
KeepsInOrder work = Moments (λ s0 s. (s ≡ s0) ⊎ StandsBesideOld work s0 s) (λ s0 s e. Unit {0})

-- the migration that this journal tells, by these passphrases
abbrev pub retiring_by : Path → List ℕ → List ℕ → Journal → Retiring
retiring_by work from_pass to_pass journal = record { from = journal.source; to = journal.target; work = work; names = journal.names; from_pass = from_pass; to_pass = to_pass; phase = journal.phase }

-- The journal that stood in the work folder said that all is done, of so many items; and now the source is gone that it named, and so is
-- the work folder.
pub record HasRetired (work : Path) (count : ℕ) (after : Option Told) (v : View) : Type 0 where
  pub journal : Journal
  pub is : IsJournal journal
  pub phase : journal.phase ≡ Done
  pub stands : StandsIn work journal v
  pub items : count ≡ journal.items
  pub source_gone : IfSeen after (λ w. w journal.source ≡ NoEntry)
  pub work_gone : IfSeen after (λ w. w work ≡ NoEntry)
