-- What reading a journal answers.
use Rattle.std.specs.Prelude.{◌≡◌, ℕ, ◌<◌, ◌≤◌, List, length, Option, Some, None, Result, Ok, Err}
use Rattle.folder_spec.specs.declared.FolderFault.{FolderFault}
use Rattle.folder_spec.specs.declared.FolderFault.TheVariants as folder
use Rattle.folder_spec.specs.Path.{Path}
use Rattle.folder_spec.specs.View.{Found, NoEntry, Folder, FileOf, Special, View}
use Rattle.move_journal.specs.declared.journal.Journal.{Journal}
use Rattle.move_journal.specs.declared.journal.JournalFault.{JournalFault}
use Rattle.move_journal.specs.declared.journal.JournalFault.TheVariants.{NoJournal, BadJournal, TooLarge, Failed, NoMemory}
use Rattle.move_journal.specs.Journal.{IsJournal, IsTextOf}
use Rattle.move_journal.specs.Lines.{IsBadLine}
use Rattle.work_folder.specs.Entries.{journal_path}

-- the bytes of the file that is found, if one is
abbrev pub file_bytes : Found → Option (List ℕ)
file_bytes (FileOf bytes) = Some bytes
file_bytes NoEntry = None
file_bytes Folder = None
file_bytes Special = None

-- the bytes of the journal's file that the view shows in the work folder
abbrev pub journal_bytes : View → Path → Option (List ℕ)
journal_bytes v work = file_bytes (v (journal_path work))

-- the view shows this journal in the work folder, in one of its texts
pub record StandsIn (work : Path) (j : Journal) (v : View) : Type 0 where
  pub text : List ℕ
  pub file : v (journal_path work) ≡ FileOf text
  pub of : IsTextOf j text

-- the answers that reading may give, by the bytes of the journal's file, if there is one
abbrev pub ReadsAs : Option (List ℕ) → Result Journal JournalFault → Type 0
ReadsAs (Some bytes) (Ok j) = IsJournal j × IsTextOf j bytes
ReadsAs (Some bytes) (Err NoJournal) = ⊥
ReadsAs (Some bytes) (Err (BadJournal number)) = (length bytes ≤ 65536) × IsBadLine bytes number
ReadsAs (Some bytes) (Err TooLarge) = 65536 < length bytes
ReadsAs None (Ok j) = ⊥
ReadsAs None (Err NoJournal) = Unit {0}
ReadsAs None (Err (BadJournal number)) = ⊥
ReadsAs None (Err TooLarge) = ⊥
ReadsAs file (Err Failed) = Unit {0}
ReadsAs file (Err NoMemory) = Unit {0}

-- the fault of a folder, as reading a journal tells it
abbrev pub fault_of : FolderFault → JournalFault
fault_of folder.Failed = Failed
fault_of folder.Refused = Failed
fault_of folder.NoMemory = NoMemory
