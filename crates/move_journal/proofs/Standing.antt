-- Where a journal stands in a work folder.
use Rattle.std.proofs.Common.{◌≡◌, refl, sym, ◌∙◌, Result, Ok}
use Rattle.folder_spec.specs.Path.{Path}
use Rattle.folder_spec.specs.View.{Found, NoEntry, Folder, FileOf, Special, View}
use Rattle.move_journal.specs.declared.journal.Journal.{Journal}
use Rattle.move_journal.specs.declared.journal.JournalFault.{JournalFault}
use Rattle.move_journal.specs.Journal.{InSecond, IsJournal, journal_text}
use Rattle.move_journal.specs.Reading.{ReadsAs, StandsIn, file_bytes, journal_bytes}
use Rattle.work_folder.specs.Entries.{journal_path}
use Rattle.move_journal.specs.Writing.{GivesBack}

abbrev pub HaveOneJournal : Type 0
HaveOneJournal = (work : Path) (v : View) (j k : Journal) → IsJournal j → IsJournal k → StandsIn work j v → StandsIn work k v → j ≡ k

abbrev pub ReadsBack : Type 0
ReadsBack = (work : Path) (v : View) (j : Journal) (result : Result Journal JournalFault) → IsJournal j → StandsIn work j v → ReadsAs (journal_bytes v work) result → GivesBack j result

-- one that was read does
pub read_stands : (work : Path) (v : View) (j : Journal) → ReadsAs (journal_bytes v work) (Ok j) → StandsIn work j v
read_stands work v j = by (v (journal_path work)) refl
  where
    by : (x : Found) → v (journal_path work) ≡ x → ReadsAs (file_bytes x) (Ok j) → StandsIn work j v
    by (FileOf bytes) is reads = record { text = bytes; file = is; of = reads.1 }
    by NoEntry is reads = absurd reads
    by Folder is reads = absurd reads
    by Special is reads = absurd reads

-- and one that was written
pub written_stands : (work : Path) (v : View) (j : Journal) → v (journal_path work) ≡ FileOf (journal_text j) → StandsIn work j v
written_stands work v j is = record { text = journal_text j; file = is; of = InSecond refl }

-- it is told by that one file
pub stands_alike : (work : Path) (j : Journal) (v w : View) → v (journal_path work) ≡ w (journal_path work) → StandsIn work j w → StandsIn work j v
stands_alike work j v w same stands = record { text = stands.text; file = same ∙ stands.file; of = stands.of }

-- which is there then
pub not_missing : (work : Path) (j : Journal) (v : View) → StandsIn work j v → v (journal_path work) ≡ NoEntry → ⊥
not_missing work j v stands none = let clash : NoEntry ≡ FileOf stands.text = sym none ∙ stands.file in cc clash
