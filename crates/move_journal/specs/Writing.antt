-- What writing a journal leaves behind.
use Rattle.std.specs.Prelude.{◌≡◌, ◌≤◌, List, [], ◌∷◌, ℕ, Bool, Option, Some, Result, Ok, Err}
use Rattle.folder_spec.specs.declared.Spot.TheVariants.{FileNode, Nothing}
use Rattle.folder_spec.specs.Path.{Path}
use Rattle.folder_spec.specs.State.{State, present}
use Rattle.folder_spec.specs.Event.{Call, Told, FromTo}
use Rattle.folder_spec.specs.Image.{Image, IsImage}
use Rattle.folder_spec.specs.Moments.{Moments}
use Rattle.folder_spec.specs.Region.{HasOldOrFile, Spares, SparesOld, apart_from, apart_from_both}
use Rattle.folder_spec.specs.Written.{HoldFronts}
use Rattle.folder_spec.specs.Replace.{IsOldOrNew, IsReplaced, ShowsOldOrNew, IsCleanAt}
use Rattle.folder_spec.specs.View.{Folder, FileOf, View, view_of}
use Rattle.folder_spec.specs.Seen.{seen, ShowsNothingOrFile}
use Rattle.folder_spec.specs.Edit.{file_edit, Publishes, HasSettled}
use Rattle.move_journal.specs.declared.journal.Journal.{Journal}
use Rattle.move_journal.specs.declared.journal.JournalFault.{JournalFault}
use Rattle.move_journal.specs.declared.journal.JournalFault.TheVariants.{NoJournal, BadJournal, TooLarge, Failed, NoMemory}
use Rattle.move_journal.specs.Journal.{journal_text}
use Rattle.move_journal.specs.Reading.{journal_bytes}
use Rattle.work_folder.specs.Entries.{journal_path, new_journal_path}

-- the view shows the work folder, as a journal can be written in it
pub record IsWorkFolder (v : View) (work : Path) : Type 0 where
  pub folder : v work ≡ Folder
  pub journal : ShowsNothingOrFile v (journal_path work)
  pub new_journal : ShowsNothingOrFile v (new_journal_path work)

-- the paths that writing a journal leaves alone: all but the two, and what is below them
abbrev pub elsewhere : Path → Path → Bool
elsewhere work = apart_from_both (new_journal_path work) (journal_path work)

-- Since s0 a journal of this text is being written.
pub record IsWriting (work : Path) (text : List ℕ) (s0 s : State) : Type 0 where
  -- each table has at `journal` what a table of s0 had there, or the new journal, and elsewhere what that table had
  pub journal : IsOldOrNew (elsewhere work) (journal_path work) text s0 s
  -- apart from `journal.new`, each table shows one of the views shown at s0, or what was seen there with the new journal
  pub publishes : Publishes (new_journal_path work) (file_edit (journal_path work) text ∷ []) s0 s
  -- each table has at `journal.new` what a table of s0 had there, or nothing, or a file
  pub new_journal : HasOldOrFile (new_journal_path work) s0 s
  -- each file that was made holds a front part of the text
  pub fronts : HoldFronts (text ∷ []) s0 s
  -- a clean file at `journal` stays clean
  pub clean : IsCleanAt (journal_path work) s0 → IsCleanAt (journal_path work) s
  -- a crash leaves at `journal` what a crash at s0 might have left there, or the new journal
  pub images : (image : Image) → IsImage s image → ShowsOldOrNew (elsewhere work) (journal_path work) text s0 image

-- Since s0 it has been written.
pub record IsWritten (work : Path) (text : List ℕ) (s0 s : State) : Type 0 where
  -- all tables have the new journal, and no directory change is pending
  pub replaced : IsReplaced (elsewhere work) (journal_path work) text s0 s
  -- apart from `journal.new`, what was seen at s0 is shown alone, with the new journal
  pub published : HasSettled (new_journal_path work) (file_edit (journal_path work) text ∷ []) s0 s
  -- nothing is left at `journal.new`
  pub new_journal : present s (new_journal_path work) ≡ Nothing
  -- every crash leaves the new journal
  pub shown : (image : Image) → IsImage s image → view_of image (journal_path work) ≡ FileOf text
  -- and so a read finds it
  pub read : journal_bytes (seen s) work ≡ Some text

-- At each moment the journal is being written, and each call of the folder spares all other paths and the files of then.
abbrev pub Writes : Path → Journal → Option Told → Option Told → Type 0
Writes work journal = Moments (IsWriting work (journal_text journal)) (λ s0 s e. SparesOld (elsewhere work) s0 s e.call)

-- It is put in its place once: where a file made since s0 stands there, a call spares all paths but `journal.new`.
abbrev pub PutsOnce : Path → State → State → Call → Type 0
PutsOnce work s0 s call = (n : ℕ) → present s (journal_path work) ≡ FileNode n → s0.made ≤ n → Spares (apart_from (new_journal_path work)) call

-- at each moment it is being written, and each call puts it there once
abbrev pub WritesOnce : Path → Journal → Option Told → Option Told → Type 0
WritesOnce work journal = Moments (IsWriting work (journal_text journal)) (λ s0 s e. PutsOnce work s0 s e.call)

abbrev pub HasWritten : Path → Journal → Option Told → Option Told → Type 0
HasWritten work journal = FromTo (λ a b. IsWritten work (journal_text journal) a.state b.state)

-- a reading gives this journal back, or the folder failed or there was no memory
abbrev pub GivesBack : Journal → Result Journal JournalFault → Type 0
GivesBack j (Ok k) = k ≡ j
GivesBack j (Err NoJournal) = ⊥
GivesBack j (Err (BadJournal number)) = ⊥
GivesBack j (Err TooLarge) = ⊥
GivesBack j (Err Failed) = Unit {0}
GivesBack j (Err NoMemory) = Unit {0}
