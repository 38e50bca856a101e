-- How reading answers where a call of the folder fell, and where it read the file.
use Rattle.std.proofs.Common.{◌≡◌, ◌≢◌, ℕ, ◌<◌, ◌≤◌, ◌-◌, List, [], ◌∷◌, ◌++◌, length, take, drop, min, Option, Some, None, Result, Ok, Err, IfOk, refl, sym, ap, ◌∙◌, subst, arith}
use Rattle.std.proofs.lemmas.List.{take_all}
use Rattle.move_journal.proofs.Values.{take_front}
use Rattle.folder_spec.specs.declared.FolderFault.{FolderFault}
use Rattle.folder_spec.specs.declared.FolderFault.TheVariants as folder
use Rattle.folder_spec.specs.declared.Kind.{Kind}
use Rattle.folder_spec.specs.declared.Kind.TheVariants.{File}
use Rattle.folder_spec.specs.View.{Found, NoEntry, Folder, FileOf, Special, kind_found}
use Rattle.folder_spec.specs.Event.{Told}
use Rattle.folder_model.specs.Answers.{Counts, Reads}
use Rattle.folder_model.proofs.Counting.{never_falls}
use Rattle.move_journal.specs.declared.journal.Journal.{Journal}
use Rattle.move_journal.specs.declared.journal.JournalFault.{JournalFault}
use Rattle.move_journal.specs.declared.journal.JournalFault.TheVariants.{NoJournal, BadJournal, TooLarge, Failed, NoMemory}
use Rattle.move_journal.specs.Journal.{IsJournal}
use Rattle.move_journal.specs.Parsing.{ParsesAs}
use Rattle.move_journal.specs.Reading.{file_bytes, ReadsAs, fault_of}

-- whatever the file is, the folder may fail
pub fell_at : (file : Option (List ℕ)) (fault : FolderFault) → ReadsAs file (Err (fault_of fault))
fell_at None folder.Failed = tt
fell_at None folder.Refused = tt
fell_at None folder.NoMemory = tt
fell_at (Some bytes) folder.Failed = tt
fell_at (Some bytes) folder.Refused = tt
fell_at (Some bytes) folder.NoMemory = tt

-- a file is where its kind says so
pub file_there : (x : Found) (kind : Kind) → kind ≡ File → kind ≡ kind_found x → (bytes : List ℕ) × (x ≡ FileOf bytes)
file_there (FileOf bytes) kind is e = (bytes, refl)
file_there NoEntry kind is e = cc (is, e)
file_there Folder kind is e = cc (is, e)
file_there Special kind is e = cc (is, e)

-- where no file is
pub no_file : (x : Found) (kind : Kind) → kind ≢ File → kind ≡ kind_found x → ReadsAs (file_bytes x) (Err NoJournal)
no_file NoEntry kind apart e = tt
no_file Folder kind apart e = tt
no_file Special kind apart e = tt
no_file (FileOf bytes) kind apart e = absurd (apart e)

drop_none : (bytes : List ℕ) → drop 0 bytes ≡ bytes
drop_none [] = refl
drop_none (b ∷ bytes) = refl

front_of_read : (bytes old : List ℕ) (n : ℕ) → n ≡ length bytes → take n (take n (drop 0 bytes) ++ drop n old) ≡ bytes
front_of_read bytes old n e =
    let all_ : take n (drop 0 bytes) ≡ bytes = ap (take n) (drop_none bytes) ∙ take_all n bytes (omega arith) in
    ap (λ l. take n (l ++ drop n old)) all_ ∙ ap (λ k. take k (bytes ++ drop n old)) e ∙ take_front bytes (drop n old)

-- the file was read whole
pub read_whole : (x : Found) (old new : List ℕ) (n : ℕ) (result : Result Journal JournalFault) → length old ≡ 65537 → n ≤ 65536 → Reads x 0 old new n
    → ParsesAs (take n new) result → ReadsAs (file_bytes x) result
read_whole x old new n result size small reads parses =
    let all_ : n ≡ length (reads.0) = whole (reads.0) reads.2 in
    subst (λ y. ReadsAs (file_bytes y) result) (sym reads.1)
    (reads_as (reads.0) result (omega arith) (subst (λ text. ParsesAs text result) (ap (take n) reads.3 ∙ front_of_read (reads.0) old n all_) parses))
  where
    whole : (bytes : List ℕ) → n ≡ min (length old) (length bytes - 0) → n ≡ length bytes
    whole bytes e = omega arith

    reads_as : (bytes : List ℕ) (result : Result Journal JournalFault) → length bytes ≤ 65536 → ParsesAs bytes result → ReadsAs (Some bytes) result
    reads_as bytes (Ok j) small h = h
    reads_as bytes (Err NoJournal) small h = h
    reads_as bytes (Err (BadJournal number)) small h = (small, h)
    reads_as bytes (Err TooLarge) small h = absurd h
    reads_as bytes (Err Failed) small h = tt
    reads_as bytes (Err NoMemory) small h = tt

-- or it is too large
pub read_too_large : (x : Found) (old new : List ℕ) (n : ℕ) → 65536 < n → Reads x 0 old new n → ReadsAs (file_bytes x) (Err TooLarge)
read_too_large x old new n large reads = subst (λ y. ReadsAs (file_bytes y) (Err TooLarge)) (sym reads.1) (larger (reads.0) reads.2)
  where
    larger : (bytes : List ℕ) → n ≡ min (length old) (length bytes - 0) → 65536 < length bytes
    larger bytes e = omega arith

-- the count never falls
pub grows_twice : {T U : Type 0} (told mid : Option Told) (before between after : ℕ) (first : Result T FolderFault) (second : Result U FolderFault)
    → Counts told before between first → Counts mid between after second → before ≤ after
grows_twice told mid before between after first second one two =
    let a : before ≤ between = never_falls told before between first one in
    let b : between ≤ after = never_falls mid between after second two in
    omega arith

pub parses_journals : (text : List ℕ) (result : Result Journal JournalFault) → ParsesAs text result → IfOk result (λ j. IsJournal j)
parses_journals text (Ok j) h = h.0
parses_journals text (Err fault) h = tt
