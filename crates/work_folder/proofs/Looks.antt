-- What the exits of the tests say.
use Rattle.std.proofs.Common.{◌≡◌, ◌≢◌, ℕ, ◌≤◌, false, Option, Result, Ok, Err, refl, sym, ◌∙◌, subst, arith}
use Rattle.folder_spec.specs.declared.FolderFault.{FolderFault}
use Rattle.folder_spec.specs.declared.FolderFault.TheVariants as folder
use Rattle.folder_spec.specs.declared.Kind.{Kind}
use Rattle.folder_spec.specs.declared.Kind.TheVariants.{Missing, Dir, File}
use Rattle.folder_spec.specs.Path.{Path, parent}
use Rattle.folder_spec.specs.Event.{Told}
use Rattle.folder_spec.specs.View.{Found, NoEntry, Folder, FileOf, Special, View, kind_found}
use Rattle.folder_spec.specs.Seen.{IfSeen, IsSeen}
use Rattle.folder_model.specs.Answers.{Answers, Counts}
use Rattle.folder_model.proofs.Counting.{never_falls, rose_since, counts_at_fault}
use Rattle.folder_staging.proofs.Blame.{risen_by}
use Rattle.work_folder.specs.declared.fault.WorkFault.{WorkFault}
use Rattle.work_folder.specs.declared.fault.WorkFault.TheVariants.{NoParent, WrongKind, Foreign, Begun, Depth, Failed, NoMemory}
use Rattle.work_folder.specs.Entries.{journal_path}
use Rattle.work_folder.specs.Faults.{fault_of}
use Rattle.work_folder.specs.Looking.{Looked, TestsEntries, TestsJournal, TestsKind, TestsParent, Gives, Looks}

pub fell_gives : (T : Type 0) (A : Looked → Type 0) (fault : FolderFault) → Gives {T = T} A (Err (fault_of fault))
fell_gives T A folder.Failed = tt
fell_gives T A folder.Refused = tt
fell_gives T A folder.NoMemory = tt

pub gives_it : (A : Looked → Type 0) (result : Looked) → A result → Gives A result
gives_it A (Ok done) h = h
gives_it A (Err (NoParent p)) h = h
gives_it A (Err (WrongKind p)) h = h
gives_it A (Err (Foreign p)) h = h
gives_it A (Err Begun) h = h
gives_it A (Err Depth) h = h
gives_it A (Err Failed) h = tt
gives_it A (Err NoMemory) h = tt

pub gives_more : {T : Type 0} (A B : Looked → Type 0) (result : Result T WorkFault) → ((answer : Looked) → B answer → A answer) → Gives B result → Gives A result
gives_more A B (Ok done) more h = more (Ok tt) h
gives_more A B (Err (NoParent p)) more h = more (Err (NoParent p)) h
gives_more A B (Err (WrongKind p)) more h = more (Err (WrongKind p)) h
gives_more A B (Err (Foreign p)) more h = more (Err (Foreign p)) h
gives_more A B (Err Begun) more h = more (Err Begun) h
gives_more A B (Err Depth) more h = more (Err Depth) h
gives_more A B (Err Failed) more h = tt
gives_more A B (Err NoMemory) more h = tt

-- a first call fell
pub fell_exit : (T : Type 0) (A : View → Looked → Type 0) (t u : Option Told) (n0 n1 : ℕ) (Condition : View → Type 0) (IsRight : View → T → Type 0) (fault : FolderFault)
    → u ≡ t → IfSeen t (λ v. Condition v) → Answers {T = T} t Condition IsRight (Err fault) → Counts {T = T} t n0 n1 (Err fault)
    → Looks A t u n0 n1 (Err (fault_of fault))
fell_exit T A t u n0 n1 Condition IsRight fault same holds answer counts = record {
  told = same;
  answer = λ v is. fell_gives (Unit {0}) (A v) fault;
  grows = never_falls {T = T} t n0 n1 (Err fault) counts;
  failed = λ e. risen_by fault_of Failed (λ none. cc none) n0 n1 fault (counts_at_fault T (Unit {0}) t n0 n0 n1 Condition IsRight fault (omega arith) holds answer counts) (cc e);
}

pub kind_fell : (A : View → Looked → Type 0) (at : Path) (t u : Option Told) (n0 n1 : ℕ) (fault : FolderFault) → u ≡ t
    → Answers {T = Kind} t (λ v. Unit {0}) (λ v k. k ≡ kind_found (v at)) (Err fault) → Counts {T = Kind} t n0 n1 (Err fault) → Looks A t u n0 n1 (Err (fault_of fault))
kind_fell A at t u n0 n1 fault same answer counts =
    fell_exit Kind A t u n0 n1 (λ v. Unit {0}) (λ v k. k ≡ kind_found (v at)) fault same (λ v is. tt) answer counts

pub no_memory_exit : (A : View → Looked → Type 0) (t u : Option Told) (n0 n1 : ℕ) → u ≡ t → n0 ≤ n1 → Looks A t u n0 n1 (Err NoMemory)
no_memory_exit A t u n0 n1 same le = record { told = same; answer = λ v is. tt; grows = le; failed = λ e. cc e }

-- a test answers
pub answer_exit : (A : View → Looked → Type 0) (t u : Option Told) (n0 n1 : ℕ) (result : Looked) → u ≡ t → n0 ≤ n1 → result ≢ Err Failed
    → IfSeen t (λ v. Gives (A v) result) → Looks A t u n0 n1 result
answer_exit A t u n0 n1 result same le other answer = record { told = same; answer = answer; grows = le; failed = λ e. absurd (other e) }

-- the rest of the tests answer
pub after_exit : (A B : View → Looked → Type 0) (t0 t1 t2 : Option Told) (n0 n1 n2 : ℕ) (result : Looked) → t1 ≡ t0 → n0 ≤ n1
    → IfSeen t0 (λ v. (answer : Looked) → B v answer → A v answer) → Looks B t1 t2 n1 n2 result → Looks A t0 t2 n0 n2 result
after_exit A B t0 t1 t2 n0 n1 n2 result same le more h = record {
  told = h.told ∙ same;
  answer = λ v is. gives_more (A v) (B v) result (more v is) (h.answer v (subst (λ t. IsSeen t v) (sym same) is));
  grows = (let later : n1 ≤ n2 = h.grows in omega (arith, le, later));
  failed = λ e. rose_since n0 n1 n2 le (h.failed e);
}

-- By what stands at the parent, at the work folder and at `journal`.
pub parent_missing : (x : Found) (v : View) (work : Path) → Missing ≡ kind_found x → TestsParent x v work (Err (NoParent (parent work)))
parent_missing NoEntry v work e = refl
parent_missing Folder v work e = cc
parent_missing (FileOf bytes) v work e = cc
parent_missing Special v work e = cc

pub parent_dir : (x : Found) (v : View) (work : Path) (answer : Looked) → Dir ≡ kind_found x → TestsKind (v work) v work answer → TestsParent x v work answer
parent_dir Folder v work answer e h = h
parent_dir NoEntry v work answer e h = cc
parent_dir (FileOf bytes) v work answer e h = cc
parent_dir Special v work answer e h = cc

pub parent_other : (x : Found) (v : View) (work : Path) (kind : Kind) → kind ≢ Missing → kind ≢ Dir → kind ≡ kind_found x → TestsParent x v work (Err (WrongKind (parent work)))
parent_other NoEntry v work kind some other e = absurd (some e)
parent_other Folder v work kind some other e = absurd (other e)
parent_other (FileOf bytes) v work kind some other e = refl
parent_other Special v work kind some other e = refl

pub kind_missing : (x : Found) (v : View) (work : Path) → Missing ≡ kind_found x → TestsKind x v work (Ok tt)
kind_missing NoEntry v work e = refl
kind_missing Folder v work e = cc
kind_missing (FileOf bytes) v work e = cc
kind_missing Special v work e = cc

pub kind_dir : (x : Found) (v : View) (work : Path) (answer : Looked) → Dir ≡ kind_found x → TestsJournal (v (journal_path work)) v work answer → TestsKind x v work answer
kind_dir Folder v work answer e h = h
kind_dir NoEntry v work answer e h = cc
kind_dir (FileOf bytes) v work answer e h = cc
kind_dir Special v work answer e h = cc

pub kind_other : (x : Found) (v : View) (work : Path) (kind : Kind) → kind ≢ Missing → kind ≢ Dir → kind ≡ kind_found x → TestsKind x v work (Err (WrongKind work))
kind_other NoEntry v work kind some other e = absurd (some e)
kind_other Folder v work kind some other e = absurd (other e)
kind_other (FileOf bytes) v work kind some other e = refl
kind_other Special v work kind some other e = refl

pub journal_file : (x : Found) (v : View) (work : Path) → File ≡ kind_found x → TestsJournal x v work (Err Begun)
journal_file (FileOf bytes) v work e = refl
journal_file NoEntry v work e = cc
journal_file Folder v work e = cc
journal_file Special v work e = cc

pub no_journal : (x : Found) (v : View) (work : Path) (kind : Kind) (answer : Looked) → kind ≢ File → kind ≡ kind_found x → TestsEntries false v work answer
    → TestsJournal x v work answer
no_journal NoEntry v work kind answer other e h = h
no_journal Folder v work kind answer other e h = h
no_journal Special v work kind answer other e h = h
no_journal (FileOf bytes) v work kind answer other e h = absurd (other e)
