-- The tests of a work folder, which change nothing: the first one that fails is the answer.
use Rattle.std.specs.Prelude.{◌≡◌, ℕ, ◌≤◌, ◌⊎◌, Bool, false, Option, Result, Ok, Err}
use Rattle.port_model.specs.Counts.{CountRose}
use Rattle.folder_spec.specs.Path.{Part, Path, parent, child}
use Rattle.folder_spec.specs.Event.{Told}
use Rattle.folder_spec.specs.View.{Found, NoEntry, Folder, FileOf, Special, View}
use Rattle.folder_spec.specs.Seen.{IfSeen}
use Rattle.work_folder.specs.declared.fault.WorkFault.{WorkFault}
use Rattle.work_folder.specs.declared.fault.WorkFault.TheVariants.{NoParent, WrongKind, Foreign, Begun, Depth, Failed, NoMemory}
use Rattle.work_folder.specs.Entries.{journal_path, HasNoForeign, IsFirstForeign}

abbrev pub Looked : Type 0
Looked = Result (Unit {0}) WorkFault

-- no entry is foreign, or the answer is the first that is
abbrev pub TestsEntries : Bool → View → Path → Looked → Type 0
TestsEntries old v work answer =
    (HasNoForeign old v work × (answer ≡ Ok tt)) ⊎ ((name : Part) × IsFirstForeign old v work name × (answer ≡ Err (Foreign (child work name))))

-- by what stands at `journal`, in a work folder without `old`
abbrev pub TestsJournal : Found → View → Path → Looked → Type 0
TestsJournal (FileOf bytes) v work answer = answer ≡ Err Begun
TestsJournal NoEntry v work answer = TestsEntries false v work answer
TestsJournal Folder v work answer = TestsEntries false v work answer
TestsJournal Special v work answer = TestsEntries false v work answer

-- by what stands at the work folder
abbrev pub TestsKind : Found → View → Path → Looked → Type 0
TestsKind NoEntry v work answer = answer ≡ Ok tt
TestsKind Folder v work answer = TestsJournal (v (journal_path work)) v work answer
TestsKind (FileOf bytes) v work answer = answer ≡ Err (WrongKind work)
TestsKind Special v work answer = answer ≡ Err (WrongKind work)

-- by what stands at its parent
abbrev pub TestsParent : Found → View → Path → Looked → Type 0
TestsParent NoEntry v work answer = answer ≡ Err (NoParent (parent work))
TestsParent Folder v work answer = TestsKind (v work) v work answer
TestsParent (FileOf bytes) v work answer = answer ≡ Err (WrongKind (parent work))
TestsParent Special v work answer = answer ≡ Err (WrongKind (parent work))

-- The tests in their order: its parent is a directory; it is Missing or a directory; no file `journal` stands in it; no entry is
-- foreign. The base is its own parent, so that it is tested as a directory of itself.
abbrev pub Tests : View → Path → Looked → Type 0
Tests v work answer = TestsParent (v (parent work)) v work answer

-- A call's answer is one of these, but that the folder may always fail and memory run out.
abbrev pub Gives : {T : Type 0} → (Looked → Type 0) → Result T WorkFault → Type 0
Gives A (Ok value) = A (Ok tt)
Gives A (Err (NoParent p)) = A (Err (NoParent p))
Gives A (Err (WrongKind p)) = A (Err (WrongKind p))
Gives A (Err (Foreign p)) = A (Err (Foreign p))
Gives A (Err Begun) = A (Err Begun)
Gives A (Err Depth) = A (Err Depth)
Gives A (Err Failed) = Unit {0}
Gives A (Err NoMemory) = Unit {0}

-- A call that changes nothing and answers so, from what a folder told and its count of faults before to those afterwards.
pub record Looks (A : View → Looked → Type 0) (before after : Option Told) (old new : ℕ) (result : Looked) : Type 0 where
  pub told : after ≡ before
  pub answer : IfSeen before (λ v. Gives (A v) result)
  pub grows : old ≤ new
  pub failed : result ≡ Err Failed → CountRose old new
