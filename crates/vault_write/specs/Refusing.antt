-- What a call that makes an item answers, by what the vault showed at first, the bytes drawn and how the content ended. The cases
-- exclude one another, but that the folder, the source and the random source may fail and memory run out. The tests come in this
-- order: the directory that is to have the item, the name, the place. Bytes are drawn, and the content is read, only once those are passed
-- that need no drawn byte.
use Rattle.std.specs.Prelude.{◌≡◌, ◌≢◌, ◌⊎◌, ℕ, List, [], ◌++◌, length, Option, Some, None, Result, Ok, Err}
use Rattle.folder_spec.specs.Path.{Path}
use Rattle.folder_spec.specs.View.{View}
use Rattle.vault_read.specs.Finding.{Refuses}
use Rattle.vault_faults.specs.declared.fault.FindFault.TheVariants as finds
use Rattle.vault_spec.specs.Find.{enter}
use Rattle.vault_spec.specs.Format.{Directory}
use Rattle.vault_spec.specs.Making.{Allows, draws, taken}
use Rattle.vault_spec.specs.Standing.{Standing, Absent, Strange, File, Dir, standing}
use Rattle.item_making.specs.Ending.{Ending, Whole, Damaged, TooLong}
use Rattle.content_writing.specs.Writing.{DrewNoZeros, DrewZeros}
use Rattle.item_making.specs.Making.{Placing, format, path_of}
use Rattle.item_making.specs.declared.fault.PutFault.{PutFault}
use Rattle.item_making.specs.declared.fault.PutFault.TheVariants as puts

-- the directory that is to have the item is this one, and its name is allowed
pub record MayBeIn (p : Placing) (u : View) (dir : Directory) : Type 0 where
  pub entered : enter (format p) u p.front ≡ Ok dir
  pub allowed : Allows (format p) p.name

-- and this is what is taken of its places, if anything
pub record HasTaken (p : Placing) (drawn : List ℕ) (u : View) (place : Option Path) : Type 0 where
  pub dir : Directory
  pub there : MayBeIn p u dir
  pub is : taken (format p) u dir p.name p.item drawn ≡ place

-- The item's tests are passed that need no drawn byte: its directory is entered, its name allowed, and its own place free.
pub record MayDraw (p : Placing) (u : View) : Type 0 where
  pub dir : Directory
  pub there : MayBeIn p u dir
  pub free : (format p).taken_for_file u dir ((format p).stored dir.key p.name) ≡ None

-- the name isn't allowed in the directory that is found
pub record ForbidsName (p : Placing) (u : View) : Type 0 where
  pub dir : Directory
  pub entered : enter (format p) u p.front ≡ Ok dir
  pub forbidden : ¬ Allows (format p) p.name

abbrev pub Answers : Placing → List ℕ → Ending → View → Result (Unit {0}) PutFault → Type 0
Answers p drawn ending u (Ok _) = HasTaken p drawn u None × (ending ≡ Whole) × (length drawn ≡ draws (format p) p.item) × DrewNoZeros (format p).content drawn
Answers p drawn ending u (Err (puts.Find fault)) = Refuses p.vault.root (enter (format p) u p.front) fault × (drawn ≡ [])
Answers p drawn ending u (Err (puts.NotAllowed path)) = (path ≡ path_of p) × ForbidsName p u × (drawn ≡ [])
Answers p drawn ending u (Err (puts.Taken at)) = (place : Path) × (at ≡ p.vault.root ++ place) × HasTaken p drawn u (Some place) × ((drawn ≡ []) ⊎ MayDraw p u)
Answers p drawn ending u (Err (puts.Damaged at fault)) = HasTaken p drawn u None × (ending ≡ Damaged at fault)
Answers p drawn ending u (Err (puts.Limit limit)) = HasTaken p drawn u None × (ending ≡ TooLong limit)
Answers p drawn ending u (Err puts.ZeroRandom) = MayDraw p u × DrewZeros (format p).content drawn
Answers p drawn ending u (Err puts.Source) = MayDraw p u
Answers p drawn ending u (Err puts.Random) = MayDraw p u
Answers p drawn ending u (Err puts.Failed) = Unit {0}
Answers p drawn ending u (Err puts.NoMemory) = Unit {0}

-- the same where a file that stands is replaced: nothing is tested but the name
abbrev pub AnswersOver : Placing → List ℕ → Ending → View → Result (Unit {0}) PutFault → Type 0
AnswersOver p drawn ending u (Ok _) = Allows (format p) p.name × (ending ≡ Whole) × (length drawn ≡ draws (format p) p.item) × DrewNoZeros (format p).content drawn
AnswersOver p drawn ending u (Err (puts.Find fault)) = ⊥
AnswersOver p drawn ending u (Err (puts.NotAllowed path)) = (path ≡ path_of p) × ForbidsName p u × (drawn ≡ [])
AnswersOver p drawn ending u (Err (puts.Taken at)) = ⊥
AnswersOver p drawn ending u (Err (puts.Damaged at fault)) = Allows (format p) p.name × (ending ≡ Damaged at fault)
AnswersOver p drawn ending u (Err (puts.Limit limit)) = Allows (format p) p.name × (ending ≡ TooLong limit)
AnswersOver p drawn ending u (Err puts.ZeroRandom) = Allows (format p) p.name × DrewZeros (format p).content drawn
AnswersOver p drawn ending u (Err puts.Source) = Allows (format p) p.name
AnswersOver p drawn ending u (Err puts.Random) = Allows (format p) p.name
AnswersOver p drawn ending u (Err puts.Failed) = Unit {0}
AnswersOver p drawn ending u (Err puts.NoMemory) = Unit {0}

-- the same where a directory stands, which is no place for a content
abbrev pub AnswersAtDirectory : Placing → List ℕ → View → Result (Unit {0}) PutFault → Type 0
AnswersAtDirectory p drawn u (Ok _) = ⊥
AnswersAtDirectory p drawn u (Err (puts.Find fault)) = Allows (format p) p.name × (fault ≡ finds.WrongKind (path_of p)) × (drawn ≡ [])
AnswersAtDirectory p drawn u (Err (puts.NotAllowed path)) = (path ≡ path_of p) × ForbidsName p u × (drawn ≡ [])
AnswersAtDirectory p drawn u (Err (puts.Taken at)) = ⊥
AnswersAtDirectory p drawn u (Err (puts.Damaged at fault)) = ⊥
AnswersAtDirectory p drawn u (Err (puts.Limit limit)) = ⊥
AnswersAtDirectory p drawn u (Err puts.ZeroRandom) = ⊥
AnswersAtDirectory p drawn u (Err puts.Source) = ⊥
AnswersAtDirectory p drawn u (Err puts.Random) = ⊥
AnswersAtDirectory p drawn u (Err puts.Failed) = Unit {0}
AnswersAtDirectory p drawn u (Err puts.NoMemory) = Unit {0}

-- putting a content, by what stands at its path
abbrev pub AnswersPutBy : Standing → Placing → List ℕ → Ending → View → Result (Unit {0}) PutFault → Type 0
AnswersPutBy (File at) p drawn ending u result = AnswersOver p drawn ending u result
AnswersPutBy (Dir at directory) p drawn ending u result = AnswersAtDirectory p drawn u result
AnswersPutBy Absent p drawn ending u result = Answers p drawn ending u result
AnswersPutBy (Strange at) p drawn ending u result = Answers p drawn ending u result

abbrev pub AnswersPut : Placing → List ℕ → Ending → View → Result (Unit {0}) PutFault → Type 0
AnswersPut p drawn ending u result = AnswersPutBy (standing (format p) u (path_of p)) p drawn ending u result

-- the root has no name: its place is taken, and it is a directory
abbrev pub TakesRoot : Path → Result (Unit {0}) PutFault → Type 0
TakesRoot root result = (result ≢ Err (puts.Taken root)) → result ≡ Err puts.NoMemory

abbrev pub PutsRoot : Result (Unit {0}) PutFault → Type 0
PutsRoot result = (result ≢ Err (puts.Find (finds.WrongKind []))) → result ≡ Err puts.NoMemory
