-- How the contents of two files compare.
use Rattle.std.specs.Prelude.{◌≡◌, ℕ, ◌&&◌, Bool, true, false, nat_eq, List, [], if◌then◌else◌, Result, Ok, Err}
use Rattle.std.specs.List.{concat, starts_with}
use Rattle.std.specs.Str.{bytes_eq}
use Rattle.chunk_files.specs.Keys.{Keys}
use Rattle.chunk_files.specs.Reading.{Ending, Whole, Wanting, Faulty, Reading}
use Rattle.folder_spec.specs.Path.{Path}
use Rattle.folder_spec.specs.View.{View, Found, NoEntry, Folder, FileOf, Special}
use Rattle.vault_read.specs.Contents.{limited_reading}
use Rattle.vault_faults.specs.declared.fault.Limit.TheVariants.{Depth, Items, Length, Input}
use Rattle.tree_match.specs.declared.answer.MatchFault.{MatchFault}
use Rattle.tree_match.specs.declared.answer.MatchFault.TheVariants.{Damaged, Limit, Failed, NoMemory}

-- what a content file at a path gives: its plain bytes, and how reading it ends
pub record Content : Type 0 where
  pub at : Path
  pub bytes : List ℕ
  pub ending : Ending

abbrev pub content_of : Path → Reading → Content
content_of at reading = record { at = at; bytes = concat reading.chunks; ending = reading.ending }

abbrev pub bytes_found : Found → List ℕ
bytes_found (FileOf bytes) = bytes
bytes_found NoEntry = []
bytes_found Folder = []
bytes_found Special = []

-- the content, under a vault's keys, of the file that a view shows at a path
abbrev pub content_at : Keys → View → Path → Content
content_at keys v at = content_of at (limited_reading keys (bytes_found (v at)))

-- an answer; or reading the content file at a path ends so before it, by a fault or at the limit
pub data Outcome (A : Type 0) : Type 0 where
  Is : A → Outcome A
  Stops : Path → Ending → Outcome A

-- reading ends before the file does
abbrev pub is_cut : Ending → Bool
is_cut Whole = false
is_cut Wanting = true
is_cut (Faulty fault) = true

-- Whether two contents are the same. Where reading one of them ends before its file does, this counts unless the two part before: so
-- where the other begins with all that was read. At one place that of the first counts.
unfoldable pub compared : Content → Content → Outcome Bool
compared a b =
    if is_cut a.ending && starts_with nat_eq b.bytes a.bytes then Stops a.at a.ending
    else if is_cut b.ending && starts_with nat_eq a.bytes b.bytes then Stops b.at b.ending
    else Is (bytes_eq a.bytes b.bytes)

-- a fault tells that reading the file at a path ended so; the folder's failing and want of memory tell nothing of the contents
abbrev pub IsFault : (Path → Ending → Type 0) → MatchFault → Type 0
IsFault P (Damaged at fault) = P at (Faulty fault)
IsFault P (Limit (Length at)) = P at Wanting
IsFault P (Limit Depth) = ⊥
IsFault P (Limit Items) = ⊥
IsFault P (Limit Input) = ⊥
IsFault P Failed = Unit {0}
IsFault P NoMemory = Unit {0}

-- what is answered is this outcome
abbrev pub Answers : {A : Type 0} → Outcome A → Result A MatchFault → Type 0
Answers outcome (Ok x) = outcome ≡ Is x
Answers outcome (Err fault) = IsFault (λ at ending. outcome ≡ Stops at ending) fault

-- a fault, by those of a command: that the folder failed, that memory was refused, and what others are told as
abbrev pub match_as : {G : Type 0} → G → G → (MatchFault → G) → MatchFault → G
match_as failed none told Failed = failed
match_as failed none told NoMemory = none
match_as failed none told fault = told fault
