-- What a command that only reads shows of a folder, and how its output and its answer follow from that.
use Rattle.std.specs.Prelude.{◌≡◌, ◌⊎◌, ℕ, Bool, true, false, ◌||◌, IsTrue, List, [], take, Option}
use Rattle.std.specs.Io.KnownBytes.{Appends, Keeps}
use Rattle.std.specs.List.{concat}
use Rattle.port_model.specs.Told.{AppendsPrefix}
use Rattle.folder_spec.specs.Event.{Told}
use Rattle.folder_spec.specs.View.{View}
use Rattle.folder_spec.specs.Seen.{IfSeen, IsSeen}
use Rattle.command_answers.specs.declared.answer.Answer.{Answer}
use Rattle.command_answers.specs.declared.answer.Answer.TheVariants.{Done, OutOfMemory, FolderFault, OutputFault, Refused, WrongPass, NotFound, WrongKind, Damaged, Limit}

-- the pieces of an output, in order, and the answer behind them
pub record Shown : Type 0 where
  pub pieces : List (List ℕ)
  pub answer : Answer

-- no output, and this answer
abbrev pub refused : Answer → Shown
refused answer = record { pieces = []; answer = answer }

-- the output took nothing, or some of the first pieces
abbrev pub TakesSome : (Shown → Type 0) → Option (List ℕ) → Option (List ℕ) → Type 0
TakesSome Shows taken taken' = Keeps taken taken' ⊎ ((shown : Shown) × Shows shown × (k : ℕ) × Appends taken taken' (concat (take k shown.pieces)))

-- it took a front part of all
abbrev pub TakesFront : (Shown → Type 0) → Option (List ℕ) → Option (List ℕ) → Type 0
TakesFront Shows taken taken' = (shown : Shown) × Shows shown × AppendsPrefix taken taken' (concat shown.pieces)

-- it took all, and this is the answer that is shown
abbrev pub TakesAll : (Shown → Type 0) → Answer → Option (List ℕ) → Option (List ℕ) → Type 0
TakesAll Shows answer taken taken' = (shown : Shown) × Shows shown × (answer ≡ shown.answer) × Appends taken taken' (concat shown.pieces)

-- What the output took, by the answer. Where the folder failed or memory was refused it may be less than all, and where the output
-- failed.
abbrev pub Follows : (Shown → Type 0) → Answer → Option (List ℕ) → Option (List ℕ) → Type 0
Follows Shows FolderFault taken taken' = TakesSome Shows taken taken'
Follows Shows OutOfMemory taken taken' = TakesSome Shows taken taken'
Follows Shows OutputFault taken taken' = TakesFront Shows taken taken'
Follows Shows answer taken taken' = TakesAll Shows answer taken taken'

-- an answer that is no matter of what is shown: the folder or the output failed, or memory was refused
abbrev pub IsCutShort : Answer → Type 0
IsCutShort answer = (answer ≡ FolderFault) ⊎ ((answer ≡ OutputFault) ⊎ (answer ≡ OutOfMemory))

-- whether a vault that isn't opened may be answered so
abbrev pub is_of_opening : Answer → Bool
is_of_opening OutOfMemory = true
is_of_opening FolderFault = true
is_of_opening (Refused at why) = true
is_of_opening (WrongPass root) = true
is_of_opening (NotFound what) = true
is_of_opening (WrongKind what) = true
is_of_opening (Limit which) = true
is_of_opening answer = false

-- whether a command that has come to its output may answer so
abbrev pub is_of_end : Answer → Bool
is_of_end Done = true
is_of_end OutputFault = true
is_of_end answer = false

-- whether what stands in a vault is damaged
abbrev pub is_of_damage : Answer → Bool
is_of_damage (Damaged at how) = true
is_of_damage answer = false

-- whether a command that looks for a plain path may answer so before it writes anything
abbrev pub is_refusal : Answer → Bool
is_refusal answer = is_of_opening answer || is_of_damage answer

-- and whether it may do so at all
abbrev pub is_of_reading : Answer → Bool
is_of_reading answer = is_refusal answer || is_of_end answer

-- A command answers and writes what this shows of the folder, and changes nothing there. What is shown is the answer, unless it is
-- cut short.
pub record Reads (Shows : View → Shown → Type 0) (answer : Answer) (told told' : Option Told) (taken taken' : Option (List ℕ)) : Type 0 where
  pub unchanged : told' ≡ told
  pub own : IsTrue (is_of_reading answer)
  pub follows : IfSeen told (λ v. Follows (Shows v) answer taken taken')
  pub exactly : (v : View) (shown : Shown) → IsSeen told v → Shows v shown → (answer ≡ shown.answer) ⊎ IsCutShort answer
