-- `repair`: moving the strays of a vault into a folder of lost ones, where nothing stands.
use Rattle.std.specs.Prelude.{◌≡◌, ◌⊎◌, ℕ, Bool, true, false, ◌||◌, List, [], ◌∷◌, ◌++◌, codes, Option, IsTrue}
use Rattle.std.specs.Io.KnownBytes.{Keeps}
use Rattle.std.specs.List.{flat_map}
use Rattle.folder_spec.specs.Path.{Path}
use Rattle.folder_spec.specs.Event.{Told, FromTo}
use Rattle.folder_spec.specs.Image.{Image, IsImage}
use Rattle.folder_spec.specs.Seen.{IfSeen, IsSeen, ShowsFree, seen, under}
use Rattle.folder_spec.specs.State.{HasNothingPending, IsSound, State}
use Rattle.folder_spec.specs.View.{View, view_of}
use Rattle.plain_tree.specs.Shown.{shown_path}
use Rattle.vault_read.specs.OwnFolders.{HasOwnFolders}
use Rattle.vault_spec.specs.Adding.{OpensAs}
use Rattle.vault_spec.specs.Format.{Format}
use Rattle.vault_spec.specs.Moving.{IsStray}
use Rattle.vault_spec.specs.Vault.{Vault, Either, format_of}
use Rattle.vault_walk.specs.Survey.{HasTooMany}
use Rattle.vault_walk.specs.Surveyed.{IsOnlyTooDeep, IsWithin}
use Rattle.vault_check.specs.Repairing.{AreMoved, HasMadeAll, HasNoStrays, IsRepairing, RepairsAt, StopsMoving, repair_calls}
use Rattle.folder_spec.specs.Apart.{AreApart}
use Rattle.open_for_reading.specs.Opening.{Opens, OfOpened}
use Rattle.open_for_reading.specs.Places.{OfFree, RefusesOverlap, overlap}
use Rattle.open_for_reading.specs.Tests.{is_of_moving}
use Rattle.command_answers.specs.Printing.{PrintsDone}
use Rattle.open_for_reading.specs.Shown.{IsCutShort, is_of_end, refused}
use Rattle.open_for_reading.specs.World.{World}
use Rattle.command_answers.specs.declared.answer.Answer.{Answer}
use Rattle.command_answers.specs.declared.answer.Answer.TheVariants.{Done, OutputFault, Refused, WrongPass, NotFound, WrongKind, NotEmpty, Limit}
use Rattle.command_answers.specs.declared.answer.Limit.TheVariants as limit
use Rattle.command_words.specs.declared.commands.Repairing.{Repairing}

-- where all tests pass, the strays are moved of a vault that passes no limit
pub data IsOfMoving (f : Format) (v : View) (answer : Answer) : Type 0 where
  Moved : answer ≡ Done → IsWithin f v → IsOfMoving f v answer
  TooMany : answer ≡ Limit limit.Items → HasTooMany f v → IsOfMoving f v answer
  TooDeep : answer ≡ Limit limit.Depth → IsOnlyTooDeep f v → IsOfMoving f v answer

-- the answer by what is seen at first; the first test that fails decides
abbrev pub OfRepairing : Repairing → View → Answer → Type 0
OfRepairing target v answer =
    OfOpened v target.vault target.pass (refused answer) (λ vault. OfFree v target.lost answer (IsOfMoving (format_of vault) (under target.vault v) answer))

-- whether it may be the answer of a test that fails, or a limit
abbrev pub is_of_test : Answer → Bool
is_of_test (Refused at why) = true
is_of_test (WrongPass root) = true
is_of_test (NotFound what) = true
is_of_test (WrongKind what) = true
is_of_test (NotEmpty at) = true
is_of_test (Limit which) = true
is_of_test answer = false

-- and whether it may do so at all, where the folders don't overlap
abbrev pub is_of_repairing : Answer → Bool
is_of_repairing answer = is_of_moving answer || is_of_end answer

-- in a state in which strays of this vault are being moved, each image opens at each plain path what opened before, where nothing was
-- pending then
abbrev pub KeepsWhatOpens : Vault → Path → Path → Type 0
KeepsWhatOpens vault root lost =
    (s0 s : State) (image : Image) → IsSound s0 → HasNothingPending s0 → HasOwnFolders vault (under root (seen s0))
    → IsRepairing root (format_of vault) lost s0 s → IsImage s image → OpensAs (format_of vault) (under root (seen s0)) (under root (view_of image))

-- The strays of the opened vault are being moved, at every moment, and what opened opens; where there are none, nothing is changed. The
-- vault and the folder of lost ones are apart.
pub record MovesStrays (target : Repairing) (told told' : Option Told) : Type 0 where
  pub vault : Vault
  pub opens : IfSeen told (λ v. Opens v target.vault target.pass vault)
  pub apart : AreApart target.vault target.lost
  pub moments : RepairsAt target.vault (format_of vault) target.lost told told'
  pub keeps : KeepsWhatOpens vault target.vault target.lost
  pub bare : (v : View) → IsSeen told v → HasNoStrays (format_of vault) (under target.vault v) → told' ≡ told

-- the moving of the strays of the opened vault stopped at the first call that wasn't done
pub record HasStopped (target : Repairing) (told told' : Option Told) : Type 0 where
  pub vault : Vault
  pub opens : IfSeen told (λ v. Opens v target.vault target.pass vault)
  pub stops : FromTo (StopsMoving target.vault (format_of vault) target.lost) told told'

-- where all strays of this vault are moved, the same opens at each plain path as before, and there are no strays
abbrev pub LeavesNoStrays : Vault → Path → Path → List Path → Type 0
LeavesNoStrays vault root lost moved =
    (a b : Told) → IsSound a.state → HasOwnFolders vault (under root (seen a.state)) → AreMoved root (format_of vault) lost moved a b
    → OpensAs (format_of vault) (under root (seen a.state)) (under root (seen b.state)) × ((at : Path) → ¬ IsStray (format_of vault) (under root (seen b.state)) at)

-- all strays of the opened vault are moved by these calls and no others, and these are their old paths; where there are none, nothing is
-- changed
pub record HasMovedStrays (target : Repairing) (moved : List Path) (told told' : Option Told) : Type 0 where
  pub vault : Vault
  pub opens : IfSeen told (λ v. Opens v target.vault target.pass vault)
  pub are : FromTo (λ a b. AreMoved target.vault (format_of vault) target.lost moved a b) told told'
  pub all : FromTo (HasMadeAll (repair_calls target.lost moved)) told told'
  pub nothing : moved ≡ [] → told' ≡ told
  pub leaves : LeavesNoStrays vault target.vault target.lost moved

abbrev pub moved_line : Path → List ℕ
moved_line at = codes "moved " ++ shown_path at ++ 10 ∷ []

abbrev pub moved_text : List Path → List ℕ
moved_text moved = flat_map moved_line moved

-- the root and the passphrase are a vault, which passes no limit, and there is room for a folder of lost ones
pub record OpensFree (target : Repairing) (v : View) : Type 0 where
  pub vault : Vault
  pub opens : Opens v target.vault target.pass vault
  pub within : IsWithin (format_of vault) (under target.vault v)
  pub free : ShowsFree v target.lost

-- All is moved where the answer is Done or the output failed. Else nothing is changed, or it stopped.
pub record RepairsApart (target : Repairing) (answer : Answer) (told told' : Option Told) (taken taken' : Option (List ℕ)) : Type 0 where
  pub own : IsTrue (is_of_repairing answer)
  pub cause : IfSeen told (λ v. IsCutShort answer ⊎ OfRepairing target v answer)
  pub complete : (v : View) → IsSeen told v → OpensFree target v → (answer ≡ Done) ⊎ IsCutShort answer
  pub tested : IsTrue (is_of_test answer) → told' ≡ told
  pub moves : (told' ≡ told) ⊎ MovesStrays target told told'
  pub ends : ((answer ≡ Done) ⊎ (answer ≡ OutputFault)) ⊎ ((told' ≡ told) ⊎ HasStopped target told told')
  pub prints : PrintsDone moved_text (λ moved. HasMovedStrays target moved told told') answer taken taken'

-- `repair`, which takes nothing of the input and draws nothing
pub record RepairsVault (target : Repairing) (answer : Answer) (before after : World) : Type 0 where
  pub apart : Either (overlap target.vault target.lost) (RefusesOverlap target.vault target.lost answer before after) (RepairsApart target answer before.told after.told before.taken after.taken)
  pub untouched : Keeps before.left after.left
  pub undrawn : after.random ≡ before.random

-- ---- (private contracts only)

-- the strays of a vault were moved, which this text tells
pub record TellsMoved (vault : Vault) (root lost : Path) (text : List ℕ) (told told' : Option Told) : Type 0 where
  pub moved : List Path
  pub text_is : text ≡ moved_text moved
  pub are : FromTo (λ a b. AreMoved root (format_of vault) lost moved a b) told told'
  pub all : FromTo (HasMadeAll (repair_calls lost moved)) told told'
  pub nothing : moved ≡ [] → told' ≡ told

-- the same of the opened vault
abbrev pub TellsMovedStrays : Repairing → List ℕ → Option Told → Option Told → Type 0
TellsMovedStrays target text told told' = (moved : List Path) × (text ≡ moved_text moved) × HasMovedStrays target moved told told'
