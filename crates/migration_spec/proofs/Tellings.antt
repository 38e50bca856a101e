-- What is seen from call to call of a folder that may tell its state.
use Rattle.std.proofs.Common.{◌≡◌, Option, Some, None, refl, ap, ◌∙◌}
use Rattle.folder_spec.proofs.Tables.{present_is_table}
use Rattle.folder_spec.specs.Event.{FromTo, Told}
use Rattle.folder_spec.specs.Path.{child}
use Rattle.folder_spec.specs.Seen.{IfSeen, IsSeen, seen}
use Rattle.folder_spec.specs.State.{State, IsSound, present}
use Rattle.folder_spec.specs.View.{View, found}
use Rattle.vault_spec.specs.Alike.{HasFolders}

-- what a call tells of the state is sound
abbrev pub AreSound : Option Told → Type 0
AreSound t = (a : Told) → t ≡ Some a → IsSound a.state

-- what stands has a folder above it
pub folders_in : (s : State) → IsSound s → HasFolders (seen s)
folders_in s sound at name stands =
    ap (found (λ n. (s.nodes n).now)) ((sound.tables (present s) (present_is_table s)).parents at name (λ none. stands (ap (found (λ n. (s.nodes n).now)) none)))

pub folders_of : (t : Option Told) → AreSound t → IfSeen t (λ v. HasFolders v)
folders_of (Some a) sound v is at name stands = ap (λ (w : View). w at) is ∙ folders_in a.state (sound a refl) at name (λ none. stands (ap (λ (w : View). w (child at name)) is ∙ none))
folders_of None sound v is at name stands = absurd is

-- what is seen afterwards was seen before, in some view
pub seen_before : (S : Told → Told → Type 0) (t u : Option Told) → FromTo S t u → IfSeen u (λ v. (w : View) × IsSeen t w)
seen_before S (Some a) (Some b) told v is = (seen a.state, refl)
seen_before S t None told v is = absurd is
seen_before S None (Some b) told v is = absurd told

-- and what is seen before is followed by something seen
pub seen_then : (S : Told → Told → Type 0) (t u : Option Told) → FromTo S t u → IfSeen t (λ v. (w : View) × IsSeen u w)
seen_then S (Some a) (Some b) told v is = (seen b.state, refl)
seen_then S None u told v is = absurd is
seen_then S (Some a) None told v is = absurd told
