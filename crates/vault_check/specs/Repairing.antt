-- Moving strays out of a vault into a folder of lost ones, one by one, each under its number there.
use Rattle.std.specs.Prelude.{◌≡◌, ◌≢◌, ◌⊎◌, ◌<◌, ◌≤◌, ◌+◌, ◌++◌, ◌∷◌, [], ℕ, Bool, List, map, length, take, slice_index_or, Option, is_some, IsTrue, if◌then◌else◌, AllPairs, Contains}
use Rattle.std.specs.Fmt.{decimal}
use Rattle.std.specs.List.{list_any}
use Rattle.folder_spec.specs.declared.Spot.TheVariants.{Nothing, Directory}
use Rattle.folder_spec.specs.Path.{Part, Path, below, child}
use Rattle.folder_spec.specs.State.{Table, State, present, IsTableOf}
use Rattle.folder_spec.specs.Event.{Call, Done, MakeDir, Create, Append, Outcome, Sync, Settle, Rename, RemoveFile, RemoveDir, Told, told_after}
use Rattle.folder_spec.specs.Moments.{Moments}
use Rattle.folder_spec.specs.Apart.{AreApart}
use Rattle.folder_spec.specs.Region.{apart_from}
use Rattle.folder_spec.specs.Seen.{ShowsFree, seen, under}
use Rattle.folder_spec.specs.View.{View}
use Rattle.vault_spec.specs.Format.{Format}
use Rattle.vault_spec.specs.Moving.{IsStray}
use Rattle.vault_check.specs.Strays.{AreOuterStrays}

-- strays of a vault at the root can be moved there: nothing is there, and a directory is above it
pub record MayMoveTo (v : View) (root lost : Path) : Type 0 where
  pub free : ShowsFree v lost
  pub apart : AreApart root lost

-- the place of the first stray is 1, that of the next 2, and so on
abbrev pub place_of : Path → ℕ → Path
place_of lost k = child lost (decimal (k + 1))

-- whether what is at the path was at one of these or below it
abbrev pub is_gone : List Path → Path → Bool
is_gone strays q = list_any (λ (at : Path). is_some (below at q)) strays

-- The table t is u with these strays moved: what stood at each and below it stands at its place. Nothing else stands in the folder of lost
-- ones, and all else stands where it stood.
pub record HasMoved (lost : Path) (strays : List Path) (t u : Table) : Type 0 where
  pub folder : t lost ≡ Directory
  pub moved : (k : ℕ) → k < length strays → (rest : Path) → t (place_of lost k ++ rest) ≡ u (slice_index_or strays k [] ++ rest)
  pub alone : (a : Part) (rest : Path) → ((k : ℕ) → k < length strays → a ≢ decimal (k + 1)) → t (lost ++ a ∷ rest) ≡ Nothing
  pub others : (q : Path) → IsTrue (apart_from lost q) → t q ≡ (if is_gone strays q then Nothing else u q)

-- the first of these have been moved, perhaps none
pub record HasMovedSome (lost : Path) (strays : List Path) (t u : Table) : Type 0 where
  pub count : ℕ
  pub few : count ≤ length strays
  pub moved : HasMoved lost (take count strays) t u

-- Since s0 these strays are being moved. Each table is one of s0, or the present one of s0 with the first of them moved. No file was
-- written or made.
pub record IsMoving (lost : Path) (strays : List Path) (s0 s : State) : Type 0 where
  pub tables : (t : Table) → IsTableOf s t → IsTableOf s0 t ⊎ HasMovedSome lost strays t (present s0)
  pub nodes : s.nodes ≡ s0.nodes
  pub made : s.made ≡ s0.made

-- paths below a root
abbrev pub behind : Path → List Path → List Path
behind root paths = map (λ (at : Path). root ++ at) paths

-- the strays of a vault, in order, behind its root
pub record AreStraysBehind (root : Path) (f : Format) (v : View) (paths : List Path) : Type 0 where
  pub strays : List Path
  pub are : AreOuterStrays f v strays
  pub behind_root : paths ≡ behind root strays

-- Since s0 nothing has changed, or the strays of a vault at a root are being moved.
pub data IsRepairing (root : Path) (f : Format) (lost : Path) (s0 s : State) : Type 0 where
  Unchanged : s ≡ s0 → IsRepairing root f lost s0 s
  Moving : (strays : List Path) → AreStraysBehind root f (under root (seen s0)) strays → IsMoving lost strays s0 s → IsRepairing root f lost s0 s

-- the folder of lost ones is there whatever a crash takes away
abbrev pub Stays : Path → State → Type 0
Stays lost s = (t : Table) → IsTableOf s t → t lost ≡ Directory

-- A repair settles, makes the folder of lost ones where no change of a directory waits to be kept, and renames strays into it where it
-- stays.
abbrev pub MovesInto : Path → State → Call → Type 0
MovesInto lost s (MakeDir p) = (p ≡ lost) × (s.later ≡ [])
MovesInto lost s (Rename old new) = ((k : ℕ) × (new ≡ place_of lost k)) × Stays lost s
MovesInto lost s Settle = Unit {0}
MovesInto lost s (Create p) = ⊥
MovesInto lost s (Append p piece) = ⊥
MovesInto lost s (Sync p) = ⊥
MovesInto lost s (RemoveFile p) = ⊥
MovesInto lost s (RemoveDir p) = ⊥

abbrev pub RepairsAt : Path → Format → Path → Option Told → Option Told → Type 0
RepairsAt root f lost = Moments (IsRepairing root f lost) (λ s0 s e. MovesInto lost s e.call)

-- what makes the folder of lost ones, so that it stays
abbrev pub making_calls : Path → List Call
making_calls lost = Settle ∷ MakeDir lost ∷ Settle ∷ []

-- what moves these, the first of them to the place k
abbrev pub renames : Path → ℕ → List Path → List Call
renames lost k [] = []
renames lost k (stray ∷ strays) = Rename stray (place_of lost k) ∷ renames lost (k + 1) strays

abbrev pub moving_calls : Path → List Path → List Call
moving_calls lost strays = making_calls lost ++ renames lost 0 strays ++ Settle ∷ []

-- the calls of a repair of these strays: none where there are none
abbrev pub repair_calls : Path → List Path → List Call
repair_calls lost [] = []
repair_calls lost (stray ∷ strays) = moving_calls lost (stray ∷ strays)

-- what is told after these calls, each of which was done
abbrev pub told_after_all : Told → List Call → Told
told_after_all a [] = a
told_after_all a (call ∷ calls) = told_after_all (told_after a call Done) calls

abbrev pub HasMadeAll : List Call → Told → Told → Type 0
HasMadeAll calls a b = b ≡ told_after_all a calls

-- from a to b this call was made, and wasn't done
abbrev pub Fails : Call → Told → Told → Type 0
Fails call a b = (outcome : Outcome) × (outcome ≢ Done) × (b ≡ told_after a call outcome)

-- from a to b the first of these calls were made and done, and not all: the next one failed, or wasn't made
abbrev pub StopsIn : List Call → Told → Told → Type 0
StopsIn [] a b = ⊥
StopsIn (call ∷ calls) a b = (b ≡ a) ⊎ (Fails call a b ⊎ StopsIn calls (told_after a call Done) b)

-- from a to b a repair of the strays of a vault at a root stopped in its calls
pub record StopsMoving (root : Path) (f : Format) (lost : Path) (a b : Told) : Type 0 where
  pub strays : List Path
  pub are : AreStraysBehind root f (under root (seen a.state)) strays
  pub stops : StopsIn (repair_calls lost strays) a b

-- nothing in the vault is a stray
abbrev pub HasNoStrays : Format → View → Type 0
HasNoStrays f v = (at : Path) → ¬ IsStray f v at

-- All are moved, which is settled; where there are none, nothing has changed.
pub record HasRepaired (lost : Path) (moved : List Path) (s0 s : State) : Type 0 where
  pub nothing : moved ≡ [] → s ≡ s0
  pub moves : moved ≢ [] → HasMoved lost moved (present s) (present s0)
  pub settled : moved ≢ [] → s.later ≡ []

-- The old paths are those of the strays, in order, and all are moved.
pub record AreMoved (root : Path) (f : Format) (lost : Path) (moved : List Path) (a b : Told) : Type 0 where
  pub are : AreStraysBehind root f (under root (seen a.state)) moved
  pub repaired : HasRepaired lost moved a.state b.state
  pub unwritten : b.state.nodes ≡ a.state.nodes

-- ---- (private contracts only)

-- each stands there and is aside of the folder of lost ones, and none is at or below another
pub record AreMovable (lost : Path) (strays : List Path) (t : Table) : Type 0 where
  pub stand : (at : Path) → Contains strays at → (at ≢ []) × (t at ≢ Nothing)
  pub aside : (at : Path) → Contains strays at → AreApart lost at
  pub apart : AllPairs AreApart strays

abbrev pub Moves : Path → List Path → Option Told → Option Told → Type 0
Moves lost strays = Moments (IsMoving lost strays) (λ s0 s e. MovesInto lost s e.call)

-- the folder of lost ones was made, nothing is in it, and it stays
pub record HasMadeLost (lost : Path) (a b : Told) : Type 0 where
  pub bare : HasMoved lost [] (present b.state) (present a.state)
  pub settled : b.state.later ≡ []
  pub all : HasMadeAll (making_calls lost) a b

-- these are in it, and were moved into it one after the other
pub record HasMovedEach (lost : Path) (strays : List Path) (a b : Told) : Type 0 where
  pub moved : HasMoved lost strays (present b.state) (present a.state)
  pub all : HasMadeAll (renames lost 0 strays) a b

-- and this is settled
pub record HasMovedAll (lost : Path) (strays : List Path) (a b : Told) : Type 0 where
  pub moved : HasMoved lost strays (present b.state) (present a.state)
  pub settled : b.state.later ≡ []
  pub all : HasMadeAll (moving_calls lost strays) a b
