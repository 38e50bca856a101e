-- What a migration changes in the folder.
use Rattle.std.specs.Prelude.{◌≡◌, ◌⊎◌, Bool, IsTrue, None, Option}
use Rattle.item_making.specs.Making.{is_staged}
use Rattle.folder_spec.specs.Path.{Path, below}
use Rattle.folder_spec.specs.Event.{Call, MakeDir, Create, Append, Sync, Settle, Rename, RemoveFile, RemoveDir, IsFree, Told}
use Rattle.folder_spec.specs.Moments.{Moments}
use Rattle.folder_spec.specs.Region.{IsAsBefore, apart_from_both}
use Rattle.folder_spec.specs.State.{State, present}

-- The call removes nothing at the root or below it, and replaces nothing there. What it brings there is a directory that it makes, or
-- comes from below the stage of the work folder to a free place.
abbrev pub OnlyBrings : Path → Path → State → Call → Type 0
OnlyBrings work root s (MakeDir p) = Unit {0}
OnlyBrings work root s (Create p) = below root p ≡ None
OnlyBrings work root s (Append p piece) = Unit {0}
OnlyBrings work root s (Sync p) = Unit {0}
OnlyBrings work root s Settle = Unit {0}
OnlyBrings work root s (Rename old new) =
    (below root old ≡ None) × (below old root ≡ None) × ((below root new ≡ None) ⊎ (IsTrue (is_staged work old) × IsFree (present s) new))
OnlyBrings work root s (RemoveFile p) = below root p ≡ None
OnlyBrings work root s (RemoveDir p) = below root p ≡ None

-- At every moment the region is as it was, and so is each file of then; and each call only brings something staged to the root.
abbrev pub MovesBeside : (Path → Bool) → Path → Path → Option Told → Option Told → Type 0
MovesBeside region work root = Moments (IsAsBefore region) (λ s0 s e. OnlyBrings work root s e.call)

-- all but the work folder and the target is as it was, and nothing of the target is removed or replaced
abbrev pub MovesOnly : Path → Path → Option Told → Option Told → Type 0
MovesOnly work target = MovesBeside (apart_from_both work target) work target
