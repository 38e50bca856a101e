-- Regions of paths that calls leave as they were.
use Rattle.std.specs.Prelude.{◌≡◌, ◌≢◌, ℕ, ◌<◌, ◌≤◌, ◌⊎◌, Bool, ◌&&◌, None, is_none, is_some, IsTrue}
use Rattle.folder_spec.specs.declared.Spot.TheVariants.{FileNode}
use Rattle.folder_spec.specs.Path.{Path, below}
use Rattle.folder_spec.specs.State.{Table, State, present, IsTableOf, IsNothingOrFile}
use Rattle.folder_spec.specs.Event.{Call, IsFree, Allowed, MakeDir, Create, Append, Sync, Settle, Rename, RemoveFile, RemoveDir}

-- the paths that do not begin with w
abbrev pub apart_from : Path → Path → Bool
apart_from w p = is_none (below w p)

-- the paths that begin with w
abbrev pub at_or_below : Path → Path → Bool
at_or_below w p = is_some (below w p)

-- the paths that begin with neither
abbrev pub apart_from_both : Path → Path → Path → Bool
apart_from_both v w p = apart_from v p && apart_from w p

-- the call's paths, and all below those that it moves, lie outside the region
abbrev pub Spares : (Path → Bool) → Call → Type 0
Spares region (MakeDir p) = (q : Path) → IsTrue (region q) → p ≢ q
Spares region (Create p) = (q : Path) → IsTrue (region q) → p ≢ q
Spares region (Append p piece) = Unit {0}
Spares region (Sync p) = Unit {0}
Spares region Settle = Unit {0}
Spares region (Rename old new) = (q : Path) → IsTrue (region q) → (below new q ≡ None) × (below old q ≡ None)
Spares region (RemoveFile p) = (q : Path) → IsTrue (region q) → p ≢ q
Spares region (RemoveDir p) = (q : Path) → IsTrue (region q) → p ≢ q

-- two tables have the same in the region
abbrev pub AlikeIn : (Path → Bool) → Table → Table → Type 0
AlikeIn region t u = (q : Path) → IsTrue (region q) → t q ≡ u q

-- In the region s is as s0 was: each table has there what a table of s0 had, and the present one what was present. The
-- files of then are as they were.
pub record IsAsBefore (region : Path → Bool) (s0 s : State) : Type 0 where
  pub tables : (t : Table) → IsTableOf s t → (u : Table) × IsTableOf s0 u × AlikeIn region t u
  pub seen : AlikeIn region (present s) (present s0)
  pub nodes : (n : ℕ) → n < s0.made → s.nodes n ≡ s0.nodes n
  pub made : s0.made ≤ s.made

-- the call writes no file of the first `made`
abbrev pub WritesOnlyNew : ℕ → State → Call → Type 0
WritesOnlyNew made s (Append p piece) = (n : ℕ) → present s p ≡ FileNode n → made ≤ n
WritesOnlyNew made s (Sync p) = (n : ℕ) → present s p ≡ FileNode n → made ≤ n
WritesOnlyNew made s (MakeDir p) = Unit {0}
WritesOnlyNew made s (Create p) = Unit {0}
WritesOnlyNew made s Settle = Unit {0}
WritesOnlyNew made s (Rename old new) = Unit {0}
WritesOnlyNew made s (RemoveFile p) = Unit {0}
WritesOnlyNew made s (RemoveDir p) = Unit {0}

-- the call spares the region, and all files of then
abbrev pub SparesOld : (Path → Bool) → State → State → Call → Type 0
SparesOld region s0 s call = Spares region call × WritesOnlyNew s0.made s call

-- the call makes, writes or removes at the path or below it
abbrev pub WorksAt : Path → Call → Type 0
WorksAt at (MakeDir p) = IsTrue (at_or_below at p)
WorksAt at (Create p) = IsTrue (at_or_below at p)
WorksAt at (Append p piece) = IsTrue (at_or_below at p)
WorksAt at (Sync p) = IsTrue (at_or_below at p)
WorksAt at Settle = ⊥
WorksAt at (Rename old new) = ⊥
WorksAt at (RemoveFile p) = IsTrue (at_or_below at p)
WorksAt at (RemoveDir p) = IsTrue (at_or_below at p)

-- and writes no file of then
abbrev pub StagesAt : Path → State → State → Call → Type 0
StagesAt at s0 s call = WorksAt at call × WritesOnlyNew s0.made s call

-- The call stages at the one path, or puts what was staged in its place at once, while all else is still as it was; or it settles.
abbrev pub StagesOrPuts : Path → Path → State → State → Call → Type 0
StagesOrPuts staged at s0 s (Rename old new) = (old ≡ staged) × (new ≡ at) × IsAsBefore (apart_from staged) s0 s × Allowed s (Rename old new)
StagesOrPuts staged at s0 s Settle = Unit {0}
StagesOrPuts staged at s0 s (MakeDir p) = StagesAt staged s0 s (MakeDir p)
StagesOrPuts staged at s0 s (Create p) = StagesAt staged s0 s (Create p)
StagesOrPuts staged at s0 s (Append p piece) = StagesAt staged s0 s (Append p piece)
StagesOrPuts staged at s0 s (Sync p) = StagesAt staged s0 s (Sync p)
StagesOrPuts staged at s0 s (RemoveFile p) = StagesAt staged s0 s (RemoveFile p)
StagesOrPuts staged at s0 s (RemoveDir p) = StagesAt staged s0 s (RemoveDir p)

-- what a path may come to have, beside what it had: each table has there what a table of s0 had, or nothing, or a file
abbrev pub HasOldOrFile : Path → State → State → Type 0
HasOldOrFile at s0 s = (t : Table) → IsTableOf s t → IsNothingOrFile t at ⊎ ((u : Table) × IsTableOf s0 u × (t at ≡ u at))

-- the call puts nothing but a new file at the path
abbrev pub PutsOnlyFiles : Path → Call → Type 0
PutsOnlyFiles at (MakeDir p) = p ≢ at
PutsOnlyFiles at (Rename old new) = below new at ≡ None
PutsOnlyFiles at (Create p) = Unit {0}
PutsOnlyFiles at (Append p piece) = Unit {0}
PutsOnlyFiles at (Sync p) = Unit {0}
PutsOnlyFiles at Settle = Unit {0}
PutsOnlyFiles at (RemoveFile p) = Unit {0}
PutsOnlyFiles at (RemoveDir p) = Unit {0}

-- The call takes nothing away in the region. What it brings there is a directory, or what stood outside, at a free place.
abbrev pub OnlyAdds : (Path → Bool) → State → Call → Type 0
OnlyAdds region s (MakeDir p) = Unit {0}
OnlyAdds region s (Create p) = (q : Path) → IsTrue (region q) → p ≢ q
OnlyAdds region s (Append p piece) = Unit {0}
OnlyAdds region s (Sync p) = Unit {0}
OnlyAdds region s Settle = Unit {0}
OnlyAdds region s (Rename old new) = ((q : Path) → IsTrue (region q) → below old q ≡ None) × IsFree (present s) new
OnlyAdds region s (RemoveFile p) = (q : Path) → IsTrue (region q) → p ≢ q
OnlyAdds region s (RemoveDir p) = (q : Path) → IsTrue (region q) → p ≢ q
