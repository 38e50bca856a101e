-- Which directories a settle has to sync.
use Rattle.std.specs.Prelude.{◌≡◌, ◌⊎◌, Bool, true, List, [], ◌||◌, cond, IsTrue, IsFalse}
use Rattle.std.specs.BTreeMap.{is_at}
use Rattle.std.specs.List.{All, list_any}
use Rattle.folder_model.specs.Order.{path_cmp}
use Rattle.folder_spec.specs.Path.{Path}
use Rattle.host_places.specs.Places.{names_entries}

-- the directories of which an entry was seen, and those of them that have to be synced: since an earlier process may have left
-- something unsynced there, or since their entries changed
pub record Dirs : Type 0 where
  pub known : List Path
  pub seen : List Path
  pub changed : List Path

-- two paths are one
abbrev pub same : Path → Path → Bool
same one other = is_at (path_cmp one) other

-- a directory is one of these
abbrev pub has : List Path → Path → Bool
has dirs at = list_any (same at) dirs

-- the second list has this directory, and else what the first has
abbrev pub HasMore : List Path → List Path → Path → Type 0
HasMore old new dir = (at : Path) → has new at ≡ cond (same dir at) true (has old at)

-- each of these directories is one of those
abbrev pub AreAmong : List Path → List Path → Type 0
AreAmong some all = All (λ dir. IsTrue (has all dir)) some

-- each part of each of these directories names an entry
abbrev pub AreNamed : List Path → Type 0
AreNamed some = All (λ dir. IsTrue (names_entries dir)) some

-- a settle has to sync a directory
abbrev pub is_noted : Dirs → Path → Bool
is_noted dirs at = has dirs.seen at || has dirs.changed at

-- entries were seen: what was noted still is, and a directory of which none had been seen before is noted with the first
pub record Sees (old new : Dirs) : Type 0 where
  pub stays : (at : Path) → IsTrue (is_noted old at) → IsTrue (is_noted new at)
  pub first : (at : Path) → IsTrue (has new.known at) → IsTrue (has old.known at) ⊎ IsTrue (is_noted new at)

-- the same, but of a directory that was removed
pub record SeesBut (gone : Path) (old new : Dirs) : Type 0 where
  pub stays : (at : Path) → IsFalse (same gone at) → IsTrue (is_noted old at) → IsTrue (is_noted new at)
  pub first : (at : Path) → IsFalse (same gone at) → IsTrue (has new.known at) → IsTrue (has old.known at) ⊎ IsTrue (is_noted new at)

-- nothing is noted
abbrev pub IsSettled : Dirs → Type 0
IsSettled dirs = (dirs.seen ≡ []) × (dirs.changed ≡ [])

-- nothing is noted but these two directories
pub record IsJust (dirs : Dirs) (one other : Path) : Type 0 where
  pub just : (at : Path) → IsTrue (is_noted dirs at) → IsTrue (same one at) ⊎ IsTrue (same other at)
