-- The strays of a vault that a repair moves: those that are below no other.
use Rattle.std.specs.Prelude.{◌≡◌, ◌↔◌, ◌&&◌, ◌-◌, not, length, slice_get, ℕ, Bool, false, List, [], ◌∷◌, ◌++◌, nat_eq, ◌||◌, Option, Some, None, is_some, if◌then◌else◌, AllPairs, Contains}
use Rattle.std.specs.declared.cmp.Ordering.TheVariants.{Less}
use Rattle.folder_model.specs.Order.{path_cmp}
use Rattle.folder_spec.specs.Path.{Part, Path, below}
use Rattle.folder_spec.specs.View.{View}
use Rattle.vault_spec.specs.Format.{Format}
use Rattle.vault_spec.specs.Moving.{IsStray}
use Rattle.vault_walk.specs.declared.fault.Finding.{Finding}

-- a stray that is below no other
pub record IsOuterStray (f : Format) (v : View) (at : Path) : Type 0 where
  pub stray : IsStray f v at
  pub outer : (front : Path) (a : Part) (rest : Path) → at ≡ front ++ a ∷ rest → ¬ IsStray f v front

-- these are all of them, in order of their paths
pub record AreOuterStrays (f : Format) (v : View) (strays : List Path) : Type 0 where
  pub ordered : AllPairs (λ (x y : Path). path_cmp x y ≡ Less) strays
  pub each : (at : Path) → Contains strays at ↔ IsOuterStray f v at

-- ---- (private contracts only)

-- whether a finding with this number is moved
abbrev pub moves_number : ℕ → Bool
moves_number n = nat_eq n 1 || nat_eq n 3 || nat_eq n 4 || nat_eq n 7 || nat_eq n 8 || nat_eq n 10

-- the last of these, if there is one
abbrev pub last_path : List Path → Option Path
last_path paths = slice_get paths (length paths - 1)

-- whether the path is at or below the last one, if there is one
abbrev pub is_covered : Option Path → Path → Bool
is_covered None at = false
is_covered (Some last) at = is_some (below last at)

-- with the path of a finding that is moved and isn't at or below the last one
abbrev pub with_stray : List Path → Finding → List Path
with_stray strays x = if moves_number x.number && not (is_covered (last_path strays) x.at) then strays ++ x.at ∷ [] else strays

-- with all such paths of these findings
abbrev pub strays_after : List Path → List Finding → List Path
strays_after strays [] = strays
strays_after strays (x ∷ found) = strays_after (with_stray strays x) found
