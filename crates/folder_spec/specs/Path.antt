-- Folder paths, as POSIX writes them without a leading slash: a list of parts, each a list of bytes. The empty list is the base.
use Rattle.std.specs.Prelude.{ℕ, Bool, List, [], ◌∷◌, ◌++◌, Option, Some, None, if◌then◌else◌}
use Rattle.std.specs.Str.{bytes_eq}
use Rattle.std.specs.Cmp.Lexicographic.{pointwise}

abbrev pub Part : Type 0
Part = List ℕ

abbrev pub Path : Type 0
Path = List (List ℕ)

-- whether two paths are one
abbrev pub path_eq : Path → Path → Bool
path_eq = pointwise bytes_eq

-- what of the second path comes after the first, if it begins with it
abbrev pub below : Path → Path → Option Path
below [] p = Some p
below (a ∷ w) [] = None
below (a ∷ w) (b ∷ p) = if bytes_eq a b then below w p else None

-- the path without its last part; the base is its own parent
abbrev pub parent : Path → Path
parent [] = []
parent (a ∷ []) = []
parent (a ∷ b ∷ p) = a ∷ parent (b ∷ p)

-- the path one part further down
abbrev pub child : Path → Part → Path
child p a = p ++ a ∷ []
