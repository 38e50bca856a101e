-- The entries of a directory.
use Rattle.std.specs.Prelude.{◌≡◌, ◌≢◌, ◌↔◌, ℕ, List, AllPairs, Contains}
use Rattle.std.specs.Cmp.Lexicographic.{slice_cmp}
use Rattle.std.specs.Ordering.{nat_cmp}
use Rattle.std.specs.declared.cmp.Ordering.TheVariants.{Less}
use Rattle.folder_spec.specs.declared.Kind.{Kind}
use Rattle.folder_spec.specs.declared.Kind.TheVariants.{Missing}
use Rattle.folder_spec.specs.Path.{Path, child}
use Rattle.folder_spec.specs.View.{View, kind_found}

-- one entry: its name and what stands there
pub record Item : Type 0 where
  pub name : List ℕ
  pub kind : Kind

-- the entries that the view shows of the directory at the path, in byte order of their names, each once
pub record IsListing (v : View) (at : Path) (items : List Item) : Type 0 where
  pub ordered : AllPairs (λ (x y : Item). slice_cmp nat_cmp x.name y.name ≡ Less) items
  pub entries : (x : Item) → Contains items x ↔ ((x.kind ≢ Missing) × (kind_found (v (child at x.name)) ≡ x.kind))
