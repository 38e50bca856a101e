-- The entries of a directory while they are gathered.
use Rattle.std.specs.Prelude.{◌≡◌, ◌≢◌, ◌⊎◌, ℕ, ◌<◌, ◌≤◌, List, length, slice_index_or, AllPairs, Contains}
use Rattle.std.specs.Cmp.Lexicographic.{slice_cmp}
use Rattle.std.specs.Ordering.{nat_cmp}
use Rattle.std.specs.declared.cmp.Ordering.TheVariants.{Less, Greater}
use Rattle.folder_spec.specs.declared.Kind.TheVariants.{Missing}
use Rattle.folder_spec.specs.Path.{Part, Path, child}
use Rattle.folder_spec.specs.State.{Table, kind_of}
use Rattle.folder_spec.specs.Listing.{Item}

-- the names rise
abbrev pub AreOrdered : List Item → Type 0
AreOrdered items = AllPairs (λ (x y : Item). slice_cmp nat_cmp x.name y.name ≡ Less) items

-- all names before the place are lower, and the one there is higher
pub record IsPlace (items : List Item) (name : List ℕ) (place : ℕ) : Type 0 where
  pub within : place ≤ length items
  pub below : (k : ℕ) (d : Item) → k < place → slice_cmp nat_cmp (slice_index_or items k d).name name ≡ Less
  pub above : (d : Item) → place < length items → slice_cmp nat_cmp (slice_index_or items place d).name name ≡ Greater

abbrev pub HasName : List Item → List ℕ → Type 0
HasName items name = (x : Item) × Contains items x × (x.name ≡ name)

-- the item is added, if none has its name
pub record AddsItem (item : Item) (old new : List Item) : Type 0 where
  pub ordered : AreOrdered old → AreOrdered new
  pub only : (x : Item) → Contains new x → Contains old x ⊎ (x ≡ item)
  pub others : (x : Item) → Contains old x → Contains new x
  pub named : HasName new item.name

-- each item tells what stands there
abbrev pub AreRight : Table → Path → List Item → Type 0
AreRight t at items = (x : Item) → Contains items x → (x.kind ≢ Missing) × (kind_of (t (child at x.name)) ≡ x.kind)

-- what stands at the path is among the items now
pub record AddsEntry (t : Table) (at : Path) (name : Part) (old new : List Item) : Type 0 where
  pub ordered : AreOrdered old → AreOrdered new
  pub right : AreRight t at old → AreRight t at new
  pub others : (x : Item) → Contains old x → Contains new x
  pub named : kind_of (t (child at name)) ≢ Missing → HasName new name
