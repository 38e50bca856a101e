-- Which of the entries of a listing is the first foreign one (private contracts only).
use Rattle.std.specs.Prelude.{◌≡◌, ℕ, ◌<◌, Bool, List, length, slice_index_or, Ok, Err, IsTrue, IsFalse}
use Rattle.folder_spec.specs.Path.{Path, child}
use Rattle.folder_spec.specs.Listing.{Item}
use Rattle.work_folder.specs.declared.fault.WorkFault.TheVariants.{NoParent, WrongKind, Foreign, Begun, Depth, Failed, NoMemory}
use Rattle.work_folder.specs.Entries.{is_foreign}
use Rattle.work_folder.specs.Looking.{Looked}

-- none of the first n items is foreign
abbrev pub NoneBefore : Bool → List Item → ℕ → Type 0
NoneBefore old items n =
    (k : ℕ) → k < n → (d : Item) → IsFalse (is_foreign old (slice_index_or items k d).name (slice_index_or items k d).kind)

-- the item is foreign, and none before it is
pub record IsFirstAt (old : Bool) (items : List Item) (n : ℕ) (x : Item) : Type 0 where
  pub fits : n < length items
  pub is : (d : Item) → slice_index_or items n d ≡ x
  pub foreign : IsTrue (is_foreign old x.name x.kind)
  pub first : NoneBefore old items n

abbrev pub Picks : Bool → Path → List Item → Looked → Type 0
Picks old work items (Ok done) = NoneBefore old items (length items)
Picks old work items (Err (NoParent p)) = ⊥
Picks old work items (Err (WrongKind p)) = ⊥
Picks old work items (Err (Foreign p)) = (n : ℕ) × (x : Item) × IsFirstAt old items n x × (p ≡ child work x.name)
Picks old work items (Err Begun) = ⊥
Picks old work items (Err Depth) = ⊥
Picks old work items (Err Failed) = ⊥
Picks old work items (Err NoMemory) = Unit {0}
