-- Items of the source that are placed in the target, one after the other.
use Rattle.std.specs.Prelude.{◌≡◌, ℕ, List, [], ◌∷◌, ◌++◌, Some, Ok, Result, OnOk}
use Rattle.folder_spec.specs.Event.{Told}
use Rattle.folder_spec.specs.State.{IsSound}
use Rattle.folder_spec.specs.View.{View}
use Rattle.vault_spec.specs.Mapped.{IsMappedItem}
use Rattle.plain_tree.specs.Names as plain
use Rattle.item_making.specs.Ending.{Ending, Whole}
use Rattle.item_making.specs.declared.fault.PutFault.{PutFault}
use Rattle.migration_spec.specs.Guard.{Migration}
use Rattle.vault_spec.specs.Making.{NewItem}
use Rattle.item_making.specs.Making.{Placing, Making}
use Rattle.item_making.specs.Placing.{Makes}
use Rattle.item_making.specs.Trees.{opens_as}

-- an item with its path
pub record ItemAt : Type 0 where
  pub front : plain.Path
  pub name : List ℕ
  pub item : NewItem

abbrev pub path_of : ItemAt → plain.Path
path_of x = x.front ++ x.name ∷ []

-- it is made in the target, from the work folder
abbrev pub placing_of : Migration → ItemAt → Placing
placing_of g x = record { vault = g.target; work = g.work; front = x.front; name = x.name; item = x.item }

-- the source held it, at a path that comes to its own
abbrev pub IsHeld : Migration → ItemAt → Type 0
IsHeld g x = IsMappedItem g.names g.held (path_of x) (opens_as x.item)

-- A call makes the item, of a content that ends so. The source held it, unless it ends at a fault or a limit; and then it isn't made.
pub record Places (g : Migration) (x : ItemAt) (a b : Told) (result : Result (Unit {0}) PutFault) : Type 0 where
  pub ending : Ending
  pub held : ending ≡ Whole → IsHeld g x
  pub whole : OnOk result (ending ≡ Whole)
  pub making : View → Making
  pub makes : Makes (placing_of g x) ending making (Some a) (Some b) result
  pub sound : IsSound b.state

-- calls make these items one after the other
abbrev pub PlaceEach : Migration → List ItemAt → Told → Told → Type 0
PlaceEach g [] a b = b ≡ a
PlaceEach g (x ∷ items) a b = (c : Told) × Places g x a c (Ok tt) × PlaceEach g items c b
