-- How many steps from the root the items of a vault are.
use Rattle.std.specs.Prelude.{◌≢◌, ℕ, List, Some}
use Rattle.folder_spec.specs.View.{View}
use Rattle.plain_tree.specs.declared.NodeKind.{NodeKind}
use Rattle.vault_spec.specs.Format.{Format, Directory}
use Rattle.vault_spec.specs.Listing.{node_of}
use Rattle.vault_spec.specs.Reached.{IsReachedIn}
use Rattle.vault_spec.specs.Standing.{standing_in}

-- no item stands in a directory that is reached in so many steps
abbrev pub IsWithinSteps : Format → View → ℕ → Type 0
IsWithinSteps f v steps = (dir : Directory) (name : List ℕ) (node : NodeKind) → IsReachedIn f v steps dir → node_of (standing_in f v dir name) ≢ Some node
