-- What calls that stopped have left over in a vault and takes a place. In a clean vault the place of a new item is taken only by that, or
-- where another item shares it.
use Rattle.std.specs.Prelude.{◌≡◌, ◌≢◌, ℕ, List, Some, None, IsTrue}
use Rattle.folder_spec.specs.Path.{Path}
use Rattle.folder_spec.specs.View.{View}
use Rattle.folder_spec.specs.Edit.{edited, file_edit, view_after}
use Rattle.plain_tree.specs.Names as plain
use Rattle.plain_tree.specs.Names.{is_name}
use Rattle.vault_spec.specs.Alike.{HasNoItem, IsOrderly}
use Rattle.vault_spec.specs.Findings.{IsClean, IsIdleName, IsIdleFolder}
use Rattle.vault_spec.specs.Format.{Format, Directory}
use Rattle.vault_spec.specs.Making.{NewItem, NewDirectory, taken}
use Rattle.vault_spec.specs.Reached.{Leads, IsReached}
use Rattle.vault_spec.specs.Standing.{File, entry_at, standing, standing_in}

-- at the path there is no right long-name file without its entry, and no content folder that holds nothing and is no directory's
pub record IsTidyAt (f : Format) (v : View) (at : Path) : Type 0 where
  pub name : ¬ IsIdleName f v at
  pub folder : ¬ IsIdleFolder f v at

-- nor is there at any other
abbrev pub IsTidy : Format → View → Type 0
IsTidy f v = (at : Path) → IsTidyAt f v at

-- what was so at a path of the first view is so in the second
abbrev pub StaysTidy : Format → View → View → Type 0
StaysTidy f v w = (at : Path) → IsTidyAt f v at → IsTidyAt f w at

-- No item of the directory with another name is stored under the same stored name. And where the new item is a directory, no directory has
-- the folder that it gets.
pub record HasOwnPlace (f : Format) (v : View) (dir : Directory) (name : List ℕ) (item : NewItem) (drawn : List ℕ) : Type 0 where
  pub named : (other : List ℕ) → other ≢ name → ¬ HasNoItem (standing_in f v dir other) → (f.stored dir.key other).name ≢ (f.stored dir.key name).name
  pub homed : item ≡ NewDirectory → (other : Directory) → IsReached f v other → other.folder ≢ f.folder_of (entry_at f dir name) (f.new_key drawn)

-- In a clean vault, an item that is new in a directory and has a place of its own finds none taken, but where something is left over.
abbrev pub OwnPlacesAreFree : Format → Type 0
OwnPlacesAreFree f = (v : View) (front : plain.Path) (dir : Directory) (name : List ℕ) (item : NewItem) (drawn : List ℕ) (at : Path) → IsClean f v → Leads f v front dir → IsTrue (is_name name)
    → HasNoItem (standing_in f v dir name) → HasOwnPlace f v dir name item drawn → IsTidyAt f v at → taken f v dir name item drawn ≢ Some at

-- Where no place is taken, nothing is left over once an item is made in a directory that a path leads to.
pub record NewItemsStayTidy (f : Format) : Type 0 where
  pub file : (v : View) (front : plain.Path) (dir : Directory) (name bytes : List ℕ) → IsOrderly f v → Leads f v front dir → IsTrue (is_name name)
      → f.taken_for_file v dir (f.stored dir.key name) ≡ None → StaysTidy f v (view_after v (f.new_file v dir (f.stored dir.key name) bytes))
  pub directory : (v : View) (front : plain.Path) (dir : Directory) (name key : List ℕ) → IsOrderly f v → Leads f v front dir → IsTrue (is_name name)
      → f.key_in key ≡ Some key → f.taken_for_directory v dir (f.stored dir.key name) key ≡ None → StaysTidy f v (view_after v (f.new_directory v dir (f.stored dir.key name) key))

-- Nor is it where the content of a file that stands is replaced.
abbrev pub ReplacedContentsStayTidy : Format → Type 0
ReplacedContentsStayTidy f = (v : View) (path : plain.Path) (at : Path) (bytes : List ℕ) → IsOrderly f v → standing f v path ≡ File at → StaysTidy f v (edited v (file_edit at bytes))
