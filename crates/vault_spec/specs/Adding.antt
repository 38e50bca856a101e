-- A new item that comes to a vault alone: until the last edit all opens as before, and then just that item more.
use Rattle.std.specs.Prelude.{◌≡◌, ◌≢◌, ℕ, List, [], ◌∷◌, ◌++◌, Some, None, IsTrue}
use Rattle.folder_spec.specs.Path.{Path}
use Rattle.folder_spec.specs.View.{View}
use Rattle.folder_spec.specs.Edit.{Edit, edited, file_edit}
use Rattle.plain_tree.specs.Names as plain
use Rattle.plain_tree.specs.Names.{is_name}
use Rattle.vault_spec.specs.Alike.{IsOrderly}
use Rattle.vault_spec.specs.Findings.{IsClean}
use Rattle.vault_spec.specs.Format as format
use Rattle.vault_spec.specs.Format.{Format}
use Rattle.vault_spec.specs.Opens.{Opened, Directory, opened, opened_file}
use Rattle.vault_spec.specs.Reached.{Leads}
use Rattle.vault_spec.specs.Standing.{File, standing}

-- what opened opens
abbrev pub OpensAs : Format → View → View → Type 0
OpensAs f v w = (path : plain.Path) → opened f w path ≡ opened f v path

-- so it does at all paths but one, and there this opens
pub record OpensWith (f : Format) (v w : View) (at : plain.Path) (item : Opened) : Type 0 where
  pub others : (path : plain.Path) → path ≢ at → opened f w path ≡ opened f v path
  pub there : opened f w at ≡ item

-- From the view w on, which opens as v does, each edit but the last leaves what opens, and the last adds the item.
abbrev pub ComesAlone : Format → View → View → List Edit → plain.Path → Opened → Type 0
ComesAlone f v w [] at item = ⊥
ComesAlone f v w (e ∷ []) at item = OpensWith f v (edited w e) at item
ComesAlone f v w (e ∷ next ∷ edits) at item = OpensAs f v (edited w e) × ComesAlone f v (edited w e) (next ∷ edits) at item

-- Where no place is taken, an item that is made in a directory that a path leads to comes alone.
pub record NewItemsComeAlone (f : Format) : Type 0 where
  pub file : (v : View) (front : plain.Path) (dir : format.Directory) (name bytes : List ℕ) → IsOrderly f v → Leads f v front dir → IsTrue (is_name name)
      → f.taken_for_file v dir (f.stored dir.key name) ≡ None
      → ComesAlone f v v (f.new_file v dir (f.stored dir.key name) bytes) (front ++ name ∷ []) (opened_file f.content (Some bytes))
  pub directory : (v : View) (front : plain.Path) (dir : format.Directory) (name key : List ℕ) → IsOrderly f v → Leads f v front dir → IsTrue (is_name name)
      → f.key_in key ≡ Some key → f.taken_for_directory v dir (f.stored dir.key name) key ≡ None
      → ComesAlone f v v (f.new_directory v dir (f.stored dir.key name) key) (front ++ name ∷ []) Directory

-- From the view w on, the vault is clean after each edit.
abbrev pub StaysClean : Format → View → List Edit → Type 0
StaysClean f w [] = Unit {0}
StaysClean f w (e ∷ edits) = IsClean f (edited w e) × StaysClean f (edited w e) edits

-- Where no place is taken, a clean vault stays clean while an item is made in a directory that a path leads to.
pub record NewItemsStayClean (f : Format) : Type 0 where
  pub file : (v : View) (front : plain.Path) (dir : format.Directory) (name bytes : List ℕ) → IsOrderly f v → IsClean f v → Leads f v front dir → IsTrue (is_name name)
      → f.taken_for_file v dir (f.stored dir.key name) ≡ None → StaysClean f v (f.new_file v dir (f.stored dir.key name) bytes)
  pub directory : (v : View) (front : plain.Path) (dir : format.Directory) (name key : List ℕ) → IsOrderly f v → IsClean f v → Leads f v front dir → IsTrue (is_name name)
      → f.key_in key ≡ Some key → f.taken_for_directory v dir (f.stored dir.key name) key ≡ None → StaysClean f v (f.new_directory v dir (f.stored dir.key name) key)

-- Where the content of a file that stands is replaced, that path opens as the new content, and all else as before.
abbrev pub ContentsAreReplacedAlone : Format → Type 0
ContentsAreReplacedAlone f = (v : View) (path : plain.Path) (at : Path) (bytes : List ℕ) → IsOrderly f v → standing f v path ≡ File at
    → OpensWith f v (edited v (file_edit at bytes)) path (opened_file f.content (Some bytes))

-- Where the content of a file that stands is replaced, a clean vault stays clean.
abbrev pub ReplacedContentsStayClean : Format → Type 0
ReplacedContentsStayClean f = (v : View) (path : plain.Path) (at : Path) (bytes : List ℕ) → IsOrderly f v → standing f v path ≡ File at → IsClean f v → IsClean f (edited v (file_edit at bytes))
