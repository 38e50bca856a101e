-- A vault stays the vault that it was while an item is made in it: it is orderly, and each passphrase opens it as it did.
use Rattle.std.specs.Prelude.{◌≡◌, ℕ, List, [], ◌∷◌, Some, None, IsTrue}
use Rattle.folder_spec.specs.Path.{Path}
use Rattle.folder_spec.specs.View.{View}
use Rattle.folder_spec.specs.Edit.{Edit, edited, file_edit}
use Rattle.plain_tree.specs.Names as plain
use Rattle.plain_tree.specs.Names.{is_name}
use Rattle.vault_spec.specs.Alike.{IsOrderly}
use Rattle.vault_spec.specs.Format.{Format, Directory}
use Rattle.vault_spec.specs.Reached.{Leads}
use Rattle.vault_spec.specs.Standing.{File, standing}
use Rattle.vault_spec.specs.Vault.{Vault, IsVault}

-- a root that a passphrase opens as a vault is opened so by it
abbrev pub LoadsAlike : View → View → Type 0
LoadsAlike v w = (pass : List ℕ) (vault : Vault) → IsVault v pass vault → IsVault w pass vault

-- From the view w on, the vault is orderly after each edit, and opened as u is.
abbrev pub StaysVault : Format → View → View → List Edit → Type 0
StaysVault f u w [] = Unit {0}
StaysVault f u w (e ∷ edits) = (IsOrderly f (edited w e) × LoadsAlike u (edited w e)) × StaysVault f u (edited w e) edits

-- Where no place is taken, a vault stays what it was while an item is made in a directory that a path leads to.
pub record NewItemsStayVaults (f : Format) : Type 0 where
  pub file : (v : View) (front : plain.Path) (dir : Directory) (name bytes : List ℕ) → IsOrderly f v → Leads f v front dir → IsTrue (is_name name)
      → f.taken_for_file v dir (f.stored dir.key name) ≡ None → StaysVault f v v (f.new_file v dir (f.stored dir.key name) bytes)
  pub directory : (v : View) (front : plain.Path) (dir : Directory) (name key : List ℕ) → IsOrderly f v → Leads f v front dir → IsTrue (is_name name)
      → f.key_in key ≡ Some key → f.taken_for_directory v dir (f.stored dir.key name) key ≡ None → StaysVault f v v (f.new_directory v dir (f.stored dir.key name) key)

-- So it does where the content of a file that stands is replaced.
abbrev pub ReplacedContentsStayVaults : Format → Type 0
ReplacedContentsStayVaults f = (v : View) (path : plain.Path) (at : Path) (bytes : List ℕ) → IsOrderly f v → standing f v path ≡ File at
    → IsOrderly f (edited v (file_edit at bytes)) × LoadsAlike v (edited v (file_edit at bytes))
