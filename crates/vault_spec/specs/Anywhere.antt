-- What opens while an item is made in any vault. In one that isn't orderly two directories may have one folder, so an item that is made
-- in one of them may open in the other too: only its own path is spoken of, and what opens until then. Each directory that was entered
-- at a path is so still.
use Rattle.std.specs.Prelude.{◌≡◌, ◌≢◌, ℕ, List, [], ◌∷◌, ◌++◌, Some, None, IsTrue, Ok}
use Rattle.folder_spec.specs.Path.{Path}
use Rattle.folder_spec.specs.View.{View}
use Rattle.folder_spec.specs.Edit.{Edit, edited, file_edit}
use Rattle.plain_tree.specs.Names as plain
use Rattle.plain_tree.specs.Names.{is_name}
use Rattle.vault_spec.specs.Adding.{OpensAs}
use Rattle.vault_spec.specs.Alike.{HasFolders}
use Rattle.vault_spec.specs.Format as format
use Rattle.vault_spec.specs.Format.{Format}
use Rattle.vault_spec.specs.Opens.{Opened, Directory, opened, opened_file}
use Rattle.vault_spec.specs.Reached.{Leads}
use Rattle.vault_spec.specs.Standing.{Dir, File, standing}

-- a directory that was to be entered at a path is so still, at the same entry, with the same folder and key
abbrev pub KeepsEntered : Format → View → View → Type 0
KeepsEntered f v w = (path : plain.Path) (at : Path) (dir : format.Directory) → standing f v path ≡ Dir at (Ok dir) → standing f w path ≡ Dir at (Ok dir)

-- From the view w on, each edit but the last leaves all as it opens in v, and after the last the item opens at its path, and what was
-- entered is.
abbrev pub ComesAtLast : Format → View → View → List Edit → plain.Path → Opened → Type 0
ComesAtLast f v w [] at item = ⊥
ComesAtLast f v w (e ∷ []) at item = (opened f (edited w e) at ≡ item) × KeepsEntered f v (edited w e)
ComesAtLast f v w (e ∷ next ∷ edits) at item = OpensAs f v (edited w e) × ComesAtLast f v (edited w e) (next ∷ edits) at item

-- Where no place is taken, an item that is made in a directory that a path leads to comes with its last edit.
pub record NewItemsComeAtLast (f : Format) : Type 0 where
  pub file : (v : View) (front : plain.Path) (dir : format.Directory) (name bytes : List ℕ) → HasFolders v → Leads f v front dir → IsTrue (is_name name)
      → f.taken_for_file v dir (f.stored dir.key name) ≡ None
      → ComesAtLast f v v (f.new_file v dir (f.stored dir.key name) bytes) (front ++ name ∷ []) (opened_file f.content (Some bytes))
  pub directory : (v : View) (front : plain.Path) (dir : format.Directory) (name key : List ℕ) → HasFolders v → Leads f v front dir → IsTrue (is_name name)
      → f.key_in key ≡ Some key → f.taken_for_directory v dir (f.stored dir.key name) key ≡ None
      → ComesAtLast f v v (f.new_directory v dir (f.stored dir.key name) key) (front ++ name ∷ []) Directory

-- each path at which the file at a place stands opens as the new content, and all else as before; and what was entered is
pub record OpensAnew (f : Format) (v w : View) (at : Path) (content : Opened) : Type 0 where
  pub there : (path : plain.Path) → standing f v path ≡ File at → opened f w path ≡ content
  pub others : (path : plain.Path) → standing f v path ≢ File at → opened f w path ≡ opened f v path
  pub enters : KeepsEntered f v w

-- So it does where the content of a file that stands is replaced.
abbrev pub ContentsOpenAnew : Format → Type 0
ContentsOpenAnew f = (v : View) (path : plain.Path) (at : Path) (bytes : List ℕ) → HasFolders v → standing f v path ≡ File at
    → OpensAnew f v (edited v (file_edit at bytes)) at (opened_file f.content (Some bytes))
