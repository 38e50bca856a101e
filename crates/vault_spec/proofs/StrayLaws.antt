-- What the law of strays needs to know of a format, beside what makes it lawful.
use Rattle.std.proofs.Common.{◌≡◌, ◌≢◌, ◌⊎◌, ℕ, Bool, true, false, List, [], ◌∷◌, ◌++◌, IsTrue, is_some}
use Rattle.folder_spec.specs.Path.{Part, Path, child}
use Rattle.folder_spec.specs.Seen.{ShowsFile}
use Rattle.folder_spec.specs.View.{Found, Folder, FileOf, View, kind_found}
use Rattle.plain_tree.specs.Names.{is_name}
use Rattle.vault_spec.specs.declared.Finding.{Finding}
use Rattle.vault_spec.specs.Format.{Format, Item, FileItem, NoItem, Expected, ContentFolder, Extra, is_file, key_of}
use Rattle.vault_spec.proofs.Lawful.{IsLawful}

-- a format in which each directory's folder is its entry and holds its key
pub record IsNested (f : Format) (lawful : IsLawful f) : Type 0 where
  pub own : (at : Path) (key : List ℕ) → f.folder_of at key ≡ at
  pub root : (v : View) → f.root_key v ≡ key_of f v
  pub mark : (m : Part) → IsTrue (lawful.marks m) → m ≡ f.key_file
  pub fixed : (folder : Path) → IsTrue (f.is_fixed folder f.key_file)
  pub not_full : f.is_full f.key_file ≡ false
  pub not_named : (key name : List ℕ) → IsTrue (lawful.is_key key) → IsTrue (is_name name) → (f.stored key name).name ≢ f.key_file
  pub inner : (long : Bool) (item : Item) (x : Part) (there : Found) → f.inner_role long item x there ≡ Expected
  pub beside : (entry : Part) → (file : Part) × (f.full_at entry ≡ file ∷ [])

-- a format in which no folder is in a folder of entries
pub record IsFlat (f : Format) : Type 0 where
  pub apart : (at place : Path) (key other : List ℕ) (a : Part) (rest : Path) → f.folder_of at key ≢ child (f.folder_of place other) a ++ rest
  pub root : (v w : View) → f.root_key v ≡ f.root_key w

pub record KnowsStrays (f : Format) (lawful : IsLawful f) : Type 0 where
  pub layout : IsNested f lawful ⊎ IsFlat f
  -- an item is told by the kind of the entry and by which of its marks are files, and a content is at its entry or at a mark
  pub item_by_files : (long : Bool) (v w : View) → kind_found (v []) ≡ kind_found (w []) → ((m : Part) → IsTrue (lawful.marks m) → is_file (v (m ∷ [])) ≡ is_file (w (m ∷ [])))
      → f.item long v ≡ f.item long w
  pub content_place : (long : Bool) (v : View) (rest : Path) → f.item long v ≡ FileItem rest → (rest ≡ []) ⊎ ((m : Part) × IsTrue (lawful.marks m) × (rest ≡ m ∷ []))
  -- no entry of a name is a long-name file, and a long name's file beside its entry is one
  pub entry_not_full : (key name : List ℕ) → IsTrue (lawful.is_key key) → IsTrue (is_name name) → f.is_full (f.stored key name).name ≡ false
  pub full_is_full : (key name : List ℕ) (file : Part) → IsTrue (lawful.is_key key) → IsTrue (is_name name) → is_some (f.stored key name).full ≡ true
      → f.full_at (f.stored key name).name ≡ file ∷ [] → f.is_full file ≡ true
  -- a mark that is a file belongs in its entry, and so does a long name's file
  pub mark_belongs : (long : Bool) (v : View) (m : Part) → v [] ≡ Folder → IsTrue (lawful.marks m) → ShowsFile v (m ∷ []) → f.inner_role long (f.item long v) m (v (m ∷ [])) ≢ Extra
  pub full_belongs : (item : Item) (a file : Part) (bytes : List ℕ) → f.full_at a ≡ a ∷ file ∷ [] → f.inner_role true item file (FileOf bytes) ≢ Extra
  pub role_in_no_item : (long : Bool) (finding : Finding) (x : Part) (there : Found) → f.inner_role long (NoItem finding) x there ≡ Expected
  -- the root and what is below a folder of entries has no role, and no folder above one is without a place or another's
  pub root_role : (there : Found) → f.role [] there ≡ Expected
  pub entry_role : (at : Path) (key : List ℕ) (a : Part) (rest : Path) (there : Found) → f.role (child (f.folder_of at key) a ++ rest) there ≡ Expected
  pub folder_role : (at : Path) (key : List ℕ) (p rest : Path) → f.folder_of at key ≡ p ++ rest → f.role p Folder ≢ Extra
  pub folder_content : (at : Path) (key : List ℕ) (p rest : Path) → f.folder_of at key ≡ p ++ rest → f.role p Folder ≡ ContentFolder → p ≡ f.folder_of at key
  -- nothing below a content folder, or below what has no place, has a role
  pub below_role : (p : Path) (a : Part) (rest : Path) (there : Found) → (f.role p Folder ≡ Extra) ⊎ (f.role p Folder ≡ ContentFolder) → f.role (p ++ a ∷ rest) there ≡ Expected
