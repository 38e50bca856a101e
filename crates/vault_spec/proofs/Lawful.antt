-- What the laws need to know of a format: few facts, which each format proves.
use Rattle.std.proofs.Common.{◌≡◌, ◌≢◌, ◌⊎◌, ℕ, Bool, List, [], ◌∷◌, ◌++◌, Some, IsTrue, is_some, true}
use Rattle.folder_spec.specs.Path.{Part, Path, child}
use Rattle.folder_spec.specs.Seen.{ShowsFile}
use Rattle.folder_spec.specs.View.{Found, View, NoEntry, kind_found, FileOf}
use Rattle.plain_tree.specs.Names.{is_name}
use Rattle.vault_spec.specs.Format.{Format, Item, Nothing, FileItem, Expected, key_of}
use Rattle.vault_spec.specs.Vault.{go_conf, master_file, vault_file}

-- no configuration of a vault is at the place
pub record SparesConfiguration (at : Path) : Type 0 where
  pub gocryptfs : go_conf ≢ at
  pub master : master_file ≢ at
  pub vault : vault_file ≢ at

-- `marks` are the names of the entries of an item's folder that tell what it is, and `is_key` says which keys there are.
pub record IsLawful (f : Format) : Type 0 where
  pub marks : Part → Bool
  pub is_key : List ℕ → Bool
  pub root_key : (v : View) (key : List ℕ) → f.root_key v ≡ Some key → IsTrue (is_key key)
  pub entry_key : (v : View) (key : List ℕ) → key_of f v ≡ Some key → IsTrue (is_key key)
  -- no directory with an entry is the root's
  pub root_apart : (v w : View) (key other : List ℕ) (at : Path) → at ≢ [] → f.root_key v ≡ Some key → key_of f w ≡ Some other
      → f.folder_of [] key ≡ f.folder_of at other → key ≢ other
  -- two names of one text are one, and names of one entry are both long or both short
  pub one_name : (key name other : List ℕ) → IsTrue (is_key key) → IsTrue (is_name name) → IsTrue (is_name other)
      → f.stored key name ≡ f.stored key other → name ≡ other
  pub forms : (key name other : List ℕ) → IsTrue (is_key key) → IsTrue (is_name name) → IsTrue (is_name other)
      → (f.stored key name).name ≡ (f.stored key other).name → is_some (f.stored key name).full ≡ is_some (f.stored key other).full
  -- an item is told by the kinds of the entry and of its marks, of which the key file is one, and the root's key by that
  pub item_by_kinds : (long : Bool) (v w : View) → kind_found (v []) ≡ kind_found (w []) → ((m : Part) → IsTrue (marks m) → kind_found (v (m ∷ [])) ≡ kind_found (w (m ∷ [])))
      → f.item long v ≡ f.item long w
  pub key_is_mark : IsTrue (marks f.key_file)
  pub root_by_key : (v w : View) → v (f.key_file ∷ []) ≡ w (f.key_file ∷ []) → f.root_key v ≡ f.root_key w
  -- nothing is no item, and a file's content is there
  pub none : (long : Bool) (v : View) → v [] ≡ NoEntry → f.item long v ≡ Nothing
  pub content : (long : Bool) (v : View) (rest : Path) → f.item long v ≡ FileItem rest → ShowsFile v rest
  -- what is stored at one place, an entry or a content, is of one entry
  pub content_entry : (v w : View) (long short : Bool) (one two : Path) (key other : List ℕ) (at place : Path) (a b : Part) → (one ≡ []) ⊎ (f.item long v ≡ FileItem one) → (two ≡ []) ⊎ (f.item short w ≡ FileItem two)
      → child (f.folder_of at key) a ++ one ≡ child (f.folder_of place other) b ++ two → child (f.folder_of at key) a ≡ child (f.folder_of place other) b
  -- no content stands where a key, a configuration or a long name does
  pub content_no_key : (v : View) (key other name another : List ℕ) (rest at place : Path) → IsTrue (is_key key) → IsTrue (is_name name) → f.item (is_some (f.stored key name).full) v ≡ FileItem rest
      → child (f.folder_of at key) (f.stored key name).name ++ rest ≢ child (child (f.folder_of place other) (f.stored other another).name) f.key_file
  pub content_no_root_key : (v : View) (key name : List ℕ) (rest at : Path) → IsTrue (is_key key) → IsTrue (is_name name) → f.item (is_some (f.stored key name).full) v ≡ FileItem rest
      → child (f.folder_of at key) (f.stored key name).name ++ rest ≢ f.key_file ∷ []
  pub content_no_configuration : (v : View) (key name : List ℕ) (rest at : Path) → IsTrue (is_key key) → IsTrue (is_name name) → f.item (is_some (f.stored key name).full) v ≡ FileItem rest
      → SparesConfiguration (child (f.folder_of at key) (f.stored key name).name ++ rest)
  pub content_no_name : (v : View) (key other name another : List ℕ) (rest at place : Path) → IsTrue (is_key key) → IsTrue (is_name name) → f.item (is_some (f.stored key name).full) v ≡ FileItem rest
      → is_some (f.stored other another).full ≡ true → IsTrue (is_key other) → IsTrue (is_name another)
      → child (f.folder_of at key) (f.stored key name).name ++ rest ≢ f.folder_of place other ++ f.full_at (f.stored other another).name
  -- what a file's bytes are tells nothing of its role
  pub unnamed_by_file : (x : Part) (a b : List ℕ) → f.unnamed x (FileOf a) ≡ f.unnamed x (FileOf b)
  pub role_by_file : (at : Path) (a b : List ℕ) → f.role at (FileOf a) ≡ f.role at (FileOf b)
  pub inner_role_by_file : (long : Bool) (item : Item) (x : Part) (a b : List ℕ) → f.inner_role long item x (FileOf a) ≡ f.inner_role long item x (FileOf b)
  -- nothing has no role
  pub no_role : (at : Path) → f.role at NoEntry ≡ Expected
  pub no_inner_role : (long : Bool) (item : Item) (x : Part) → f.inner_role long item x NoEntry ≡ Expected
  pub role_in_nothing : (long : Bool) (x : Part) (there : Found) → f.inner_role long Nothing x there ≡ Expected
  -- a long-name file stands beside its entry or inside
  pub full_place : (entry : Part) → ((file : Part) × (f.full_at entry ≡ file ∷ [])) ⊎ ((file : Part) × (f.full_at entry ≡ entry ∷ file ∷ []))
