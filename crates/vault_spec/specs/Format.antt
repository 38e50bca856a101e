-- What a format of vaults says. Both formats are such a record, and all else speaks of the record alone. Views are of what stands
-- at the vault's root and below it, and paths begin there.
use Rattle.std.specs.Prelude.{ℕ, Bool, true, false, nat_lt, List, [], ◌∷◌, Option, Some, None, option_and_then}
use Rattle.std.specs.List.{list_all}
use Rattle.chunk_files.specs.Keys.{Keys}
use Rattle.folder_spec.specs.Path.{Part, Path}
use Rattle.folder_spec.specs.View.{Found, NoEntry, Folder, FileOf, Special, View}
use Rattle.folder_spec.specs.Edit.{Edit}
use Rattle.vault_names.specs.declared.entry.Stored.{Stored}
use Rattle.vault_spec.specs.declared.Finding.{Finding}

-- a directory of the plain tree: the folder that holds its entries, and the key that their names are stored under
pub record Directory : Type 0 where
  pub folder : Path
  pub key : List ℕ

-- what stands at an entry of a folder, if its name is right: nothing, a file whose content is stored at this path behind the
-- entry's, a directory, or no item, which is this finding
pub data Item : Type 0 where
  Nothing : Item
  FileItem : Path → Item
  DirectoryItem : Item
  NoItem : Finding → Item

-- what a path outside of the folders of entries is for: nothing that is looked at, a folder of content folders, a content folder,
-- or none
pub data Role : Type 0 where
  Expected : Role
  Shelf : Role
  ContentFolder : Role
  Extra : Role

pub record Format : Type 0 where
  -- the keys and the layout of contents
  pub content : Keys
  -- whether each name is to be UTF-8 in Unicode's normalization form C
  pub needs_nfc : Bool
  -- the key of the root, by what stands there; the name of the file that holds a directory's key; and the key in its bytes
  pub root_key : View → Option (List ℕ)
  pub key_file : Part
  pub key_in : List ℕ → Option (List ℕ)
  -- the folder of the directory with its entry at a path and with a key
  pub folder_of : Path → List ℕ → Path
  -- what is stored of a name in the directory with a key
  pub stored : List ℕ → List ℕ → Stored
  -- where the long-name file of an entry is, behind the folder's path
  pub full_at : Part → Path
  -- what an entry is, by whether its name is long and by what stands at the entry
  pub item : Bool → View → Item
  -- whether a file with a name belongs to the folder of entries at a path, and whether it is the long-name file of another entry
  pub is_fixed : Path → Part → Bool
  pub is_full : Part → Bool
  -- the finding of an entry that is stored under no name
  pub unnamed : Part → Found → Finding
  -- what an entry in an item's own folder is for, and what one at a path outside of the folders of entries
  pub inner_role : Bool → Item → Part → Found → Role
  pub role : Path → Found → Role
  -- the place that is taken, if any, where a new file is to be made, and a new directory with a key, by what is stored of the name
  pub taken_for_file : View → Directory → Stored → Option Path
  pub taken_for_directory : View → Directory → Stored → List ℕ → Option Path
  -- the key of a new directory, by its sixteen drawn bytes
  pub new_key : List ℕ → List ℕ
  -- the edits that make a new file with stored bytes, and a new directory with a key, by the directory and what is stored of the name
  pub new_file : View → Directory → Stored → List ℕ → List Edit
  pub new_directory : View → Directory → Stored → List ℕ → List Edit

-- a place where nothing is to stand, if something does
abbrev pub taken_at : Path → Found → Option Path
taken_at at NoEntry = None
taken_at at Folder = Some at
taken_at at (FileOf bytes) = Some at
taken_at at Special = Some at

abbrev pub is_folder : Found → Bool
is_folder Folder = true
is_folder NoEntry = false
is_folder (FileOf bytes) = false
is_folder Special = false

abbrev pub file_bytes : Found → Option (List ℕ)
file_bytes (FileOf bytes) = Some bytes
file_bytes NoEntry = None
file_bytes Folder = None
file_bytes Special = None

abbrev pub is_file : Found → Bool
is_file (FileOf bytes) = true
is_file NoEntry = false
is_file Folder = false
is_file Special = false

-- the key of a directory, by what stands at its entry
abbrev pub key_of : Format → View → Option (List ℕ)
key_of f v = option_and_then f.key_in (file_bytes (v (f.key_file ∷ [])))

-- each below 256
abbrev pub is_bytes : List ℕ → Bool
is_bytes bytes = list_all (λ byte. nat_lt byte 256) bytes
