-- Cryptomator, vault format 8: its directories, entries and items.
--
-- The root's id is the empty text. Another directory's id is the content of its `dir.c9r`, where that has 1 to 1,000 bytes; it
-- is the key of its names. The folder of an id is `d`, two characters, and thirty characters of its base32 text. A long name's
-- entry is a folder that holds `name.c9s`. A short entry that is a file is a file, and a long one with
-- `contents.c9r`. An entry with `dir.c9r` is a directory. A folder with `symlink.c9r` is a symlink, and one that holds two of
-- these three files is no item and no symlink.
use Rattle.std.specs.Prelude.{ℕ, Bool, true, false, ◌&&◌, ◌||◌, ◌==◌, List, [], ◌∷◌, ◌++◌, length, take, drop, codes, nat_le, if◌then◌else◌, Option, Some, None}
use Rattle.std.specs.List.{list_all}
use Rattle.std.specs.Option.{option_or}
use Rattle.std.specs.Str.{bytes_eq}
use Rattle.chunk_files.specs.Keys.{Keys, cm_ctr_keys, cm_gcm_keys}
use Rattle.cryptomator_conf.specs.declared.conf.Combo.{Combo}
use Rattle.cryptomator_conf.specs.declared.conf.Combo.TheVariants.{SivGcm, SivCtrMac}
use Rattle.vault_values.specs.declared.keys.CmKeys.{CmKeys}
use Rattle.vault_values.specs.Id.{id_of}
use Rattle.folder_spec.specs.Path.{Part, Path, child}
use Rattle.folder_spec.specs.View.{Found, NoEntry, Folder, FileOf, Special, View}
use Rattle.folder_spec.specs.Edit.{Edit, file_edit, folder_edit, directory_edit}
use Rattle.vault_names.specs.Base32.{is_base32}
use Rattle.vault_names.specs.Cryptomator.{cm_stored, cm_folder_of, is_cm_long_name}
use Rattle.vault_names.specs.declared.entry.Stored.{Stored}
use Rattle.vault_spec.specs.Format.{Format, Directory, Item, Nothing, FileItem, DirectoryItem, NoItem, Role, Expected, Shelf, ContentFolder, Extra, is_file, is_bytes, taken_at}
use Rattle.vault_spec.specs.RootFiles.{is_root_file}
use Rattle.vault_spec.specs.declared.Finding.{Finding}
use Rattle.vault_spec.specs.declared.Finding.TheVariants.{BadStoredName, LongNameLost, SymlinkFound, WrongKind, TwoKinds}

-- what an opened vault's files say: its keys, its ciphers, and the characters of the longest short name
pub record CmVault : Type 0 where
  pub keys : CmKeys
  pub combo : Combo
  pub threshold : ℕ

abbrev pub contents_by : Combo → CmKeys → Keys
contents_by SivGcm keys = cm_gcm_keys keys.enc
contents_by SivCtrMac keys = cm_ctr_keys keys.enc keys.mac

-- the names of the files in an entry
abbrev pub id_file : Part
id_file = codes "dir.c9r"

abbrev pub content_file : Part
content_file = codes "contents.c9r"

abbrev pub symlink_file : Part
symlink_file = codes "symlink.c9r"

abbrev pub full_file : Part
full_file = codes "name.c9s"

-- the bytes of an id
abbrev pub directory_id : List ℕ → Option (List ℕ)
directory_id bytes = if is_bytes bytes && nat_le 1 (length bytes) && nat_le (length bytes) 1000 then Some bytes else None

-- `d`, which holds the folders of content folders
abbrev pub top : Part
top = codes "d"

-- the folder of content folders, and the content folder, that a base32 text names
abbrev pub shelf_named : List ℕ → Path
shelf_named text = top ∷ take 2 text ∷ []

abbrev pub folder_named : List ℕ → Path
folder_named text = top ∷ take 2 text ∷ drop 2 text ∷ []

-- the content folder of an id
abbrev pub content_folder : CmKeys → List ℕ → Path
content_folder keys id = folder_named (cm_folder_of keys id)

-- a folder's item, by whether its name is long and by which of the three files it has: the content, the id, the symlink
abbrev pub folder_item : Bool → Bool → Bool → Bool → Item
folder_item true true false false = FileItem (content_file ∷ [])
folder_item false true false false = NoItem WrongKind
folder_item long false true false = DirectoryItem
folder_item long false false true = NoItem SymlinkFound
folder_item long false false false = NoItem WrongKind
folder_item long true true symlink = NoItem TwoKinds
folder_item long true false true = NoItem TwoKinds
folder_item long false true true = NoItem TwoKinds

abbrev pub has_file : View → Part → Bool
has_file v name = is_file (v (name ∷ []))

abbrev pub cm_item_of : Bool → View → Found → Item
cm_item_of long v NoEntry = Nothing
cm_item_of true v (FileOf bytes) = NoItem WrongKind
cm_item_of false v (FileOf bytes) = FileItem []
cm_item_of true v Special = NoItem WrongKind
cm_item_of false v Special = NoItem SymlinkFound
cm_item_of long v Folder = folder_item long (has_file v content_file) (has_file v id_file) (has_file v symlink_file)

abbrev pub cm_item : Bool → View → Item
cm_item long v = cm_item_of long v (v [])

-- an entry of a long form that is stored under no name has lost it, where it is a folder
abbrev pub lost_by : Found → Finding
lost_by Folder = LongNameLost
lost_by NoEntry = WrongKind
lost_by (FileOf bytes) = WrongKind
lost_by Special = WrongKind

abbrev pub cm_unnamed : Part → Found → Finding
cm_unnamed name there = if is_cm_long_name name then lost_by there else BadStoredName

-- an entry that is a file with one of these names belongs; one that is there otherwise doesn't
abbrev pub file_role : Bool → Found → Role
file_role belongs NoEntry = Expected
file_role belongs (FileOf bytes) = if belongs then Expected else Extra
file_role belongs Folder = Extra
file_role belongs Special = Extra

-- a folder with one of these names is this; what is there otherwise has no place
abbrev pub folder_role : Bool → Role → Found → Role
folder_role named role NoEntry = Expected
folder_role named role Folder = if named then role else Extra
folder_role named role (FileOf bytes) = Extra
folder_role named role Special = Extra

-- in an item's own folder: the id of a directory, the content of a file, and the name where it is long. What is no item isn't
-- looked into.
abbrev pub inner_role : Bool → Item → Part → Found → Role
inner_role long DirectoryItem name there = file_role (bytes_eq name id_file || (long && bytes_eq name full_file)) there
inner_role long (FileItem rest) name there = file_role (long && (bytes_eq name content_file || bytes_eq name full_file)) there
inner_role long Nothing name there = Expected
inner_role long (NoItem finding) name there = Expected

-- some base32 characters
abbrev pub is_base32_text : ℕ → Part → Bool
is_base32_text size name = (length name == size) && list_all is_base32 name

abbrev pub is_configuration : Part → Bool
is_configuration name = bytes_eq name (codes "vault.cryptomator") || bytes_eq name (codes "masterkey.cryptomator")

-- at the root, the configuration, the vault's other files and `d`; in that, folders of two characters; and in these, of thirty
abbrev pub cm_role : Path → Found → Role
cm_role (name ∷ []) there =
    if bytes_eq name top then folder_role true Expected there
    else file_role (is_configuration name || is_root_file name) there
cm_role (up ∷ name ∷ []) there =
    if bytes_eq up top then folder_role (is_base32_text 2 name) Shelf there else Expected
cm_role (up ∷ shelf ∷ name ∷ []) there =
    if bytes_eq up top && is_base32_text 2 shelf then folder_role (is_base32_text 30 name) ContentFolder there else Expected
cm_role [] there = Expected
cm_role (up ∷ shelf ∷ folder ∷ name ∷ rest) there = Expected

-- a long name's file in a staged entry
abbrev pub full_files : Option (List ℕ) → List (Part × List ℕ)
full_files None = []
full_files (Some text) = (full_file, text) ∷ []

-- a file comes to stand there: itself, or in the folder of a long name
abbrev pub new_file_edit : Path → Option (List ℕ) → List ℕ → Edit
new_file_edit at None bytes = file_edit at bytes
new_file_edit at (Some text) bytes = folder_edit at ((full_file, text) ∷ (content_file, bytes) ∷ [])

-- where anything but a folder stands
abbrev pub taken_unless_folder : Path → Found → Option Path
taken_unless_folder at NoEntry = None
taken_unless_folder at Folder = None
taken_unless_folder at (FileOf bytes) = Some at
taken_unless_folder at Special = Some at

-- the places of a new directory's folders, by its base32 text
abbrev pub taken_folders : View → List ℕ → Option Path
taken_folders v text = option_or (taken_at (folder_named text) (v (folder_named text))) (taken_unless_folder (shelf_named text) (v (shelf_named text)))

abbrev pub taken_entry : View → Directory → Stored → Option Path
taken_entry v dir s = taken_at (child dir.folder s.name) (v (child dir.folder s.name))

-- a folder comes to stand there, where nothing stands
abbrev pub folder_where_free : Path → Found → List Edit
folder_where_free at NoEntry = directory_edit at ∷ []
folder_where_free at Folder = []
folder_where_free at (FileOf bytes) = []
folder_where_free at Special = []

-- the folders of the directory of this base32 text
abbrev pub folder_edits : View → List ℕ → List Edit
folder_edits v text = folder_where_free (shelf_named text) (v (shelf_named text)) ++ directory_edit (folder_named text) ∷ []

abbrev pub cm_format : CmVault → Format
cm_format vault = record {
  content = contents_by vault.combo vault.keys;
  needs_nfc = true;
  root_key = λ v. Some [];
  key_file = id_file;
  key_in = directory_id;
  folder_of = λ at id. content_folder vault.keys id;
  stored = λ id name. cm_stored vault.keys vault.threshold id name;
  full_at = λ name. name ∷ full_file ∷ [];
  item = cm_item;
  is_fixed = λ folder name. bytes_eq name (codes "dirid.c9r");
  is_full = λ name. false;
  unnamed = cm_unnamed;
  inner_role = inner_role;
  role = cm_role;
  taken_for_file = taken_entry;
  taken_for_directory = λ v dir s id. option_or (taken_entry v dir s) (taken_folders v (cm_folder_of vault.keys id));
  new_key = id_of;
  new_file = λ v dir s bytes. new_file_edit (child dir.folder s.name) s.full bytes ∷ [];
  new_directory = λ v dir s id. folder_edits v (cm_folder_of vault.keys id) ++ folder_edit (child dir.folder s.name) (full_files s.full ++ (id_file, id) ∷ []) ∷ [];
}
