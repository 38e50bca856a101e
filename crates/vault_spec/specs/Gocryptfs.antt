-- gocryptfs, on-disk format 2: its directories, entries and items.
--
-- Each directory's folder is its entry, and the root's is the vault's root. It holds `gocryptfs.diriv`, of sixteen bytes that
-- aren't all zero, which is the key of its names. A long name's file stands beside its entry, with `.name` added to the entry's
-- name. An entry with a right name is a file where it is one, and a directory where it is one.
use Rattle.std.specs.Prelude.{ℕ, Bool, false, ◌==◌, ◌&&◌, ◌||◌, not, List, [], ◌∷◌, ◌++◌, length, codes, nat_eq, if◌then◌else◌, Option, Some, None, option_and_then}
use Rattle.std.specs.List.{starts_with}
use Rattle.std.specs.Option.{option_or}
use Rattle.std.specs.Str.{bytes_eq}
use Rattle.chunk_files.specs.Keys.{go_keys}
use Rattle.chunk_files.specs.Zeros.{is_all_zero}
use Rattle.folder_spec.specs.Path.{Part, Path, child}
use Rattle.folder_spec.specs.View.{Found, NoEntry, Folder, FileOf, Special, View}
use Rattle.folder_spec.specs.Edit.{Edit, file_edit, folder_edit}
use Rattle.vault_values.specs.declared.keys.GoKeys.{GoKeys}
use Rattle.vault_names.specs.Gocryptfs.{is_long_name, stored}
use Rattle.vault_names.specs.declared.entry.Stored.{Stored}
use Rattle.vault_spec.specs.Format.{Format, Directory, Item, Nothing, FileItem, DirectoryItem, NoItem, Expected, file_bytes, is_bytes, taken_at}
use Rattle.vault_spec.specs.RootFiles.{has_ending, is_root_file}
use Rattle.vault_spec.specs.declared.Finding.{Finding}
use Rattle.vault_spec.specs.declared.Finding.TheVariants.{BadStoredName, LongNameLost, SymlinkFound}

-- the name of a directory's key file
abbrev pub key_file : Part
key_file = codes "gocryptfs.diriv"

-- sixteen bytes that aren't all zero
abbrev pub directory_key : List ℕ → Option (List ℕ)
directory_key bytes = if is_bytes bytes && (length bytes == 16) && not (is_all_zero bytes) then Some bytes else None

-- the key of the root, by what stands there
abbrev pub go_root_key : View → Option (List ℕ)
go_root_key v = option_and_then directory_key (file_bytes (v (key_file ∷ [])))

abbrev pub go_item : Found → Item
go_item NoEntry = Nothing
go_item (FileOf bytes) = FileItem []
go_item Folder = DirectoryItem
go_item Special = NoItem SymlinkFound

-- the long-name file of an entry
abbrev pub full_name : Part → Part
full_name name = name ++ codes ".name"

-- a file of such a name is that of an entry, whichever form the entry's name has
abbrev pub is_full_name : Part → Bool
is_full_name name = starts_with nat_eq name (codes "gocryptfs.longname.") && has_ending (codes ".name") name

-- at the root, the files of the vault
abbrev pub is_fixed_name : Path → Part → Bool
is_fixed_name [] name = bytes_eq name key_file || bytes_eq name (codes "gocryptfs.conf") || is_root_file name
is_fixed_name (a ∷ folder) name = bytes_eq name key_file

-- an entry that is stored under no name has lost it, where it has the form of a long one
abbrev pub go_unnamed : Part → Found → Finding
go_unnamed name there = if is_long_name name then LongNameLost else BadStoredName

-- where anything but a file with the right text stands at a long name's file
abbrev pub taken_unless : Path → Found → Option (List ℕ) → Option Path
taken_unless at there None = None
taken_unless at NoEntry (Some text) = None
taken_unless at (FileOf bytes) (Some text) = if bytes_eq bytes text then None else Some at
taken_unless at Folder (Some text) = Some at
taken_unless at Special (Some text) = Some at

-- the entry's place, and then that of its long-name file
abbrev pub go_taken : View → Directory → Stored → Option Path
go_taken v dir s =
    let at : Path = child dir.folder (full_name s.name) in
    option_or (taken_at (child dir.folder s.name) (v (child dir.folder s.name))) (taken_unless at (v at) s.full)

-- a long name's file comes to stand at a path, where none stands yet
abbrev pub full_edits_at : Path → Found → Option (List ℕ) → List Edit
full_edits_at at there None = []
full_edits_at at NoEntry (Some text) = file_edit at text ∷ []
full_edits_at at (FileOf bytes) (Some text) = []
full_edits_at at Folder (Some text) = []
full_edits_at at Special (Some text) = []

-- beside its entry
abbrev pub full_edits : View → Directory → Stored → List Edit
full_edits v dir s =
    let at : Path = child dir.folder (full_name s.name) in
    full_edits_at at (v at) s.full

abbrev pub go_format : GoKeys → Format
go_format keys = record {
  content = go_keys keys.content;
  needs_nfc = false;
  root_key = go_root_key;
  key_file = key_file;
  key_in = directory_key;
  folder_of = λ at key. at;
  stored = λ key name. stored keys.names key name;
  full_at = λ name. full_name name ∷ [];
  item = λ long v. go_item (v []);
  is_fixed = is_fixed_name;
  is_full = is_full_name;
  unnamed = go_unnamed;
  inner_role = λ long item name there. Expected;
  role = λ at there. Expected;
  taken_for_file = go_taken;
  taken_for_directory = λ v dir s key. go_taken v dir s;
  new_key = λ drawn. drawn;
  new_file = λ v dir s bytes. full_edits v dir s ++ file_edit (child dir.folder s.name) bytes ∷ [];
  new_directory = λ v dir s key. full_edits v dir s ++ folder_edit (child dir.folder s.name) ((key_file, key) ∷ []) ∷ [];
}
