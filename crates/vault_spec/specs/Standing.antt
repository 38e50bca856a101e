-- Where a plain path stands in a vault. A path with last name n stands where its parent stands as a directory with a key, the entry
-- that is stored of n is in the directory's folder, its long-name file has the right text, and the entry is an item. The root stands at the
-- vault's root.
use Rattle.std.specs.Prelude.{ℕ, Bool, true, false, List, [], ◌∷◌, ◌++◌, Option, Some, None, is_some, if◌then◌else◌, Result, Ok, Err}
use Rattle.std.specs.Str.{bytes_eq}
use Rattle.folder_spec.specs.Path.{Path, child}
use Rattle.folder_spec.specs.View.{View}
use Rattle.folder_spec.specs.Seen.{under}
use Rattle.plain_tree.specs.Names as plain
use Rattle.plain_tree.specs.Names.{is_name}
use Rattle.vault_names.specs.declared.entry.Stored.{Stored}
use Rattle.vault_spec.specs.Format.{Format, Directory, Item, Nothing, FileItem, DirectoryItem, NoItem, is_folder, file_bytes, key_of}
use Rattle.vault_spec.specs.declared.Lack.{Lack}
use Rattle.vault_spec.specs.declared.Lack.TheVariants.{NoDirKey, NoFolder}

-- what stands at a plain path: nothing; an entry that is no item; a file with its content stored at a path; or a directory with its
-- entry at a path, which is to be entered or has no key or no folder
pub data Standing : Type 0 where
  Absent : Standing
  Strange : Path → Standing
  File : Path → Standing
  Dir : Path → Result Directory Lack → Standing

-- the directory with this key, whose entry is at the path
abbrev pub directory_with : Format → View → Path → Option (List ℕ) → Result Directory Lack
directory_with f v at None = Err NoDirKey
directory_with f v at (Some key) =
    if is_folder (v (f.folder_of at key)) then Ok (record { folder = f.folder_of at key; key = key }) else Err NoFolder

abbrev pub root_of : Format → View → Standing
root_of f v = Dir [] (directory_with f v [] (f.root_key v))

-- where the entry of a name is
abbrev pub entry_at : Format → Directory → List ℕ → Path
entry_at f dir name = child dir.folder (f.stored dir.key name).name

-- these bytes stand there, as a file
abbrev pub is_file_of : List ℕ → Option (List ℕ) → Bool
is_file_of bytes None = false
is_file_of bytes (Some there) = bytes_eq there bytes

-- where a text is to stand in a file, it does
abbrev pub holds : View → Path → Option (List ℕ) → Bool
holds v at None = true
holds v at (Some text) = is_file_of text (file_bytes (v at))

-- the long-name file has its text, where there is to be one
abbrev pub holds_full : Format → View → Directory → Stored → Bool
holds_full f v dir s = holds v (dir.folder ++ f.full_at s.name) s.full

-- what an entry is, if its name is right
abbrev pub item_at : Format → View → Directory → Stored → Item
item_at f v dir s = f.item (is_some s.full) (under (child dir.folder s.name) v)

-- what stands at an entry that is this item, if its name is right
abbrev pub standing_of : Format → View → Path → Bool → Item → Standing
standing_of f v at named Nothing = Absent
standing_of f v at false (FileItem rest) = Strange at
standing_of f v at true (FileItem rest) = File (at ++ rest)
standing_of f v at false DirectoryItem = Strange at
standing_of f v at true DirectoryItem = Dir at (directory_with f v at (key_of f (under at v)))
standing_of f v at named (NoItem finding) = Strange at

-- what stands under a name in a directory
unfoldable pub standing_in : Format → View → Directory → List ℕ → Standing
standing_in f v dir name =
    let s : Stored = f.stored dir.key name in
    if is_name name then standing_of f v (child dir.folder s.name) (holds_full f v dir s) (item_at f v dir s) else Absent

-- what stands at the rest of a path behind what stands here
abbrev pub standing_from : Format → View → Standing → plain.Path → Standing
standing_from f v here [] = here
standing_from f v (Dir at (Ok dir)) (name ∷ rest) = standing_from f v (standing_in f v dir name) rest
standing_from f v (Dir at (Err lack)) (name ∷ rest) = Absent
standing_from f v (File at) (name ∷ rest) = Absent
standing_from f v (Strange at) (name ∷ rest) = Absent
standing_from f v Absent (name ∷ rest) = Absent

-- what stands at a plain path
abbrev pub standing : Format → View → plain.Path → Standing
standing f v path = standing_from f v (root_of f v) path
