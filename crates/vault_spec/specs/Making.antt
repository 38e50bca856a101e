-- Making an item: the bytes drawn, the files it consists of, and the edits by which it comes to stand, the item itself by the last.
use Rattle.std.specs.Prelude.{◌≡◌, ℕ, true, List, [], ◌∷◌, ◌++◌, length, nat_lt, if◌then◌else◌, Option, Some, None}
use Rattle.chunk_files.specs.Keys as contents
use Rattle.chunk_files.specs.Encrypt as encrypting
use Rattle.folder_spec.specs.View.{View}
use Rattle.folder_spec.specs.Edit.{Edit, file_edit}
use Rattle.folder_spec.specs.Path.{Path}
use Rattle.plain_tree.specs.Names.{IsNfc}
use Rattle.vault_spec.specs.Format.{Format, Directory}

-- a directory, or a file with its content
pub data NewItem : Type 0 where
  NewDirectory : NewItem
  NewFile : List ℕ → NewItem

-- a name is allowed in the vault
abbrev pub Allows : Format → List ℕ → Type 0
Allows f name = f.needs_nfc ≡ true → IsNfc name

-- how many bytes it draws: sixteen for a directory's key, or what the content's file draws
abbrev pub draws : Format → NewItem → ℕ
draws f NewDirectory = 16
draws f (NewFile content) = encrypting.draws (contents.format_of f.content) content

-- what its key file or content file holds under the bytes drawn; for want of a byte it ends before the first part that needs one
abbrev pub stored_bytes : Format → NewItem → List ℕ → List ℕ
stored_bytes f NewDirectory drawn = if nat_lt (length drawn) 16 then [] else f.new_key drawn
stored_bytes f (NewFile content) drawn = encrypting.encrypt f.content drawn content

abbrev pub full_texts : Option (List ℕ) → List (List ℕ)
full_texts None = []
full_texts (Some text) = text ∷ []

-- the files of an item with a name in a directory: the text of its long name, and its key file or content file
abbrev pub files : Format → Directory → List ℕ → NewItem → List ℕ → List (List ℕ)
files f dir name item drawn = full_texts (f.stored dir.key name).full ++ stored_bytes f item drawn ∷ []

-- the edits that make it
abbrev pub edits : Format → View → Directory → List ℕ → NewItem → List ℕ → List Edit
edits f v dir name NewDirectory drawn = f.new_directory v dir (f.stored dir.key name) (f.new_key drawn)
edits f v dir name (NewFile content) drawn = f.new_file v dir (f.stored dir.key name) (encrypting.encrypt f.content drawn content)

-- the place that is taken, if any
abbrev pub taken : Format → View → Directory → List ℕ → NewItem → List ℕ → Option Path
taken f v dir name NewDirectory drawn = f.taken_for_directory v dir (f.stored dir.key name) (f.new_key drawn)
taken f v dir name (NewFile content) drawn = f.taken_for_file v dir (f.stored dir.key name)

-- the edit that replaces the content of a file stored at a path
abbrev pub replacing : Format → Path → List ℕ → List ℕ → Edit
replacing f at content drawn = file_edit at (encrypting.encrypt f.content drawn content)
