-- Looking for a plain path: the first part of it that doesn't serve.
use Rattle.std.specs.Prelude.{[], ◌∷◌, ◌++◌, Result, Ok, Err}
use Rattle.folder_spec.specs.Path.{Path}
use Rattle.folder_spec.specs.View.{View}
use Rattle.plain_tree.specs.Names as plain
use Rattle.vault_spec.specs.Format.{Format, Directory}
use Rattle.vault_spec.specs.Standing.{Standing, Absent, Strange, File, Dir, root_of, standing_in}
use Rattle.vault_spec.specs.declared.Lack.{Lack}

-- Nothing stands at this part of the path; or something that is no item, or a file before the path's end; or a directory whose entry is
-- at this path has no key or no folder.
pub data Refusal : Type 0 where
  NotFound : plain.Path → Refusal
  WrongKind : plain.Path → Refusal
  Locked : Path → Lack → Refusal

-- what stands at this part of a path, if an item does
abbrev pub item_there : plain.Path → Standing → Result Standing Refusal
item_there front Absent = Err (NotFound front)
item_there front (Strange at) = Err (WrongKind front)
item_there front (File at) = Ok (File at)
item_there front (Dir at directory) = Ok (Dir at directory)

-- the directory that is entered there
abbrev pub entered : plain.Path → Standing → Result Directory Refusal
entered front Absent = Err (NotFound front)
entered front (Strange at) = Err (WrongKind front)
entered front (File at) = Err (WrongKind front)
entered front (Dir at (Err lack)) = Err (Locked at lack)
entered front (Dir at (Ok dir)) = Ok dir

-- what follows in a directory that is entered
abbrev pub then_in : {A : Type 0} → Result Directory Refusal → (Directory → Result A Refusal) → Result A Refusal
then_in (Err refusal) next = Err refusal
then_in (Ok dir) next = next dir

-- what stands at the rest of a path behind what stands at its front, or the first part that doesn't serve
abbrev pub find_from : Format → View → plain.Path → Standing → plain.Path → Result Standing Refusal
find_from f v front here [] = item_there front here
find_from f v front here (name ∷ rest) = then_in (entered front here) (λ dir. find_from f v (front ++ name ∷ []) (standing_in f v dir name) rest)

unfoldable pub find : Format → View → plain.Path → Result Standing Refusal
find f v path = find_from f v [] (root_of f v) path

-- the directory at a path that is to be entered
abbrev pub enter_from : Format → View → plain.Path → Standing → plain.Path → Result Directory Refusal
enter_from f v front here [] = entered front here
enter_from f v front here (name ∷ rest) = then_in (entered front here) (λ dir. enter_from f v (front ++ name ∷ []) (standing_in f v dir name) rest)

unfoldable pub enter : Format → View → plain.Path → Result Directory Refusal
enter f v path = enter_from f v [] (root_of f v) path
