-- Where the paths of a folder stand on the machine.
use Rattle.std.specs.Prelude.{ℕ, Bool, List, ◌∷◌, ◌++◌, ◌==◌, ◌&&◌, ◌||◌, not, flat_map}
use Rattle.std.specs.List.{list_all}
use Rattle.folder_spec.specs.Path.{Path}
use Rattle.folder_model.specs.Text.{is_plain_part}

-- a part that names one entry of a directory: not empty, `.` or `..`, and without a slash and the zero byte
abbrev pub is_entry_name : List ℕ → Bool
is_entry_name part = is_plain_part part && list_all (λ b. not (b == 47 || b == 0)) part

-- each part names an entry
abbrev pub names_entries : Path → Bool
names_entries path = list_all is_entry_name path

-- the text of a path below a base: the base, and each part behind a slash
abbrev pub place_text : List ℕ → Path → List ℕ
place_text base path = base ++ flat_map (λ part. 47 ∷ part) path
