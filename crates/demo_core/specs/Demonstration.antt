-- The tree of the demonstration. Its items are numbered from 0: each tenth is a directory, and the others are files in the directory
-- made last. A seed tells their bytes.
use Rattle.std.specs.Prelude.{ℕ, zero, suc, Bool, ◌+◌, ◌*◌, ◌/◌, ◌%◌, ◌==◌, List, [], ◌∷◌, ◌++◌, codes, map, replicate, if◌then◌else◌}
use Rattle.std.specs.List.{range_with_len}
use Rattle.plain_tree.specs.Names.{Path}
use Rattle.demo_core.specs.declared.items.Totals.{Totals}

abbrev pub is_directory : ℕ → Bool
is_directory number = number % 10 == 0

-- so many decimal digits of a number, the last ones
abbrev pub digits : ℕ → ℕ → List ℕ
digits zero n = []
digits (suc count) n = digits count (n / 10) ++ (48 + n % 10) ∷ []

-- the name of a directory, by how many were made before it
abbrev pub directory_name : ℕ → List ℕ
directory_name count = codes "dir" ++ digits 4 count

-- A directory stands in the one made before it, but each fourth in the root.
abbrev pub directory_path : ℕ → Path
directory_path zero = directory_name zero ∷ []
directory_path (suc count) = (if suc count % 4 == 0 then [] else directory_path count) ++ directory_name (suc count) ∷ []

-- now and then a name is long
abbrev pub file_name : ℕ → List ℕ
file_name number = codes "file" ++ digits 6 number ++ (if number % 25 == 7 then replicate 180 120 else [])

-- the path of an item
abbrev pub path_of : ℕ → Path
path_of number = if is_directory number then directory_path (number / 10) else directory_path (number / 10) ++ file_name number ∷ []

-- the size of a file, of which some are large and some have nothing
abbrev pub size_of : ℕ → ℕ → ℕ
size_of seed number =
    if number % 50 == 49 then 70000
    else if number % 50 == 24 then 0
    else 331 * (number % 40) + seed % 256

-- the byte at a place of a file
abbrev pub byte_of : ℕ → ℕ → ℕ → ℕ
byte_of seed number place = (seed % 256 + 31 * number + 7 * place + place / 251) % 256

-- so many bytes of a file, from a place on
abbrev pub bytes_from : ℕ → ℕ → ℕ → ℕ → List ℕ
bytes_from seed number place count = map (byte_of seed number) (range_with_len place count)

-- the content of a file
abbrev pub content_of : ℕ → ℕ → List ℕ
content_of seed number = bytes_from seed number 0 (size_of seed number)

-- with one item more
abbrev pub counting : ℕ → ℕ → Totals → Totals
counting seed number t =
    if is_directory number then record { directories = t.directories + 1; files = t.files; bytes = t.bytes }
    else record { directories = t.directories; files = t.files + 1; bytes = t.bytes + size_of seed number }

-- what so many items come to
abbrev pub totals_of : ℕ → ℕ → Totals
totals_of seed zero = record { directories = 0; files = 0; bytes = 0 }
totals_of seed (suc count) = counting seed count (totals_of seed count)
