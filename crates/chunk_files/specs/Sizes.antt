-- How many bytes a content file has, by the bytes that are read of it: no fewer, and not many more.
use Rattle.std.specs.Prelude.{ℕ, ◌+◌, ◌*◌, ◌≤◌, Bool, List, length}
use Rattle.std.specs.List.{concat}
use Rattle.chunk_files.specs.Contents.{read_file}
use Rattle.chunk_files.specs.Format.{stored_size}
use Rattle.chunk_files.specs.Keys.{Keys, format_of}
use Rattle.chunk_files.specs.Reading.{Ending, Whole, Wanting, Faulty}

-- at the file's end, or for want of bytes
abbrev pub IsFaultless : Ending → Type 0
IsFaultless Whole = Unit {0}
IsFaultless Wanting = Unit {0}
IsFaultless (Faulty fault) = ⊥

-- Bytes in which reading meets no fault are at most 33 for each byte read, and a header and a stored chunk more: the header, and less
-- than a stored chunk that isn't whole.
abbrev pub FilesAreNotMuchLonger : Type 0
FilesAreNotMuchLonger = (keys : Keys) (bytes : List ℕ) (goes_on : Bool) → IsFaultless (read_file keys bytes goes_on).ending
    → length bytes ≤ 33 * length (concat (read_file keys bytes goes_on).chunks) + ((format_of keys).header_size + stored_size (format_of keys))

-- what is read of some bytes has no more bytes than they
abbrev pub ReadingsAreNoLonger : Type 0
ReadingsAreNoLonger = (keys : Keys) (bytes : List ℕ) (goes_on : Bool) → length (concat (read_file keys bytes goes_on).chunks) ≤ length bytes
