-- The content of a file of a vault: what of it is still to come, by what stands at its path.
use Rattle.std.specs.Prelude.{ℕ, Bool, nat_le, List, [], ◌++◌, length, Option, Some, None, ◌&&◌, ◌||◌, not, if◌then◌else◌}
use Rattle.std.specs.List.{concat}
use Rattle.chunk_files.specs.Decoding.{Decoding}
use Rattle.chunk_files.specs.Reading.{Reading}
use Rattle.chunk_files.specs.Reading as reading
use Rattle.folder_spec.specs.Path.{Path}
use Rattle.folder_spec.specs.View.{Found, NoEntry, Folder, FileOf, Special}
use Rattle.vault_faults.specs.declared.fault.Limit.TheVariants.{Length}
use Rattle.item_making.specs.Ending.{Ending, Whole, Damaged, TooLong}
use Rattle.content_writing.specs.Content.{Coming}
use Rattle.vault_read.specs.Contents.{Reader, still}

-- how the reading of the file at a path ends
abbrev pub ending_of : Path → reading.Ending → Ending
ending_of at reading.Whole = Whole
ending_of at (reading.Faulty fault) = Damaged at fault
ending_of at reading.Wanting = TooLong (Length at)

-- the bytes held, and what a reading gives behind them
abbrev pub held_before : Path → List ℕ → Reading → Coming
held_before at held r = record { bytes = held ++ concat r.chunks; ending = ending_of at r.ending }

-- whether a file with these bytes has as many as were read of it, and no more where its end was told
abbrev pub suits : Decoding → List ℕ → Bool
suits d bytes = nat_le d.taken (length bytes) && (not d.ended || nat_le (length bytes) d.taken)

-- this is to come, where there is room for its bytes
abbrev pub fitting : ℕ → Coming → Option Coming
fitting room c = if nat_le (length c.bytes) room then Some c else None

-- What is to come of a reader's file, by what stands at its path, behind the bytes held. As much as a file gives from its start on
-- has room in the limit.
abbrev pub coming_read : Reader → ℕ → List ℕ → Found → Option Coming
coming_read reader room held (FileOf bytes) = if suits reader.decoding bytes then fitting room (held_before reader.at held (still reader.decoding bytes)) else None
coming_read reader room held NoEntry = None
coming_read reader room held Folder = None
coming_read reader room held Special = None

-- the bytes held, if a buffer was taken
abbrev pub held_in : Option (List ℕ) → List ℕ
held_in None = []
held_in (Some held) = held
