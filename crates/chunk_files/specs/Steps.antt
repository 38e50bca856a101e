-- Words of private contracts: what reading one stored chunk or text puts into a buffer.
use Rattle.std.specs.Prelude.{◌≡◌, ℕ, ◌≤◌, List, length, take, Option, None, Some, Result, Ok, Err}
use Rattle.chunk_files.specs.declared.fault.ChunkFault.{ChunkFault}
use Rattle.chunk_files.specs.Buffers.{HasOnlyOf, KeepsBehind}

-- The plain bytes that a chunk was read as stand at the front of the buffer, or the chunk has this fault. Of what is stored nothing
-- else came into the buffer.
abbrev pub PutsChunk : List ℕ → Result (List ℕ) ChunkFault → Result ℕ ChunkFault → List ℕ → List ℕ → Type 0
PutsChunk stored read (Ok size) old new = (read ≡ Ok (take size new)) × (size ≤ length new) × KeepsBehind size old new
PutsChunk stored read (Err fault) old new = (read ≡ Err fault) × HasOnlyOf stored old new

-- the plain text that was opened stands at the front of the buffer, or none was
abbrev pub PutsText : List ℕ → Option (List ℕ) → Option ℕ → List ℕ → List ℕ → Type 0
PutsText stored opened (Some size) old new = (opened ≡ Some (take size new)) × (size ≤ length new) × KeepsBehind size old new
PutsText stored opened None old new = (opened ≡ None) × HasOnlyOf stored old new
