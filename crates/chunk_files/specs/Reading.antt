-- What reading the bytes of a content file gives: its plain chunks in order, and how the reading ends.
use Rattle.std.specs.Prelude.{ℕ, List, [], ◌∷◌}
use Rattle.chunk_files.specs.declared.fault.ChunkFault.{ChunkFault}

-- at the file's end; for want of bytes, where the file goes on behind those given; or at a fault
pub data Ending : Type 0 where
  Whole : Ending
  Wanting : Ending
  Faulty : ChunkFault → Ending

pub record Reading : Type 0 where
  pub chunks : List (List ℕ)
  pub ending : Ending

-- no chunk, and this ending
abbrev pub ends : Ending → Reading
ends ending = record { chunks = []; ending = ending }

-- this chunk, and then the rest
abbrev pub chunk_before : List ℕ → Reading → Reading
chunk_before chunk rest = record { chunks = chunk ∷ rest.chunks; ending = rest.ending }
