-- How a content ends that is given piece by piece.
use Rattle.chunk_files.specs.declared.fault.ChunkFault.{ChunkFault}
use Rattle.folder_spec.specs.Path.{Path}
use Rattle.vault_faults.specs.declared.fault.Limit.{Limit}

-- a content ends, or at a fault of its file, or where it passes a limit
pub data Ending : Type 0 where
  Whole : Ending
  Damaged : Path → ChunkFault → Ending
  TooLong : Limit → Ending
