use Rattle.chunk_files.specs.Keys.{format_of}
use Rattle.chunk_files.proofs.ChunkReadings.{whole-goes_on}
use Rattle.chunk_files.proofs.laws.whole_files_end.Goals as goal

pub returns : goal.returns
returns c = λ keys bytes goes_on whole. whole-goes_on (format_of keys) bytes goes_on whole
