use Rattle.chunk_files.proofs.LayoutSizes.{sizes_fit}
use Rattle.chunk_files.proofs.laws.sizes_fit.Goals as goal

pub returns : goal.returns
returns c = sizes_fit
