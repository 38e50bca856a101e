use Rattle.demo_core.proofs.Numbered.{opens_so}
use Rattle.demo_core.proofs.laws.items_are_directories_or_short_files.Goals as goal

pub returns : goal.returns
returns c = opens_so
