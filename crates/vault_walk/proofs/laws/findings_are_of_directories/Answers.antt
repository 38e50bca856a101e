use Rattle.vault_walk.proofs.Heres.{found_where}
use Rattle.vault_walk.proofs.laws.findings_are_of_directories.Goals as goal

pub returns : goal.returns
returns c = found_where
