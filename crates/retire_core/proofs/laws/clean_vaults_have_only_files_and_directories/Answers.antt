use Rattle.retire_core.proofs.CleanVaults.{no_special_below}
use Rattle.retire_core.proofs.laws.clean_vaults_have_only_files_and_directories.Goals as goal

pub returns : goal.returns
returns c = λ vault v clean orderly p. no_special_below c.entries_of_clean_vaults_are_accounted_for.ensures vault v clean orderly p
