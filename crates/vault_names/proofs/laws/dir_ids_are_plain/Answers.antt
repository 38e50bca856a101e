use Rattle.vault_names.proofs.Ids.{length-id_of, characters-id_of}
use Rattle.vault_names.proofs.laws.dir_ids_are_plain.Goals as goal

pub returns : goal.returns
returns c = record { size = length-id_of; characters = characters-id_of }
