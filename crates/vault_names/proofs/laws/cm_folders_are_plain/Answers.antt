use Rattle.std.proofs.Common.{arith, length-drop}
use Rattle.std.proofs.lemmas.List.{length-take-le}
use Rattle.vault_names.specs.Cryptomator.{cm_folder_of}
use Rattle.vault_names.proofs.Plain.{length-cm_folder_of, characters-cm_folder_of}
use Rattle.vault_names.proofs.laws.cm_folders_are_plain.Goals as goal

pub returns : goal.returns
returns c = record {
  size = length-cm_folder_of;
  first = λ keys id. length-take-le 2 (cm_folder_of keys id) (omega (arith, length-cm_folder_of keys id));
  rest = λ keys id. omega (arith, length-drop 2 (cm_folder_of keys id), length-cm_folder_of keys id);
  characters = characters-cm_folder_of;
}
