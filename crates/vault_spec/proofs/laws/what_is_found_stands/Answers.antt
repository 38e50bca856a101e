use Rattle.vault_spec.proofs.EnteredFolders.{folder_stands}
use Rattle.vault_spec.proofs.Finds.{found_stands, file_found, directory_found, entered_leads, leads_entered}
use Rattle.vault_spec.proofs.laws.what_is_found_stands.Goals as goal

pub returns : goal.returns
returns c = record {
  stands = found_stands;
  file = file_found;
  directory = directory_found;
  enters = λ f v path dir. (entered_leads f v path dir, leads_entered f v path dir);
  folder = folder_stands;
}
