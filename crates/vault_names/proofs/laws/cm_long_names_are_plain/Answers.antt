use Rattle.vault_names.proofs.Characters.{IsOfAlphabet}
use Rattle.vault_names.proofs.Plain.{length-cm_long_name, plain-cm_long_name, form-cm_long_name}
use Rattle.vault_names.proofs.laws.cm_long_names_are_plain.Goals as goal

pub returns : goal.returns
returns c =
    let of_alphabet = c.base64url_is_of_its_alphabet.ensures in
    let alphabet : IsOfAlphabet = record { characters = of_alphabet.characters; size = of_alphabet.size } in
    record { size = length-cm_long_name alphabet; characters = plain-cm_long_name alphabet; form = form-cm_long_name alphabet }
