use Rattle.vault_names.proofs.Characters.{IsOfAlphabet, AreDigests, length-long_name, take-long_name, characters-long_name, form-long_name}
use Rattle.vault_names.proofs.laws.long_names_are_plain.Goals as goal

pub returns : goal.returns
returns c =
    let of_alphabet = c.base64url_is_of_its_alphabet.ensures in
    let alphabet : IsOfAlphabet = record { characters = of_alphabet.characters; size = of_alphabet.size } in
    let of_digests = c.digests_are_bytes.ensures in
    let digests : AreDigests = record { size = of_digests.size; bytes = of_digests.bytes } in
    record { size = length-long_name alphabet digests; prefix = take-long_name; characters = characters-long_name alphabet digests; form = form-long_name alphabet digests }
