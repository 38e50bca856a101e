use Rattle.std.proofs.Common.{[], ◌∷◌}
use Rattle.aes_lanes.specs.Cipher.{aes256}
use Rattle.vault_names.proofs.Characters.{IsOfAlphabet}
use Rattle.vault_names.proofs.CmNames.{images, sealed-bytes}
use Rattle.vault_names.proofs.Plain.{length-cm_text, plain-cm_text}
use Rattle.vault_names.proofs.laws.cm_texts_are_plain.Goals as goal

pub returns : goal.returns
returns c =
    let of_alphabet = c.base64url_is_of_its_alphabet.ensures in
    let alphabet : IsOfAlphabet = record { characters = of_alphabet.characters; size = of_alphabet.size } in
    let is_image = images c.directions_undo_each_other.ensures in
    record {
      size = λ keys id name. length-cm_text alphabet keys id name
          (c.unsealing_undoes_sealing.ensures.longer (aes256 keys.mac) (aes256 keys.enc) (is_image keys.mac) (is_image keys.enc) (id ∷ []) name);
      characters = λ keys id name id_bytes named. plain-cm_text alphabet keys id name
          (sealed-bytes c.directions_undo_each_other.ensures c.sealed_texts_are_bytes.ensures keys id name id_bytes named);
    }
