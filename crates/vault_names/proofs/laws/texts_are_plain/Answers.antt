use Rattle.std.proofs.Common.{ℕ, List}
use Rattle.aes_lanes.specs.Bytes.{IsBlock}
use Rattle.vault_names.proofs.Encryption.{AreEme}
use Rattle.vault_names.proofs.Characters.{IsOfAlphabet, length-text, characters-text}
use Rattle.vault_names.proofs.laws.texts_are_plain.Goals as goal

eme : (c : goal.After-base64url_is_of_its_alphabet) (key iv : List ℕ) → IsBlock iv → AreEme key iv
eme c key iv is_iv =
    let undo = c.directions_undo_each_other.ensures in
    let stay = c.blocks_stay_blocks.ensures in
    record {
      undone = λ blocks are. undo.decrypted key iv blocks is_iv are;
      redone = λ blocks are. undo.encrypted key iv blocks is_iv are;
      blocks_there = λ blocks are. stay.encrypted key iv blocks is_iv are;
      blocks_back = λ blocks are. stay.decrypted key iv blocks is_iv are;
      as_many = λ blocks. stay.as_many_encrypted key iv blocks;
    }

pub returns : goal.returns
returns c =
    let of_alphabet = c.base64url_is_of_its_alphabet.ensures in
    let alphabet : IsOfAlphabet = record { characters = of_alphabet.characters; size = of_alphabet.size } in
    record {
      size = λ key iv name is_iv. length-text alphabet key iv name (eme c key iv is_iv);
      characters = λ key iv name is_iv. characters-text alphabet key iv name (eme c key iv is_iv);
    }
