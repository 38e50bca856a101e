use Rattle.vault_names.proofs.Encryption.{AreEme, text-once}
use Rattle.vault_names.proofs.laws.text_has_one_name.Goals as goal

pub returns : goal.returns
returns c = λ key iv text name other is_iv.
    let undo = c.directions_undo_each_other.ensures in
    let stay = c.blocks_stay_blocks.ensures in
    let eme : AreEme key iv = record {
      undone = λ blocks are. undo.decrypted key iv blocks is_iv are;
      redone = λ blocks are. undo.encrypted key iv blocks is_iv are;
      blocks_there = λ blocks are. stay.encrypted key iv blocks is_iv are;
      blocks_back = λ blocks are. stay.decrypted key iv blocks is_iv are;
      as_many = λ blocks. stay.as_many_encrypted key iv blocks;
    } in
    text-once key iv text name other eme
