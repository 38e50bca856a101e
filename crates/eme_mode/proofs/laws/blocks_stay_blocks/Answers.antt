use Rattle.aes_lanes.specs.Cipher.{aes256, inverse_aes256}
use Rattle.aes_lanes.specs.Laws.Cipher.{IsBlock-aes, IsBlock-inverse_aes}
use Rattle.eme_mode.specs.Eme.{first_mask}
use Rattle.eme_mode.proofs.Undone.{IsBlock-eme_by, length-eme_by, IsBlock-times_two}
use Rattle.eme_mode.proofs.laws.blocks_stay_blocks.Goals as goal

pub returns : goal.returns
returns c = record {
  encrypted = λ key tweak blocks. IsBlock-eme_by (aes256 key) (IsBlock-aes 8 key) (first_mask key) tweak blocks (IsBlock-times_two _);
  decrypted = λ key tweak blocks. IsBlock-eme_by (inverse_aes256 key) (IsBlock-inverse_aes 8 key) (first_mask key) tweak blocks (IsBlock-times_two _);
  as_many_encrypted = λ key tweak blocks. length-eme_by (aes256 key) (first_mask key) tweak blocks;
  as_many_decrypted = λ key tweak blocks. length-eme_by (inverse_aes256 key) (first_mask key) tweak blocks;
}
