use Rattle.aes_lanes.specs.Cipher.{aes256, inverse_aes256}
use Rattle.aes_lanes.specs.Laws.Cipher.{aes-undone}
use Rattle.eme_mode.specs.Eme.{first_mask}
use Rattle.eme_mode.proofs.Undone.{eme_by-undone, IsBlock-times_two, turned}
use Rattle.eme_mode.proofs.laws.directions_undo_each_other.Goals as goal

pub returns : goal.returns
returns c = record {
  decrypted = λ key tweak blocks. eme_by-undone (aes256 key) (inverse_aes256 key) (aes-undone 8 key) (first_mask key) tweak blocks (IsBlock-times_two _);
  encrypted = λ key tweak blocks. eme_by-undone (inverse_aes256 key) (aes256 key) (turned _ _ (aes-undone 8 key)) (first_mask key) tweak blocks (IsBlock-times_two _);
}
