use Rattle.std.proofs.Common.{sym, ap, ◌∙◌, length}
use Rattle.aes_lanes.specs.Cipher.{aes256}
use Rattle.gcm_mode.proofs.Modes.{tag-opened, plain-is, length-encrypted}
use Rattle.gcm_mode.proofs.laws.unsealing_undoes_sealing.Goals as goal

pub returns : goal.returns
returns c = record {
  right_tag = λ key. tag-opened (aes256 key);
  decrypted = λ key iv ad s plain. plain-is key iv ad plain s;
  as_long = λ key iv ad s plain opens. sym (length-encrypted key iv s.text) ∙ ap length (plain-is key iv ad plain s opens);
}
