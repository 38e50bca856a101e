use Rattle.gcm_mode.specs.Gcm.{sealed}
use Rattle.gcm_mode.proofs.Modes.{length-encrypted, length-tag_of}
use Rattle.gcm_mode.proofs.SealedBytes.{KeepsBytes, bytes-encrypted, bytes-tag_of}
use Rattle.gcm_mode.proofs.laws.sealed_texts_are_bytes.Goals as goal

pub returns : goal.returns
unfolding sealed
returns c =
    let law : KeepsBytes = record { counter = c.bytes_stay_bytes.ensures.counter_in_four_bytes; text = c.bytes_stay_bytes.ensures.in_four_bytes } in
    record {
      text = λ key iv ad plain vector bytes. bytes-encrypted law key iv plain vector bytes;
      as_long = λ key iv ad plain. length-encrypted key iv plain;
      tag = λ key iv ad plain vector. bytes-tag_of law key iv ad _ vector;
      sixteen = λ key iv ad plain. length-tag_of key iv ad _;
    }
