use Rattle.aes_lanes.specs.Counter.{increment32, increment128}
use Rattle.aes_lanes.specs.Laws.Counter.{length-counter_mode}
use Rattle.aes_lanes.proofs.laws.texts_keep_their_length.Goals as goal

pub returns : goal.returns
returns c = record {
  in_four_bytes = λ image. length-counter_mode image increment32;
  in_sixteen_bytes = λ image. length-counter_mode image increment128;
}
