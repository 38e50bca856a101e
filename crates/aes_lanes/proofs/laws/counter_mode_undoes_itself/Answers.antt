use Rattle.aes_lanes.specs.Counter.{increment32, increment128}
use Rattle.aes_lanes.specs.Laws.Counter.{counter_mode-twice}
use Rattle.aes_lanes.proofs.laws.counter_mode_undoes_itself.Goals as goal

pub returns : goal.returns
returns c = record {
  in_four_bytes = λ image. counter_mode-twice image increment32;
  in_sixteen_bytes = λ image. counter_mode-twice image increment128;
}
