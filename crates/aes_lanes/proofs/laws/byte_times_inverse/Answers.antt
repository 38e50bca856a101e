use Rattle.std.proofs.Common.{rules, ◌≡◌, min, ◌∙◌, arith}
use Rattle.aes_lanes.specs.Laws.Field.{multiply-inverse}
use Rattle.aes_lanes.proofs.laws.byte_times_inverse.Goals as goal

pub returns : goal.returns
returns c =
    let one : min c.args.byte 1 ≡ 1 = omega arith in
    multiply-inverse c.args.byte (search rules) ∙ one
