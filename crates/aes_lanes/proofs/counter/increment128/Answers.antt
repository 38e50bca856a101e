use Rattle.std.proofs.Common.{◌+◌, ◌%◌, ◌^◌, ap, ◌∙◌}
use Rattle.std.specs.Int.{w128, to_be_bytes}
use Rattle.aes_lanes.proofs.CounterSteps.{increment-16}
use Rattle.aes_lanes.proofs.counter.increment128.Goals as goal

pub returns : goal.returns
returns c =
    c.to_be_bytes.ensures ∙ ap (λ n. to_be_bytes w128 ((n + 1) % 2 ^ 128)) c.from_be_bytes.ensures
    ∙ increment-16 c.args.block.now c.told-block
