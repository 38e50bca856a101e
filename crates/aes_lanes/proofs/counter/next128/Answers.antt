use Rattle.std.proofs.Common.{arith, length-set, ◌∙◌}
use Rattle.aes_lanes.specs.Counter.{increment}
use Rattle.aes_lanes.proofs.CounterSteps.{counter-next, more_counts}
use Rattle.aes_lanes.proofs.counter.next128.Goals as goal

pub loop-i-preserved : goal.loop-i-preserved
loop-i-preserved c =
    let next = increment 16 in
    record {
      sixteen = length-set c.loop-i.blocks c.loop-i.i c.loop-i.counter ∙ c.loop-i.invariant.sixteen;
      counter = counter-next next c.loop-i.i c.args.counter.now c.loop-i.counter _ c.loop-i.invariant.counter c.increment128.ensures;
      counts = more_counts next c.args.counter.now c.loop-i.counter c.loop-i.blocks c.loop-i.i (omega (arith, c.loop-i.invariant.sixteen)) c.loop-i.invariant.counter c.loop-i.invariant.counts;
    }
