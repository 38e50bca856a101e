use Rattle.std.proofs.Common.{◌≤◌, ◌*◌, length, arith}
use Rattle.aes_lanes.proofs.CounterSteps.{IsDoneTo-next, IsDoneTo-none, counter_mode-from_places}
use Rattle.aes_lanes.proofs.counter.xor_stream.Goals as goal

pub loop-k-init : goal.loop-k-init
loop-k-init c = λ image next start images. IsDoneTo-none image next start c.args.bytes.now

pub loop-k-preserved : goal.loop-k-preserved
loop-k-preserved c = λ image next start images.
    IsDoneTo-next image next start c.args.bytes.now c.loop-k.bytes c.xor_at.new.bytes _ c.loop-k.k c.loop-k.auto.bytes
    (c.loop-k.invariant image next start images)
    (images c.loop-k.k (omega (arith, c.div_ceil-k-end.ensures))) c.xor_at.ensures

pub returns : goal.returns
returns c = λ image next start sixteen images.
    let all : length c.args.bytes.now ≤ 16 * c.loop-k.k = omega (arith, c.div_ceil-k-end.ensures) in
    counter_mode-from_places image next sixteen start c.args.bytes.now c.loop-k.bytes c.loop-k.auto.bytes
    (λ i lt. (c.loop-k.invariant image next start images).before i (omega arith) lt)
