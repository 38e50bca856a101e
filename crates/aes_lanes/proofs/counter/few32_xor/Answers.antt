use Rattle.std.proofs.Common.{◌≤◌, ◌*◌, ◌∙◌, length, ap, arith}
use Rattle.aes_lanes.specs.Cipher.{cipher}
use Rattle.aes_lanes.specs.Counter.{increment}
use Rattle.aes_lanes.specs.Laws.Cipher.{length-cipher}
use Rattle.aes_lanes.proofs.CounterSteps.{IsDoneTo-next, IsDoneTo-none, counter_mode-from_places}
use Rattle.aes_lanes.proofs.counter.few32_xor.Goals as goal

pub loop-k-init : goal.loop-k-init
loop-k-init c = λ words keys. IsDoneTo-none (cipher c.args.rounds words) (increment 4) c.args.start.now c.args.bytes.now

pub loop-k-preserved : goal.loop-k-preserved
loop-k-preserved c = λ words keys.
    let image = cipher c.args.rounds words in
    IsDoneTo-next image (increment 4) c.args.start.now c.args.bytes.now c.loop-k.bytes c.xor_at.new.bytes _ c.loop-k.k c.loop-k.auto.bytes
    (c.loop-k.invariant words keys)
    (c.encrypt_block.ensures words keys ∙ ap image c.counted32-block.ensures) c.xor_at.ensures

pub returns : goal.returns
returns c = λ words keys.
    let all : length c.args.bytes.now ≤ 16 * c.loop-k.k = omega (arith, c.div_ceil-k-end.ensures) in
    counter_mode-from_places (cipher c.args.rounds words) (increment 4) (length-cipher c.args.rounds words)
    c.args.start.now c.args.bytes.now c.loop-k.bytes c.loop-k.auto.bytes
    (λ i lt. (c.loop-k.invariant words keys).before i (omega arith) lt)
