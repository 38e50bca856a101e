use Rattle.std.proofs.Common.{arith}
use Rattle.aes_lanes.specs.Counter.{increment}
use Rattle.aes_lanes.proofs.CounterSteps.{image_at}
use Rattle.aes_lanes.proofs.counter.last128_xor.Goals as goal

pub returns : goal.returns
returns g c =
    let image = g.C.Cipher.image c.args.key.now in
    let next = increment 16 in
    let start = c.args.start.now in
    c.xor_stream.ensures image next start (g.met.C.Cipher.length_image c.args.key.now)
    (λ k lt. image_at image next start c.next128-stream.result c.encrypt_blocks.new.blocks _ _ k c.encrypt_blocks.ensures
    (omega (arith, c.div_ceil-count.ensures)) (omega (arith, c.div_ceil-count.ensures)) c.next128-stream.ensures.sixteen (λ i li. c.next128-stream.ensures.counts i (omega (arith, c.div_ceil-count.ensures))))
