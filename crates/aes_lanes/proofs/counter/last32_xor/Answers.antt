use Rattle.std.proofs.Common.{arith}
use Rattle.aes_lanes.specs.Cipher.{cipher}
use Rattle.aes_lanes.specs.Counter.{increment}
use Rattle.aes_lanes.specs.Laws.Cipher.{length-cipher}
use Rattle.aes_lanes.proofs.counter.last32_xor.Goals as goal

pub returns-else-bytes : goal.returns-else-bytes
returns-else-bytes c = λ words keys planes.
    c.xor_stream.ensures (cipher c.args.rounds words) (increment 4) c.args.start.now (length-cipher c.args.rounds words)
    (λ k lt. c.counter_images.ensures.images words k planes (omega arith))
