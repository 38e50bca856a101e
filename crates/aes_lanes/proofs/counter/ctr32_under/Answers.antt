use Rattle.std.proofs.Common.{◌≡◌, ℕ, ◌+◌, ◌*◌, ◌/◌, length, ap, ◌∙◌, subst, arith}
use Rattle.std.specs.Fn.{iterate}
use Rattle.aes_lanes.specs.Cipher.{cipher}
use Rattle.aes_lanes.specs.Counter.{increment}
use Rattle.aes_lanes.specs.Laws.Cipher.{length-cipher}
use Rattle.aes_lanes.specs.Private.{AreXoredAt}
use Rattle.aes_lanes.proofs.CounterSteps.{IsDoneTo, IsDoneTo-sixteen, iterate-more, counter_mode-from_rest}
use Rattle.aes_lanes.proofs.Rests.{put_rest}
use Rattle.aes_lanes.proofs.counter.ctr32_under.Goals as goal

pub loop-set-preserved : goal.loop-set-preserved
loop-set-preserved c =
    let next = increment 4 in
    let start = c.args.start.now in
    let old = c.args.bytes.now in
    let new = c.xor_sixteen.new.bytes in
    let stream = c.counter_images-stream.result in
    let n : ℕ = 16 * c.loop-set.set in
    let more : n + 16 ≡ 16 * (c.loop-set.set + 1) = omega arith in
    let at : 256 * c.loop-set.set ≡ 16 * n = omega arith in
    let counted = c.loop-set.invariant.counter in
    record {
      counter = c.counted32-next.ensures ∙ ap (iterate next 16) counted ∙ iterate-more next n 16 start ∙ ap (λ m. iterate next m start) more;
      done = λ words keys.
          let image = cipher c.args.rounds words in
          subst (IsDoneTo image next start old new) more
          (IsDoneTo-sixteen image next start old c.loop-set.bytes new stream n c.loop-set.auto.bytes (c.loop-set.invariant.done words keys)
          (λ i lt. c.counter_images-stream.ensures.images words i keys lt ∙ ap image (ap (iterate next i) counted ∙ iterate-more next n i start))
          (subst (λ m. AreXoredAt m 16 stream c.loop-set.bytes new) at c.xor_sixteen.ensures));
    }

pub returns : goal.returns
returns c = λ words keys planes.
    let done : ℕ = 256 * (length c.args.bytes.now / 256) in
    put_rest c.loop-set.bytes c.last32_xor.new.bytes done
    ∙ counter_mode-from_rest (cipher c.args.rounds words) (increment 4) (length-cipher c.args.rounds words)
    c.args.start.now c.loop-set.counter c.args.bytes.now c.loop-set.bytes c.last32_xor.new.bytes
    (16 * c.loop-set.set) done (omega arith) (omega arith)
    c.loop-set.auto.bytes (c.loop-set.invariant.done words planes) c.loop-set.invariant.counter (c.last32_xor.ensures words keys planes)
