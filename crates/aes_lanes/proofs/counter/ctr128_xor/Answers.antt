use Rattle.std.proofs.Common.{◌≡◌, ℕ, ◌<◌, ◌+◌, ◌*◌, ◌/◌, List, [], map, length, get_or, ap, ◌∙◌, subst, arith}
use Rattle.std.proofs.lemmas.List.{get_or-map}
use Rattle.std.specs.Fn.{iterate}
use Rattle.aes_lanes.specs.Counter.{increment}
use Rattle.aes_lanes.specs.Private.{AreXoredAt}
use Rattle.aes_lanes.proofs.CounterSteps.{IsDoneTo, IsDoneTo-sixteen, iterate-more, counter_mode-from_rest}
use Rattle.aes_lanes.proofs.Rests.{put_rest}
use Rattle.aes_lanes.proofs.counter.ctr128_xor.Goals as goal

-- the images of sixteen counter blocks, of which the first is a count
images : (image next : List ℕ → List ℕ) (start counter : List ℕ) (blocks stream : List (List ℕ)) (n : ℕ) → length blocks ≡ 16
    → counter ≡ iterate next n start → ((i : ℕ) → i < 16 → get_or blocks i [] ≡ iterate next i counter) → stream ≡ map image blocks
    → (i : ℕ) → i < 16 → get_or stream i [] ≡ image (iterate next (n + i) start)
images image next start counter blocks stream n sixteen counted each is i lt =
    let within : i < length blocks = omega arith in
    ap (λ l. get_or l i []) is ∙ get_or-map image blocks i [] [] within
    ∙ ap image (each i lt ∙ ap (iterate next i) counted ∙ iterate-more next n i start)

pub loop-set-preserved : goal.loop-set-preserved
loop-set-preserved g c =
    let image = g.C.Cipher.image c.args.key.now in
    let next = increment 16 in
    let start = c.args.start.now in
    let more : 16 * c.loop-set.set + 16 ≡ 16 * (c.loop-set.set + 1) = omega arith in
    let at : 256 * c.loop-set.set ≡ 16 * (16 * c.loop-set.set) = omega arith in
    let stream = c.next128-stream.ensures in
    record {
      counter =
          stream.counter ∙ ap (iterate next 16) c.loop-set.invariant.counter ∙ iterate-more next (16 * c.loop-set.set) 16 start
          ∙ ap (λ n. iterate next n start) more;
      done =
          subst (IsDoneTo image next start c.args.bytes.now c.xor_sixteen.new.bytes) more
          (IsDoneTo-sixteen image next start c.args.bytes.now c.loop-set.bytes c.xor_sixteen.new.bytes c.encrypt_blocks.new.blocks
          (16 * c.loop-set.set) c.loop-set.auto.bytes c.loop-set.invariant.done
          (images image next start c.loop-set.counter _ _ (16 * c.loop-set.set) stream.sixteen c.loop-set.invariant.counter stream.counts c.encrypt_blocks.ensures)
          (subst (λ n. AreXoredAt n 16 c.encrypt_blocks.new.blocks c.loop-set.bytes c.xor_sixteen.new.bytes) at c.xor_sixteen.ensures));
    }

pub returns : goal.returns
returns g c =
    let done : ℕ = 256 * (length c.args.bytes.now / 256) in
    put_rest c.loop-set.bytes c.last128_xor.new.bytes done
    ∙ counter_mode-from_rest (g.C.Cipher.image c.args.key.now) (increment 16)
    (g.met.C.Cipher.length_image c.args.key.now) c.args.start.now c.loop-set.counter c.args.bytes.now c.loop-set.bytes c.last128_xor.new.bytes
    (16 * c.loop-set.set) done (omega arith) (omega arith)
    c.loop-set.auto.bytes c.loop-set.invariant.done c.loop-set.invariant.counter c.last128_xor.ensures
