use Rattle.std.proofs.Common.{◌≡◌, ℕ, suc, ◌+◌, ◌<◌, ◌≤◌, List, [], ◌++◌, take, drop, get_or, ap, ap₂, sym, ◌∙◌, arith}
use Rattle.std.proofs.lemmas.List.{get_or-take, get_or-drop}
use Rattle.std.specs.Fn.{iterate}
use Rattle.aes_lanes.specs.Counter.{AreFirstOfStream, counter_mode, increment}
use Rattle.aes_lanes.proofs.CounterSteps.{counter_mode-append}
use Rattle.aes_lanes.proofs.counter.ctr32_xor_on.Goals as goal

-- the blocks after the first are the images from the second counter block on
later : (image next : List ℕ → List ℕ) (start : List ℕ) (stream : List (List ℕ)) (n k : ℕ) → AreFirstOfStream image next start stream
    → k < n → n ≤ 15 → get_or (take n (drop 1 stream)) k [] ≡ image (iterate next k (next start))
later image next start stream n k first lt most =
    let second : 1 + k ≡ suc k = omega arith in
    get_or-take n (drop 1 stream) k [] lt ∙ get_or-drop 1 stream k [] ∙ ap (λ m. get_or stream m []) second ∙ first (suc k) (omega arith)

pub returns-then-bytes-le240 : goal.returns-then-bytes-le240
returns-then-bytes-le240 g c = λ first.
    let image = g.C.Cipher.image c.args.key.now in
    let next = increment 4 in
    let start = c.args.start.now in
    c.xor_stream.ensures image next (next start) (g.met.C.Cipher.length_image c.args.key.now)
    (λ k lt. later image next start c.args.stream.now 15 k first (omega arith) (omega arith))

pub returns-else-bytes-le240 : goal.returns-else-bytes-le240
returns-else-bytes-le240 g c = λ first.
    let image = g.C.Cipher.image c.args.key.now in
    let sixteen = g.met.C.Cipher.length_image c.args.key.now in
    let next = increment 4 in
    let start = c.args.start.now in
    let halves = c.split_at_mut-front.ensures in
    ap₂ ◌++◌
    (c.xor_stream-else-bytes-le240.ensures image next (next start) sixteen
    (λ k lt. later image next start c.args.stream.now 15 k first (omega (arith, halves.front_len)) (omega arith)))
    (c.ctr32_xor.ensures ∙ ap (λ counter. counter_mode image next counter c.split_at_mut-front.result.1.now) c.counted32.ensures)
    ∙ counter_mode-append image next sixteen (next start) c.split_at_mut-front.result.0.now c.split_at_mut-front.result.1.now 15 halves.front_len
    ∙ ap (counter_mode image next (next start)) (sym halves.value)
