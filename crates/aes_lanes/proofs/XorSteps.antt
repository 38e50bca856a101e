-- Blocks added to parts of a list of bytes.
use Rattle.std.proofs.Common.{◌≡◌, ℕ, ◌+◌, ◌-◌, ◌*◌, ◌<◌, ◌≤◌, List, [], ◌++◌, length, take, drop, get_or, slice_index, bit_xor, refl, sym, ap, ap₂, ◌∙◌, arith, inl, inr, length-append}
use Rattle.std.specs.Simd.Lanes.{zip2, chunk, put_chunk}
use Rattle.std.proofs.lemmas.List.{get_or-take, get_or-drop, get_or_append_left, get_or-append_right, length-take-le, length-drop}
use Rattle.std.proofs.lemmas.Bool.{cases_lt}
use Rattle.std.proofs.lemmas.Simd.{put_chunk_whole, get_or-zip2, length-zip2, length-chunk, get_or-chunk}
use Rattle.aes_lanes.specs.Private.{AreXoredAt, IsXoredAt}

-- bytes of which sixteen are replaced by their sum with a block
pub IsXoredAt-part : (at : ℕ) (block bytes sum : List ℕ) → at + 16 ≤ length bytes → length sum ≡ 16
    → ((k : ℕ) → k < 16 → slice_index sum k ≡ bit_xor (slice_index bytes (at + k)) (slice_index block k))
    → IsXoredAt at block bytes (take at bytes ++ (sum ++ drop 16 (drop at bytes)))
IsXoredAt-part at block bytes sum within long each =
    let rest : List ℕ = drop 16 (drop at bytes) in
    let front : length (take at bytes) ≡ at = length-take-le at bytes (omega arith) in
    let size : length rest ≡ length bytes - at - 16 = length-drop 16 (drop at bytes) ∙ ap (λ n. n - 16) (length-drop at bytes) in
    record {
      same_length = omega (arith, length-append (take at bytes) (sum ++ rest), length-append sum rest, front, size);
      inside = λ k lt there.
          let in_sum : k < length sum = omega arith in
          get_or-append_right (take at bytes) (sum ++ rest) at (at + k) 0 front (omega arith)
          ∙ ap (λ i. get_or (sum ++ rest) i 0) (omega arith)
          ∙ get_or_append_left sum rest 0 k in_sum ∙ each k lt;
      before = λ k lt.
          let in_front : k < length (take at bytes) = omega arith in
          get_or_append_left (take at bytes) (sum ++ rest) 0 k in_front ∙ get_or-take at bytes k 0 lt;
      after = λ k above.
          let back : at + (16 + (k - at - 16)) ≡ k = omega arith in
          get_or-append_right (take at bytes) (sum ++ rest) at k 0 front (omega arith)
          ∙ get_or-append_right sum rest 16 (k - at) 0 long (omega arith)
          ∙ get_or-drop 16 (drop at bytes) (k - at - 16) 0 ∙ get_or-drop at bytes (16 + (k - at - 16)) 0 ∙ ap (slice_index bytes) back;
    }

-- the same as vectors do it
pub IsXoredAt-lanes : (at n : ℕ) (block bytes : List ℕ) → n ≡ 16 → at + 16 ≤ length bytes → length block ≡ 16
    → IsXoredAt at block bytes
    (take at bytes ++ (put_chunk 0 (take n (drop at bytes)) (zip2 bit_xor (chunk 0 16 (take n (drop at bytes))) block) ++ drop n (drop at bytes)))
IsXoredAt-lanes at n block bytes e within long =
    let part : ℕ → List ℕ = λ m. take m (drop at bytes) in
    let sum : ℕ → List ℕ = λ m. zip2 bit_xor (chunk 0 16 (part m)) block in
    let rest : length (drop at bytes) ≡ length bytes - at = length-drop at bytes in
    let sixteen : length (part 16) ≡ 16 = length-take-le 16 (drop at bytes) (omega arith) in
    let lanes : length (chunk 0 16 (part 16)) ≡ 16 = length-chunk 0 16 (part 16) (omega arith) in
    let sums : length (sum 16) ≡ 16 = length-zip2 bit_xor (chunk 0 16 (part 16)) block (lanes ∙ sym long) ∙ lanes in
    let whole : IsXoredAt at block bytes (take at bytes ++ (put_chunk 0 (part 16) (sum 16) ++ drop 16 (drop at bytes))) =
    rw (put_chunk_whole (part 16) (sum 16) (sixteen ∙ sym sums)) (IsXoredAt-part at block bytes (sum 16) within sums (λ k lt.
    let in_lanes : k < length (chunk 0 16 (part 16)) = omega arith in
    let in_block : k < length block = omega arith in
    get_or-zip2 bit_xor (chunk 0 16 (part 16)) block k 0 0 0 in_lanes in_block
    ∙ ap (λ x. bit_xor x (slice_index block k))
    (get_or-chunk 0 16 (part 16) k 0 lt ∙ ap (λ i. get_or (part 16) i 0) (omega arith) ∙ get_or-take 16 (drop at bytes) k 0 lt ∙ get_or-drop at bytes k 0))) in
    rw e whole

-- one block more
pub AreXoredAt-next : (at n : ℕ) (blocks : List (List ℕ)) (block old bytes new : List ℕ)
    → AreXoredAt at n blocks old bytes → block ≡ get_or blocks n [] → at + 16 * n + 16 ≤ length bytes
    → IsXoredAt (at + 16 * n) block bytes new → AreXoredAt at (n + 1) blocks old new
AreXoredAt-next at n blocks block old bytes new so_far is within step = record {
  same_length = step.same_length ∙ so_far.same_length;
  inside = λ i r few lt. elim (cases_lt i n) [
    | inl earlier ↦ step.before (at + 16 * i + r) (omega arith) ∙ so_far.inside i r earlier lt
    | inr here ↦
        let same : i ≡ n = omega arith in
        let place : at + 16 * i + r ≡ at + 16 * n + r = omega arith in
        ap (slice_index new) place ∙ step.inside r lt (omega arith)
        ∙ ap₂ bit_xor (so_far.after (at + 16 * n + r) (omega arith) ∙ ap (slice_index old) (sym place))
        (ap (λ b. slice_index b r) (is ∙ ap (λ m. get_or blocks m []) (sym same)))
  ];
  before = λ k lt. step.before k (omega arith) ∙ so_far.before k lt;
  after = λ k above. step.after k (omega arith) ∙ so_far.after k (omega arith);
}

pub AreXoredAt-none : (at : ℕ) (blocks : List (List ℕ)) (old : List ℕ) → AreXoredAt at 0 blocks old old
AreXoredAt-none at blocks old = record {
  same_length = refl;
  inside = λ i r few lt. absurd (omega arith);
  before = λ k lt. refl;
  after = λ k above. refl;
}
