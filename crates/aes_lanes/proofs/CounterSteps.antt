-- Counter mode block by block and byte by byte.
use Rattle.std.proofs.Common.{◌≡◌, ℕ, zero, suc, ◌<◌, ◌≤◌, ◌+◌, ◌-◌, ◌*◌, ◌/◌, ◌%◌, ◌^◌, List, [], ◌∷◌, length, slice_index, bit_xor, ◌++◌, map, take, drop, get_or, refl, sym, ap, ap₂, ◌∙◌, arith, inl, inr, length-append, ◌≢◌, ◌⊎◌, set, get_or-set_same, get_or-set_other}
use Rattle.std.proofs.lemmas.List.{ext_get_or, get_or_append_left, get_or-append_right, get_or-drop, get_or-map, get_or-take, length-drop, length-map, length-take-le, take_rest}
use Rattle.std.proofs.lemmas.Bool.{cases_lt, cases_eq}
use Rattle.std.specs.Fn.{iterate}
use Rattle.std.specs.Int.{w32, w128, to_be_bytes, from_be_bytes}
use Rattle.aes_lanes.specs.Private.{AreXoredAt, IsXoredAt}
use Rattle.aes_lanes.specs.Counter.{number_of, increment, key_stream, counter_mode}
use Rattle.aes_lanes.specs.Laws.Counter.{length-key_stream, length-counter_mode}
use Rattle.aes_lanes.specs.Laws.Sums.{gathered, slice_index-xor_bytes}
use Rattle.std.proofs.lemmas.Nat.{from_be_bytes-to_be_bytes_4}
use Rattle.aes_lanes.proofs.WordBytes.{to_be_bytes-word}

iterate-next : (f : List ℕ → List ℕ) (n : ℕ) (x : List ℕ) → iterate f (n + 1) x ≡ f (iterate f n x)
iterate-next f n x = let e : n + 1 ≡ suc n = omega arith in ap (λ m. iterate f m x) e ∙ step f n x where
  step : (f : List ℕ → List ℕ) (n : ℕ) (x : List ℕ) → iterate f (suc n) x ≡ f (iterate f n x)
  step f zero x = refl
  step f (suc n) x = step f n (f x)

-- one more count of a counter
pub counter-next : (f : List ℕ → List ℕ) (n : ℕ) (x y z : List ℕ) → y ≡ iterate f n x → z ≡ f y → z ≡ iterate f (n + 1) x
counter-next f n x y z before step = step ∙ ap f before ∙ sym (iterate-next f n x)

-- one more of some counts
pub more_counts : (next : List ℕ → List ℕ) (start counter : List ℕ) (blocks : List (List ℕ)) (n : ℕ) → n < length blocks
    → counter ≡ iterate next n start → ((k : ℕ) → k < n → get_or blocks k [] ≡ iterate next k start)
    → (k : ℕ) → k < n + 1 → get_or (set blocks n counter) k [] ≡ iterate next k start
more_counts next start counter blocks n within here before k lt = at_place (cases_eq k n) where
  at_place : (k ≡ n) ⊎ (k ≢ n) → get_or (set blocks n counter) k [] ≡ iterate next k start
  at_place (inl e) =
      ap (λ m. get_or (set blocks n counter) m []) e ∙ get_or-set_same blocks n counter [] within ∙ here ∙ ap (λ m. iterate next m start) (sym e)
  at_place (inr other) = get_or-set_other blocks n k counter [] other ∙ before k (omega arith)

-- byte r of block k of a key stream
pub slice_index-key_stream : (image next : List ℕ → List ℕ) → ((b : List ℕ) → length (image b) ≡ 16)
    → (block : List ℕ) (n k r i : ℕ) → k < n → r < 16 → i ≡ 16 * k + r
    → slice_index (key_stream image next block n) i ≡ slice_index (image (iterate next k block)) r
unfolding key_stream
slice_index-key_stream image next sixteen block zero k r i hk hr e = absurd (omega arith)
slice_index-key_stream image next sixteen block (suc n) zero r i hk hr e =
    let same : i ≡ r = omega arith in
    let within : i < length (image block) = omega (arith, sixteen block) in
    get_or_append_left (image block) (key_stream image next (next block) n) 0 i within
    ∙ ap (slice_index (image block)) same
slice_index-key_stream image next sixteen block (suc n) (suc k) r i hk hr e =
    get_or-append_right (image block) (key_stream image next (next block) n) 16 i 0 (sixteen block) (omega arith)
    ∙ slice_index-key_stream image next sixteen (next block) n k r (i - 16) (omega arith) hr (omega arith)

-- byte i of a text in counter mode
pub slice_index-counter_mode : (image next : List ℕ → List ℕ) → ((b : List ℕ) → length (image b) ≡ 16)
    → (start text : List ℕ) (i : ℕ) → i < length text
    → slice_index (counter_mode image next start text) i
    ≡ bit_xor (slice_index text i) (slice_index (image (iterate next (i / 16) start)) (i % 16))
unfolding counter_mode
slice_index-counter_mode image next sixteen start text i h =
    let n : ℕ = (length text + 15) / 16 in
    let stream : List ℕ = key_stream image next start n in
    let within : i < length stream = omega (arith, length-key_stream image next sixteen start n) in
    slice_index-xor_bytes text stream i h within
    ∙ ap (bit_xor (slice_index text i))
    (slice_index-key_stream image next sixteen start n (i / 16) (i % 16) i (omega arith) (omega arith) (omega arith))

-- bytes that are a text in counter mode at each place are that
pub counter_mode-from_places : (image next : List ℕ → List ℕ) → ((b : List ℕ) → length (image b) ≡ 16)
    → (start text bytes : List ℕ) → length bytes ≡ length text
    → ((i : ℕ) → i < length text → slice_index bytes i ≡ bit_xor (slice_index text i) (slice_index (image (iterate next (i / 16) start)) (i % 16)))
    → bytes ≡ counter_mode image next start text
counter_mode-from_places image next sixteen start text bytes same each =
    ext_get_or 0 bytes (counter_mode image next start text)
    (same ∙ sym (length-counter_mode image next sixteen start text))
    (λ i lt.
    let here : i < length text = omega arith in
    each i here ∙ sym (slice_index-counter_mode image next sixteen start text i here))

-- a text of which the first k blocks are in counter mode
pub record IsDoneTo (image next : List ℕ → List ℕ) (start text bytes : List ℕ) (k : ℕ) : Type 0 where
  pub before : (i : ℕ) → i < 16 * k → i < length text
      → slice_index bytes i ≡ bit_xor (slice_index text i) (slice_index (image (iterate next (i / 16) start)) (i % 16))
  pub after : (i : ℕ) → 16 * k ≤ i → slice_index bytes i ≡ slice_index text i

-- one more block
pub IsDoneTo-next : (image next : List ℕ → List ℕ) (start text bytes new stream : List ℕ) (k : ℕ)
    → length bytes ≡ length text → IsDoneTo image next start text bytes k
    → stream ≡ image (iterate next k start) → IsXoredAt (16 * k) stream bytes new
    → IsDoneTo image next start text new (k + 1)
IsDoneTo-next image next start text bytes new stream k same done e xored = record {
  before = λ i below within. elim (cases_lt i (16 * k)) [
    | inl old ↦ xored.before i old ∙ done.before i old within
    | inr here ↦
        let block : i / 16 ≡ k = omega arith in
        let place : i % 16 ≡ i - 16 * k = omega arith in
        let back : 16 * k + (i - 16 * k) ≡ i = omega arith in
        rw (block, place, ← e, ← done.after i here) (rw back at (xored.inside (i - 16 * k) (omega arith) (omega arith)))
  ];
  after = λ i above. xored.after i (omega arith) ∙ done.after i (omega arith);
}

-- sixteen more blocks
pub IsDoneTo-sixteen : (image next : List ℕ → List ℕ) (start text bytes new : List ℕ) (blocks : List (List ℕ)) (k : ℕ)
    → length bytes ≡ length text → IsDoneTo image next start text bytes k
    → ((i : ℕ) → i < 16 → get_or blocks i [] ≡ image (iterate next (k + i) start)) → AreXoredAt (16 * k) 16 blocks bytes new
    → IsDoneTo image next start text new (k + 16)
IsDoneTo-sixteen image next start text bytes new blocks k same done each xored = record {
  before = λ i below within. elim (cases_lt i (16 * k)) [
    | inl old ↦ xored.before i old ∙ done.before i old within
    | inr here ↦
        let nth : ℕ = (i - 16 * k) / 16 in
        let few : nth < 16 = omega arith in
        let block : i / 16 ≡ k + nth = omega arith in
        let back : 16 * k + 16 * nth + i % 16 ≡ i = omega arith in
        let e = xored.inside nth (i % 16) few (omega arith) in
        ap (slice_index new) (sym back) ∙ e
        ∙ ap₂ bit_xor (ap (slice_index bytes) back ∙ done.after i here)
        (ap (λ b. slice_index b (i % 16)) (each nth few ∙ ap (λ n. image (iterate next n start)) (sym block)))
  ];
  after = λ i above. xored.after i (omega arith) ∙ done.after i (omega arith);
}

-- at the start
pub IsDoneTo-none : (image next : List ℕ → List ℕ) (start text : List ℕ) → IsDoneTo image next start text text 0
IsDoneTo-none image next start text = record { before = λ i below within. absurd (omega arith); after = λ i above. refl }

-- counts one after another
pub iterate-more : (f : List ℕ → List ℕ) (m n : ℕ) (x : List ℕ) → iterate f n (iterate f m x) ≡ iterate f (m + n) x
iterate-more f zero n x = let e : n ≡ 0 + n = omega arith in ap (λ k. iterate f k x) e
iterate-more f (suc m) n x = let e : suc (m + n) ≡ suc m + n = omega arith in iterate-more f m n (f x) ∙ ap (λ k. iterate f k x) e

-- a text of which the first k blocks are done, and the rest at once, as a slice from there gives it
pub counter_mode-from_rest : (image next : List ℕ → List ℕ) → ((b : List ℕ) → length (image b) ≡ 16)
    → (start counter text bytes rest : List ℕ) (k at : ℕ) → at ≡ 16 * k → at ≤ length text → length bytes ≡ length text
    → IsDoneTo image next start text bytes k → counter ≡ iterate next k start
    → rest ≡ counter_mode image next counter (take (length bytes - at) (drop at bytes))
    → take at bytes ++ rest ≡ counter_mode image next start text
counter_mode-from_rest image next sixteen start counter text bytes rest k at from within same done counted is =
    let whole : rest ≡ counter_mode image next counter (drop at bytes) = is ∙ ap (counter_mode image next counter) (take_rest bytes at) in
    let long : length (take at bytes) ≡ at = length-take-le at bytes (omega arith) in
    let left : length (drop at bytes) ≡ length text - at = length-drop at bytes ∙ ap (λ n. n - at) same in
    let size : length rest ≡ length text - at = ap length whole ∙ length-counter_mode image next sixteen counter (drop at bytes) ∙ left in
    counter_mode-from_places image next sixteen start text (take at bytes ++ rest)
    (omega (arith, length-append (take at bytes) rest, long, size, within))
    (λ i lt. elim (cases_lt i at) [
      | inl old ↦
          let in_front : i < length (take at bytes) = omega arith in
          get_or_append_left (take at bytes) rest 0 i in_front ∙ get_or-take at bytes i 0 old ∙ done.before i (omega arith) lt
      | inr here ↦
          let j : ℕ = i - at in
          let in_rest : j < length (drop at bytes) = omega arith in
          let back : at + j ≡ i = omega arith in
          let block : k + j / 16 ≡ i / 16 = omega arith in
          let place : j % 16 ≡ i % 16 = omega arith in
          get_or-append_right (take at bytes) rest at i 0 long here
          ∙ ap (λ l. slice_index l j) whole ∙ slice_index-counter_mode image next sixteen counter (drop at bytes) j in_rest
          ∙ ap₂ bit_xor (get_or-drop at bytes j 0 ∙ ap (slice_index bytes) back ∙ done.after i (omega arith))
          (ap (λ b. slice_index (image b) (j % 16)) (ap (iterate next (j / 16)) counted ∙ iterate-more next k (j / 16) start ∙ ap (λ n. iterate next n start) block)
          ∙ ap (slice_index (image (iterate next (i / 16) start))) place)
    ])

-- a text in two parts, of which the first is of whole blocks
pub counter_mode-append : (image next : List ℕ → List ℕ) → ((b : List ℕ) → length (image b) ≡ 16)
    → (start front rest : List ℕ) (k : ℕ) → length front ≡ 16 * k
    → counter_mode image next start front ++ counter_mode image next (iterate next k start) rest ≡ counter_mode image next start (front ++ rest)
counter_mode-append image next sixteen start front rest k whole =
    let first : List ℕ = counter_mode image next start front in
    let second : List ℕ = counter_mode image next (iterate next k start) rest in
    let long : length first ≡ length front = length-counter_mode image next sixteen start front in
    let left : length second ≡ length rest = length-counter_mode image next sixteen (iterate next k start) rest in
    counter_mode-from_places image next sixteen start (front ++ rest) (first ++ second)
    (omega (arith, length-append first second, length-append front rest, long, left))
    (λ i lt. elim (cases_lt i (16 * k)) [
      | inl old ↦
          let in_first : i < length first = omega arith in
          let in_front : i < length front = omega arith in
          get_or_append_left first second 0 i in_first ∙ slice_index-counter_mode image next sixteen start front i in_front
          ∙ ap (λ x. bit_xor x (slice_index (image (iterate next (i / 16) start)) (i % 16))) (sym (get_or_append_left front rest 0 i in_front))
      | inr here ↦
          let j : ℕ = i - 16 * k in
          let in_rest : j < length rest = omega (arith, length-append front rest) in
          let block : k + j / 16 ≡ i / 16 = omega arith in
          let place : j % 16 ≡ i % 16 = omega arith in
          get_or-append_right first second (16 * k) i 0 (long ∙ whole) here
          ∙ slice_index-counter_mode image next sixteen (iterate next k start) rest j in_rest
          ∙ ap₂ bit_xor (sym (get_or-append_right front rest (16 * k) i 0 whole here))
          (ap (λ b. slice_index (image b) (j % 16)) (iterate-more next k (j / 16) start ∙ ap (λ n. iterate next n start) block)
          ∙ ap (slice_index (image (iterate next (i / 16) start))) place)
    ])

-- an image of n counter blocks, the first of sixteen blocks
pub image_at : (image next : List ℕ → List ℕ) (start : List ℕ) (blocks images rest : List (List ℕ)) (n k : ℕ) → images ≡ map image (take n blocks)
    → k < n → n ≤ 16 → length blocks ≡ 16 → ((i : ℕ) → i < n → get_or blocks i [] ≡ iterate next i start)
    → get_or (images ++ rest) k [] ≡ image (iterate next k start)
image_at image next start blocks images rest n k is lt most sixteen each =
    let few : length (take n blocks) ≡ n = length-take-le n blocks (omega arith) in
    let within : k < length (take n blocks) = omega arith in
    let inside : k < length images = omega (arith, ap length is ∙ length-map (take n blocks) image, few) in
    get_or_append_left images rest [] k inside ∙ ap (λ l. get_or l k []) is ∙ get_or-map image (take n blocks) k [] [] within
    ∙ ap image (get_or-take n blocks k [] lt ∙ each k lt)

-- a number's bytes read at once, as they are read one by one
number_of-4 : (a b c d : ℕ) → from_be_bytes w32 (a ∷ b ∷ c ∷ d ∷ []) ≡ number_of (a ∷ b ∷ c ∷ d ∷ [])
unfolding number_of
number_of-4 a b c d = omega arith

number_of-16 : (l : List ℕ) → length l ≡ 16 → from_be_bytes w128 l ≡ number_of l
unfolding number_of
number_of-16 l h = rw (gathered l 16 h) (omega arith)

-- the block of twelve bytes and the four of a number
abbrev numbered : (ℕ → ℕ) → ℕ → List ℕ
numbered f m =
    f 0 ∷ f 1 ∷ f 2 ∷ f 3 ∷ f 4 ∷ f 5 ∷ f 6 ∷ f 7 ∷ f 8 ∷ f 9 ∷ f 10 ∷ f 11 ∷ to_be_bytes w32 m

number_of-bytes : (m : ℕ) → m < 2 ^ 32 → number_of (to_be_bytes w32 m) ≡ m
number_of-bytes m small = sym (number_of-4 _ _ _ _) ∙ from_be_bytes-to_be_bytes_4 m small

increment-numbered : (f : ℕ → ℕ) (m : ℕ) → m < 2 ^ 32 → increment 4 (numbered f m) ≡ numbered f ((m + 1) % 2 ^ 32)
unfolding increment
increment-numbered f m small = ap (λ n. numbered f ((n + 1) % 2 ^ 32)) (number_of-bytes m small)

iterate-numbered : (f : ℕ → ℕ) (n m : ℕ) → m < 2 ^ 32 → iterate (increment 4) n (numbered f m) ≡ numbered f ((m + n) % 2 ^ 32)
iterate-numbered f zero m small =
    let same : m ≡ (m + zero) % 2 ^ 32 = omega arith in
    ap (λ k. numbered f k) same
iterate-numbered f (suc n) m small =
    let below : (m + 1) % 2 ^ 32 < 2 ^ 32 = omega arith in
    let same : ((m + 1) % 2 ^ 32 + n) % 2 ^ 32 ≡ (m + suc n) % 2 ^ 32 = omega arith in
    ap (iterate (increment 4) n) (increment-numbered f m small) ∙ iterate-numbered f n ((m + 1) % 2 ^ 32) below ∙ ap (λ k. numbered f k) same

-- the block that is some counts after a block, where the last four bytes count
pub counted-4 : (block bytes : List ℕ) (n : ℕ) → length block ≡ 16 → ((k : ℕ) → slice_index block k < 256)
    → bytes ≡ to_be_bytes w32 ((from_be_bytes w32 (slice_index block 12 ∷ slice_index block 13 ∷ slice_index block 14 ∷ slice_index block 15 ∷ []) + n) % 2 ^ 32)
    → slice_index block 0 ∷ slice_index block 1 ∷ slice_index block 2 ∷ slice_index block 3 ∷ slice_index block 4 ∷ slice_index block 5
    ∷ slice_index block 6 ∷ slice_index block 7 ∷ slice_index block 8 ∷ slice_index block 9 ∷ slice_index block 10 ∷ slice_index block 11
    ∷ slice_index bytes 0 ∷ slice_index bytes 1 ∷ slice_index bytes 2 ∷ slice_index bytes 3 ∷ []
    ≡ iterate (increment 4) n block
counted-4 block bytes n long fits is =
    let f : ℕ → ℕ = λ k. slice_index block k in
    let number : ℕ = from_be_bytes w32 (f 12 ∷ f 13 ∷ f 14 ∷ f 15 ∷ []) in
    let small : number < 2 ^ 32 = omega (arith, fits 12, fits 13, fits 14, fits 15) in
    let last : to_be_bytes w32 number ≡ f 12 ∷ f 13 ∷ f 14 ∷ f 15 ∷ [] =
    to_be_bytes-word (f 12) (f 13) (f 14) (f 15) number (fits 12) (fits 13) (fits 14) (fits 15) refl in
    let same : numbered f number ≡ block =
    ap (λ l. f 0 ∷ f 1 ∷ f 2 ∷ f 3 ∷ f 4 ∷ f 5 ∷ f 6 ∷ f 7 ∷ f 8 ∷ f 9 ∷ f 10 ∷ f 11 ∷ l) last ∙ sym (gathered block 16 long) in
    ap (λ l. f 0 ∷ f 1 ∷ f 2 ∷ f 3 ∷ f 4 ∷ f 5 ∷ f 6 ∷ f 7 ∷ f 8 ∷ f 9 ∷ f 10 ∷ f 11
    ∷ slice_index l 0 ∷ slice_index l 1 ∷ slice_index l 2 ∷ slice_index l 3 ∷ []) is
    ∙ sym (iterate-numbered f n number small) ∙ ap (iterate (increment 4) n) same

-- the block after a block, where all bytes count
pub increment-16 : (block : List ℕ) → length block ≡ 16
    → to_be_bytes w128 ((from_be_bytes w128 block + 1) % 2 ^ 128) ≡ increment 16 block
unfolding increment
increment-16 block h = ap (λ n. to_be_bytes w128 ((n + 1) % 2 ^ 128)) (number_of-16 block h)
