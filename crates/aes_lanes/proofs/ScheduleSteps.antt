-- The key schedule word by word.
use Rattle.std.proofs.Common.{◌≡◌, ◌≢◌, ℕ, ◌<◌, ◌≤◌, ◌+◌, ◌-◌, ◌*◌, ◌/◌, ◌%◌, ◌^◌, List, [], ◌∷◌, map, slice_index, get_or, bit_or, bit_xor, refl, sym, ap, ◌∙◌, arith, append_assoc, nat_eq, false, zero, suc, length, take, ◌++◌, slice_set, inl, inr}
use Rattle.std.specs.Int.{w32, rotate_left, to_be_bytes}
use Rattle.std.proofs.lemmas.Bool.{eq-eqb, lt-ltb, le-ltb, cases_lt}
use Rattle.std.proofs.lemmas.Bool.Decides.{eqb_tells}
use Rattle.std.proofs.lemmas.List.{get_or-map, get_or-take, take_more, take_more_set, take-append-le, length_push, take_all}
use Rattle.std.proofs.lemmas.List.Concat.{flat_map-append}
use lib.Bits.{or_shifted}
use Rattle.std.proofs.lemmas.List.FromFn.{get_or-map-range_with_len}
use Rattle.std.specs.List.{range_with_len, flat_map}
use Rattle.aes_lanes.specs.declared.schedule.TheConstants.{ROUND_CONSTANTS}
use Rattle.aes_lanes.specs.Field.{xtimes, partial_product, multiply, power}
use Rattle.aes_lanes.specs.Schedule.{rot_word, sub_word, round_constant, schedule_step, word_at, first_words, with_next_word, expanded_key}
use Rattle.aes_lanes.specs.Private.{key_of}
use Rattle.aes_lanes.proofs.WordBytes.{to_be_bytes-word_at}

ROUND_CONSTANTS_are : map (λ b. b * 2 ^ 24 % 2 ^ 32) ROUND_CONSTANTS ≡ map round_constant (range_with_len 1 10)
unfolding xtimes partial_product multiply power round_constant
ROUND_CONSTANTS_are = refl

pub round_constant_at : (j : ℕ) → 1 ≤ j → j ≤ 10 → slice_index ROUND_CONSTANTS (j - 1) * 2 ^ 24 % 2 ^ 32 ≡ round_constant j
round_constant_at j low high =
    let within : j - 1 < 10 = omega arith in
    sym (get_or-map (λ b. b * 2 ^ 24 % 2 ^ 32) ROUND_CONSTANTS (j - 1) 0 0 within)
    ∙ ap (λ t. get_or t (j - 1) 0) ROUND_CONSTANTS_are
    ∙ get_or-map-range_with_len round_constant 1 10 (j - 1) j 0 within (omega arith)

pub rotate_left-word : (n : ℕ) → n < 2 ^ 32 → rotate_left w32 n 8 ≡ rot_word n
unfolding rot_word
rotate_left-word n h =
    let low : n * 2 ^ 8 % 2 ^ 32 ≡ n % 2 ^ 24 * 2 ^ 8 = omega arith in
    let high : n / 2 ^ 24 < 2 ^ 8 = omega arith in
    ap (λ m. bit_or m (n / 2 ^ 24)) low ∙ or_shifted (n % 2 ^ 24) 8 (n / 2 ^ 24) high ∙ ap (λ m. m + n / 2 ^ 24) (sym low)

ne-eqb : (a b : ℕ) → a ≢ b → nat_eq a b ≡ false
ne-eqb a b ne = elim (eqb_tells a b) [ inl same ↦ absurd (ne same.1) | inr other ↦ other.0 ]

-- what is added to a word at the start of a key's length, in the middle of a long key, and elsewhere
pub schedule_step-first : (k i last : ℕ) → i % k ≡ 0
    → schedule_step k i last ≡ bit_xor (sub_word (rot_word last)) (round_constant (i / k))
unfolding schedule_step
schedule_step-first k i last h = rw (eq-eqb (i % k) 0 h) refl

pub schedule_step-middle : (k i last : ℕ) → 6 < k → i % k ≡ 4 → schedule_step k i last ≡ sub_word last
unfolding schedule_step
schedule_step-middle k i last long h = rw (h, lt-ltb 6 k long) refl

pub schedule_step-other : (k i last : ℕ) → i % k ≢ 0 → (6 < k → i % k ≢ 4) → schedule_step k i last ≡ last
unfolding schedule_step
schedule_step-other k i last first middle = elim (cases_lt 6 k) [
  | inl long ↦ rw (ne-eqb (i % k) 0 first, ne-eqb (i % k) 4 (middle long), lt-ltb 6 k long) refl
  | inr short ↦ rw (ne-eqb (i % k) 0 first, le-ltb 6 k short) refl
]

-- one more of the key's own words
pub first_words-more : (bytes words : List ℕ) (i x : ℕ) → i < length words
    → take i words ≡ first_words bytes i → x ≡ word_at bytes i
    → take (i + 1) (slice_set words i x) ≡ first_words bytes (i + 1)
unfolding first_words
first_words-more bytes words i x h before e =
    let next : suc i ≡ i + 1 = omega arith in
    take_more_set words i x h ∙ ap (λ l. l ++ x ∷ []) before ∙ ap (λ y. first_words bytes i ++ y ∷ []) e
    ∙ ap (first_words bytes) next

-- one more word of the schedule
pub expanded_key-more : (k : ℕ) (key words : List ℕ) (i x : ℕ) → 1 ≤ k → k ≤ i → i < length words
    → take i words ≡ expanded_key k key (i - k)
    → x ≡ bit_xor (slice_index words (i - k)) (schedule_step k i (slice_index words (i - 1)))
    → take (i + 1) (slice_set words i x) ≡ expanded_key k key (i + 1 - k)
unfolding expanded_key with_next_word
expanded_key-more k key words i x low from h before e =
    let next : i + 1 - k ≡ suc (i - k) = omega arith in
    let here : k + (i - k) ≡ i = omega arith in
    let back : slice_index (take i words) (i - k) ≡ slice_index words (i - k) = get_or-take i words (i - k) 0 (omega arith) in
    let last : slice_index (take i words) (i - 1) ≡ slice_index words (i - 1) = get_or-take i words (i - 1) 0 (omega arith) in
    take_more_set words i x h
    ∙ ap (λ y. take i words ++ y ∷ []) e
    ∙ rw (next, here, ← before, back, last) refl

pub length-first_words : (bytes : List ℕ) (n : ℕ) → length (first_words bytes n) ≡ n
unfolding first_words
length-first_words bytes zero = refl
length-first_words bytes (suc n) =
    omega (arith, length_push (first_words bytes n) (word_at bytes n), length-first_words bytes n)

pub length-expanded_key : (k : ℕ) (key : List ℕ) (n : ℕ) → length (expanded_key k key n) ≡ k + n
unfolding expanded_key with_next_word
length-expanded_key k key zero = omega (arith, length-first_words key k)
length-expanded_key k key (suc n) =
    let words : List ℕ = expanded_key k key n in
    let x : ℕ = bit_xor (slice_index words (k + n - k)) (schedule_step k (k + n) (slice_index words (k + n - 1))) in
    omega (arith, length_push words x, length-expanded_key k key n)

-- a schedule begins with the key's words
take-expanded_key : (k : ℕ) (key : List ℕ) (n : ℕ) → take k (expanded_key k key n) ≡ first_words key k
unfolding expanded_key with_next_word
take-expanded_key k key zero =
    let all : length (first_words key k) ≤ k = omega (arith, length-first_words key k) in
    take_all k (first_words key k) all
take-expanded_key k key (suc n) =
    let words : List ℕ = expanded_key k key n in
    let long : k ≤ length words = omega (arith, length-expanded_key k key n) in
    take-append-le k words _ long ∙ take-expanded_key k key n

take-next : (bytes : List ℕ) (n m : ℕ) → m ≡ n + 1 → m ≤ length bytes → take m bytes ≡ take n bytes ++ slice_index bytes n ∷ []
take-next bytes n m e h = ap (λ k. take k bytes) e ∙ take_more bytes n 0 (omega arith)

-- four more elements
take-four : (bytes : List ℕ) (i : ℕ) → i + 4 ≤ length bytes
    → take (i + 4) bytes ≡ take i bytes ++ slice_index bytes i ∷ slice_index bytes (i + 1) ∷ slice_index bytes (i + 2) ∷ slice_index bytes (i + 3) ∷ []
take-four bytes i h =
    simp (take-next bytes (i + 3) (i + 4) (omega arith) (omega arith), take-next bytes (i + 2) (i + 3) (omega arith) (omega arith), take-next bytes (i + 1) (i + 2) (omega arith) (omega arith), take-next bytes i (i + 1) refl (omega arith), append_assoc)

-- the bytes of the first words are the first bytes
words_bytes : (bytes : List ℕ) (n : ℕ) → ((k : ℕ) → get_or bytes k 0 < 256) → 4 * n ≤ length bytes
    → flat_map (to_be_bytes w32) (first_words bytes n) ≡ take (4 * n) bytes
unfolding first_words
words_bytes bytes zero fits h = refl
words_bytes bytes (suc n) fits h =
    let more : 4 * suc n ≡ 4 * n + 4 = omega arith in
    let room : 4 * n + 4 ≤ length bytes = omega arith in
    flat_map-append (to_be_bytes w32) (first_words bytes n) (word_at bytes n ∷ [])
    ∙ ap (λ l. l ++ to_be_bytes w32 (word_at bytes n)) (words_bytes bytes n fits (omega arith))
    ∙ ap (λ l. take (4 * n) bytes ++ l) (to_be_bytes-word_at bytes n (word_at bytes n) fits refl)
    ∙ rw (more, take-four bytes (4 * n) room) refl

-- the key from which a schedule was expanded
pub key_of-expanded_key : (k : ℕ) (key : List ℕ) (n : ℕ) → ((i : ℕ) → get_or key i 0 < 256) → length key ≡ 4 * k
    → key_of k (expanded_key k key n) ≡ key
unfolding key_of
key_of-expanded_key k key n fits h =
    ap (flat_map (to_be_bytes w32)) (take-expanded_key k key n)
    ∙ words_bytes key k fits (omega arith) ∙ take_all (4 * k) key (omega arith)
