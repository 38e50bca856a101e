-- A counter block as a vector of four words, each read from its bytes, the lowest first.
use Rattle.std.proofs.Common.{◌≡◌, ℕ, zero, suc, ◌<◌, ◌+◌, ◌-◌, ◌*◌, ◌/◌, ◌%◌, ◌^◌, List, [], ◌∷◌, ◌++◌, length, slice_index, refl, ap, ap₂, ◌∙◌, arith, lit<}
use Rattle.std.specs.Simd.Lanes.{digits_l, number_l, pick_l, zip2}
use Rattle.std.specs.Int.{w32, to_be_bytes, from_be_bytes, from_le_bytes}
use Rattle.std.specs.Fn.{iterate}
use Rattle.std.proofs.lemmas.Simd.{pick_l_left}
use Rattle.aes_lanes.specs.Counter.{increment}
use Rattle.aes_lanes.proofs.CounterSteps.{counted-4}

digit : (x rest n : ℕ) → x < 256 → digits_l 256 (suc n) (x + 256 * rest) ≡ x ∷ digits_l 256 n rest
digit x rest n small =
    let first : (x + 256 * rest) % 256 ≡ x = omega arith in
    let others : (x + 256 * rest) / 256 ≡ rest = omega arith in
    ap₂ (λ y r. y ∷ digits_l 256 n r) first others

-- the bytes of the first word, and then those of the rest
word_digits : (a b c d rest n : ℕ) → a < 256 → b < 256 → c < 256 → d < 256
    → digits_l 256 (suc (suc (suc (suc n)))) (from_le_bytes w32 (a ∷ b ∷ c ∷ d ∷ []) + 2 ^ 32 * rest) ≡ a ∷ b ∷ c ∷ d ∷ digits_l 256 n rest
word_digits a b c d rest n fits_a fits_b fits_c fits_d =
    let whole : from_le_bytes w32 (a ∷ b ∷ c ∷ d ∷ []) + 2 ^ 32 * rest ≡ a + 256 * (b + 256 * (c + 256 * (d + 256 * rest))) = omega arith in
    ap (digits_l 256 (suc (suc (suc (suc n))))) whole
    ∙ digit a (b + 256 * (c + 256 * (d + 256 * rest))) (suc (suc (suc n))) fits_a
    ∙ ap (λ l. a ∷ l) (digit b (c + 256 * (d + 256 * rest)) (suc (suc n)) fits_b
    ∙ ap (λ l. b ∷ l) (digit c (d + 256 * rest) (suc n) fits_c
    ∙ ap (λ l. c ∷ l) (digit d rest n fits_d)))

-- three words of a block and one of other bytes
pub words_bytes : (f g : ℕ → ℕ) (w0 w1 w2 w3 : ℕ) → ((k : ℕ) → f k < 256) → ((k : ℕ) → g k < 256)
    → w0 ≡ from_le_bytes w32 (f 0 ∷ f 1 ∷ f 2 ∷ f 3 ∷ []) → w1 ≡ from_le_bytes w32 (f 4 ∷ f 5 ∷ f 6 ∷ f 7 ∷ [])
    → w2 ≡ from_le_bytes w32 (f 8 ∷ f 9 ∷ f 10 ∷ f 11 ∷ []) → w3 ≡ from_le_bytes w32 (g 0 ∷ g 1 ∷ g 2 ∷ g 3 ∷ [])
    → digits_l 256 16 (number_l (2 ^ 32) (w0 ∷ w1 ∷ w2 ∷ w3 ∷ []))
    ≡ f 0 ∷ f 1 ∷ f 2 ∷ f 3 ∷ f 4 ∷ f 5 ∷ f 6 ∷ f 7 ∷ f 8 ∷ f 9 ∷ f 10 ∷ f 11 ∷ g 0 ∷ g 1 ∷ g 2 ∷ g 3 ∷ []
words_bytes f g w0 w1 w2 w3 fits_f fits_g e0 e1 e2 e3 =
    let third : ℕ = w3 + 2 ^ 32 * 0 in
    let second : ℕ = w2 + 2 ^ 32 * third in
    let first : ℕ = w1 + 2 ^ 32 * second in
    ap (λ w. digits_l 256 16 (w + 2 ^ 32 * first)) e0 ∙ word_digits (f 0) (f 1) (f 2) (f 3) first 12 (fits_f 0) (fits_f 1) (fits_f 2) (fits_f 3)
    ∙ ap (λ l. f 0 ∷ f 1 ∷ f 2 ∷ f 3 ∷ l)
    (ap (λ w. digits_l 256 12 (w + 2 ^ 32 * second)) e1 ∙ word_digits (f 4) (f 5) (f 6) (f 7) second 8 (fits_f 4) (fits_f 5) (fits_f 6) (fits_f 7)
    ∙ ap (λ l. f 4 ∷ f 5 ∷ f 6 ∷ f 7 ∷ l)
    (ap (λ w. digits_l 256 8 (w + 2 ^ 32 * third)) e2 ∙ word_digits (f 8) (f 9) (f 10) (f 11) third 4 (fits_f 8) (fits_f 9) (fits_f 10) (fits_f 11)
    ∙ ap (λ l. f 8 ∷ f 9 ∷ f 10 ∷ f 11 ∷ l)
    (ap (λ w. digits_l 256 4 (w + 2 ^ 32 * 0)) e3 ∙ word_digits (g 0) (g 1) (g 2) (g 3) 0 0 (fits_g 0) (fits_g 1) (fits_g 2) (fits_g 3))))

-- the bytes of a number
pub to_be_bytes-fits : (bytes : List ℕ) (m : ℕ) → bytes ≡ to_be_bytes w32 m → (k : ℕ) → slice_index bytes k < 256
to_be_bytes-fits bytes m is k = rw is (each k) where
  each : (k : ℕ) → slice_index (to_be_bytes w32 m) k < 256
  each zero = omega arith
  each (suc zero) = omega arith
  each (suc (suc zero)) = omega arith
  each (suc (suc (suc zero))) = omega arith
  each (suc (suc (suc (suc k)))) = lit< tt

-- a number in words, of which the first is made of four bytes
word_first : (x rest n : ℕ) → x < 2 ^ 32 → digits_l (2 ^ 32) (suc n) (x + 2 ^ 32 * rest) ≡ x ∷ digits_l (2 ^ 32) n rest
word_first x rest n small =
    let first : (x + 2 ^ 32 * rest) % 2 ^ 32 ≡ x = omega (arith, small) in
    let others : (x + 2 ^ 32 * rest) / 2 ^ 32 ≡ rest = omega (arith, small) in
    ap₂ (λ y r. y ∷ digits_l (2 ^ 32) n r) first others

word_of_bytes : (a b c d rest n : ℕ) → a < 256 → b < 256 → c < 256 → d < 256
    → digits_l (2 ^ 32) (suc n) (a + 256 * (b + 256 * (c + 256 * (d + 256 * rest)))) ≡ from_le_bytes w32 (a ∷ b ∷ c ∷ d ∷ []) ∷ digits_l (2 ^ 32) n rest
word_of_bytes a b c d rest n fits_a fits_b fits_c fits_d =
    let word : ℕ = from_le_bytes w32 (a ∷ b ∷ c ∷ d ∷ []) in
    let whole : a + 256 * (b + 256 * (c + 256 * (d + 256 * rest))) ≡ word + 2 ^ 32 * rest = omega arith in
    let small : word < 2 ^ 32 = omega (arith, fits_a, fits_b, fits_c, fits_d) in
    ap (digits_l (2 ^ 32) (suc n)) whole ∙ word_first word rest n small

-- twelve bytes and four others as words
bytes_words : (f g : ℕ → ℕ) → ((k : ℕ) → f k < 256) → ((k : ℕ) → g k < 256)
    → digits_l (2 ^ 32) 4 (number_l 256 (f 0 ∷ f 1 ∷ f 2 ∷ f 3 ∷ f 4 ∷ f 5 ∷ f 6 ∷ f 7 ∷ f 8 ∷ f 9 ∷ f 10 ∷ f 11 ∷ g 0 ∷ g 1 ∷ g 2 ∷ g 3 ∷ []))
    ≡ from_le_bytes w32 (f 0 ∷ f 1 ∷ f 2 ∷ f 3 ∷ []) ∷ from_le_bytes w32 (f 4 ∷ f 5 ∷ f 6 ∷ f 7 ∷ []) ∷ from_le_bytes w32 (f 8 ∷ f 9 ∷ f 10 ∷ f 11 ∷ [])
    ∷ from_le_bytes w32 (g 0 ∷ g 1 ∷ g 2 ∷ g 3 ∷ []) ∷ []
bytes_words f g fits_f fits_g =
    let third : ℕ = number_l 256 (g 0 ∷ g 1 ∷ g 2 ∷ g 3 ∷ []) in
    let second : ℕ = number_l 256 (f 8 ∷ f 9 ∷ f 10 ∷ f 11 ∷ g 0 ∷ g 1 ∷ g 2 ∷ g 3 ∷ []) in
    let first : ℕ = number_l 256 (f 4 ∷ f 5 ∷ f 6 ∷ f 7 ∷ f 8 ∷ f 9 ∷ f 10 ∷ f 11 ∷ g 0 ∷ g 1 ∷ g 2 ∷ g 3 ∷ []) in
    word_of_bytes (f 0) (f 1) (f 2) (f 3) first 3 (fits_f 0) (fits_f 1) (fits_f 2) (fits_f 3)
    ∙ ap (λ l. from_le_bytes w32 (f 0 ∷ f 1 ∷ f 2 ∷ f 3 ∷ []) ∷ l) (word_of_bytes (f 4) (f 5) (f 6) (f 7) second 2 (fits_f 4) (fits_f 5) (fits_f 6) (fits_f 7)
    ∙ ap (λ l. from_le_bytes w32 (f 4 ∷ f 5 ∷ f 6 ∷ f 7 ∷ []) ∷ l) (word_of_bytes (f 8) (f 9) (f 10) (f 11) third 1 (fits_f 8) (fits_f 9) (fits_f 10) (fits_f 11)
    ∙ ap (λ l. from_le_bytes w32 (f 8 ∷ f 9 ∷ f 10 ∷ f 11 ∷ []) ∷ l) (word_of_bytes (g 0) (g 1) (g 2) (g 3) 0 0 (fits_g 0) (fits_g 1) (fits_g 2) (fits_g 3))))

-- a word that fits stays the same when 0 is added
same_word : (a b c d : ℕ) → a < 256 → b < 256 → c < 256 → d < 256
    → (from_le_bytes w32 (a ∷ b ∷ c ∷ d ∷ []) + 0) % 2 ^ 32 ≡ from_le_bytes w32 (a ∷ b ∷ c ∷ d ∷ [])
same_word a b c d fits_a fits_b fits_c fits_d = omega (arith, fits_a, fits_b, fits_c, fits_d)

-- the bytes of a word, read from the last on
turned_word : (m : ℕ) → m < 2 ^ 32
    → m ≡ from_le_bytes w32 (slice_index (to_be_bytes w32 m) 3 ∷ slice_index (to_be_bytes w32 m) 2 ∷ slice_index (to_be_bytes w32 m) 1 ∷ slice_index (to_be_bytes w32 m) 0 ∷ [])
turned_word m small = omega (arith, small)

-- the order of bytes in which the last four are turned
abbrev pub turned : List ℕ
turned = 0 ∷ 1 ∷ 2 ∷ 3 ∷ 4 ∷ 5 ∷ 6 ∷ 7 ∷ 8 ∷ 9 ∷ 10 ∷ 11 ∷ 15 ∷ 14 ∷ 13 ∷ 12 ∷ []

abbrev in_turn : List ℕ → List ℕ
in_turn v = pick_l 0 (v ++ v) turned

abbrev add32 : ℕ → ℕ → ℕ
add32 x y = (x + y) % 2 ^ 32

-- a counter block to whose last word, turned, a count is added
pub counted_words : (block : List ℕ) (n : ℕ) → length block ≡ 16 → ((k : ℕ) → slice_index block k < 256)
    → in_turn (digits_l 256 16 (number_l (2 ^ 32) (zip2 add32 (digits_l (2 ^ 32) 4 (number_l 256 (in_turn block))) (0 ∷ 0 ∷ 0 ∷ n ∷ []))))
    ≡ iterate (increment 4) n block
counted_words block n long fits =
    let f : ℕ → ℕ = λ k. slice_index block k in
    let last : ℕ → ℕ = λ k. slice_index block (15 - k) in
    let w0 : ℕ = from_le_bytes w32 (f 0 ∷ f 1 ∷ f 2 ∷ f 3 ∷ []) in
    let w1 : ℕ = from_le_bytes w32 (f 4 ∷ f 5 ∷ f 6 ∷ f 7 ∷ []) in
    let w2 : ℕ = from_le_bytes w32 (f 8 ∷ f 9 ∷ f 10 ∷ f 11 ∷ []) in
    let number : ℕ = from_be_bytes w32 (f 12 ∷ f 13 ∷ f 14 ∷ f 15 ∷ []) in
    let count : ℕ = (number + n) % 2 ^ 32 in
    let bytes : List ℕ = to_be_bytes w32 count in
    let small : count < 2 ^ 32 = omega arith in
    let same_number : from_le_bytes w32 (f 15 ∷ f 14 ∷ f 13 ∷ f 12 ∷ []) ≡ number = omega arith in
    let words : zip2 add32 (digits_l (2 ^ 32) 4 (number_l 256 (in_turn block))) (0 ∷ 0 ∷ 0 ∷ n ∷ []) ≡ w0 ∷ w1 ∷ w2 ∷ count ∷ [] =
    ap (λ l. zip2 add32 (digits_l (2 ^ 32) 4 (number_l 256 l)) (0 ∷ 0 ∷ 0 ∷ n ∷ [])) (pick_l_left 0 block block 16 turned long tt)
    ∙ ap (λ l. zip2 add32 l (0 ∷ 0 ∷ 0 ∷ n ∷ [])) (bytes_words f last fits (λ k. fits (15 - k)))
    ∙ ap₂ ◌∷◌ (same_word (f 0) (f 1) (f 2) (f 3) (fits 0) (fits 1) (fits 2) (fits 3))
    (ap₂ ◌∷◌ (same_word (f 4) (f 5) (f 6) (f 7) (fits 4) (fits 5) (fits 6) (fits 7))
    (ap₂ ◌∷◌ (same_word (f 8) (f 9) (f 10) (f 11) (fits 8) (fits 9) (fits 10) (fits 11))
    (ap (λ w. (w + n) % 2 ^ 32 ∷ []) same_number))) in
    ap (λ l. in_turn (digits_l 256 16 (number_l (2 ^ 32) l))) words
    ∙ ap in_turn (words_bytes f (λ k. slice_index bytes (3 - k)) w0 w1 w2 count fits (λ k. to_be_bytes-fits bytes count refl (3 - k)) refl refl refl (turned_word count small))
    ∙ counted-4 block bytes n long fits refl
