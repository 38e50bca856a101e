-- The bytes of a generator's words, drawn word by word.
use Rattle.std.proofs.Common.{◌≡◌, ℕ, zero, suc, ◌+◌, ◌/◌, ◌%◌, ◌<◌, ◌≤◌, List, [], ◌∷◌, length, drop, get_or, Some, refl, sym, ◌∙◌, ap, arith, add-one, drop-cons}
use Rattle.std.specs.Int.{w32, to_le_bytes}
use Rattle.std.proofs.lemmas.List.{drop_all}
use Rattle.rand_core.specs.Stream.{Stream, next_u32, after, u32_call}
use Rattle.port_model.specs.Draws.{ByteStream, bytes_then, Draws}
use Rattle.port_model.specs.Words.{bytes_of_words, left_of_words}

-- the first word's bytes, and those of the words after it
word_first : (s : Stream) (place : ℕ) → bytes_of_words s place ≡ bytes_then (to_le_bytes w32 (s.u32_after [])) (bytes_of_words (after u32_call s)) place
word_first s zero = refl
word_first s (suc zero) = refl
word_first s (suc (suc zero)) = refl
word_first s (suc (suc (suc zero))) = refl
word_first s (suc (suc (suc (suc n)))) =
    let word : suc (suc (suc (suc n))) / 4 ≡ suc (n / 4) = omega arith in
    let byte : suc (suc (suc (suc n))) % 4 ≡ n % 4 = omega arith in
    rw (word, byte) refl

-- a word that is taken where no byte of the last one is left
pub word_taken : (last given word : ℕ) (s t : Stream) → 4 ≤ given → (word, t) ≡ next_u32 s
    → Draws (Some (left_of_words last given s)) (Some (left_of_words word 0 t)) []
unfolding next_u32
word_taken last given word s t used e place =
    let none : drop given (to_le_bytes w32 last) ≡ [] = drop_all given (to_le_bytes w32 last) used in
    let first : word ≡ s.u32_after [] = ap (λ (p : ℕ × Stream). p.0) e in
    let rest : t ≡ after u32_call s = ap (λ (p : ℕ × Stream). p.1) e in
    ap (λ (bytes : List ℕ). bytes_then bytes (bytes_of_words s) place) none
    ∙ word_first s place
    ∙ ap (λ (w : ℕ). left_of_words w 0 (after u32_call s) place) (sym first)
    ∙ ap (λ (u : Stream). left_of_words word 0 u place) (sym rest)

one_byte : (byte : ℕ) (bytes : List ℕ) (rest : ByteStream) (place : ℕ) → bytes_then (byte ∷ bytes) rest place ≡ bytes_then (byte ∷ []) (bytes_then bytes rest) place
one_byte byte bytes rest zero = refl
one_byte byte bytes rest (suc place) = refl

-- a byte that is taken of a word
pub byte_taken : (word : List ℕ) (given : ℕ) (rest : ByteStream) → given < length word
    → Draws (Some (bytes_then (drop given word) rest)) (Some (bytes_then (drop (given + 1) word) rest)) (get_or word given 0 ∷ [])
byte_taken word given rest within place = rw (drop-cons word given 0 within, add-one) (one_byte (get_or word given 0) (drop (suc given) word) rest place)
