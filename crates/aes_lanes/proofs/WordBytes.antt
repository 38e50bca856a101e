-- The bytes of a word, the first of them highest.
use Rattle.std.proofs.Common.{◌≡◌, ℕ, zero, suc, ◌<◌, ◌+◌, ◌*◌, List, [], ◌∷◌, get_or, refl, lit<}
use Rattle.std.proofs.lemmas.Nat.{be_bytes_4}
use Rattle.std.specs.Int.{w32, to_be_bytes, from_be_bytes}
use Rattle.aes_lanes.specs.Schedule.{word_at}

-- four bytes, of which each is below 256
each_fits : (a b c d : ℕ) → a < 256 → b < 256 → c < 256 → d < 256 → (k : ℕ) → get_or (a ∷ b ∷ c ∷ d ∷ []) k 0 < 256
each_fits a b c d ha hb hc hd zero = ha
each_fits a b c d ha hb hc hd (suc zero) = hb
each_fits a b c d ha hb hc hd (suc (suc zero)) = hc
each_fits a b c d ha hb hc hd (suc (suc (suc zero))) = hd
each_fits a b c d ha hb hc hd (suc (suc (suc (suc k)))) = lit< tt

-- the bytes of a word that was made of four
pub to_be_bytes-word : (a b c d n : ℕ) → a < 256 → b < 256 → c < 256 → d < 256
    → n ≡ from_be_bytes w32 (a ∷ b ∷ c ∷ d ∷ []) → to_be_bytes w32 n ≡ a ∷ b ∷ c ∷ d ∷ []
to_be_bytes-word a b c d n ha hb hc hd e = be_bytes_4 (a ∷ b ∷ c ∷ d ∷ []) n refl (each_fits a b c d ha hb hc hd) e

-- the bytes of a word of a list
pub to_be_bytes-word_at : (l : List ℕ) (i n : ℕ) → ((k : ℕ) → get_or l k 0 < 256) → n ≡ word_at l i
    → to_be_bytes w32 n ≡ get_or l (4 * i) 0 ∷ get_or l (4 * i + 1) 0 ∷ get_or l (4 * i + 2) 0 ∷ get_or l (4 * i + 3) 0 ∷ []
to_be_bytes-word_at l i n fits e =
    to_be_bytes-word (get_or l (4 * i) 0) (get_or l (4 * i + 1) 0) (get_or l (4 * i + 2) 0) (get_or l (4 * i + 3) 0) n
    (fits (4 * i)) (fits (4 * i + 1)) (fits (4 * i + 2)) (fits (4 * i + 3)) e
