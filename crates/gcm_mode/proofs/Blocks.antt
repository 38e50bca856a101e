-- Byte strings as blocks.
use Rattle.std.proofs.Common.{◌≡◌, ℕ, zero, suc, ◌+◌, ◌-◌, ◌/◌, ◌<◌, ◌≤◌, min, List, ◌∷◌, ◌++◌, length, map, replicate, ◌⊎◌, inl, inr, get_or, take, drop, refl, sym, ap, ap₂, ◌∙◌, arith}
use Rattle.std.proofs.lemmas.List.{take_min, drop_min, length-drop, get_or_append_left, get_or-append_right, get_or-drop, get_or-replicate, get_or_past}
use Rattle.std.proofs.lemmas.Bool.{cases_lt}
use Rattle.std.proofs.Math.Nat.{min_comm}
use Rattle.std.specs.Int.{sum_through, byte_worth}
use Rattle.std.specs.Simd.{first_chunks}
use Rattle.gcm_mode.specs.Hash.{block_number, blocks_of}

sum_through-same : (f g : ℕ → ℕ) (k : ℕ) → ((i : ℕ) → i < k + 1 → f i ≡ g i) → sum_through f k ≡ sum_through g k
sum_through-same f g zero h = h 0 (omega arith)
sum_through-same f g (suc k) h = ap₂ ◌+◌ (sum_through-same f g k (λ i l. h i (omega arith))) (h (suc k) (omega arith))

-- a block is made of the sixteen bytes at its front
pub block_number-same : (xs ys : List ℕ) → ((i : ℕ) → i < 16 → get_or xs i 0 ≡ get_or ys i 0) → block_number xs ≡ block_number ys
unfolding block_number
block_number-same xs ys h =
    sum_through-same (λ i. byte_worth (15 - i) (get_or xs i 0)) (λ i. byte_worth (15 - i) (get_or ys i 0)) 15 (λ i l. ap (byte_worth (15 - i)) (h i (omega arith)))

-- a string that has not ended gives one more block
pub blocks_of-more : (bytes : List ℕ) (n : ℕ) → n ≡ min (length bytes) 16 → 0 < length bytes → blocks_of bytes ≡ block_number (take n bytes) ∷ blocks_of (drop n bytes)
unfolding blocks_of
blocks_of-more bytes n e h =
    let count : (length bytes + 15) / 16 ≡ suc ((length (drop 16 bytes) + 15) / 16) = omega (arith, length-drop 16 bytes) in
    let size : n ≡ min 16 (length bytes) = e ∙ min_comm (length bytes) 16 in
    rw (size, take_min, drop_min) (ap (λ k. map block_number (first_chunks 16 k bytes)) count)

-- zeros that follow a short string change no block
pub block_number-padded : (bytes : List ℕ) → length bytes ≤ 16 → block_number (bytes ++ drop (length bytes) (replicate 16 0)) ≡ block_number bytes
block_number-padded bytes h =
    block_number-same (bytes ++ drop (length bytes) (replicate 16 0)) bytes (λ i l. zero_beyond i l (cases_lt i (length bytes)))
  where
    zero_beyond : (i : ℕ) → i < 16 → (i < length bytes) ⊎ (length bytes ≤ i) → get_or (bytes ++ drop (length bytes) (replicate 16 0)) i 0 ≡ get_or bytes i 0
    zero_beyond i l (inl within) = get_or_append_left bytes (drop (length bytes) (replicate 16 0)) 0 i within
    zero_beyond i l (inr past) =
        get_or-append_right bytes (drop (length bytes) (replicate 16 0)) (length bytes) i 0 refl past
        ∙ get_or-drop (length bytes) (replicate 16 0) (i - length bytes) 0
        ∙ get_or-replicate 16 (length bytes + (i - length bytes)) 0 0 (omega arith)
        ∙ sym (get_or_past bytes i 0 past)
