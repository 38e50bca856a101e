-- CMAC as the code computes it: block by block.
use Rattle.std.proofs.Common.{◌≡◌, ◌≢◌, ℕ, suc, ◌+◌, ◌-◌, ◌*◌, ◌<◌, ◌≤◌, List, [], ◌∷◌, ◌++◌, length, take, drop, replicate, slice_set, eq-eqb, inl, inr, refl, ap, ◌∙◌, arith}
use Rattle.std.proofs.lemmas.Bool.Decides.{eqb_tells}
use Rattle.std.proofs.lemmas.List.{drop-replicate, drop-drop, length-drop}
use Rattle.aes_lanes.specs.Bytes.{xor_bytes}
use Rattle.siv_mode.specs.Blocks.{zero_block, double, padded_block}
use Rattle.siv_mode.specs.Cmac.{first_subkey, second_subkey, blocks_before_last, last_block, chained}
use Rattle.siv_mode.specs.Private.{cmac_from}

-- a byte put after a string, over the first of some zeros
put_after : (bytes : List ℕ) (x k : ℕ) → slice_set (bytes ++ replicate (suc k) 0) (length bytes) x ≡ bytes ++ x ∷ replicate k 0
put_after [] x k = refl
put_after (b ∷ bytes) x k = ap (λ l. b ∷ l) (put_after bytes x k)

-- a block of zeros that begins with a string and goes on with one bit
pub padded-made : (bytes : List ℕ) → length bytes < 16 → slice_set (bytes ++ drop (length bytes) zero_block) (length bytes) 0x80 ≡ padded_block bytes
unfolding padded_block
padded-made bytes short =
    let count : 16 - length bytes ≡ suc (15 - length bytes) = omega arith in
    let zeros : drop (length bytes) zero_block ≡ replicate (suc (15 - length bytes)) 0 =
    drop-replicate (length bytes) 16 0 ∙ ap (λ n. replicate n 0) count in
    rw zeros (put_after bytes 0x80 (15 - length bytes))

pub last_block-whole : (image : List ℕ → List ℕ) (bytes : List ℕ) → length bytes ≡ 16 → xor_bytes bytes (double (image zero_block)) ≡ last_block image bytes
unfolding last_block first_subkey
last_block-whole image bytes sixteen = rw (eq-eqb (length bytes) 16 sixteen)

pub last_block-short : (image : List ℕ → List ℕ) (bytes : List ℕ) → length bytes ≢ 16 → xor_bytes (padded_block bytes) (double (double (image zero_block))) ≡ last_block image bytes
unfolding last_block first_subkey second_subkey
last_block-short image bytes other = elim (eqb_tells (length bytes) 16) [
  | inl whole ↦ absurd (other whole.1)
  | inr test ↦ rw test.0
]

-- a text of more than one block goes on with its first one
pub cmac_from-more : (image : List ℕ → List ℕ) (x text : List ℕ) → 16 < length text
    → cmac_from image x text ≡ cmac_from image (image (xor_bytes x (take 16 text))) (drop 16 text)
unfolding cmac_from chained
cmac_from-more image x text more =
    let n : ℕ = blocks_before_last (drop 16 text) in
    let count : blocks_before_last text ≡ suc n = omega (arith, length-drop 16 text) in
    let place : 16 * suc n ≡ 16 + 16 * n = omega arith in
    rw (count, place, ← drop-drop (16 * n) 16 text) refl

-- a text of one block
pub cmac_from-one : (image : List ℕ → List ℕ) (x text : List ℕ) → length text ≤ 16
    → image (xor_bytes x (last_block image text)) ≡ cmac_from image x text
unfolding cmac_from chained
cmac_from-one image x text one =
    let none : blocks_before_last text ≡ 0 = omega arith in
    rw none refl
