-- The rounds of PBKDF2.
use Rattle.std.proofs.Common.{◌≡◌, ℕ, suc, ◌+◌, List, [], ◌∷◌, length, replicate, bit_xor, refl, ap, ap₂, ◌∙◌, sym, add-one}
use Rattle.std.specs.Int.Bits.{xor_zero_l}
use Rattle.std.specs.Simd.Lanes.{zip2}
use Rattle.kdf_suite.specs.Hmac.{hmac_sha256}
use Rattle.kdf_suite.specs.Pbkdf2.{pbkdf2_block, pbkdf2_u}

-- zeros add nothing
xor_zeros : (bytes : List ℕ) → zip2 bit_xor (replicate (length bytes) 0) bytes ≡ bytes
xor_zeros [] = refl
xor_zeros (b ∷ bs) = ap₂ ◌∷◌ (xor_zero_l b) (xor_zeros bs)

module _ (pass salt : List ℕ) (number : ℕ) where
  -- after one round the block is U_1
  pub pbkdf2_block-one : (u : List ℕ) → length u ≡ 32 → u ≡ pbkdf2_u pass salt number 1 → u ≡ pbkdf2_block pass salt 1 number
  unfolding pbkdf2_block
  pbkdf2_block-one u long is =
      sym (ap (λ n. zip2 bit_xor (replicate n 0) u) (sym long) ∙ xor_zeros u) ∙ ap (zip2 bit_xor (replicate 32 0)) is

  -- the next U
  pub pbkdf2_u-more : (c : ℕ) (u next : List ℕ) → u ≡ pbkdf2_u pass salt number c → next ≡ hmac_sha256 pass u → next ≡ pbkdf2_u pass salt number (c + 1)
  unfolding pbkdf2_u
  pbkdf2_u-more c u next was is = rw (add-one, ← was) is

  -- it is added to those before
  pub pbkdf2_block-more : (c : ℕ) (sum u more : List ℕ) → sum ≡ pbkdf2_block pass salt c number → u ≡ pbkdf2_u pass salt number (c + 1) → more ≡ zip2 bit_xor sum u → more ≡ pbkdf2_block pass salt (c + 1) number
  unfolding pbkdf2_block
  pbkdf2_block-more c sum u more was last is =
      let last' : u ≡ pbkdf2_u pass salt number (suc c) = rw add-one at last in
      rw (add-one, ← was, ← last') is
