-- Words of private contracts: GHASH that goes on from a value, and powers of a hash subkey.
use Rattle.std.specs.Prelude.{ℕ, zero, suc, List, fold, bit_xor}
use Rattle.gcm_mode.specs.Field.{product}

-- GHASH under the hash subkey h, going on from y
unfoldable pub ghash_from : ℕ → ℕ → List ℕ → ℕ
ghash_from h y xs = fold (λ y x. product (bit_xor y x) h) y xs

-- the power n + 1 of h
unfoldable pub power : ℕ → ℕ → ℕ
power h zero = h
power h (suc n) = product (power h n) h
