-- Lists made of numbered blocks, as HKDF, PBKDF2 and scrypt make them.
use Rattle.std.specs.Prelude.{ℕ, zero, suc, List, [], ◌++◌}

-- B(0), B(1), …, B(n - 1), one after another
unfoldable pub joined : (ℕ → List ℕ) → ℕ → List ℕ
joined block zero = []
joined block (suc n) = joined block n ++ block n

-- T(1), T(2), …, T(n), one after another
abbrev pub joined_from_one : (ℕ → List ℕ) → ℕ → List ℕ
joined_from_one block n = joined (λ k. block (suc k)) n
