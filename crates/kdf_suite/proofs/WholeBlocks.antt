-- Blocks as their diagonals, and as their words.
use Rattle.std.proofs.Common.{◌≡◌, ℕ, List, length, get_or, map, refl}
use Rattle.std.proofs.lemmas.List.FromFn.{fill_by_all}
use Rattle.std.specs.List.{range_with_len}
use Rattle.std.specs.Simd.Lanes.{chunk, put_chunk, zip2}
use Rattle.kdf_suite.specs.Diagonals.{IsWhole, combined, in_order, spread, words_of}
use Rattle.kdf_suite.specs.declared.salsa.Diagonals.{Diagonals}

-- sixteen words, each by its place
sixteen : (xs : List ℕ) → length xs ≡ 16 → xs ≡ map (λ i. get_or xs i 0) (range_with_len 0 16)
sixteen xs long = fill_by_all (λ i. get_or xs i 0) xs 16 0 long (λ k below. refl)

module _ (f : ℕ → ℕ → ℕ) (s t : Diagonals) where
  pub IsWhole-combined : IsWhole s → IsWhole t → IsWhole (combined f s t)
  IsWhole-combined one other = rw (one, other) refl

  pub words_of-combined : IsWhole s → IsWhole t → words_of (combined f s t) ≡ zip2 f (words_of s) (words_of t)
  words_of-combined one other = rw (one, other) refl

-- what is read of a block that has its diagonals one after another
abbrev pub read : List ℕ → Diagonals
read block = record { first = chunk 0 4 block; second = chunk 4 4 block; third = chunk 8 4 block; fourth = chunk 12 4 block }

pub IsWhole-read : (block : List ℕ) → length block ≡ 16 → IsWhole (read block)
IsWhole-read block long = rw (sixteen block long) refl

pub words_of-read : (block : List ℕ) → length block ≡ 16 → words_of (read block) ≡ in_order 16 block
unfolding spread
words_of-read block long = rw (sixteen block long) refl

-- what is written over it
abbrev pub written : Diagonals → List ℕ → List ℕ
written s block = put_chunk 12 (put_chunk 8 (put_chunk 4 (put_chunk 0 block s.first) s.second) s.third) s.fourth

pub in_order-written : (s : Diagonals) (block : List ℕ) → IsWhole s → length block ≡ 16 → in_order 16 (written s block) ≡ words_of s
unfolding spread
in_order-written s block whole long = rw (whole, sixteen block long) refl
