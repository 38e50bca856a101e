-- The rounds of Salsa20 on the diagonals of a block.
use Rattle.std.proofs.Common.{◌≡◌, ℕ, List, [], ◌∷◌, ◌++◌, refl}
use Rattle.std.specs.Simd.Lanes.{pick_l}
use Rattle.kdf_suite.specs.Diagonals.{diagonals_of, quartered, words_of}
use Rattle.kdf_suite.specs.Salsa.{column_round, double_rounds, quarter_round, row_round}
use Rattle.kdf_suite.specs.declared.salsa.Diagonals.{Diagonals}

-- the places of a diagonal in another order
abbrev moved : List ℕ → List ℕ → List ℕ
moved places v = pick_l 0 (v ++ v) places

abbrev next : List ℕ → List ℕ
next v = moved (1 ∷ 2 ∷ 3 ∷ 0 ∷ []) v

abbrev second_next : List ℕ → List ℕ
second_next v = moved (2 ∷ 3 ∷ 0 ∷ 1 ∷ []) v

abbrev third_next : List ℕ → List ℕ
third_next v = moved (3 ∷ 0 ∷ 1 ∷ 2 ∷ []) v

-- the columns' diagonals as the rows', and back
abbrev pub crossed : Diagonals → Diagonals
crossed s = record { first = s.first; second = next s.fourth; third = second_next s.third; fourth = third_next s.second }

pub columns : (x : List ℕ) → quartered (diagonals_of x) ≡ diagonals_of (column_round x)
unfolding quartered column_round quarter_round
columns x = refl

pub rows : (x : List ℕ) → crossed (quartered (crossed (diagonals_of x))) ≡ diagonals_of (row_round x)
unfolding quartered row_round quarter_round
rows x = refl

pub words : (x : List ℕ) → words_of (diagonals_of (double_rounds 4 x)) ≡ double_rounds 4 x
unfolding double_rounds row_round
words x = refl
