-- The table of ROMix, a row at a time.
use Rattle.std.proofs.Common.{◌≡◌, ℕ, ◌+◌, ◌*◌, ◌%◌, ◌<◌, ◌≤◌, List, [], ◌++◌, length, take, drop, ap, ◌∙◌, inl, inr, arith}
use Rattle.std.proofs.Math.Nat.{mul-le-mul_left}
use Rattle.std.proofs.lemmas.Bool.{cases_lt}
use Rattle.std.proofs.lemmas.List.{drop-append-le, drop_at, length-append, length-drop, length-take, take-append-le, take_all}
use Rattle.kdf_suite.specs.Diagonals.{in_order}
use Rattle.kdf_suite.specs.RoMix.{mixed_times}
use Rattle.kdf_suite.specs.Table.{IsTable}

module _ (r : ℕ) (x : List ℕ) where
  -- there is no row
  pub IsTable-none : (table : List ℕ) → table ≡ [] → IsTable r x 0 table
  IsTable-none table is = record { long = ap length is ∙ omega arith; rows = λ i h. absurd (omega arith) }

  -- a row before the last
  earlier : (n : ℕ) (table row : List ℕ) (i : ℕ) → i < n → IsTable r x n table → in_order (32 * r) (take (32 * r) (drop (32 * r * i) (table ++ row))) ≡ mixed_times r x i
  earlier n table row i less all =
      let fits = mul-le-mul_left {m = i + 1} {n = n} (32 * r) (omega arith) in
      let begins : 32 * r * i ≤ length table = omega (arith, all.long, fits) in
      let ends : 32 * r ≤ length (drop (32 * r * i) table) = simp length-drop (omega (arith, all.long, fits)) in
      ap (in_order (32 * r))
      (ap (take (32 * r)) (drop-append-le (32 * r * i) table row begins)
      ∙ take-append-le (32 * r) (drop (32 * r * i) table) row ends)
      ∙ all.rows i less

  -- one more row
  pub IsTable-more : (n : ℕ) (table row : List ℕ) → length row ≡ 32 * r → in_order (32 * r) row ≡ mixed_times r x n → IsTable r x n table → IsTable r x (n + 1) (table ++ row)
  IsTable-more n table row size is all = record {
    long = simp length-append (omega (arith, all.long));
    rows = λ i h. elim (cases_lt i n) [
      | inl less ↦ earlier n table row i less all
      | inr more ↦ (let last : i ≡ n = omega arith in rw last (ap (in_order (32 * r)) (ap (take (32 * r)) (drop_at table row (32 * r * n) all.long) ∙ take_all (32 * r) row (omega (arith, size))) ∙ is))
    ];
  }

  -- the row that a turn mixes in
  pub row_at : (n place now size at : ℕ) (table : List ℕ) → IsTable r x n table → place ≡ now % n → place < n → size ≡ 32 * r → at ≡ 32 * r * place → in_order (32 * r) (take size (drop at table)) ≡ mixed_times r x (now % n)
  row_at n place now size at table all is within size_is at_is =
      rw (size_is, at_is) (all.rows place within ∙ ap (mixed_times r x) is)

  -- it is as long as each
  pub length-row : (n place size at : ℕ) (table : List ℕ) → IsTable r x n table → place < n → size ≡ 32 * r → at ≡ 32 * r * place → length (take size (drop at table)) ≡ 32 * r
  length-row n place size at table all within size_is at_is =
      let fits = mul-le-mul_left {m = place + 1} {n = n} (32 * r) (omega arith) in
      rw (size_is, at_is) (simp (length-take, length-drop) (omega (arith, all.long, fits)))
