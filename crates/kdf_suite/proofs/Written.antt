-- A block written over a block of others.
use Rattle.std.proofs.Common.{◌≡◌, ◌≢◌, ℕ, ◌+◌, ◌*◌, ◌≤◌, List, ◌++◌, length, take, drop, ap, ◌∙◌, sym, inl, inr, arith}
use Rattle.std.proofs.lemmas.Bool.{cases_lt}
use Rattle.std.proofs.lemmas.List.{drop-take, drop_at, length-take-le, take_at}
use Rattle.std.proofs.lemmas.Slice.{drop-put_mid, take-put_mid_below}
use Rattle.kdf_suite.specs.RoMix.{block_at}
use borrow.Rule.Slice.PartMut.{put_mid}

module _ (place n : ℕ) (words xs : List ℕ) (within : 16 * place + 16 ≤ length xs) (size : n ≡ 16) (long : length words ≡ 16) where
  -- the blocks with these words in the place of one of them
  abbrev now : List ℕ
  now = put_mid (16 * place) n xs words

  pub block_at-written : block_at now place ≡ words
  block_at-written =
      ap (take 16) (drop_at (take (16 * place) xs) (words ++ drop n (drop (16 * place) xs)) (16 * place) (length-take-le (16 * place) xs (omega arith)))
      ∙ take_at words (drop n (drop (16 * place) xs)) 16 long

  pub block_at-written_other : (k : ℕ) → k ≢ place → block_at now k ≡ block_at xs k
  block_at-written_other k other =
      elim (cases_lt k place) [
        | inl below ↦ sym (drop-take (16 * k) 16 now) ∙ ap (drop (16 * k)) (take-put_mid_below (16 * place) n xs words (16 * k + 16) (omega arith) (omega arith)) ∙ drop-take (16 * k) 16 xs
        | inr above ↦ ap (take 16) (drop-put_mid (16 * place) n xs words (16 * k) (omega arith) (omega arith) (omega arith))
      ]
