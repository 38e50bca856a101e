use Rattle.std.proofs.Common.{◌≡◌, ◌≢◌, ℕ, ◌+◌, ◌<◌, List, [], length, get_or, set, ◌⊎◌, inl, inr, sym, ap, ◌∙◌, arith, get_or-set_same, get_or-set_other}
use Rattle.std.proofs.lemmas.Bool.{cases_eq}
use Rattle.aes_lanes.specs.Schedule.{round_key}
use Rattle.aes_lanes.proofs.schedule.expand_blocks.Goals as goal

-- one key more
more_keys : (words : List ℕ) (keys : List (List ℕ)) (n : ℕ) (key : List ℕ) → n < length keys → key ≡ round_key words n
    → ((r : ℕ) → r < n → get_or keys r [] ≡ round_key words r) → (r : ℕ) → r < n + 1 → get_or (set keys n key) r [] ≡ round_key words r
more_keys words keys n key within here before r lt = at_place (cases_eq r n) where
  at_place : (r ≡ n) ⊎ (r ≢ n) → get_or (set keys n key) r [] ≡ round_key words r
  at_place (inl e) =
      ap (λ m. get_or (set keys n key) m []) e ∙ get_or-set_same keys n key [] within ∙ here ∙ ap (round_key words) (sym e)
  at_place (inr other) = get_or-set_other keys n r key [] other ∙ before r (omega arith)

pub loop-round-preserved : goal.loop-round-preserved
loop-round-preserved c =
    more_keys c.args.words.now c.loop-round.keys c.loop-round.round c.key_block.result (omega arith) c.key_block.ensures c.loop-round.invariant
