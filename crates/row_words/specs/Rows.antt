-- How many rows were right, and how many wrong.
use Rattle.std.specs.Prelude.{◌≡◌, ℕ, ◌+◌, ◌-◌, ◌^◌, min}

pub record Counted : Type 0 where
  pub right : ℕ
  pub wrong : ℕ

-- one more, as far as 64 bits count
abbrev pub one_more : ℕ → ℕ
one_more count = min (count + 1) (2 ^ 64 - 1)

-- one more row was right
abbrev pub OneMoreRight : Counted → Counted → Type 0
OneMoreRight before after = (after.right ≡ one_more before.right) × (after.wrong ≡ before.wrong)

-- one more row was wrong
abbrev pub OneMoreWrong : Counted → Counted → Type 0
OneMoreWrong before after = (after.right ≡ before.right) × (after.wrong ≡ one_more before.wrong)
