-- Counts of faults. An object from outside counts its failing calls; a call above may name the object as
-- its cause only where that count rose.
use Rattle.std.specs.Prelude.{ℕ, ◌+◌, ◌<◌, ◌≤◌, ◌⊎◌, min}

-- the greatest count: 64 bits hold no more, and a count that reaches it stays there
abbrev pub greatest_count : ℕ
greatest_count = 18446744073709551615

-- the count one fault later
abbrev pub counted_up : ℕ → ℕ
counted_up count = min (count + 1) greatest_count

-- the count rose, or stands at the greatest
abbrev pub CountRose : ℕ → ℕ → Type 0
CountRose before after = (before < after) ⊎ (greatest_count ≤ after)

-- a count never falls and fits 64 bits
pub record IsCounted (before after : ℕ) : Type 0 where
  pub grows : before ≤ after
  pub fits : after ≤ greatest_count

-- A call may name an object as its cause: the object's count never falls, and it rose where the object is blamed.
pub record Blames (blamed : Type 0) (old new : ℕ) : Type 0 where
  pub grows : old ≤ new
  pub rose : blamed → CountRose old new
