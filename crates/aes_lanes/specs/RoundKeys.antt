-- Words of private contracts: round keys as blocks.
use Rattle.std.specs.Prelude.{◌≡◌, ℕ, ◌<◌, length, get_or, List, []}
use Rattle.aes_lanes.specs.Schedule.{round_key}

-- the round keys of a key schedule's words as blocks, from round 0 on
abbrev pub AreKeyBlocks : List ℕ → List (List ℕ) → Type 0
AreKeyBlocks words keys = (r : ℕ) → r < length keys → get_or keys r [] ≡ round_key words r
