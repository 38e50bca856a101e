use Rattle.std.proofs.Common.{◌≡◌, ℕ, ◌-◌, ◌<◌, List}
use Rattle.aes_lanes.specs.Cipher.{rounds}
use Rattle.aes_lanes.specs.Planes.{block_of}
use Rattle.aes_lanes.specs.PlaneList.{AreRoundKeys, list_of}
use Rattle.aes_lanes.proofs.plane_rounds.encrypted.Given as goal

-- each block's state after the rounds before this one
abbrev pub invariant-loop-round : goal.invariant-loop-round
invariant-loop-round l = (words : List ℕ) (k : ℕ) → AreRoundKeys words l.keys → k < 16
    → block_of (list_of l.state) k ≡ rounds words (block_of (list_of l.blocks) k) (l.round - 1)
