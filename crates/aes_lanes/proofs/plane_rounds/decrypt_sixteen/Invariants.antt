use Rattle.std.proofs.Common.{◌≡◌, ℕ, ◌-◌, ◌<◌, List, [], get_or}
use Rattle.aes_lanes.specs.Cipher.{inverse_rounds}
use Rattle.aes_lanes.specs.Planes.{block_of}
use Rattle.aes_lanes.specs.PlaneList.{AreRoundKeys, list_of}
use Rattle.aes_lanes.proofs.plane_rounds.decrypt_sixteen.Given as goal

-- each block's state after the rounds undone before this one
abbrev pub invariant-loop-undone : goal.invariant-loop-undone
invariant-loop-undone l = (words : List ℕ) (k : ℕ) → AreRoundKeys words l.keys → k < 16
    → block_of (list_of l.state) k ≡ inverse_rounds l.rounds words (get_or l.blocks k []) (l.undone - 1)
