use Rattle.std.proofs.Common.{◌≡◌, ◌*◌, ◌++◌, List, ℕ, take, drop, map}
use Rattle.aes_lanes.specs.Private.{ciphered}
use Rattle.aes_lanes.specs.PlaneList.{AreRoundKeys}
use Rattle.aes_lanes.proofs.rounds.cipher_all.Given as goal

abbrev pub invariant-loop-set : goal.invariant-loop-set
invariant-loop-set l = (words : List ℕ) → AreRoundKeys words l.planes
    → l.blocks ≡ map (ciphered l.direction l.rounds words) (take (16 * l.set) l.initial.blocks) ++ drop (16 * l.set) l.initial.blocks
