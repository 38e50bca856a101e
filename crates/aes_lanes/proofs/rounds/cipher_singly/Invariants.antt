use Rattle.std.proofs.Common.{◌≡◌, ◌++◌, List, ℕ, take, drop, map}
use Rattle.aes_lanes.specs.Private.{ciphered}
use Rattle.aes_lanes.specs.RoundKeys.{AreKeyBlocks}
use Rattle.aes_lanes.proofs.rounds.cipher_singly.Given as goal

abbrev pub invariant-loop-i : goal.invariant-loop-i
invariant-loop-i l = (words : List ℕ) → AreKeyBlocks words l.keys
    → l.blocks ≡ map (ciphered l.direction l.rounds words) (take l.i l.initial.blocks) ++ drop l.i l.initial.blocks
