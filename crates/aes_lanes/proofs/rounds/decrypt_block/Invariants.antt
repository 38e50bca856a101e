use Rattle.std.proofs.Common.{◌≡◌, ℕ, ◌-◌, List}
use Rattle.aes_lanes.specs.Cipher.{inverse_rounds}
use Rattle.aes_lanes.specs.RoundKeys.{AreKeyBlocks}
use Rattle.aes_lanes.proofs.rounds.decrypt_block.Given as goal

-- the state after the rounds undone before this one
abbrev pub invariant-loop-undone : goal.invariant-loop-undone
invariant-loop-undone l = (words : List ℕ) → AreKeyBlocks words l.keys → l.state ≡ inverse_rounds l.rounds words l.block (l.undone - 1)
