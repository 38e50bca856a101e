use Rattle.std.proofs.Common.{◌≡◌, ℕ, ◌-◌, List}
use Rattle.aes_lanes.specs.Cipher.{rounds}
use Rattle.aes_lanes.specs.RoundKeys.{AreKeyBlocks}
use Rattle.aes_lanes.proofs.rounds.encrypt_block.Given as goal

-- the state after the rounds before this one
abbrev pub invariant-loop-round : goal.invariant-loop-round
invariant-loop-round l = (words : List ℕ) → AreKeyBlocks words l.keys → l.state ≡ rounds words l.block (l.round - 1)
