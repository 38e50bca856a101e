use Rattle.std.proofs.Common.{◌≡◌, ℕ, ◌<◌, [], get_or}
use Rattle.aes_lanes.specs.Schedule.{round_key}
use Rattle.aes_lanes.proofs.schedule.expand_blocks.Given as goal

abbrev pub invariant-loop-round : goal.invariant-loop-round
invariant-loop-round l = (r : ℕ) → r < l.round → get_or l.keys r [] ≡ round_key l.words r
