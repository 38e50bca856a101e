use Rattle.std.proofs.Common.{◌≡◌, drop}
use Rattle.eme_mode.specs.Eme.{sum_from}
use Rattle.eme_mode.proofs.sum_of.Given as goal

-- the sum so far, and the blocks that are left
abbrev pub invariant-loop-block : goal.invariant-loop-block
invariant-loop-block l = sum_from l.first l.blocks ≡ sum_from l.sum (drop l.block-index l.blocks)
