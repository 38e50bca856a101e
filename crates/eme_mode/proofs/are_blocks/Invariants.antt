use Rattle.std.proofs.Common.{ℕ, ◌<◌, List, get_or}
use Rattle.aes_lanes.specs.Bytes.{IsBlock}
use Rattle.eme_mode.proofs.are_blocks.Given as goal

abbrev pub invariant-loop-block : goal.invariant-loop-block
invariant-loop-block l = (k : ℕ) (d : List ℕ) → k < l.block-index → IsBlock (get_or l.blocks k d)
