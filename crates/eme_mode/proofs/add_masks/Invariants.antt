use Rattle.std.proofs.Common.{◌≡◌, ◌++◌, take, drop}
use Rattle.eme_mode.specs.Eme.{with_masks}
use Rattle.eme_mode.proofs.add_masks.Given as goal

-- the masks of the blocks passed are added, and the mask is that of the next one
abbrev pub invariant-loop-block : goal.invariant-loop-block
invariant-loop-block l =
    with_masks l.first l.initial.blocks ≡ take l.block-index l.blocks ++ with_masks l.mask (drop l.block-index l.blocks)
