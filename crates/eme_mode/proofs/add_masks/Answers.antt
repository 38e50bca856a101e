use Rattle.std.proofs.Common.{◌≡◌, ◌∙◌, sym, take, drop, append-nil, arith, []}
use Rattle.std.proofs.lemmas.List.{take_all, drop_all}
use Rattle.eme_mode.proofs.Masks.{masked-next, masked-nil}
use Rattle.eme_mode.proofs.add_masks.Goals as goal

pub loop-block-preserved : goal.loop-block-preserved
loop-block-preserved c =
    masked-next _ _ _ _ _ _ _ c.loop-block.invariant (omega arith) c.xor_into.ensures c.double-next.ensures

pub returns : goal.returns
returns c =
    let blocks = c.loop-block.blocks in
    let i = c.loop-block.block-index in
    let all : take i blocks ≡ blocks = take_all i blocks (omega arith) in
    let none : drop i blocks ≡ [] = drop_all i blocks (omega arith) in
    sym (c.loop-block.invariant ∙ rw (all, none, masked-nil) (append-nil blocks))
