use Rattle.std.proofs.Common.{◌∙◌, ◌<◌, ◌≤◌, ap, arith, length, slice_set}
use Rattle.std.proofs.lemmas.List.{get_or_default}
use Rattle.std.proofs.lemmas.List.Edits.{map_over_more}
use Rattle.aes_lanes.specs.Private.{ciphered}
use Rattle.aes_lanes.proofs.MapParts.{map_over_all}
use Rattle.aes_lanes.proofs.rounds.cipher_singly.Goals as goal

pub loop-i-preserved : goal.loop-i-preserved
loop-i-preserved c = λ words keys.
    let here : c.loop-i.i < length c.loop-i.blocks = omega arith in
    ap (slice_set c.loop-i.blocks c.loop-i.i) (c.cipher_block.ensures words keys)
    ∙ map_over_more (ciphered c.args.direction c.args.rounds words) c.args.blocks.now c.loop-i.blocks c.loop-i.i _ (omega arith)
    (c.loop-i.invariant words keys) (get_or_default c.loop-i.blocks c.loop-i.i _ _ here)

pub returns : goal.returns
returns c = λ words keys.
    let done : length c.args.blocks.now ≤ c.loop-i.i = omega arith in
    c.loop-i.invariant words keys ∙ map_over_all (ciphered c.args.direction c.args.rounds words) c.args.blocks.now c.loop-i.i done
