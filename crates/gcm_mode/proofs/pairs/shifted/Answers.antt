use Rattle.std.proofs.Common.{◌*◌, ◌+◌, ◌∙◌, arith, lit<}
use Rattle.std.proofs.lemmas.Simd.{get_or-replicate}
use Rattle.gcm_mode.proofs.Lanes.{IsPair-splat}
use Rattle.gcm_mode.proofs.Shifts.{shifted_lanes}
use Rattle.gcm_mode.proofs.pairs.shifted.Goals as goal

pub one_on-moved-requires : goal.one_on-moved-requires
one_on-moved-requires c = record { before = IsPair-splat 0 (lit< tt); v = c.requires.v }

pub returns : goal.returns
returns c =
    let moved = c.one_on-moved.result in
    let law = c.one_on-moved.ensures in
    let facts = shifted_lanes c.args.v moved c.args.bits c.requires.some c.requires.few c.requires.v law.pair
    (λ l two. law.first l two ∙ get_or-replicate 32 (16 * l + 15) 0 0 (omega arith)) law.others in
    record { pair = facts.0; lanes = facts.1 }
