use Rattle.std.proofs.Common.{◌≡◌, ℕ, ◌^◌, ◌<◌, List, set, ap, ◌∙◌, arith}
use Rattle.gcm_mode.specs.Field.{product}
use Rattle.gcm_mode.specs.Hash.{block_number}
use Rattle.gcm_mode.specs.Pairs.{lane}
use Rattle.gcm_mode.specs.Private.{power}
use Rattle.gcm_mode.specs.declared.tables.Pair.{Pair}
use Rattle.gcm_mode.proofs.Lanes.{IsBlock-bytes, block_number-lt}
use Rattle.gcm_mode.proofs.Weighed.{ArePowers-of, ArePowers-written, lane-two_on, lane-written}
use Rattle.gcm_mode.proofs.products.write_powers.Goals as goal

pub returns : goal.returns
unfolding power
returns c =
    let h : ℕ = block_number c.args.subkey.now in
    let fits : h < 2 ^ 128 = block_number-lt c.args.subkey.now (IsBlock-bytes c.args.subkey.now c.told-subkey (λ p lt. c.fits-subkey p)) in
    let pairs : List Pair = set c.args.pairs.now 3 c.write_pair.new.pair in
    let with_second : List Pair = set pairs 3 c.write_pair-2.new.pair in
    let with_fourth : List Pair = set with_second 2 c.write_pair-3.new.pair in
    let a = c.write_pair-2.ensures in
    let b = c.write_pair-3.ensures in
    let d = c.write_pair-4.ensures in
    let e = c.write_pair-5.ensures in
    let square : block_number c.times-second.result ≡ power h 1 =
    c.times-second.ensures.product ∙ ap (product h) (lane-written 1 c.args.pairs.now 3 _ _ _ c.write_pair.ensures.powers (omega arith) ∙ c.of_two.ensures.second_lane) in
    let step0 = c.of_two-step.ensures.first_lane ∙ square in
    let step1 = c.of_two-step.ensures.second_lane ∙ square in
    let second = ap (lane 0) a.powers ∙ c.of_two-2.ensures.first_lane ∙ square in
    let first = ap (lane 1) a.powers ∙ c.of_two-2.ensures.second_lane in
    let fourth = lane-two_on h 1 0 pairs 3 _ _ _ _ _ fits step0 second (c.products-fourth.ensures.lanes 0 (omega arith)) b.powers (omega arith) in
    let third = lane-two_on h 0 1 pairs 3 _ _ _ _ _ fits step1 first (c.products-fourth.ensures.lanes 1 (omega arith)) b.powers (omega arith) in
    let sixth = lane-two_on h 3 0 with_second 2 _ _ _ _ _ fits step0 fourth (c.products-sixth.ensures.lanes 0 (omega arith)) d.powers (omega arith) in
    let fifth = lane-two_on h 2 1 with_second 2 _ _ _ _ _ fits step1 third (c.products-sixth.ensures.lanes 1 (omega arith)) d.powers (omega arith) in
    let eighth = lane-two_on h 5 0 with_fourth 1 _ _ _ _ _ fits step0 sixth (c.products-eighth.ensures.lanes 0 (omega arith)) e.powers (omega arith) in
    let seventh = lane-two_on h 4 1 with_fourth 1 _ _ _ _ _ fits step1 fifth (c.products-eighth.ensures.lanes 1 (omega arith)) e.powers (omega arith) in
    ArePowers-written h c.args.pairs.now _ _ _ _ _ c.told-pairs
    (ArePowers-of h _ _ _ _ e.rows d.rows b.rows a.rows eighth seventh sixth fifth fourth third second first)
