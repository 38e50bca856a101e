use Rattle.std.proofs.Common.{◌≡◌, ◌∙◌, ◌-◌, sym, ap, ap₂, arith}
use Rattle.aes_lanes.specs.Planes.{block_of}
use Rattle.aes_lanes.specs.PlaneList.{list_of}
use Rattle.aes_lanes.specs.Rounds.{add_round_key, mix_columns, shift_rows, sub_bytes}
use Rattle.aes_lanes.specs.Cipher.{rounds, cipher}
use Rattle.aes_lanes.proofs.RoundSteps.{rounds-next}
use Rattle.aes_lanes.specs.Schedule.{round_key}
use Rattle.aes_lanes.specs.PlaneList.{plane_key}
use Rattle.aes_lanes.proofs.Masks.{masked_round, masked_last, length-block_of, length-sub, plane_key-later}
use Rattle.aes_lanes.proofs.RoundPlanes.{key_is}
use Rattle.aes_lanes.proofs.plane_rounds.encrypted.Goals as goal

pub loop-round-init : goal.loop-round-init
unfolding rounds plane_key
loop-round-init c = λ words k keys lt.
    let key = key_is words 0 k _ _ c.index-keys-0.is (keys 0 k c.index-keys-0.result (omega arith) lt) in
    c.add-state.ensures k ∙ ap (add_round_key (block_of (list_of c.args.blocks.now) k)) key

pub loop-round-preserved : goal.loop-round-preserved
loop-round-preserved c = λ words k keys lt.
    let key = key_is words c.loop-round.round k _ _ c.index-keys-round.is (keys c.loop-round.round k c.index-keys-round.result (omega arith) lt) in
    let so_far = c.loop-round.invariant words k keys lt in
    c.add-next.ensures k
    ∙ ap₂ add_round_key (c.mix.ensures k ∙ ap mix_columns (c.shift.ensures k ∙ ap shift_rows (c.sub.ensures k lt)))
    (key ∙ plane_key-later words c.loop-round.round (omega arith))
    ∙ masked_round (sub_bytes (block_of (list_of c.loop-round.state) k)) words c.loop-round.round (length-sub _ (length-block_of (list_of c.loop-round.state) k))
    ∙ ap (λ b. add_round_key (mix_columns (shift_rows (sub_bytes b))) (round_key words c.loop-round.round)) so_far
    ∙ sym (rounds-next words (block_of (list_of c.args.blocks.now) k) c.loop-round.round (omega arith))

pub returns : goal.returns
unfolding cipher
returns c = λ words k keys lt.
    let block = block_of (list_of c.args.blocks.now) k in
    let last : c.loop-round.round ≡ c.args.rounds = omega arith in
    let key = key_is words c.args.rounds k _ _ c.index-keys-rounds.is (keys c.args.rounds k c.index-keys-rounds.result (omega arith) lt) in
    let so_far = c.loop-round.invariant words k keys lt ∙ ap (λ r. rounds words block (r - 1)) last in
    c.add.ensures k
    ∙ ap₂ add_round_key (c.shift-2.ensures k ∙ ap shift_rows (c.sub-2.ensures k lt)) (key ∙ plane_key-later words c.args.rounds (omega arith))
    ∙ masked_last (sub_bytes (block_of (list_of c.loop-round.state) k)) words c.args.rounds (length-sub _ (length-block_of (list_of c.loop-round.state) k))
    ∙ ap (λ b. add_round_key (shift_rows (sub_bytes b)) (round_key words c.args.rounds)) so_far
