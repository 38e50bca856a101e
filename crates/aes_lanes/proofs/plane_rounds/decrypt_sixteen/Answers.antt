use Rattle.std.proofs.Common.{◌≡◌, ◌∙◌, ◌-◌, ◌<◌, [], map, length, get_or, sym, ap, ap₂, arith}
use Rattle.std.proofs.lemmas.List.{ext_get_or, get_or-map, length-map}
use Rattle.aes_lanes.specs.Rounds.{add_round_key, inverse_mix_columns, inverse_shift_rows, inverse_sub_bytes}
use Rattle.aes_lanes.specs.Cipher.{inverse_rounds, inverse_cipher}
use Rattle.aes_lanes.proofs.RoundSteps.{inverse_rounds-next}
use Rattle.aes_lanes.specs.PlaneList.{plane_key}
use Rattle.aes_lanes.proofs.Masks.{plane_key-later, unmasked}
use Rattle.aes_lanes.proofs.RoundPlanes.{key_is}
use Rattle.aes_lanes.proofs.plane_rounds.decrypt_sixteen.Goals as goal

pub loop-undone-init : goal.loop-undone-init
unfolding inverse_rounds
loop-undone-init c = λ words k keys lt.
    let key = key_is words c.args.rounds k _ _ c.index-keys-rounds.is (keys c.args.rounds k c.index-keys-rounds.result (omega arith) lt) in
    c.add_63-state.ensures k lt
    ∙ unmasked _ _ words c.args.rounds (c.add.ensures k ∙ ap₂ add_round_key (c.gather.ensures k lt) (key ∙ plane_key-later words c.args.rounds (omega arith)))

pub loop-undone-preserved : goal.loop-undone-preserved
loop-undone-preserved c = λ words k keys lt.
    let round = c.args.rounds - c.loop-undone.undone in
    let key = key_is words round k _ _ c.index-keys-rounds-in-loop-undone.is (keys round k c.index-keys-rounds-in-loop-undone.result (omega arith) lt) in
    c.mix-next.ensures k ∙ c.spread.ensures k
    ∙ ap inverse_mix_columns
    (c.add_63.ensures k lt
    ∙ unmasked _ _ words round (c.add-sum.ensures k
    ∙ ap₂ add_round_key
    (c.unsub.ensures k lt ∙ ap inverse_sub_bytes (c.unshift.ensures k ∙ ap inverse_shift_rows (c.loop-undone.invariant words k keys lt)))
    (key ∙ plane_key-later words round (omega arith))))
    ∙ sym (inverse_rounds-next words (get_or c.args.blocks.now k []) c.args.rounds c.loop-undone.undone (omega arith))

pub returns : goal.returns
unfolding inverse_cipher plane_key
returns c = λ words keys.
    let blocks = c.args.blocks.now in
    let last : c.loop-undone.undone ≡ c.args.rounds = omega arith in
    ext_get_or [] c.scatter.result (map (inverse_cipher c.args.rounds words) blocks)
    (c.scatter.ensures.sixteen ∙ sym (length-map blocks (inverse_cipher c.args.rounds words) ∙ c.told-blocks))
    (λ k lt.
    let few : k < 16 = omega (arith, c.scatter.ensures.sixteen) in
    let in_blocks : k < length blocks = omega (arith, c.told-blocks) in
    let key = key_is words 0 k _ _ c.index-keys-0.is (keys 0 k c.index-keys-0.result (omega arith) few) in
    c.scatter.ensures.blocks k few
    ∙ c.add-2.ensures k
    ∙ ap₂ add_round_key
    (c.unsub-2.ensures k few
    ∙ ap inverse_sub_bytes (c.unshift-2.ensures k
    ∙ ap inverse_shift_rows (c.loop-undone.invariant words k keys few ∙ ap (λ r. inverse_rounds c.args.rounds words (get_or blocks k []) (r - 1)) last)))
    key
    ∙ sym (get_or-map (inverse_cipher c.args.rounds words) blocks k [] [] in_blocks))
