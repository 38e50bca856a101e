use Rattle.std.proofs.Common.{◌≡◌, ◌-◌, ◌∙◌, ap, ap₂, arith, sym}
use Rattle.aes_lanes.specs.Bytes.{xor_bytes}
use Rattle.aes_lanes.specs.Rounds.{add_round_key, inverse_mix_columns, inverse_shift_rows, inverse_sub_bytes}
use Rattle.aes_lanes.specs.Cipher.{inverse_rounds, inverse_cipher}
use Rattle.aes_lanes.proofs.RoundSteps.{inverse_rounds-next}
use Rattle.aes_lanes.proofs.rounds.decrypt_block.Goals as goal

pub loop-undone-init : goal.loop-undone-init
unfolding inverse_rounds add_round_key xor_bytes
loop-undone-init c = λ words keys. ap (xor_bytes c.args.block.now) (keys c.args.rounds (omega arith))

pub loop-undone-preserved : goal.loop-undone-preserved
unfolding add_round_key xor_bytes inverse_sub_bytes
loop-undone-preserved c = λ words keys.
    c.unmixed-next.ensures
    ∙ ap inverse_mix_columns
    (ap₂ xor_bytes
    (c.unsub.ensures ∙ ap inverse_sub_bytes (c.unshifted.ensures ∙ ap inverse_shift_rows (c.loop-undone.invariant words keys)))
    (keys (c.args.rounds - c.loop-undone.undone) (omega arith)))
    ∙ sym (inverse_rounds-next words c.args.block.now c.args.rounds c.loop-undone.undone (omega arith))

pub returns : goal.returns
unfolding inverse_cipher add_round_key xor_bytes inverse_sub_bytes
returns c = λ words keys.
    let last : c.loop-undone.undone ≡ c.args.rounds = omega arith in
    ap₂ xor_bytes
    (c.unsub-2.ensures
    ∙ ap inverse_sub_bytes (c.unshifted-2.ensures
    ∙ ap inverse_shift_rows (c.loop-undone.invariant words keys ∙ ap (λ r. inverse_rounds c.args.rounds words c.args.block.now (r - 1)) last)))
    (keys 0 (omega arith))
