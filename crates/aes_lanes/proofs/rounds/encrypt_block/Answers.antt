use Rattle.std.proofs.Common.{◌≡◌, ◌-◌, ◌∙◌, ap, ap₂, arith, sym}
use Rattle.aes_lanes.specs.Bytes.{xor_bytes}
use Rattle.aes_lanes.specs.Rounds.{add_round_key, mix_columns, shift_rows, sub_bytes}
use Rattle.aes_lanes.specs.Cipher.{rounds, cipher}
use Rattle.aes_lanes.proofs.RoundSteps.{rounds-next}
use Rattle.aes_lanes.proofs.rounds.encrypt_block.Goals as goal

pub loop-round-init : goal.loop-round-init
unfolding rounds add_round_key xor_bytes
loop-round-init c = λ words keys. ap (xor_bytes c.args.block.now) (keys 0 (omega arith))

pub loop-round-preserved : goal.loop-round-preserved
unfolding add_round_key xor_bytes sub_bytes
loop-round-preserved c = λ words keys.
    ap₂ xor_bytes
    (c.mixed.ensures ∙ ap mix_columns (c.shifted.ensures ∙ ap shift_rows (c.sub.ensures ∙ ap sub_bytes (c.loop-round.invariant words keys))))
    (keys c.loop-round.round (omega arith))
    ∙ sym (rounds-next words c.args.block.now c.loop-round.round (omega arith))

pub returns : goal.returns
unfolding cipher add_round_key xor_bytes sub_bytes
returns c = λ words keys.
    let last : c.loop-round.round ≡ c.args.rounds = omega arith in
    ap₂ xor_bytes
    (c.shifted-2.ensures ∙ ap shift_rows (c.sub-2.ensures ∙ ap sub_bytes (c.loop-round.invariant words keys ∙ ap (λ r. rounds words c.args.block.now (r - 1)) last)))
    (keys c.args.rounds (omega arith))
