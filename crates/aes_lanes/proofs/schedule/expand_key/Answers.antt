use Rattle.std.proofs.Common.{◌≡◌, ◌-◌, bit_xor, length, refl, sym, ap, ◌∙◌, arith}
use Rattle.std.proofs.lemmas.List.{take_all}
use Rattle.aes_lanes.specs.Schedule.{first_words, expanded_key}
use Rattle.aes_lanes.proofs.ScheduleSteps.{first_words-more, expanded_key-more}
use Rattle.aes_lanes.proofs.schedule.expand_key.Goals as goal

pub loop-i-init : goal.loop-i-init
unfolding first_words
loop-i-init c = refl

pub loop-i-preserved : goal.loop-i-preserved
loop-i-preserved c =
    first_words-more c.args.key.now c.loop-i.words c.loop-i.i c.load_word.result (omega arith) c.loop-i.invariant
    c.load_word.ensures

pub loop-i-2-init : goal.loop-i-2-init
unfolding expanded_key
loop-i-2-init c =
    let done : c.loop-i.i ≡ c.args.key_words = omega arith in
    let none : c.args.key_words - c.args.key_words ≡ 0 = omega arith in
    rw none (rw done at c.loop-i.invariant)

pub loop-i-2-preserved : goal.loop-i-2-preserved
loop-i-2-preserved c =
    expanded_key-more c.args.key_words c.args.key.now c.loop-i-2.words c.loop-i-2.i _ (omega arith) (omega arith)
    (omega arith) c.loop-i-2.invariant (ap (bit_xor _) c.schedule_step.ensures)

pub returns : goal.returns
returns c =
    let done : c.loop-i-2.i ≡ length c.args.words.now = omega arith in
    sym (take_all c.loop-i-2.i c.loop-i-2.words (omega arith)) ∙ c.loop-i-2.invariant
    ∙ ap (λ n. expanded_key c.args.key_words c.args.key.now (n - c.args.key_words)) done
