use Rattle.std.proofs.Common.{sym, ◌∙◌, arith}
use Rattle.aes_lanes.proofs.ScheduleSteps.{schedule_step-first, schedule_step-middle, schedule_step-other}
use Rattle.aes_lanes.proofs.schedule.schedule_step.Goals as goal
use Rattle.aes_lanes.proofs.schedule.schedule_step.Goals.{else-key_words-gt6-via-then-key_words-gt6+else-i-key_words-eq4, else-key_words-gt6-via-else-key_words-gt6}

pub returns-then-i-key_words-eq0 : goal.returns-then-i-key_words-eq0
returns-then-i-key_words-eq0 c =
    let whole = schedule_step-first c.args.key_words c.args.i c.args.last c.if-i-key_words-eq0.true in
    rw (c.sub_word.ensures, c.rot_word.ensures, c.round_constant.ensures) (sym whole)

pub returns-then-i-key_words-eq4 : goal.returns-then-i-key_words-eq4
returns-then-i-key_words-eq4 c =
    c.sub_word-then-i-key_words-eq4.ensures
    ∙ sym (schedule_step-middle c.args.key_words c.args.i c.args.last c.if-key_words-gt6.true c.if-i-key_words-eq4.true)

pub returns-else-key_words-gt6 : goal.returns-else-key_words-gt6
returns-else-key_words-gt6 c =
    sym (schedule_step-other c.args.key_words c.args.i c.args.last c.if-i-key_words-eq0.false
    (elim c.else-key_words-gt6.branch [
      | else-key_words-gt6-via-then-key_words-gt6+else-i-key_words-eq4 w ↦ λ _. w.if-i-key_words-eq4.false
      | else-key_words-gt6-via-else-key_words-gt6 w ↦ λ long. absurd (omega arith)
    ]))
