use Rattle.std.proofs.Common.{rules, ◌∙◌}
use Rattle.aes_lanes.proofs.ScheduleSteps.{rotate_left-word}
use Rattle.aes_lanes.proofs.schedule.rot_word.Goals as goal

pub returns : goal.returns
returns c = c.rotate_left.ensures ∙ rotate_left-word c.args.word (search rules)
