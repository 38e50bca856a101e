use Rattle.std.proofs.Common.{◌∙◌, refl}
use Rattle.aes_lanes.specs.Schedule.{sub_word}
use Rattle.aes_lanes.proofs.schedule.sub_word.Goals as goal

pub returns : goal.returns
unfolding sub_word
returns c = c.from_be_bytes.ensures ∙ rw (c.sub.ensures, c.to_be_bytes.ensures) refl
