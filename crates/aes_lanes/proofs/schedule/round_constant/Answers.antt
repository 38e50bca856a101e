use Rattle.aes_lanes.proofs.ScheduleSteps.{round_constant_at}
use Rattle.aes_lanes.proofs.schedule.round_constant.Goals as goal

pub returns : goal.returns
returns c = round_constant_at c.args.j c.requires.low c.requires.high
