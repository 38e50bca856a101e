use Rattle.std.proofs.Common.{refl}
use Rattle.aes_lanes.specs.Schedule.{round_key, state_of}
use Rattle.aes_lanes.proofs.schedule.key_block.Goals as goal

pub returns : goal.returns
unfolding round_key state_of
returns c = rw (c.to_be_bytes.ensures, c.to_be_bytes-2.ensures, c.to_be_bytes-3.ensures, c.to_be_bytes-4.ensures) refl
