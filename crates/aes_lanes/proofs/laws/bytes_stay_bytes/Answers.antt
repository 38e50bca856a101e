use Rattle.std.proofs.Common.{lit≤}
use Rattle.aes_lanes.proofs.CounterBytes.{IsBlock-increment, bytes-counter_mode}
use Rattle.aes_lanes.proofs.laws.bytes_stay_bytes.Goals as goal

pub returns : goal.returns
returns c = record {
  counter_in_four_bytes = IsBlock-increment 4 (lit≤ tt);
  counter_in_sixteen_bytes = IsBlock-increment 16 (lit≤ tt);
  in_four_bytes = bytes-counter_mode 4 (lit≤ tt);
  in_sixteen_bytes = bytes-counter_mode 16 (lit≤ tt);
}
