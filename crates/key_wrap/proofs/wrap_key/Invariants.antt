use Rattle.std.proofs.Common.{◌≡◌, ◌++◌}
use Rattle.aes_lanes.specs.Cipher.{aes256}
use Rattle.key_wrap.specs.Wrap.{steps, initial_value}
use Rattle.key_wrap.proofs.wrap_key.Given as goal

abbrev pub invariant-loop-done : goal.invariant-loop-done
invariant-loop-done l = l.state ≡ steps (aes256 l.kek) l.done (initial_value ++ l.key)
