use Rattle.std.proofs.Common.{◌≡◌, length}
use Rattle.cryptomator_conf.specs.Jwt.{trimmed}
use Rattle.cryptomator_conf.proofs.jwt.trimmed.Given as goal

abbrev pub invariant-loop-last : goal.invariant-loop-last
invariant-loop-last l = trimmed l.rest ≡ trimmed l.bytes

abbrev pub decreases-loop-last : goal.decreases-loop-last
decreases-loop-last l = length l.rest
