use Rattle.std.proofs.Common.{◌≡◌}
use Rattle.gcm_mode.specs.Field.{terms, times_power}
use Rattle.gcm_mode.proofs.field.product.Given as goal

abbrev pub invariant-loop-i : goal.invariant-loop-i
invariant-loop-i l = (l.sum ≡ terms l.i l.x l.y) × (l.multiple ≡ times_power l.i l.y)
