use Rattle.std.proofs.Common.{refl}
use Rattle.gcm_mode.proofs.Lanes.{AreNibbles-high, AreNibbles-low, block-nibbles}
use Rattle.gcm_mode.proofs.pairs.nibbles_of.Goals as goal

pub invariant_of-result : goal.invariant_of-result
invariant_of-result c = record { high_nibbles = AreNibbles-high c.args.v c.requires; low_nibbles = AreNibbles-low c.args.v c.requires }

pub returns : goal.returns
returns c l two = block-nibbles l c.args.v _ two c.requires refl refl
