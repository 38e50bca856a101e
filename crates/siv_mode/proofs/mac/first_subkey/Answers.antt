use Rattle.std.proofs.Common.{◌∙◌, ap}
use Rattle.siv_mode.specs.Blocks.{double}
use Rattle.siv_mode.specs.Cmac.{first_subkey}
use Rattle.siv_mode.proofs.mac.first_subkey.Goals as goal

pub returns : goal.returns
unfolding first_subkey
returns g c = c.doubled.ensures ∙ ap double c.image.ensures
