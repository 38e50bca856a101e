use Rattle.siv_mode.specs.Cmac.{cmac}
use Rattle.siv_mode.specs.Private.{cmac_from}
use Rattle.siv_mode.proofs.mac.Cmac.of.Goals as goal

pub returns : goal.returns
unfolding cmac cmac_from
returns g c = c.from.ensures
