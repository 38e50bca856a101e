use Rattle.std.proofs.Common.{◌≡◌, length}
use Rattle.siv_mode.specs.Private.{cmac_from}
use Rattle.siv_mode.proofs.mac.Cmac.from.Given as goal

abbrev pub invariant-loop-rest : goal.invariant-loop-rest
invariant-loop-rest g l = cmac_from (g.C.Cipher.image l.self) l.value l.rest ≡ cmac_from (g.C.Cipher.image l.self) l.start l.text

abbrev pub decreases-loop-rest : goal.decreases-loop-rest
decreases-loop-rest g l = length l.rest
