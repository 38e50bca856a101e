use Rattle.std.proofs.Common.{◌≡◌, ◌≤◌, length}
use Rattle.siv_mode.specs.Cmac.{cmac}
use Rattle.siv_mode.specs.Private.{cmac_from}
use Rattle.siv_mode.specs.S2v.{xorend}
use Rattle.siv_mode.proofs.strings.cmac_of_long.Given as goal

abbrev pub invariant-loop-rest : goal.invariant-loop-rest
invariant-loop-rest g l = record {
  long : 16 ≤ length l.rest;
  same : cmac_from (g.C.Cipher.image l.mac) l.value (xorend l.rest l.d) ≡ cmac (g.C.Cipher.image l.mac) (xorend l.string l.d);
}

abbrev pub decreases-loop-rest : goal.decreases-loop-rest
decreases-loop-rest g l = length l.rest
