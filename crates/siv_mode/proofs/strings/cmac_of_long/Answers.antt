use Rattle.std.proofs.Common.{refl, sym, ◌∙◌, arith}
use Rattle.siv_mode.specs.Cmac.{cmac}
use Rattle.siv_mode.specs.Private.{cmac_from}
use Rattle.siv_mode.proofs.LastStrings.{cmac_from-xorend, xorend-parts}
use Rattle.siv_mode.proofs.strings.cmac_of_long.Goals as goal

pub loop-rest-init : goal.loop-rest-init
unfolding cmac cmac_from
loop-rest-init g c = record { long = c.requires; same = refl }

pub loop-rest-preserved : goal.loop-rest-preserved
loop-rest-preserved g c = record {
  long = omega (arith, c.split_at.ensures.back_len);
  same =
      rw (c.chained-next.ensures, c.whole.ensures, c.split_at.ensures.front, c.split_at.ensures.back)
      (sym (cmac_from-xorend (g.C.Cipher.image c.args.mac.now) c.loop-rest.value c.loop-rest.rest.now c.args.d.now c.told-d c.loop-rest-test.true) ∙ c.loop-rest.invariant.same);
}

pub returns : goal.returns
returns g c =
    c.from.ensures
    ∙ rw (c.joined.ensures, c.sum-end.ensures, c.whole-2.ensures, c.split_at-2.ensures.front, c.split_at-2.ensures.back, xorend-parts c.loop-rest.rest.now c.args.d.now _ c.told-d refl)
    c.loop-rest.invariant.same
