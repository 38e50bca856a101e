use Rattle.std.proofs.Common.{sym, ◌∙◌}
use Rattle.siv_mode.proofs.Macs.{cmac_from-more, cmac_from-one}
use Rattle.siv_mode.proofs.mac.Cmac.from.Goals as goal

pub loop-rest-preserved : goal.loop-rest-preserved
loop-rest-preserved g c =
    rw (c.chained-next.ensures, c.whole.ensures, c.split_at.ensures.front, c.split_at.ensures.back)
    (sym (cmac_from-more (g.C.Cipher.image c.args.self.now) c.loop-rest.value c.loop-rest.rest.now c.loop-rest-test.true) ∙ c.loop-rest.invariant)

pub returns : goal.returns
returns g c =
    c.chained.ensures
    ∙ rw c.last_block.ensures (cmac_from-one (g.C.Cipher.image c.args.self.now) c.loop-rest.value c.loop-rest.rest.now c.loop-rest-test.false)
    ∙ c.loop-rest.invariant
