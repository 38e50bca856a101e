use Rattle.std.proofs.Common.{refl, ◌∙◌}
use Rattle.siv_mode.specs.S2v.{s2v}
use Rattle.siv_mode.proofs.LastStrings.{last_text-long}
use Rattle.siv_mode.proofs.strings.s2v.Goals as goal

pub returns-then-string-lt16 : goal.returns-then-string-lt16
unfolding s2v
returns-then-string-lt16 g c = c.of.ensures ∙ rw (c.short_text.ensures, c.summed-sum.ensures, c.requires) refl

pub returns : goal.returns
unfolding s2v
returns g c =
    c.cmac_of_long.ensures
    ∙ rw (last_text-long c.summed-sum.result c.args.string.now c.if-string-lt16.false, c.summed-sum.ensures, c.requires) refl
