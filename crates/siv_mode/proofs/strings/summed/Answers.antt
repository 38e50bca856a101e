use Rattle.std.proofs.Common.{refl, ◌∙◌}
use Rattle.siv_mode.specs.S2v.{summed}
use Rattle.siv_mode.proofs.strings.summed.Goals as goal

pub returns-in-None : goal.returns-in-None
unfolding summed
returns-in-None g c = rw c.in-None.is refl

pub returns-in-Some : goal.returns-in-Some
unfolding summed
returns-in-Some g c =
    c.sum.ensures ∙ rw (c.in-Some.is, c.doubled.ensures, c.of.ensures) refl
