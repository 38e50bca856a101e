use Rattle.eme_mode.proofs.Masks.{mixed-cons, mixed-nil}
use Rattle.eme_mode.proofs.mix.Goals as goal

pub returns : goal.returns
returns c =
    mixed-cons _ _ _ _ _ _ _ _ _ _ c.in-Some.ensures.cases.0 c.xor_into.ensures (rw c.double.ensures at c.add_masks.ensures) c.xor_into-2.ensures c.sum_of.ensures

pub returns-in_default : goal.returns-in_default
returns-in_default c = mixed-nil _ _ _ _ c.in_default.ensures.cases
