use Rattle.std.proofs.Common.{◌≡◌, ◌∙◌, sym, subst, true}
use Rattle.command_words.specs.Numbers.{is_number}
use Rattle.command_words.proofs.WrittenNumbers.{too_large}
use Rattle.command_words.proofs.numbers.number_within.Goals as goal

pub returns-in_default-2-clause-is : goal.returns-in_default-2-clause-is
returns-in_default-2-clause-is c = too_large c.args.most c.args.word.now c.ranges.most.fits (subst (λ w. is_number w ≡ true) c.as_bytes.ensures.value (sym c.is_number.ensures ∙ c.if-not-is_number.false)) c.in_default.ensures.value.0
