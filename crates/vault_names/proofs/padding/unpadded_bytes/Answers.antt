use Rattle.std.proofs.Common.{◌≡◌, ◌-◌, ◌%◌, length, Some, None, refl, sym, ◌∙◌, arith}
use Rattle.std.proofs.lemmas.Bool.Decides.{Decides-eqb}
use Rattle.std.proofs.lemmas.List.{take-replicate}
use Rattle.std.proofs.lemmas.Slice.Eq.{strip_suffix_is}
use Rattle.vault_names.proofs.Padded.{last_of_padded, stripped-is}
use Rattle.vault_names.proofs.padding.unpadded_bytes.Goals as goal

pub returns-in_err-last : goal.returns-in_err-last
returns-in_err-last c = rw c.from_residual.ensures (λ bytes same.
    let none : None ≡ Some (16 - length bytes % 16) = c.in_err-last.ensures.value ∙ last_of_padded bytes c.args.whole.now same in cc)

pub returns-then-not-may_be_added : goal.returns-then-not-may_be_added
returns-then-not-may_be_added c = λ bytes same.
    let added : Some c.in_ok-last.field-0.now ≡ Some (16 - length bytes % 16) =
    c.in_ok-last.ensures.value ∙ last_of_padded bytes c.args.whole.now same in
    let count : c.from-added.result ≡ 16 - length bytes % 16 = c.from-added.ensures ∙ cc in
    let told = c.if-not-may_be_added.ensures.1 (rw count (omega arith, omega arith)) in
    cc

pub returns : goal.returns
returns c =
    let count = c.if-not-may_be_added.ensures.0 refl in
    stripped-is c.args.whole.now _ c.in_ok-last.field-0.now c.from-added.result c.strip_suffix.result c.requires (sym c.in_ok-last.ensures.value) c.from-added.ensures count.0 count.1
    (take-replicate _ 16 _ (omega (arith, count)))
    (strip_suffix_is Decides-eqb c.args.whole.now _ c.strip_suffix.result c.strip_suffix.ensures.cases)
