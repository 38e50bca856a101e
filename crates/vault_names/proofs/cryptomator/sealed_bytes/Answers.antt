use Rattle.std.proofs.Common.{◌++◌, codes, refl, sym, ap, ◌∙◌}
use Rattle.std.proofs.lemmas.Bool.Decides.{Decides-eqb}
use Rattle.std.proofs.lemmas.Slice.Eq.{strip_suffix_is}
use Rattle.vault_names.proofs.cryptomator.sealed_bytes.Goals as goal

pub returns-in-Ok : goal.returns-in-Ok
returns-in-Ok c =
    let stripped = rw c.in-Some.is at (strip_suffix_is Decides-eqb c.as_bytes.result.now (codes ".c9r") c.strip_suffix.result c.strip_suffix.ensures.cases) in
    (c.in-Ok.ensures.bytes, ap (λ front. front ++ codes ".c9r") (sym (c.in-Ok.ensures.exact (refl, refl))) ∙ sym stripped ∙ c.as_bytes.ensures.value)
