use Rattle.std.proofs.Common.{◌∙◌}
use Rattle.vault_spec.specs.Vault.{format_of}
use Rattle.folder_spec.specs.Seen.{under}
use Rattle.vault_check.proofs.StraysFound.{strays_found}
use Rattle.vault_check.proofs.repairing.strays_of.Goals as goal

pub returns-clause-strays : goal.returns-clause-strays
returns-clause-strays g c = λ v seen.
    let root = c.args.vault.now.root in
    let s = c.in_ok-surveyed.ensures.survey v seen in
    strays_found root (format_of c.args.vault.now.vault) (under root v) s.found s.is.findings c.as_slice.result.now (c.as_slice.ensures.value ∙ s.findings_are)
    c.in_ok-outer_strays.field-0.items c.in_ok-outer_strays.ensures
