use Rattle.std.proofs.Common.{◌+◌, drop, sym, ap, ◌∙◌}
use Rattle.std.proofs.lemmas.List.{at_drop_more}
use Rattle.vault_walk.specs.declared.fault.Finding.{Finding}
use Rattle.vault_check.specs.Strays.{strays_after, with_stray}
use Rattle.vault_check.proofs.strays.outer_strays.Goals as goal

pub loop-finding-preserved : goal.loop-finding-preserved
loop-finding-preserved c =
    let findings = c.args.findings.now in
    let i = c.loop-finding.finding-index in
    let x : Finding = c.finding-item.result in
    let strays = c.loop-finding.strays.items in
    let rest = drop (i + 1) findings in
    ap (λ xs. strays_after xs rest) c.in_ok-add_stray.ensures
    ∙ ap (λ (y : Finding). strays_after (with_stray strays y) rest) c.finding-item.is
    ∙ sym (at_drop_more (strays_after strays) findings i x c.loop-finding-test.true)
    ∙ c.loop-finding.invariant
