use Rattle.std.proofs.Common.{string_bytes, ap, ◌∙◌}
use Rattle.std.specs.List.{flat_map}
use Rattle.std.proofs.lemmas.List.{take_all}
use Rattle.checking_commands.specs.Lines.{found_line}
use Rattle.checking_commands.proofs.Lines.{line_more}
use Rattle.checking_commands.proofs.checking.findings_text.Goals as goal

pub loop-finding-preserved : goal.loop-finding-preserved
loop-finding-preserved c =
    line_more found_line c.args.findings.now c.loop-finding.finding-index c.finding-item.result (string_bytes c.loop-finding.text) _ c.loop-finding-test.true c.finding-item.is
    c.loop-finding.invariant c.in_ok-push_finding.ensures

pub returns : goal.returns
returns c = c.loop-finding.invariant ∙ ap (flat_map found_line) (take_all c.loop-finding.finding-index c.args.findings.now c.loop-finding-test.false)
