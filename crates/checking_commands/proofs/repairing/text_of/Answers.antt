use Rattle.std.proofs.Common.{string_bytes, ap, ◌∙◌}
use Rattle.std.specs.List.{flat_map}
use Rattle.std.proofs.lemmas.List.{take_all}
use Rattle.checking_commands.specs.Repair.{moved_line}
use Rattle.checking_commands.proofs.Lines.{line_more}
use Rattle.checking_commands.proofs.repairing.text_of.Goals as goal

pub loop-at-preserved : goal.loop-at-preserved
loop-at-preserved c =
    line_more moved_line c.args.moved.now c.loop-at.at-index c.at-item.result (string_bytes c.loop-at.text) _ c.loop-at-test.true c.at-item.is
    c.loop-at.invariant c.in_ok-push_moved.ensures

pub returns : goal.returns
returns c = c.loop-at.invariant ∙ ap (flat_map moved_line) (take_all c.loop-at.at-index c.args.moved.now c.loop-at-test.false)
