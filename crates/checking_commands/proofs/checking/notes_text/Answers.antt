use Rattle.std.proofs.Common.{string_bytes, ap, ◌∙◌}
use Rattle.std.specs.List.{flat_map}
use Rattle.std.proofs.lemmas.List.{take_all}
use Rattle.checking_commands.specs.Lines.{noted_line}
use Rattle.checking_commands.proofs.Lines.{line_more}
use Rattle.checking_commands.proofs.checking.notes_text.Goals as goal

pub loop-note-preserved : goal.loop-note-preserved
loop-note-preserved c =
    line_more noted_line c.args.notes.now c.loop-note.note-index c.note-item.result (string_bytes c.loop-note.text) _ c.loop-note-test.true c.note-item.is
    c.loop-note.invariant c.in_ok-push_note.ensures

pub returns : goal.returns
returns c = c.loop-note.invariant ∙ ap (flat_map noted_line) (take_all c.loop-note.note-index c.args.notes.now c.loop-note-test.false)
