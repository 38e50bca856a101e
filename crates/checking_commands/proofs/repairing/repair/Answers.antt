use Rattle.std.proofs.Common.{Err, ap, inl, inr, refl, string_bytes, subst, sym, ◌∙◌}
use Rattle.std.proofs.KnownBytes.{Keeps-refl}
use Rattle.command_answers.specs.Printing.{PrintsText}
use Rattle.command_answers.specs.declared.answer.Answer.TheVariants.{FolderFault, OutputFault}
use Rattle.open_for_reading.proofs.Carrying.{by_overlap, by_printing}
use Rattle.open_for_reading.proofs.Printings.{IsPrinted, is_another}
use Rattle.open_for_reading.specs.Tests.{is_of_moving}
use Rattle.open_for_reading.specs.World.{World}
use Rattle.checking_commands.proofs.Repairs.{moved_or_cut, not_repaired, repair_printed, repair_refused, repaired_apart}
use Rattle.checking_commands.proofs.Rows.{repair_carried}
use Rattle.checking_commands.proofs.repairing.repair.Goals as goal

pub returns-then-do_overlap : goal.returns-then-do_overlap
returns-then-do_overlap g c =
    let target = c.args.target.now in
    let before : World = record { told = g.F.Folder.told c.args.folder.now; left = g.I.Source.left c.args.input.now; ended = g.I.Source.ended c.args.input.now; taken = g.O.Sink.taken c.args.out.now; random = g.R.Randoms.left c.args.random.now } in
    repair_carried target c.overlapping.result before before _ _ _ _ (not_repaired target c.overlapping.result before (sym c.do_overlap.ensures ∙ c.if-do_overlap.true) c.overlapping.ensures)
    (by_overlap c.overlapping.result FolderFault target.vault target.lost _ c.overlapping.ensures refl) (by_overlap c.overlapping.result OutputFault target.vault target.lost _ c.overlapping.ensures refl)

pub returns-in-Err : goal.returns-in-Err
returns-in-Err g c =
    let target = c.args.target.now in
    let before : World = record { told = g.F.Folder.told c.args.folder.now; left = g.I.Source.left c.args.input.now; ended = g.I.Source.ended c.args.input.now; taken = g.O.Sink.taken c.args.out.now; random = g.R.Randoms.left c.args.random.now } in
    let after : World = record before { told = g.F.Folder.told c.move_strays.new.folder } in
    repair_carried target c.in-Err.answer before after _ _ _ _
    (repaired_apart target c.in-Err.answer before after (sym c.do_overlap.ensures ∙ c.if-do_overlap.false) (Keeps-refl before.left) refl
    (repair_refused target c.in-Err.answer before.told after.told before.taken c.in-Err.ensures.own c.in-Err.ensures.cause
    (λ v is. moved_or_cut c.roots_have_one_answer.ensures target v c.in-Err.answer (c.in-Err.ensures.cause v is)) c.in-Err.ensures.tested c.in-Err.ensures.moves c.in-Err.ensures.stops))
    (λ is. c.in-Err.ensures.failed (ap Err is)) (λ is. absurd (is_another is_of_moving c.in-Err.answer OutputFault c.in-Err.ensures.own refl is))

pub returns-in-Ok : goal.returns-in-Ok
returns-in-Ok g c =
    let target = c.args.target.now in
    let before : World = record { told = g.F.Folder.told c.args.folder.now; left = g.I.Source.left c.args.input.now; ended = g.I.Source.ended c.args.input.now; taken = g.O.Sink.taken c.args.out.now; random = g.R.Randoms.left c.args.random.now } in
    let after : World = record { told = g.F.Folder.told c.move_strays.new.folder; left = g.I.Source.left c.args.input.now; ended = g.I.Source.ended c.args.input.now; taken = g.O.Sink.taken c.print.new.out; random = g.R.Randoms.left c.args.random.now } in
    repair_carried target c.print.result before after _ _ _ _
    (repaired_apart target c.print.result before after (sym c.do_overlap.ensures ∙ c.if-do_overlap.false) (Keeps-refl before.left) refl
    (repair_printed target (string_bytes c.in-Ok.text) c.print.result before.told after.told before.taken after.taken c.in-Ok.ensures.moved c.in-Ok.ensures.passed c.in-Ok.ensures.moves
    (subst (λ text. PrintsText text c.print.result before.taken after.taken) c.as_str.ensures.value c.print.ensures.prints) c.print.ensures.answers))
    (by_printing c.print.result FolderFault _ (elim c.print.ensures.answers as (λ _. IsPrinted c.print.result) [ inl done ↦ inl done | inr output ↦ inr (inl output) ]) refl) c.print.ensures.output_fault
