use Rattle.std.proofs.Common.{Err, ap, refl}
use Rattle.std.proofs.KnownBytes.{Keeps-refl}
use Rattle.command_answers.specs.declared.answer.Answer.TheVariants.{FolderFault, OutputFault}
use Rattle.migration_answers.specs.Stops.{is_of_refusal}
use Rattle.open_for_reading.proofs.Carrying.{by_printing}
use Rattle.open_for_reading.proofs.Printings.{is_another}
use Rattle.open_for_reading.specs.World.{World}
use Rattle.migration_commands.specs.Retire.{RetiresSource}
use Rattle.migration_commands.proofs.Carrying.{retire_carried}
use Rattle.migration_commands.proofs.Retirings.{retire_printed, retire_stopped}
use Rattle.migration_commands.proofs.retiring.retire.Goals as goal

pub returns-in-Ok : goal.returns-in-Ok
returns-in-Ok g c =
    let resuming = c.args.resuming.now in
    let before : World = record { told = g.F.Folder.told c.args.folder.now; left = g.I.Source.left c.args.input.now; ended = g.I.Source.ended c.args.input.now; taken = g.O.Sink.taken c.args.out.now; random = g.R.Randoms.left c.args.random.now } in
    let after : World = record { told = g.F.Folder.told c.remove.new.folder; left = g.I.Source.left c.args.input.now; ended = g.I.Source.ended c.args.input.now; taken = g.O.Sink.taken c.print_retired.new.out; random = g.R.Randoms.left c.args.random.now } in
    let did : RetiresSource resuming c.print_retired.result before after = record {
      retires = retire_printed resuming c.in-Ok.retired c.print_retired.result before.told after.told before.taken after.taken
          c.in-Ok.ensures.retired c.in-Ok.ensures.came c.in-Ok.ensures.keeps c.in-Ok.ensures.order c.print_retired.ensures.prints c.print_retired.ensures.answers;
      untouched = Keeps-refl before.left;
      undrawn = refl;
    } in
    retire_carried resuming c.print_retired.result before after _ _ _ _ did (by_printing c.print_retired.result FolderFault _ c.print_retired.ensures.answers refl) c.print_retired.ensures.output_fault

pub returns-in-Err : goal.returns-in-Err
returns-in-Err g c =
    let resuming = c.args.resuming.now in
    let before : World = record { told = g.F.Folder.told c.args.folder.now; left = g.I.Source.left c.args.input.now; ended = g.I.Source.ended c.args.input.now; taken = g.O.Sink.taken c.args.out.now; random = g.R.Randoms.left c.args.random.now } in
    let after : World = record { told = g.F.Folder.told c.remove.new.folder; left = g.I.Source.left c.args.input.now; ended = g.I.Source.ended c.args.input.now; taken = g.O.Sink.taken c.args.out.now; random = g.R.Randoms.left c.args.random.now } in
    let did : RetiresSource resuming c.in-Err.answer before after = record {
      retires = retire_stopped resuming c.in-Err.answer before.told after.told before.taken c.in-Err.ensures.own c.in-Err.ensures.stopped c.in-Err.ensures.keeps c.in-Err.ensures.order c.in-Err.ensures.completes;
      untouched = Keeps-refl before.left;
      undrawn = refl;
    } in
    retire_carried resuming c.in-Err.answer before after _ _ _ _ did (λ is. c.in-Err.ensures.failed (ap Err is))
    (λ is. absurd (is_another is_of_refusal c.in-Err.answer OutputFault c.in-Err.ensures.own refl is))
