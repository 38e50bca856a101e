use Rattle.std.proofs.Common.{Err, ap, refl}
use Rattle.std.proofs.KnownBytes.{Keeps-refl}
use Rattle.command_answers.specs.declared.answer.Answer.TheVariants.{FolderFault, OutputFault, RandomFault}
use Rattle.migration_answers.specs.Stops.{is_of_told_stop}
use Rattle.open_for_reading.proofs.Carrying.{by_printing}
use Rattle.open_for_reading.proofs.Printings.{is_another}
use Rattle.open_for_reading.specs.World.{World}
use Rattle.migration_commands.specs.Resume.{ResumesTree}
use Rattle.migration_commands.proofs.Carrying.{resume_carried}
use Rattle.migration_commands.proofs.Migrations.{resume_printed, resume_stopped, stopped_drew}
use Rattle.migration_commands.proofs.resuming.resume.Goals as goal

pub returns-in-Ok : goal.returns-in-Ok
returns-in-Ok g c =
    let resuming = c.args.resuming.now in
    let before : World = record { told = g.F.Folder.told c.args.folder.now; left = g.I.Source.left c.args.input.now; ended = g.I.Source.ended c.args.input.now; taken = g.O.Sink.taken c.args.out.now; random = g.R.Randoms.left c.args.random.now } in
    let after : World = record { told = g.F.Folder.told c.go_on.new.folder; left = g.I.Source.left c.args.input.now; ended = g.I.Source.ended c.args.input.now; taken = g.O.Sink.taken c.print_done.new.out; random = g.R.Randoms.left c.go_on.new.random } in
    let did : ResumesTree resuming c.print_done.result before after = record {
      resumes = resume_printed resuming c.in-Ok.done c.print_done.result before.told after.told before.taken after.taken before.random after.random
          c.in-Ok.ensures.resumed c.in-Ok.ensures.drew c.in-Ok.ensures.came c.in-Ok.ensures.keeps c.in-Ok.ensures.moves c.in-Ok.ensures.journal c.print_done.ensures.prints c.print_done.ensures.answers;
      untouched = Keeps-refl before.left;
    } in
    resume_carried resuming c.print_done.result before after _ _ _ _ did (by_printing c.print_done.result FolderFault _ c.print_done.ensures.answers refl) c.print_done.ensures.output_fault
    (by_printing c.print_done.result RandomFault _ c.print_done.ensures.answers refl)

pub returns-in-Err : goal.returns-in-Err
returns-in-Err g c =
    let resuming = c.args.resuming.now in
    let before : World = record { told = g.F.Folder.told c.args.folder.now; left = g.I.Source.left c.args.input.now; ended = g.I.Source.ended c.args.input.now; taken = g.O.Sink.taken c.args.out.now; random = g.R.Randoms.left c.args.random.now } in
    let after : World = record { told = g.F.Folder.told c.go_on.new.folder; left = g.I.Source.left c.args.input.now; ended = g.I.Source.ended c.args.input.now; taken = g.O.Sink.taken c.args.out.now; random = g.R.Randoms.left c.go_on.new.random } in
    let did : ResumesTree resuming c.in-Err.answer before after = record {
      resumes = resume_stopped resuming c.in-Err.answer before.told after.told before.taken before.random after.random c.in-Err.ensures.own
          (stopped_drew c.in-Err.answer before.random after.random c.in-Err.ensures.drew) c.in-Err.ensures.stopped c.in-Err.ensures.keeps c.in-Err.ensures.moves c.in-Err.ensures.journal c.in-Err.ensures.completes;
      untouched = Keeps-refl before.left;
    } in
    resume_carried resuming c.in-Err.answer before after _ _ _ _ did (λ is. c.in-Err.ensures.failed (ap Err is))
    (λ is. absurd (is_another is_of_told_stop c.in-Err.answer OutputFault c.in-Err.ensures.own refl is)) (λ is. c.in-Err.ensures.drawn (ap Err is))
