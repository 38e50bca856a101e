use Rattle.std.proofs.Common.{Err, ap, refl, sym, ◌∙◌}
use Rattle.std.proofs.KnownBytes.{Keeps-refl}
use Rattle.vault_write.specs.Faults.{IsDirectoryFault}
use Rattle.command_answers.specs.declared.answer.Answer.TheVariants.{RandomFault}
use Rattle.open_for_reading.proofs.Carrying.{by_tests}
use Rattle.open_for_reading.specs.Tests.{is_of_beginning}
use Rattle.open_for_reading.specs.World.{World}
use Rattle.open_for_reading.proofs.Counts.{rose_after}
use Rattle.writing_commands.specs.Mkdir.{MakesDirectoryIn, is_of_directory}
use Rattle.writing_commands.proofs.MadeItems.{MakesIt, directory_made, vault_unchanged}
use Rattle.writing_commands.proofs.Makings.{folder_failed, random_failed}
use Rattle.writing_commands.proofs.Rows.{mkdir_carried}
use Rattle.writing_commands.proofs.directory.mkdir.Goals as goal

pub returns-in-Ok : goal.returns-in-Ok
returns-in-Ok g c =
    let change = c.args.change.now in
    let before : World = record { told = g.F.Folder.told c.args.folder.now; left = g.I.Source.left c.args.input.now; ended = g.I.Source.ended c.args.input.now; taken = g.O.Sink.taken c.args.out.now; random = g.R.Randoms.left c.args.random.now } in
    let after : World = record { told = g.F.Folder.told c.place_dir.new.folder; left = g.I.Source.left c.args.input.now; ended = g.I.Source.ended c.args.input.now; taken = g.O.Sink.taken c.args.out.now; random = g.R.Randoms.left c.place_dir.new.random } in
    mkdir_carried change c.answer_to_making.result before after _ _ _ _
    (directory_made change c.roots_show_their_own.ensures.outside c.roots_show_their_own.ensures.alike c.in-Ok.site.vault c.in-Ok.site.work c.answer_to_making.result c.place_dir.result
    (g.F.Folder.told c.begin.new.folder) before after (g.met.F.Folder.sound c.args.folder.now) c.in-Ok.ensures.apart c.in-Ok.ensures.root c.in-Ok.ensures.work c.in-Ok.ensures.moments
    (g.met.F.Folder.sound c.begin.new.folder) c.in-Ok.ensures.leaves c.in-Ok.ensures.fresh
    c.in-Ok.ensures.opened c.in-Ok.ensures.entered c.place_dir.ensures.fault c.answer_to_making.ensures c.place_dir.ensures.made (Keeps-refl before.left) (Keeps-refl before.taken))
    (λ is. rose_after (g.F.Folder.faults c.args.folder.now) (g.F.Folder.faults c.begin.new.folder) (g.F.Folder.faults c.place_dir.new.folder) c.in-Ok.ensures.grows
    (c.place_dir.ensures.failed (folder_failed (λ fault. IsDirectoryFault fault) (λ none. none) c.place_dir.result c.place_dir.ensures.fault (sym c.answer_to_making.ensures ∙ is))))
    (λ is. c.place_dir.ensures.random (random_failed c.place_dir.result (sym c.answer_to_making.ensures ∙ is)))

pub returns-in-Err : goal.returns-in-Err
returns-in-Err g c =
    let change = c.args.change.now in
    let before : World = record { told = g.F.Folder.told c.args.folder.now; left = g.I.Source.left c.args.input.now; ended = g.I.Source.ended c.args.input.now; taken = g.O.Sink.taken c.args.out.now; random = g.R.Randoms.left c.args.random.now } in
    let after : World = record before { told = g.F.Folder.told c.begin.new.folder } in
    let did : MakesDirectoryIn change c.in-Err.answer before after = record {
      changes = vault_unchanged is_of_directory change (MakesIt change c.in-Err.answer before after) c.in-Err.answer before after.told
          c.in-Err.ensures.overlapping c.in-Err.ensures.refused c.in-Err.ensures.own c.in-Err.ensures.moments c.in-Err.ensures.leaves;
      untouched = Keeps-refl before.left;
    } in
    mkdir_carried change c.in-Err.answer before after _ _ _ _ did (λ is. c.in-Err.ensures.failed (ap Err is))
    (by_tests is_of_beginning c.in-Err.answer RandomFault change.target.vault change.work _ (λ meet. (c.in-Err.ensures.overlapping meet).0) c.in-Err.ensures.own refl refl)
