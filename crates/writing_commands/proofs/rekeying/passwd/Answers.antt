use Rattle.std.proofs.Common.{Err, ap, refl, subst}
use Rattle.command_answers.specs.declared.answer.Answer.TheVariants.{RandomFault}
use Rattle.open_for_reading.proofs.Carrying.{by_tests}
use Rattle.open_for_reading.proofs.Counts.{rose_after}
use Rattle.open_for_reading.specs.Tests.{is_of_readying}
use Rattle.open_for_reading.specs.World.{World}
use Rattle.writing_commands.specs.Passwd.{ChangesPassphrase}
use Rattle.writing_commands.proofs.RekeyedVaults.{not_read}
use Rattle.writing_commands.proofs.Rows.{passwd_carried}
use Rattle.writing_commands.proofs.rekeying.passwd.Goals as goal

pub returns-in-Ok : goal.returns-in-Ok
returns-in-Ok g c =
    let before : World = record { told = g.F.Folder.told c.args.folder.now; left = g.I.Source.left c.args.input.now; ended = g.I.Source.ended c.args.input.now; taken = g.O.Sink.taken c.args.out.now; random = g.R.Randoms.left c.args.random.now } in
    let after : World = record { told = g.F.Folder.told c.rekey_apart.new.folder; left = g.I.Source.left c.args.input.now; ended = g.I.Source.ended c.args.input.now; taken = g.O.Sink.taken c.args.out.now; random = g.R.Randoms.left c.rekey_apart.new.random } in
    passwd_carried c.args.new.now c.rekey_apart.result before after _ _ _ _
    (subst (λ told. ChangesPassphrase c.args.new.now c.rekey_apart.result (record before { told = told }) after) c.read_both.ensures.told (c.rekey_apart.ensures.changes before.left before.ended before.taken))
    (λ is. rose_after (g.F.Folder.faults c.args.folder.now) (g.F.Folder.faults c.read_both.new.folder) (g.F.Folder.faults c.rekey_apart.new.folder) c.read_both.ensures.grows (c.rekey_apart.ensures.folder_fault is))
    c.rekey_apart.ensures.random_fault

pub returns-in-Err : goal.returns-in-Err
returns-in-Err g c =
    let new = c.args.new.now in
    let before : World = record { told = g.F.Folder.told c.args.folder.now; left = g.I.Source.left c.args.input.now; ended = g.I.Source.ended c.args.input.now; taken = g.O.Sink.taken c.args.out.now; random = g.R.Randoms.left c.args.random.now } in
    let after : World = record { told = g.F.Folder.told c.read_both.new.folder; left = g.I.Source.left c.args.input.now; ended = g.I.Source.ended c.args.input.now; taken = g.O.Sink.taken c.args.out.now; random = g.R.Randoms.left c.args.random.now } in
    passwd_carried new c.in-Err.answer before after _ _ _ _
    (not_read new c.in-Err.answer before after.told c.read_both.ensures.told c.in-Err.ensures.overlapping c.in-Err.ensures.refused c.in-Err.ensures.own)
    (λ is. c.in-Err.ensures.failed (ap Err is))
    (by_tests is_of_readying c.in-Err.answer RandomFault new.vault new.work _ c.in-Err.ensures.overlapping c.in-Err.ensures.own refl refl)
