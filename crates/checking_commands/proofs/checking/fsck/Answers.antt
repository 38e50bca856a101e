use Rattle.std.proofs.Common.{refl}
use Rattle.std.proofs.KnownBytes.{Keeps-refl}
use Rattle.open_for_reading.specs.World.{World}
use Rattle.checking_commands.proofs.Checks.{checks}
use Rattle.checking_commands.proofs.Rows.{fsck_carried}
use Rattle.checking_commands.proofs.checking.fsck.Goals as goal

pub returns : goal.returns
returns g c =
    let before : World = record { told = g.F.Folder.told c.args.folder.now; left = g.I.Source.left c.args.input.now; ended = g.I.Source.ended c.args.input.now; taken = g.O.Sink.taken c.args.out.now; random = g.R.Randoms.left c.args.random.now } in
    let after : World = record { told = g.F.Folder.told c.tell.new.folder; left = g.I.Source.left c.args.input.now; ended = g.I.Source.ended c.args.input.now; taken = g.O.Sink.taken c.tell.new.out; random = g.R.Randoms.left c.args.random.now } in
    fsck_carried c.args.target.now c.tell.result before after _ _ _ _
    (checks c.roots_have_one_answer.ensures c.args.target.now c.tell.result before after c.tell.ensures.told c.tell.ensures.own c.tell.ensures.follows c.tell.ensures.quiet (Keeps-refl before.left) refl)
    c.tell.ensures.folder_fault c.tell.ensures.output_fault
