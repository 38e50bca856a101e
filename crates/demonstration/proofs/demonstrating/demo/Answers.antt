use Rattle.std.proofs.Common.{refl}
use Rattle.std.proofs.KnownBytes.{Keeps-refl}
use Rattle.command_answers.specs.declared.answer.Answer.TheVariants.{OutOfMemory}
use Rattle.open_for_reading.specs.World.{World}
use Rattle.demonstration.specs.Demo.{Demonstrates}
use Rattle.demonstration.proofs.Demonstrations.{demonstrates_nothing, none_rose, so_more, steadily, steady_part}
use Rattle.demonstration.proofs.Rows.{demo_carried}
use Rattle.demonstration.proofs.demonstrating.demo.Goals as goal

pub returns-in-Err : goal.returns-in-Err
returns-in-Err g c =
    let before : World = record { told = g.F.Folder.told c.args.folder.now; left = g.I.Source.left c.args.input.now; ended = g.I.Source.ended c.args.input.now; taken = g.O.Sink.taken c.args.out.now; random = g.R.Randoms.left c.args.random.now } in
    demo_carried c.args.demonstration.now OutOfMemory before before _ _ _ _ (demonstrates_nothing c.args.demonstration.now before) (λ is. cc)

pub returns-in-Ok : goal.returns-in-Ok
returns-in-Ok g c =
    let demonstration = c.args.demonstration.now in
    let before : World = record { told = g.F.Folder.told c.args.folder.now; left = g.I.Source.left c.args.input.now; ended = g.I.Source.ended c.args.input.now; taken = g.O.Sink.taken c.args.out.now; random = g.R.Randoms.left c.args.random.now } in
    let after : World = record before { taken = g.O.Sink.taken c.demonstrate.new.out } in
    let part = steady_part _ _ demonstration.seed demonstration.count c.in-Ok.ensures in
    let did : Demonstrates demonstration c.demonstrate.result before after = record {
      own = c.demonstrate.ensures.own;
      steady = λ same. none_rose (c.demonstrate.ensures.folder_fault same);
      told = _;
      ends = so_more _ _ part c.demonstrate.result c.demonstrate.ensures.ends;
      prints = steadily _ _ part _ demonstration.seed demonstration.count c.demonstrate.result before.taken after.taken c.demonstrate.ensures.prints;
      unchanged = refl;
      untouched = Keeps-refl before.left;
      undrawn = refl;
    } in
    demo_carried demonstration c.demonstrate.result before after _ _ _ _ did c.demonstrate.ensures.output_fault
