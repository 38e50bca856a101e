use Rattle.std.proofs.Common.{refl}
use Rattle.port_model.specs.Counts.{CountRose}
use Rattle.demonstration.specs.Demo.{IsBare, chances, chances_of}
use Rattle.demonstration.specs.DemoTrees.{BringsItems, WhereTold}
use Rattle.demonstration.proofs.Demonstrations.{demonstrated, of_seed, so_more, stopped}
use Rattle.demonstration.proofs.demonstrating.demonstrate.Goals as goal

pub returns-in-Ok-clause-prints : goal.returns-in-Ok-clause-prints
returns-in-Ok-clause-prints g c =
    let f = g.F.Folder.faults c.args.folder.now in
    let f' = g.F.Folder.faults c.make_and_move.new.folder in
    let told = g.F.Folder.told c.args.folder.now in
    let told' = g.F.Folder.told c.make_and_move.new.folder in
    demonstrated (chances f f' 0 0 _ _ told told' c.args.count (IsBare told)) (chances_of (CountRose f f') (IsBare told) c.args.seed c.args.count told told') (of_seed f f' c.args.seed c.args.count _ _ told told' (IsBare told) c.random_of-random.ensures.stream)
    (WhereTold (BringsItems c.args.seed c.args.count) told (g.F.Folder.told c.make_and_move.new.folder)) c.args.seed c.args.count
    c.in-Ok.field-0 (g.O.Sink.taken c.args.out.now) (g.O.Sink.taken c.make_and_move.new.out) c.in-Ok.ensures.prints c.in-Ok.ensures.brings

pub returns-in-Err-clause-prints : goal.returns-in-Err-clause-prints
returns-in-Err-clause-prints g c =
    let f = g.F.Folder.faults c.args.folder.now in
    let f' = g.F.Folder.faults c.make_and_move.new.folder in
    let told = g.F.Folder.told c.args.folder.now in
    let told' = g.F.Folder.told c.make_and_move.new.folder in
    stopped (chances f f' 0 0 _ _ told told' c.args.count (IsBare told)) (chances_of (CountRose f f') (IsBare told) c.args.seed c.args.count told told') (of_seed f f' c.args.seed c.args.count _ _ told told' (IsBare told) c.random_of-random.ensures.stream)
    (WhereTold (BringsItems c.args.seed c.args.count) told (g.F.Folder.told c.make_and_move.new.folder)) c.args.seed c.args.count
    c.in-Err.answer (g.O.Sink.taken c.args.out.now) (g.O.Sink.taken c.make_and_move.new.out) c.in-Err.ensures.own c.in-Err.ensures.prints

pub returns-in-Ok-clause-ends : goal.returns-in-Ok-clause-ends
returns-in-Ok-clause-ends g c = record { zeros = λ known same. cc same; shared = λ known at same. cc same; others = λ known. refl }

pub returns-in-Err-clause-ends : goal.returns-in-Err-clause-ends
returns-in-Err-clause-ends g c =
    let f = g.F.Folder.faults c.args.folder.now in
    let f' = g.F.Folder.faults c.make_and_move.new.folder in
    let told = g.F.Folder.told c.args.folder.now in
    let told' = g.F.Folder.told c.make_and_move.new.folder in
    so_more (chances f f' 0 0 _ _ told told' c.args.count (IsBare told)) (chances_of (CountRose f f') (IsBare told) c.args.seed c.args.count told told') (of_seed f f' c.args.seed c.args.count _ _ told told' (IsBare told) c.random_of-random.ensures.stream) c.in-Err.answer c.in-Err.ensures.ends
