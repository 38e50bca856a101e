use Rattle.std.proofs.Common.{◌++◌, refl}
use Rattle.std.proofs.lemmas.Result.{err_from_is_err_and}
use Rattle.demonstration.specs.Demo.{Arrived, IsBare, IsWay, chances, made_text, way_text}
use Rattle.demonstration.specs.DemoSteps.{CanLead, Sees}
use Rattle.demonstration.specs.DemoTrees.{BringsItems, LeadsBoth, WhereTold}
use Rattle.demonstration.specs.declared.leading.Leg.TheVariants.{There}
use Rattle.demonstration.proofs.Beginnable.{so_part}
use Rattle.demonstration.proofs.Demonstrations.{front_of_more, made_then, nothing_yet, part_after, way_stopped}
use Rattle.demonstration.proofs.Legs.{all_brought, on_end}
use Rattle.demonstration.proofs.demonstrating.make_and_move.Goals as goal

pub returns-in_err-make_items-clause-prints : goal.returns-in_err-make_items-clause-prints
returns-in_err-make_items-clause-prints g c =
    let n = c.args.count in
    let p = err_from_is_err_and c.from_residual.result c.from_residual.ensures.1 in
    way_stopped (IsWay _ n) (λ way. made_text c.args.seed n ++ way_text way) c.from_residual.result p.0 _ _ p.1 (Arrived n n, (λ known. (refl, refl)), nothing_yet _ (made_text c.args.seed n ++ way_text (Arrived n n)))

pub returns-in_err-tell_made-clause-prints : goal.returns-in_err-tell_made-clause-prints
returns-in_err-tell_made-clause-prints g c =
    let n = c.args.count in
    let p = err_from_is_err_and c.from_residual-in_err-tell_made.result c.from_residual-in_err-tell_made.ensures.1 in
    way_stopped (IsWay _ n) (λ way. made_text c.args.seed n ++ way_text way) c.from_residual-in_err-tell_made.result p.0 _ _ p.1
    (Arrived n n, (λ known. (refl, refl)), front_of_more _ _ (made_text c.args.seed n) (way_text (Arrived n n)) c.in_err-tell_made.ensures.prints)

pub returns-clause-prints : goal.returns-clause-prints
returns-clause-prints g c =
    let f0 = g.F.Folder.faults c.args.folder.now in
    let f1 = g.F.Folder.faults c.make_items.new.folder in
    let f2 = g.F.Folder.faults c.move_there.new.folder in
    let r0 = g.R.Randoms.faults c.args.random.now in
    let r1 = g.R.Randoms.faults c.make_items.new.random in
    let r2 = g.R.Randoms.faults c.move_there.new.random in
    let s0 = g.R.Randoms.left c.args.random.now in
    let s1 = g.R.Randoms.left c.make_items.new.random in
    let s2 = g.R.Randoms.left c.move_there.new.random in
    let t0 = g.F.Folder.told c.args.folder.now in
    let t1 = g.F.Folder.told c.make_items.new.folder in
    let t2 = g.F.Folder.told c.move_there.new.folder in
    let n = c.args.count in
    let K = IsBare (g.F.Folder.told c.args.folder.now) in
    let K1 = Sees (CanLead There) n (g.F.Folder.told c.make_items.new.folder) in
    made_then (chances f1 f2 r1 r2 s1 s2 t1 t2 n K1) (chances f0 f2 r0 r2 s0 s2 t0 t2 n K)
    (part_after c.draws_compose.ensures.composed f0 f1 f2 r0 r1 r2 s0 s1 s2 t0 t1 t2 n K1 K c.make_items.ensures.grows c.make_items.ensures.counted (λ bare. c.make_items.ensures.drew) (λ bare. c.make_items.ensures.goes) c.in_ok-make_items.ensures.stands)
    c.args.seed n c.move_there.result (g.O.Sink.taken c.args.out.now) (g.O.Sink.taken c.tell_made.new.out) (g.O.Sink.taken c.move_there.new.out) c.in_ok-tell_made.ensures.prints (c.move_there.ensures.prints n)

pub returns-clause-brings : goal.returns-clause-brings
returns-clause-brings g c =
    let t = g.F.Folder.told c.args.folder.now in
    let u = g.F.Folder.told c.make_items.new.folder in
    let w = g.F.Folder.told c.move_there.new.folder in
    on_end c.move_there.result (WhereTold LeadsBoth u w) (WhereTold (BringsItems c.args.seed c.args.count) t w)
    (λ leads. all_brought c.roots_have_one_answer.ensures c.args.seed c.args.count t u w c.in_ok-make_items.ensures.makes leads) c.move_there.ensures.leads

pub returns-clause-ends : goal.returns-clause-ends
returns-clause-ends g c =
    let f0 = g.F.Folder.faults c.args.folder.now in
    let f1 = g.F.Folder.faults c.make_items.new.folder in
    let f2 = g.F.Folder.faults c.move_there.new.folder in
    let r0 = g.R.Randoms.faults c.args.random.now in
    let r1 = g.R.Randoms.faults c.make_items.new.random in
    let r2 = g.R.Randoms.faults c.move_there.new.random in
    let s0 = g.R.Randoms.left c.args.random.now in
    let s1 = g.R.Randoms.left c.make_items.new.random in
    let s2 = g.R.Randoms.left c.move_there.new.random in
    let t0 = g.F.Folder.told c.args.folder.now in
    let t1 = g.F.Folder.told c.make_items.new.folder in
    let t2 = g.F.Folder.told c.move_there.new.folder in
    let n = c.args.count in
    let K = IsBare (g.F.Folder.told c.args.folder.now) in
    let K1 = Sees (CanLead There) n (g.F.Folder.told c.make_items.new.folder) in
    so_part (chances f1 f2 r1 r2 s1 s2 t1 t2 n K1) (chances f0 f2 r0 r2 s0 s2 t0 t2 n K)
    (part_after c.draws_compose.ensures.composed f0 f1 f2 r0 r1 r2 s0 s1 s2 t0 t1 t2 n K1 K c.make_items.ensures.grows c.make_items.ensures.counted (λ bare. c.make_items.ensures.drew) (λ bare. c.make_items.ensures.goes) c.in_ok-make_items.ensures.stands)
    c.move_there.result (c.move_there.ensures.ends n)
