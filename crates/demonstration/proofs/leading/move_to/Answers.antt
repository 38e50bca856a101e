use Rattle.std.proofs.Common.{ℕ}
use Rattle.demo_core.proofs.Shared.{goes_then}
use Rattle.demonstration.specs.Demo.{chances}
use Rattle.demonstration.specs.DemoSteps.{CanCarry, CanLead, HasCarried, Sees}
use Rattle.demonstration.specs.DemoTrees.{Carries, IsMoved, WhereTold, kind_to, source_of, target_of}
use Rattle.demonstration.proofs.Beginnable.{status_more}
use Rattle.demonstration.proofs.DemoDraws.{drew_both}
use Rattle.demonstration.proofs.Demonstrations.{part_after}
use Rattle.demonstration.proofs.Legs.{leg_carries, on_zero}
use Rattle.demonstration.proofs.leading.move_to.Goals as goal

pub returns-clause-carries : goal.returns-clause-carries
returns-clause-carries g c =
    let leg = c.args.leg in
    let t = g.F.Folder.told c.args.folder.now in
    let u = g.F.Folder.told c.make_target.new.folder in
    let w = g.F.Folder.told c.migrate.new.folder in
    on_zero c.migrate.result (IsMoved (source_of leg) (target_of leg) u w) (WhereTold (Carries (kind_to leg) (source_of leg) (target_of leg)) t w)
    (λ moved. leg_carries c.roots_show_their_own.ensures.alike c.roots_have_one_answer.ensures c.trees_stay_by_same.ensures.mapped leg t u w (λ a is. g.met.F.Folder.sound c.args.folder.now a is) (λ a is. g.met.F.Folder.sound c.make_target.new.folder a is)
    c.in_ok-make_target.ensures.beside c.in_ok-make_target.ensures.new moved) c.migrate.ensures.moved

pub returns-clause-drew : goal.returns-clause-drew
returns-clause-drew g c count sees =
    drew_both c.draws_compose.ensures.composed (g.R.Randoms.left c.args.random.now) (g.R.Randoms.left c.make_target.new.random) (g.R.Randoms.left c.migrate.new.random) c.make_target.ensures.drew
    (c.migrate.ensures.drew count (c.in_ok-make_target.ensures.stands count sees))

pub returns-clause-status : goal.returns-clause-status
returns-clause-status g c count =
    let f0 = g.F.Folder.faults c.args.folder.now in
    let f1 = g.F.Folder.faults c.make_target.new.folder in
    let f2 = g.F.Folder.faults c.migrate.new.folder in
    let r0 = g.R.Randoms.faults c.args.random.now in
    let r1 = g.R.Randoms.faults c.make_target.new.random in
    let r2 = g.R.Randoms.faults c.migrate.new.random in
    let s0 = g.R.Randoms.left c.args.random.now in
    let s1 = g.R.Randoms.left c.make_target.new.random in
    let s2 = g.R.Randoms.left c.migrate.new.random in
    let t0 = g.F.Folder.told c.args.folder.now in
    let t1 = g.F.Folder.told c.make_target.new.folder in
    let t2 = g.F.Folder.told c.migrate.new.folder in
    let K = Sees (CanLead c.args.leg) count (g.F.Folder.told c.args.folder.now) in
    let K1 = Sees (CanCarry c.args.leg) count (g.F.Folder.told c.make_target.new.folder) in
    status_more (chances f1 f2 r1 r2 s1 s2 t1 t2 count K1) (chances f0 f2 r0 r2 s0 s2 t0 t2 count K)
    (part_after c.draws_compose.ensures.composed f0 f1 f2 r0 r1 r2 s0 s1 s2 t0 t1 t2 count K1 K c.make_target.ensures.grows c.make_target.ensures.counted (λ sees. c.make_target.ensures.drew) (λ sees. c.make_target.ensures.goes) (c.in_ok-make_target.ensures.stands count))
    c.migrate.result (c.migrate.ensures.status count)

pub returns-clause-carried : goal.returns-clause-carried
returns-clause-carried g c =
    let leg = c.args.leg in
    let t = g.F.Folder.told c.args.folder.now in
    let u = g.F.Folder.told c.make_target.new.folder in
    let w = g.F.Folder.told c.migrate.new.folder in
    on_zero c.migrate.result ((count : ℕ) → Sees (CanCarry leg) count u → Sees (HasCarried leg) count w) ((count : ℕ) → Sees (CanLead leg) count t → Sees (HasCarried leg) count w)
    (λ carried count sees. carried count (c.in_ok-make_target.ensures.stands count sees)) c.migrate.ensures.carried

pub returns-clause-goes : goal.returns-clause-goes
returns-clause-goes g c = goes_then (g.F.Folder.told c.args.folder.now) (g.F.Folder.told c.make_target.new.folder) (g.F.Folder.told c.migrate.new.folder) c.make_target.ensures.goes c.migrate.ensures.goes
