use Rattle.std.proofs.Common.{◌≡◌, ℕ, refl, subst}
use Rattle.std.specs.Io.KnownBytes.{Appends}
use Rattle.std.proofs.lemmas.Result.{err_from_is_err_and}
use Rattle.demo_core.specs.Sharing.{GoesOn}
use Rattle.demonstration.specs.Demo.{IsLed, IsWay, OnRetired, chances, led_text, way_text}
use Rattle.demonstration.specs.DemoSteps.{CanLead, Sees}
use Rattle.demonstration.specs.DemoTrees.{Leads, LeadsBoth, WhereTold, first_root, second_root, third_root}
use Rattle.demonstration.specs.declared.leading.Leg.TheVariants.{There, Back}
use Rattle.demonstration.proofs.Beginnable.{so_part}
use Rattle.demonstration.proofs.Demonstrations.{back_then, led_as, part_after, some_way, way_stopped}
use Rattle.demonstration.proofs.Legs.{both_lead, on_end}
use Rattle.demonstration.proofs.demonstrating.move_there.Goals as goal
use Rattle.vault_read.specs.declared.vault.VaultKind.TheVariants as kind

pub returns-in_err-status-clause-prints : goal.returns-in_err-status-clause-prints
returns-in_err-status-clause-prints g c count =
    let p = err_from_is_err_and c.from_residual.result c.from_residual.ensures.1 in
    way_stopped (IsWay _ count) way_text c.from_residual.result p.0 _ _ p.1 (some_way _ count _ _ (c.in_err-status.ensures.prints count))

pub returns-in-Stopped-clause-prints : goal.returns-in-Stopped-clause-prints
returns-in-Stopped-clause-prints g c count = led_as _ count There _ _ _ _ c.in-Stopped.is (c.in_ok-status.ensures.prints count)

pub returns-in-Retired-clause-prints : goal.returns-in-Retired-clause-prints
returns-in-Retired-clause-prints g c count =
    let f0 = g.F.Folder.faults c.args.folder.now in
    let f1 = g.F.Folder.faults c.lead.new.folder in
    let f2 = g.F.Folder.faults c.move_back.new.folder in
    let r0 = g.R.Randoms.faults c.args.random.now in
    let r1 = g.R.Randoms.faults c.lead.new.random in
    let r2 = g.R.Randoms.faults c.move_back.new.random in
    let s0 = g.R.Randoms.left c.args.random.now in
    let s1 = g.R.Randoms.left c.lead.new.random in
    let s2 = g.R.Randoms.left c.move_back.new.random in
    let t0 = g.F.Folder.told c.args.folder.now in
    let t1 = g.F.Folder.told c.lead.new.folder in
    let t2 = g.F.Folder.told c.move_back.new.folder in
    let K = Sees (CanLead There) count (g.F.Folder.told c.args.folder.now) in
    let K1 = Sees (CanLead Back) count (g.F.Folder.told c.lead.new.folder) in
    let taken = g.O.Sink.taken c.args.out.now in
    let mid = g.O.Sink.taken c.lead.new.out in
    let led = subst (λ l. IsLed (chances f0 f1 r0 r1 s0 s1 t0 t1 count K) count l × Appends taken mid (led_text There l)) c.in-Retired.is (c.in_ok-status.ensures.prints count) in
    let goes = subst (λ l. OnRetired ((n : ℕ) → Sees (CanLead There) n t0 → GoesOn t0 t1) l) c.in-Retired.is c.in_ok-status.ensures.goes in
    let next = subst (λ l. OnRetired ((n : ℕ) → There ≡ There → Sees (CanLead There) n (g.F.Folder.told c.args.folder.now) → Sees (CanLead Back) n (g.F.Folder.told c.lead.new.folder)) l) c.in-Retired.is c.in_ok-status.ensures.next in
    back_then (chances f1 f2 r1 r2 s1 s2 t1 t2 count K1) (chances f0 f2 r0 r2 s0 s2 t0 t2 count K)
    (part_after c.draws_compose.ensures.composed f0 f1 f2 r0 r1 r2 s0 s1 s2 t0 t1 t2 count K1 K c.in_ok-status.ensures.grows c.in_ok-status.ensures.counted (c.lead.ensures.drew count) (goes count) (next count refl))
    count c.in-Retired.items c.move_back.result taken mid (g.O.Sink.taken c.move_back.new.out) led.0 led.1 (c.move_back.ensures.prints count)

pub returns-in-Retired-clause-leads : goal.returns-in-Retired-clause-leads
returns-in-Retired-clause-leads g c =
    let t = g.F.Folder.told c.args.folder.now in
    let u = g.F.Folder.told c.lead.new.folder in
    let w = g.F.Folder.told c.move_back.new.folder in
    let there = subst (λ led. OnRetired (WhereTold (Leads kind.Cryptomator first_root second_root) t u) led) c.in-Retired.is c.in_ok-status.ensures.leads in
    on_end c.move_back.result (WhereTold (Leads kind.Gocryptfs second_root third_root) u w) (WhereTold LeadsBoth t w) (λ back. both_lead t u w there back) c.move_back.ensures.leads

pub returns-in-Retired-clause-ends : goal.returns-in-Retired-clause-ends
returns-in-Retired-clause-ends g c count =
    let f0 = g.F.Folder.faults c.args.folder.now in
    let f1 = g.F.Folder.faults c.lead.new.folder in
    let f2 = g.F.Folder.faults c.move_back.new.folder in
    let r0 = g.R.Randoms.faults c.args.random.now in
    let r1 = g.R.Randoms.faults c.lead.new.random in
    let r2 = g.R.Randoms.faults c.move_back.new.random in
    let s0 = g.R.Randoms.left c.args.random.now in
    let s1 = g.R.Randoms.left c.lead.new.random in
    let s2 = g.R.Randoms.left c.move_back.new.random in
    let t0 = g.F.Folder.told c.args.folder.now in
    let t1 = g.F.Folder.told c.lead.new.folder in
    let t2 = g.F.Folder.told c.move_back.new.folder in
    let K = Sees (CanLead There) count (g.F.Folder.told c.args.folder.now) in
    let K1 = Sees (CanLead Back) count (g.F.Folder.told c.lead.new.folder) in
    let goes = subst (λ l. OnRetired ((n : ℕ) → Sees (CanLead There) n t0 → GoesOn t0 t1) l) c.in-Retired.is c.in_ok-status.ensures.goes in
    let next = subst (λ l. OnRetired ((n : ℕ) → There ≡ There → Sees (CanLead There) n (g.F.Folder.told c.args.folder.now) → Sees (CanLead Back) n (g.F.Folder.told c.lead.new.folder)) l) c.in-Retired.is c.in_ok-status.ensures.next in
    so_part (chances f1 f2 r1 r2 s1 s2 t1 t2 count K1) (chances f0 f2 r0 r2 s0 s2 t0 t2 count K)
    (part_after c.draws_compose.ensures.composed f0 f1 f2 r0 r1 r2 s0 s1 s2 t0 t1 t2 count K1 K c.in_ok-status.ensures.grows c.in_ok-status.ensures.counted (c.lead.ensures.drew count) (goes count) (next count refl))
    c.move_back.result (c.move_back.ensures.ends count)
