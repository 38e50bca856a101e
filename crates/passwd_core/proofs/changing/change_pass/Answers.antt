use Rattle.std.proofs.Common.{inl}
use Rattle.passwd_core.specs.Faults.{of_load}
use Rattle.passwd_core.specs.Rekeying.{ChangesPass}
use Rattle.passwd_core.proofs.Changed.{unloaded}
use Rattle.passwd_core.proofs.Drawn.{at_fault}
use Rattle.passwd_core.proofs.changing.change_pass.Goals as goal

pub returns-in_err-kind-clause-changes : goal.returns-in_err-kind-clause-changes
returns-in_err-kind-clause-changes g c =
    let views = c.images_show_views.ensures in
    let roots = c.roots_show_their_own.ensures in
    let s = g.R.Randoms.left c.args.random.now in
    let t = g.F.Folder.told c.args.folder.now in
    let t1 = g.F.Folder.told c.kind_at.new.folder in
    at_fault (ChangesPass c.args.work.now c.args.root.now c.args.pass.now c.args.new_pass.now s s t t1) c.from_residual.result (of_load c.in_err-kind.field-0.0) c.from_residual.ensures.1
    (unloaded c.args.work.now c.args.root.now c.args.pass.now c.args.new_pass.now c.requires.apart (record { images = views.images; settled = views.settled; alike = roots.alike; outside = roots.outside })
    s s t t1 c.in_err-kind.field-0.0 c.in_err-kind.ensures.looks.told (c.draws_compose.ensures.none s) (λ v is. inl (c.in_err-kind.ensures.fault v is)))
