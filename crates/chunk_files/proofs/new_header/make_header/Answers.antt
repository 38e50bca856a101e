use Rattle.std.proofs.Common.{ap, ◌∙◌, sym}
use Rattle.chunk_files.specs.declared.keys.Layout.TheVariants.{Go, CmGcm, CmCtr}
use Rattle.chunk_files.specs.Format.{Format}
use Rattle.chunk_files.specs.Keys.{format_by}
use Rattle.chunk_files.specs.Told.{layout_of}
use Rattle.chunk_files.proofs.FailedDraws.{fails-by}
use Rattle.chunk_files.proofs.new_header.make_header.Goals as goal

pub returns-in-Go-clause-fault : goal.returns-in-Go-clause-fault
returns-in-Go-clause-fault g c =
    let keys = c.args.keys.now in
    fails-by (λ (f : Format). f.header_draws) keys Go _ _ _ _ (sym c.requires.0 ∙ ap layout_of c.in-Go.is) c.make_go.result (c.make_go.ensures.fault keys.key)

pub returns-in-CmGcm-clause-fault : goal.returns-in-CmGcm-clause-fault
returns-in-CmGcm-clause-fault g c =
    let keys = c.args.keys.now in
    fails-by (λ (f : Format). f.header_draws) keys CmGcm _ _ _ _ (sym c.requires.0 ∙ ap layout_of c.in-CmGcm.is) c.make_cm.result (c.make_cm.ensures.fault (format_by CmGcm keys.key keys.mac))

pub returns-in-CmCtr-clause-fault : goal.returns-in-CmCtr-clause-fault
returns-in-CmCtr-clause-fault g c =
    let keys = c.args.keys.now in
    fails-by (λ (f : Format). f.header_draws) keys CmCtr _ _ _ _ (sym c.requires.0 ∙ ap layout_of c.in-CmCtr.is) c.make_ctr.result (c.make_ctr.ensures.fault (format_by CmCtr keys.key keys.mac))
