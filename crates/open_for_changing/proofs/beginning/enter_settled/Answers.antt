use Rattle.std.proofs.Common.{Ok}
use Rattle.open_for_changing.proofs.Beginnings.{settled_from, entered_from, still_seen, work_refused}
use Rattle.open_for_changing.proofs.Leavings.{leaves_settled, leaves_entered}
use Rattle.open_for_changing.proofs.beginning.enter_settled.Goals as goal

pub returns-in_err-settle-clause-moments : goal.returns-in_err-settle-clause-moments
returns-in_err-settle-clause-moments g c =
    settled_from c.args.work.now (g.F.Folder.told c.args.folder.now) (g.F.Folder.told c.settle.new.self) c.settle.result c.settle.ensures.changes

pub returns-in-Ok-clause-moments : goal.returns-in-Ok-clause-moments
returns-in-Ok-clause-moments g c =
    entered_from c.args.work.now (g.F.Folder.told c.args.folder.now) (g.F.Folder.told c.settle.new.self) (g.F.Folder.told c.enter.new.folder) (Ok tt) c.in_ok-settle.ensures.changes c.enter.ensures.enters.moments

pub returns-in-Err-clause-refused : goal.returns-in-Err-clause-refused
returns-in-Err-clause-refused g c = λ v is.
    work_refused v c.args.work.now c.in-Err.fault c.answer_to_work.result
    (c.in-Err.ensures.enters.answer v (still_seen (g.F.Folder.told c.args.folder.now) (g.F.Folder.told c.settle.new.self) c.in_ok-settle.ensures.changes v is)) c.answer_to_work.ensures.answers

pub returns-in-Err-clause-moments : goal.returns-in-Err-clause-moments
returns-in-Err-clause-moments g c =
    entered_from c.args.work.now (g.F.Folder.told c.args.folder.now) (g.F.Folder.told c.settle.new.self) (g.F.Folder.told c.enter.new.folder) (Ok tt) c.in_ok-settle.ensures.changes c.enter.ensures.enters.moments

pub returns-in_err-settle-clause-leaves : goal.returns-in_err-settle-clause-leaves
returns-in_err-settle-clause-leaves g c =
    leaves_settled c.args.work.now (g.F.Folder.told c.args.folder.now) (g.F.Folder.told c.settle.new.self) c.settle.result c.settle.ensures.changes

pub returns-in-Ok-clause-leaves : goal.returns-in-Ok-clause-leaves
returns-in-Ok-clause-leaves g c =
    leaves_entered c.args.work.now (g.F.Folder.told c.args.folder.now) (g.F.Folder.told c.settle.new.self) (g.F.Folder.told c.enter.new.folder) c.in_ok-settle.ensures.changes c.enter.ensures.enters.moments
    c.enter.ensures.enters.kept

pub returns-in-Err-clause-leaves : goal.returns-in-Err-clause-leaves
returns-in-Err-clause-leaves g c =
    leaves_entered c.args.work.now (g.F.Folder.told c.args.folder.now) (g.F.Folder.told c.settle.new.self) (g.F.Folder.told c.enter.new.folder) c.in_ok-settle.ensures.changes c.enter.ensures.enters.moments
    c.enter.ensures.enters.kept
