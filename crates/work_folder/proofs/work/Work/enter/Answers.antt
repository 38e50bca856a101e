use Rattle.std.proofs.Common.{List, ℕ}
use Rattle.std.proofs.lemmas.Result.{err_from_is_err_and}
use Rattle.work_folder.proofs.Entered.{no_memory_entered, look_fell, preparing_fell, restaging_fell, entered, place_after}
use Rattle.work_folder.proofs.work.Work.enter.Goals as goal

pub returns-in_err-copy-clause-enters : goal.returns-in_err-copy-clause-enters
returns-in_err-copy-clause-enters g c =
    let p = err_from_is_err_and c.from_residual.result c.from_residual.ensures.1 in
    rw (p.1, p.2) (no_memory_entered (List (List ℕ)) c.args.at.now (g.F.Folder.told c.args.folder.now) (g.F.Folder.faults c.args.folder.now))

pub returns-in_err-look_from_parent-clause-enters : goal.returns-in_err-look_from_parent-clause-enters
returns-in_err-look_from_parent-clause-enters g c =
    let p = err_from_is_err_and c.from_residual-in_err-look_from_parent.result c.from_residual-in_err-look_from_parent.ensures.1 in
    rw (p.1, p.2)
    (look_fell (List (List ℕ)) c.args.at.now (g.F.Folder.told c.args.folder.now) (g.F.Folder.told c.look_from_parent.new.folder) (g.F.Folder.faults c.args.folder.now)
    (g.F.Folder.faults c.look_from_parent.new.folder) c.in_err-look_from_parent.field-0.0 c.in_err-look_from_parent.ensures)

pub returns-in_err-prepare-clause-enters : goal.returns-in_err-prepare-clause-enters
returns-in_err-prepare-clause-enters g c =
    let p = err_from_is_err_and c.from_residual-in_err-prepare.result c.from_residual-in_err-prepare.ensures.1 in
    rw (p.1, p.2)
    (preparing_fell (List (List ℕ)) c.args.at.now (g.F.Folder.told c.args.folder.now) (g.F.Folder.told c.look_from_parent.new.folder) (g.F.Folder.told c.prepare.new.folder)
    (g.F.Folder.faults c.args.folder.now) (g.F.Folder.faults c.look_from_parent.new.folder) (g.F.Folder.faults c.prepare.new.folder) c.in_ok-look_from_parent.ensures
    c.in_err-prepare.field-0.0 c.in_err-prepare.ensures)

pub restage-requires-clause-stage : goal.restage-requires-clause-stage
restage-requires-clause-stage g c =
    place_after c.args.at.now (g.F.Folder.told c.args.folder.now) (g.F.Folder.told c.look_from_parent.new.folder) (g.F.Folder.told c.prepare.new.folder)
    (g.F.Folder.faults c.args.folder.now) (g.F.Folder.faults c.look_from_parent.new.folder) (g.F.Folder.faults c.prepare.new.folder) c.in_ok-look_from_parent.ensures
    (g.met.F.Folder.sound c.args.folder.now) c.in_ok-prepare.ensures

pub returns-in_err-restage-clause-enters : goal.returns-in_err-restage-clause-enters
returns-in_err-restage-clause-enters g c =
    let p = err_from_is_err_and c.from_residual-in_err-restage.result c.from_residual-in_err-restage.ensures.1 in
    rw (p.1, p.2)
    (restaging_fell (List (List ℕ)) c.args.at.now (g.F.Folder.told c.args.folder.now) (g.F.Folder.told c.look_from_parent.new.folder) (g.F.Folder.told c.prepare.new.folder)
    (g.F.Folder.faults c.args.folder.now) (g.F.Folder.faults c.look_from_parent.new.folder) (g.F.Folder.faults c.prepare.new.folder) c.in_ok-look_from_parent.ensures
    (g.F.Folder.told c.restage.new.folder) (g.F.Folder.faults c.restage.new.folder) c.in_ok-prepare.ensures c.in_err-restage.field-0.0 c.in_err-restage.ensures)

pub returns-clause-enters : goal.returns-clause-enters
returns-clause-enters g c =
    entered (List (List ℕ)) c.args.at.now (g.F.Folder.told c.args.folder.now) (g.F.Folder.told c.look_from_parent.new.folder) (g.F.Folder.told c.prepare.new.folder)
    (g.F.Folder.faults c.args.folder.now) (g.F.Folder.faults c.look_from_parent.new.folder) (g.F.Folder.faults c.prepare.new.folder) c.in_ok-look_from_parent.ensures
    (g.F.Folder.told c.restage.new.folder) (g.F.Folder.faults c.restage.new.folder) c.in_ok-prepare.ensures (g.met.F.Folder.sound c.args.folder.now) c.in_ok-restage.ensures
    c.in_ok-copy.field-0
