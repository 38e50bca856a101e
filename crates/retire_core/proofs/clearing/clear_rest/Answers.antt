use Rattle.std.proofs.Common.{Ok, Err, arith, subst}
use Rattle.folder_model.proofs.Counting.{never_falls}
use Rattle.folder_spec.specs.Event.{Changes, RemoveDir, RemoveFile}
use Rattle.work_folder.specs.Entries.{journal_path}
use Rattle.retire_core.proofs.Blaming.{blamed_call}
use Rattle.retire_core.proofs.Cleared.{folder_allowed, folder_gone, journal_allowed, rest_then}
use Rattle.retire_core.proofs.Going.{retiring_then}
use Rattle.retire_core.proofs.Lasts.{folder_clears, folder_retiring, journal_clears, journal_retiring, settle_clears, settle_retiring}
use Rattle.retire_core.proofs.Causing.{folder_fails}
use Rattle.retire_core.proofs.clearing.clear_rest.Goals as goal
use Rattle.migration_sides.proofs.Chains.{fault_as}
use Rattle.migration_sides.proofs.Lasting.{settle_lasts}

pub returns-in_err-remove_file-clause-guard : goal.returns-in_err-remove_file-clause-guard
returns-in_err-remove_file-clause-guard g c = λ migration same.
    let t0 = g.F.Folder.told c.args.folder.now in
    let t1 = g.F.Folder.told c.remove_file.new.self in
    journal_retiring c.roots_show_their_own.ensures.alike migration c.args.work.now t0 t1 c.remove_file.result same c.requires.alone
    (subst (λ p. Changes (RemoveFile p) t0 t1 c.remove_file.result) c.in_ok-journal.ensures c.remove_file.ensures.changes)

pub returns-in_err-remove_file-clause-clears : goal.returns-in_err-remove_file-clause-clears
returns-in_err-remove_file-clause-clears g c =
    let t0 = g.F.Folder.told c.args.folder.now in
    let t1 = g.F.Folder.told c.remove_file.new.self in
    journal_clears c.args.work.now t0 t1 c.remove_file.result (subst (λ p. Changes (RemoveFile p) t0 t1 c.remove_file.result) c.in_ok-journal.ensures c.remove_file.ensures.changes)

pub returns-in_err-remove_file-clause-blamed : goal.returns-in_err-remove_file-clause-blamed
returns-in_err-remove_file-clause-blamed g c =
    let t0 = g.F.Folder.told c.args.folder.now in
    let t1 = g.F.Folder.told c.remove_file.new.self in
    let n0 = g.F.Folder.faults c.args.folder.now in
    let work = c.args.work.now in
    let fault = c.in_err-remove_file.field-0.0 in
    fault_as _ c.from_residual-in_err-remove_file.result c.from_residual-in_err-remove_file.ensures.1
    (blamed_call (RemoveFile (journal_path work)) t0 t1 n0 n0 (g.F.Folder.faults c.remove_file.new.self) fault (omega arith) (journal_allowed work t0 c.requires.alone)
    (subst (λ q. Changes (RemoveFile q) t0 t1 (Err fault)) c.in_ok-journal.ensures c.in_err-remove_file.ensures.changes) c.in_err-remove_file.ensures.counts)

pub returns-in_err-remove_dir-clause-guard : goal.returns-in_err-remove_dir-clause-guard
returns-in_err-remove_dir-clause-guard g c = λ migration same.
    let t0 = g.F.Folder.told c.args.folder.now in
    let t1 = g.F.Folder.told c.remove_file.new.self in
    let t2 = g.F.Folder.told c.remove_dir.new.self in
    let work = c.args.work.now in
    retiring_then migration t0 t1 t2
    (journal_retiring c.roots_show_their_own.ensures.alike migration work t0 t1 c.remove_file.result same c.requires.alone (subst (λ p. Changes (RemoveFile p) t0 t1 c.remove_file.result) c.in_ok-journal.ensures c.remove_file.ensures.changes))
    (folder_retiring c.roots_show_their_own.ensures.alike migration work t1 t2 c.remove_dir.result same c.remove_dir.ensures.changes)

pub returns-in_err-remove_dir-clause-clears : goal.returns-in_err-remove_dir-clause-clears
returns-in_err-remove_dir-clause-clears g c =
    let t0 = g.F.Folder.told c.args.folder.now in
    let t1 = g.F.Folder.told c.remove_file.new.self in
    let t2 = g.F.Folder.told c.remove_dir.new.self in
    let work = c.args.work.now in
    rest_then work t0 t1 t2 (journal_clears work t0 t1 c.remove_file.result (subst (λ p. Changes (RemoveFile p) t0 t1 c.remove_file.result) c.in_ok-journal.ensures c.remove_file.ensures.changes))
    (folder_clears work t1 t2 c.remove_dir.result c.remove_dir.ensures.changes)

pub returns-in_err-remove_dir-clause-blamed : goal.returns-in_err-remove_dir-clause-blamed
returns-in_err-remove_dir-clause-blamed g c =
    let t0 = g.F.Folder.told c.args.folder.now in
    let t1 = g.F.Folder.told c.remove_file.new.self in
    let t2 = g.F.Folder.told c.remove_dir.new.self in
    let n0 = g.F.Folder.faults c.args.folder.now in
    let n1 = g.F.Folder.faults c.remove_file.new.self in
    let work = c.args.work.now in
    fault_as _ c.from_residual-in_err-remove_dir.result c.from_residual-in_err-remove_dir.ensures.1
    (blamed_call (RemoveDir work) t1 t2 n0 n1 (g.F.Folder.faults c.remove_dir.new.self) c.in_err-remove_dir.field-0.0 (never_falls {T = Unit {0}} t0 n0 n1 (Ok c.in_ok-remove_file.field-0) c.in_ok-remove_file.ensures.counts)
    (folder_allowed work t0 t1 c.in_ok-remove_file.field-0 c.requires.below_base (g.met.F.Folder.sound c.args.folder.now) c.requires.alone
    (subst (λ q. Changes (RemoveFile q) t0 t1 (Ok c.in_ok-remove_file.field-0)) c.in_ok-journal.ensures c.in_ok-remove_file.ensures.changes)) c.in_err-remove_dir.ensures.changes c.in_err-remove_dir.ensures.counts)

pub returns-in_err-settle-clause-guard : goal.returns-in_err-settle-clause-guard
returns-in_err-settle-clause-guard g c = λ migration same.
    let t0 = g.F.Folder.told c.args.folder.now in
    let t1 = g.F.Folder.told c.remove_file.new.self in
    let t2 = g.F.Folder.told c.remove_dir.new.self in
    let t3 = g.F.Folder.told c.settle.new.self in
    let work = c.args.work.now in
    retiring_then migration t0 t1 t3
    (journal_retiring c.roots_show_their_own.ensures.alike migration work t0 t1 c.remove_file.result same c.requires.alone (subst (λ p. Changes (RemoveFile p) t0 t1 c.remove_file.result) c.in_ok-journal.ensures c.remove_file.ensures.changes))
    (retiring_then migration t1 t2 t3 (folder_retiring c.roots_show_their_own.ensures.alike migration work t1 t2 c.remove_dir.result same c.remove_dir.ensures.changes)
    (settle_retiring migration t2 t3 c.settle.result c.settle.ensures.changes))

pub returns-in_err-settle-clause-clears : goal.returns-in_err-settle-clause-clears
returns-in_err-settle-clause-clears g c =
    let t0 = g.F.Folder.told c.args.folder.now in
    let t1 = g.F.Folder.told c.remove_file.new.self in
    let t2 = g.F.Folder.told c.remove_dir.new.self in
    let t3 = g.F.Folder.told c.settle.new.self in
    let work = c.args.work.now in
    rest_then work t0 t2 t3 (rest_then work t0 t1 t2 (journal_clears work t0 t1 c.remove_file.result (subst (λ p. Changes (RemoveFile p) t0 t1 c.remove_file.result) c.in_ok-journal.ensures c.remove_file.ensures.changes))
    (folder_clears work t1 t2 c.remove_dir.result c.remove_dir.ensures.changes)) (settle_clears work t2 t3 c.settle.result c.settle.ensures.changes)

pub returns-clause-guard : goal.returns-clause-guard
returns-clause-guard g c = λ migration same.
    let t0 = g.F.Folder.told c.args.folder.now in
    let t1 = g.F.Folder.told c.remove_file.new.self in
    let t2 = g.F.Folder.told c.remove_dir.new.self in
    let t3 = g.F.Folder.told c.settle.new.self in
    let work = c.args.work.now in
    retiring_then migration t0 t1 t3
    (journal_retiring c.roots_show_their_own.ensures.alike migration work t0 t1 c.remove_file.result same c.requires.alone (subst (λ p. Changes (RemoveFile p) t0 t1 c.remove_file.result) c.in_ok-journal.ensures c.remove_file.ensures.changes))
    (retiring_then migration t1 t2 t3 (folder_retiring c.roots_show_their_own.ensures.alike migration work t1 t2 c.remove_dir.result same c.remove_dir.ensures.changes)
    (settle_retiring migration t2 t3 c.settle.result c.settle.ensures.changes))

pub returns-clause-clears : goal.returns-clause-clears
returns-clause-clears g c =
    let t0 = g.F.Folder.told c.args.folder.now in
    let t1 = g.F.Folder.told c.remove_file.new.self in
    let t2 = g.F.Folder.told c.remove_dir.new.self in
    let t3 = g.F.Folder.told c.settle.new.self in
    let work = c.args.work.now in
    rest_then work t0 t2 t3 (rest_then work t0 t1 t2 (journal_clears work t0 t1 c.remove_file.result (subst (λ p. Changes (RemoveFile p) t0 t1 c.remove_file.result) c.in_ok-journal.ensures c.remove_file.ensures.changes))
    (folder_clears work t1 t2 c.remove_dir.result c.remove_dir.ensures.changes)) (settle_clears work t2 t3 c.settle.result c.settle.ensures.changes)

pub returns-clause-gone : goal.returns-clause-gone
returns-clause-gone g c =
    folder_gone c.args.work.now (g.F.Folder.told c.remove_file.new.self) (g.F.Folder.told c.remove_dir.new.self) (g.F.Folder.told c.settle.new.self) c.in_ok-remove_dir.field-0 c.in_ok-settle.field-0
    (g.met.F.Folder.sound c.remove_file.new.self) (g.met.F.Folder.sound c.remove_dir.new.self) c.in_ok-remove_dir.ensures.changes c.in_ok-settle.ensures.changes

pub returns-in_err-remove_file-clause-fails : goal.returns-in_err-remove_file-clause-fails
returns-in_err-remove_file-clause-fails g c =
    fault_as _ c.from_residual-in_err-remove_file.result c.from_residual-in_err-remove_file.ensures.1 (folder_fails c.in_err-remove_file.field-0.0)

pub returns-in_err-remove_dir-clause-fails : goal.returns-in_err-remove_dir-clause-fails
returns-in_err-remove_dir-clause-fails g c =
    fault_as _ c.from_residual-in_err-remove_dir.result c.from_residual-in_err-remove_dir.ensures.1 (folder_fails c.in_err-remove_dir.field-0.0)

pub returns-in_err-settle-clause-fails : goal.returns-in_err-settle-clause-fails
returns-in_err-settle-clause-fails g c =
    fault_as _ c.from_residual-in_err-settle.result c.from_residual-in_err-settle.ensures.1 (folder_fails c.in_err-settle.field-0.0)

pub returns-clause-lasts : goal.returns-clause-lasts
returns-clause-lasts g c = settle_lasts (g.F.Folder.told c.remove_dir.new.self) (g.F.Folder.told c.settle.new.self) c.in_ok-settle.field-0 c.in_ok-settle.ensures.changes
