use Rattle.std.proofs.Common.{codes, refl, Err, Ok}
use Rattle.retire_core.proofs.Cleared.{on_ok_journal, only_by_old, only_then, rest_by_entry}
use Rattle.retire_core.proofs.Going.{retiring_then}
use Rattle.migration_sides.proofs.Chains.{refused_as}
use Rattle.retire_core.proofs.Causing.{both_removed, old_stays, removed_before, stage_stays}
use Rattle.retire_core.specs.Causes.{TestsRemovals, Unless}
use Rattle.retire_core.proofs.clearing.clear_beside.Goals as goal
use Rattle.retire_core.proofs.InTurn.{entry_keeps, keeps_then}

pub returns-in_err-clear_entry-clause-clears : goal.returns-in_err-clear_entry-clause-clears
returns-in_err-clear_entry-clause-clears g c = only_by_old c.args.work.now (g.F.Folder.told c.args.folder.now) (g.F.Folder.told c.clear_entry.new.folder) c.clear_entry.ensures.clears

pub returns-in_err-clear_entry-2-clause-guard : goal.returns-in_err-clear_entry-2-clause-guard
returns-in_err-clear_entry-2-clause-guard g c = λ migration same.
    retiring_then migration (g.F.Folder.told c.args.folder.now) (g.F.Folder.told c.clear_entry.new.folder) (g.F.Folder.told c.clear_entry-2.new.folder) (c.clear_entry.ensures.guard migration same) (c.clear_entry-2.ensures.guard migration same)

pub returns-in_err-clear_entry-2-clause-clears : goal.returns-in_err-clear_entry-2-clause-clears
returns-in_err-clear_entry-2-clause-clears g c =
    let work = c.args.work.now in
    let t0 = g.F.Folder.told c.args.folder.now in
    let t1 = g.F.Folder.told c.clear_entry.new.folder in
    let t2 = g.F.Folder.told c.clear_entry-2.new.folder in
    only_then work t0 t1 t2 (only_by_old work t0 t1 c.clear_entry.ensures.clears) (rest_by_entry work (codes "stage") t1 t2 refl c.clear_entry-2.ensures.clears)

pub returns-clause-guard : goal.returns-clause-guard
returns-clause-guard g c = λ migration same.
    let t0 = g.F.Folder.told c.args.folder.now in
    let t1 = g.F.Folder.told c.clear_entry.new.folder in
    let t2 = g.F.Folder.told c.clear_entry-2.new.folder in
    let t3 = g.F.Folder.told c.clear_entry-3.new.folder in
    retiring_then migration t0 t1 t3 (c.clear_entry.ensures.guard migration same) (retiring_then migration t1 t2 t3 (c.clear_entry-2.ensures.guard migration same) (c.clear_entry-3.ensures.guard migration same))

pub returns-clause-clears : goal.returns-clause-clears
returns-clause-clears g c =
    let work = c.args.work.now in
    let t0 = g.F.Folder.told c.args.folder.now in
    let t1 = g.F.Folder.told c.clear_entry.new.folder in
    let t2 = g.F.Folder.told c.clear_entry-2.new.folder in
    let t3 = g.F.Folder.told c.clear_entry-3.new.folder in
    only_then work t0 t2 t3 (only_then work t0 t1 t2 (only_by_old work t0 t1 c.clear_entry.ensures.clears) (rest_by_entry work (codes "stage") t1 t2 refl c.clear_entry-2.ensures.clears))
    (rest_by_entry work (codes "journal.new") t2 t3 refl c.clear_entry-3.ensures.clears)

pub returns-clause-cleared : goal.returns-clause-cleared
returns-clause-cleared g c =
    let one = c.in_ok-clear_entry.ensures in
    let two = c.in_ok-clear_entry-2.ensures in
    let three = c.clear_entry-3.ensures in
    on_ok_journal c.args.work.now (g.F.Folder.told c.args.folder.now) (g.F.Folder.told c.clear_entry.new.folder) (g.F.Folder.told c.clear_entry-2.new.folder) (g.F.Folder.told c.clear_entry-3.new.folder)
    c.clear_entry-3.result c.requires.order one.clears two.clears three.clears one.leaves two.leaves three.leaves one.gone two.gone three.gone

pub returns-in_err-clear_entry-clause-cause : goal.returns-in_err-clear_entry-clause-cause
returns-in_err-clear_entry-clause-cause g c v seen =
    refused_as (λ answer. Unless answer (TestsRemovals c.args.work.now v answer)) c.from_residual.result c.from_residual.ensures.1
    (old_stays c.args.work.now v c.in_err-clear_entry.field-0.0 (c.in_err-clear_entry.ensures.cause v seen))

pub returns-in_err-clear_entry-2-clause-cause : goal.returns-in_err-clear_entry-2-clause-cause
returns-in_err-clear_entry-2-clause-cause g c v seen =
    let t0 = g.F.Folder.told c.args.folder.now in
    let t1 = g.F.Folder.told c.clear_entry.new.folder in
    refused_as (λ answer. Unless answer (TestsRemovals c.args.work.now v answer)) c.from_residual-in_err-clear_entry-2.result c.from_residual-in_err-clear_entry-2.ensures.1
    (stage_stays c.args.work.now v c.in_err-clear_entry-2.field-0.0 (c.in_ok-clear_entry.ensures.cause v seen)
    (removed_before c.args.work.now (codes "old") (codes "stage") t0 t1 (Err c.in_err-clear_entry-2.field-0.0) refl c.clear_entry.ensures.clears c.clear_entry.ensures.leaves c.in_err-clear_entry-2.ensures.cause v seen))

pub returns-clause-cause : goal.returns-clause-cause
returns-clause-cause g c v seen =
    let t0 = g.F.Folder.told c.args.folder.now in
    let t1 = g.F.Folder.told c.clear_entry.new.folder in
    let t2 = g.F.Folder.told c.clear_entry-2.new.folder in
    let work = c.args.work.now in
    let answer = c.clear_entry-3.result in
    let old = c.clear_entry.ensures in
    let stage = c.clear_entry-2.ensures in
    both_removed work v answer (c.in_ok-clear_entry.ensures.cause v seen) (removed_before work (codes "old") (codes "stage") t0 t1 (Ok tt) refl old.clears old.leaves c.in_ok-clear_entry-2.ensures.cause v seen)
    (removed_before work (codes "old") (codes "journal.new") t0 t1 answer refl old.clears old.leaves
    (removed_before work (codes "stage") (codes "journal.new") t1 t2 answer refl stage.clears stage.leaves c.clear_entry-3.ensures.cause) v seen)

pub returns-in_err-clear_entry-clause-journal : goal.returns-in_err-clear_entry-clause-journal
returns-in_err-clear_entry-clause-journal g c = entry_keeps c.args.work.now (codes "old") (λ e. cc e) (g.F.Folder.told c.args.folder.now) (g.F.Folder.told c.clear_entry.new.folder) c.clear_entry.ensures.clears

pub returns-in_err-clear_entry-2-clause-journal : goal.returns-in_err-clear_entry-2-clause-journal
returns-in_err-clear_entry-2-clause-journal g c =
    let work = c.args.work.now in
    let t0 = g.F.Folder.told c.args.folder.now in
    let t1 = g.F.Folder.told c.clear_entry.new.folder in
    let t2 = g.F.Folder.told c.clear_entry-2.new.folder in
    keeps_then work t0 t1 t2 (entry_keeps work (codes "old") (λ e. cc e) t0 t1 c.clear_entry.ensures.clears) (entry_keeps work (codes "stage") (λ e. cc e) t1 t2 c.clear_entry-2.ensures.clears)

pub returns-clause-journal : goal.returns-clause-journal
returns-clause-journal g c =
    let work = c.args.work.now in
    let t0 = g.F.Folder.told c.args.folder.now in
    let t1 = g.F.Folder.told c.clear_entry.new.folder in
    let t2 = g.F.Folder.told c.clear_entry-2.new.folder in
    let t3 = g.F.Folder.told c.clear_entry-3.new.folder in
    keeps_then work t0 t2 t3
    (keeps_then work t0 t1 t2 (entry_keeps work (codes "old") (λ e. cc e) t0 t1 c.clear_entry.ensures.clears) (entry_keeps work (codes "stage") (λ e. cc e) t1 t2 c.clear_entry-2.ensures.clears))
    (entry_keeps work (codes "journal.new") (λ e. cc e) t2 t3 c.clear_entry-3.ensures.clears)
