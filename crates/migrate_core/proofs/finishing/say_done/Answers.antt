use Rattle.std.proofs.Common.{Ok, Result, subst, sym, Contains}
use Rattle.folder_spec.specs.declared.FolderFault.{FolderFault}
use Rattle.migrate_core.proofs.Endings.{says_done_here, says_failed, written_stands}
use Rattle.migrate_core.specs.Moved.{done_of}
use Rattle.migrate_core.proofs.WorkFolders.{tidy_written, written_beside, written_moves}
use Rattle.migrate_core.proofs.Writings.{journal_written, settle_beside}
use Rattle.move_journal.specs.Reading.{StandsIn}
use Rattle.migrate_core.proofs.finishing.say_done.Goals as goal
use Rattle.migrate_core.proofs.Lastings.{cleared_same, cleared_written, settle_finishes, texts_settled, texts_written, written_lasts}
use Rattle.migrate_core.proofs.Movings.{settle_moves}
use Rattle.migrate_core.specs.Lasting.{StaysBeside}
use Rattle.migrate_core.specs.Leading.{FinishesFrom, progress_of}
use Rattle.migration_sides.proofs.Lasting.{settle_lasts}
use Rattle.migration_spec.proofs.Settling.{settle_seen_back}
use Rattle.folder_spec.specs.Region.{apart_from_both}
use Rattle.folder_spec.specs.Seen.{IsSeen}
use Rattle.migrate_core.specs.Written.{WritesBeside, done_texts, texts_in}
use Rattle.move_journal.specs.Journal.{journal_text}

pub returns-in_ok-write-in-Building-clause-guard : goal.returns-in_ok-write-in-Building-clause-guard
returns-in_ok-write-in-Building-clause-guard g c m same tells =
    says_done_here c.journals_keep_migrations_guarded.ensures.finishes c.journals_keep_migrations_guarded.ensures.finished m c.args.work.now c.args.journal
    (g.F.Folder.told c.args.folder.now) (g.F.Folder.told c.write.new.folder) (Ok tt) same c.requires.journal c.in-Building.is tells (g.met.F.Folder.sound c.write.new.folder)
    c.in_ok-write-in-Building.ensures.moments c.in_ok-write-in-Building.ensures.written

pub returns-in_err-write-in-Building-clause-guard : goal.returns-in_err-write-in-Building-clause-guard
returns-in_err-write-in-Building-clause-guard g c m same tells =
    says_failed _ m c.args.journal (g.F.Folder.told c.args.folder.now) (g.F.Folder.told c.write.new.folder) c.write.result c.from_residual-in_err-write-in-Building.result c.from_residual-in_err-write-in-Building.ensures.1
    (says_done_here c.journals_keep_migrations_guarded.ensures.finishes c.journals_keep_migrations_guarded.ensures.finished m c.args.work.now c.args.journal
    (g.F.Folder.told c.args.folder.now) (g.F.Folder.told c.write.new.folder) c.write.result same c.requires.journal c.in-Building.is tells (g.met.F.Folder.sound c.write.new.folder)
    c.write.ensures.moments c.write.ensures.written)

pub returns-in_ok-write-in-Building-clause-moves : goal.returns-in_ok-write-in-Building-clause-moves
returns-in_ok-write-in-Building-clause-moves g c root apart =
    written_moves c.args.work.now root (done_of c.args.journal) (g.F.Folder.told c.args.folder.now) (g.F.Folder.told c.write.new.folder) apart c.write.ensures.moments

pub returns-in_err-write-in-Building-clause-moves : goal.returns-in_err-write-in-Building-clause-moves
returns-in_err-write-in-Building-clause-moves g c root apart =
    written_moves c.args.work.now root (done_of c.args.journal) (g.F.Folder.told c.args.folder.now) (g.F.Folder.told c.write.new.folder) apart c.write.ensures.moments

pub returns-in_ok-write-in-Building-clause-says : goal.returns-in_ok-write-in-Building-clause-says
returns-in_ok-write-in-Building-clause-says g c =
    written_stands c.args.work.now (done_of c.args.journal) (g.F.Folder.told c.args.folder.now) (g.F.Folder.told c.write.new.folder) c.in_ok-write-in-Building.ensures.written

pub returns-in_ok-write-in-Building-clause-written : goal.returns-in_ok-write-in-Building-clause-written
returns-in_ok-write-in-Building-clause-written g c root apart =
    let text = journal_text (done_of c.args.journal) in
    let t = g.F.Folder.told c.args.folder.now in
    let u = g.F.Folder.told c.write.new.folder in
    subst (λ p. WritesBeside root (λ file. Contains (texts_in p text) file) t u) (sym c.in-Building.is) (journal_written c.args.work.now root apart (done_of c.args.journal) t u c.write.ensures.moments)

pub returns-in_err-write-in-Building-clause-written : goal.returns-in_err-write-in-Building-clause-written
returns-in_err-write-in-Building-clause-written g c root apart =
    let text = journal_text (done_of c.args.journal) in
    let t = g.F.Folder.told c.args.folder.now in
    let u = g.F.Folder.told c.write.new.folder in
    subst (λ p. WritesBeside root (λ file. Contains (texts_in p text) file) t u) (sym c.in-Building.is) (journal_written c.args.work.now root apart (done_of c.args.journal) t u c.write.ensures.moments)

pub returns-in_ok-write-in-Building-clause-tidy : goal.returns-in_ok-write-in-Building-clause-tidy
returns-in_ok-write-in-Building-clause-tidy g c =
    let work = c.args.work.now in
    let t = g.F.Folder.told c.args.folder.now in
    let u = g.F.Folder.told c.write.new.folder in
    tidy_written work (done_of c.args.journal) t u (g.met.F.Folder.sound c.args.folder.now) (written_beside work (done_of c.args.journal) t u c.write.ensures.moments) c.in_ok-write-in-Building.ensures.written

pub returns-in_ok-settle-in-Done-clause-guard : goal.returns-in_ok-settle-in-Done-clause-guard
returns-in_ok-settle-in-Done-clause-guard g c m same tells =
    let law = c.settling_and_entering_keep_migrations_guarded.ensures in
    let t0 = g.F.Folder.told c.args.folder.now in
    let t1 = g.F.Folder.told c.settle.new.self in
    let done : Result (Unit {0}) FolderFault = Ok tt in
    subst (λ p. FinishesFrom m (progress_of p) t0 t1 done) (sym c.in-Done.is)
    (settle_finishes law.settles law.alone c.guarded_migrations_are_seen.ensures.alone m t0 t1 done c.in_ok-settle-in-Done.ensures.changes)

pub returns-in_err-settle-in-Done-clause-guard : goal.returns-in_err-settle-in-Done-clause-guard
returns-in_err-settle-in-Done-clause-guard g c m same tells =
    let law = c.settling_and_entering_keep_migrations_guarded.ensures in
    let t0 = g.F.Folder.told c.args.folder.now in
    let t1 = g.F.Folder.told c.settle.new.self in
    says_failed _ m c.args.journal t0 t1 c.settle.result c.from_residual.result c.from_residual.ensures.1
    (subst (λ p. FinishesFrom m (progress_of p) t0 t1 c.settle.result) (sym c.in-Done.is)
    (settle_finishes law.settles law.alone c.guarded_migrations_are_seen.ensures.alone m t0 t1 c.settle.result c.settle.ensures.changes))

pub returns-in_ok-settle-in-Done-clause-moves : goal.returns-in_ok-settle-in-Done-clause-moves
returns-in_ok-settle-in-Done-clause-moves g c root apart =
    settle_moves c.args.work.now (apart_from_both c.args.work.now root) root (g.F.Folder.told c.args.folder.now) (g.F.Folder.told c.settle.new.self) c.settle.result c.settle.ensures.changes

pub returns-in_err-settle-in-Done-clause-moves : goal.returns-in_err-settle-in-Done-clause-moves
returns-in_err-settle-in-Done-clause-moves g c root apart =
    settle_moves c.args.work.now (apart_from_both c.args.work.now root) root (g.F.Folder.told c.args.folder.now) (g.F.Folder.told c.settle.new.self) c.settle.result c.settle.ensures.changes

pub returns-in_ok-settle-in-Done-clause-says : goal.returns-in_ok-settle-in-Done-clause-says
returns-in_ok-settle-in-Done-clause-says g c v is =
    let j = c.args.journal in
    let before : IsSeen (g.F.Folder.told c.args.folder.now) v = settle_seen_back (g.F.Folder.told c.args.folder.now) (g.F.Folder.told c.settle.new.self) c.settle.result c.settle.ensures.changes v is in
    subst (λ p. StandsIn c.args.work.now (record { phase = p; names = j.names; source = j.source; target = j.target; items = j.items; plan = j.plan }) v) c.in-Done.is (c.requires.stands c.in-Done.is v before)

pub returns-in_ok-settle-in-Done-clause-written : goal.returns-in_ok-settle-in-Done-clause-written
returns-in_ok-settle-in-Done-clause-written g c root apart = settle_beside root (λ file. Contains (done_texts c.args.journal) file) (g.F.Folder.told c.args.folder.now) (g.F.Folder.told c.settle.new.self) c.settle.result c.settle.ensures.changes

pub returns-in_err-settle-in-Done-clause-written : goal.returns-in_err-settle-in-Done-clause-written
returns-in_err-settle-in-Done-clause-written g c root apart = settle_beside root (λ file. Contains (done_texts c.args.journal) file) (g.F.Folder.told c.args.folder.now) (g.F.Folder.told c.settle.new.self) c.settle.result c.settle.ensures.changes

pub returns-in_ok-settle-in-Done-clause-tidy : goal.returns-in_ok-settle-in-Done-clause-tidy
returns-in_ok-settle-in-Done-clause-tidy g c was v is =
    was v (settle_seen_back (g.F.Folder.told c.args.folder.now) (g.F.Folder.told c.settle.new.self) c.settle.result c.settle.ensures.changes v is)

pub returns-in_ok-settle-in-Done-clause-clears : goal.returns-in_ok-settle-in-Done-clause-clears
returns-in_ok-settle-in-Done-clause-clears g c =
    let t0 = g.F.Folder.told c.args.folder.now in
    let t1 = g.F.Folder.told c.settle.new.self in
    cleared_same c.args.work.now t0 t1 (settle_seen_back t0 t1 c.settle.result c.settle.ensures.changes)

pub returns-in_ok-write-in-Building-clause-clears : goal.returns-in_ok-write-in-Building-clause-clears
returns-in_ok-write-in-Building-clause-clears g c =
    cleared_written c.args.work.now (done_of c.args.journal) (g.F.Folder.told c.args.folder.now) (g.F.Folder.told c.write.new.folder) (g.met.F.Folder.sound c.args.folder.now) c.write.ensures.moments c.in_ok-write-in-Building.ensures.written

pub returns-in_ok-settle-in-Done-clause-lasts : goal.returns-in_ok-settle-in-Done-clause-lasts
returns-in_ok-settle-in-Done-clause-lasts g c = settle_lasts (g.F.Folder.told c.args.folder.now) (g.F.Folder.told c.settle.new.self) c.in_ok-settle-in-Done.field-0 c.in_ok-settle-in-Done.ensures.changes

pub returns-in_ok-write-in-Building-clause-lasts : goal.returns-in_ok-write-in-Building-clause-lasts
returns-in_ok-write-in-Building-clause-lasts g c = written_lasts c.args.work.now (done_of c.args.journal) (g.F.Folder.told c.args.folder.now) (g.F.Folder.told c.write.new.folder) c.in_ok-write-in-Building.ensures.written

pub returns-in_ok-settle-in-Done-clause-journal : goal.returns-in_ok-settle-in-Done-clause-journal
returns-in_ok-settle-in-Done-clause-journal g c = texts_settled (StaysBeside c.args.work.now (g.F.Folder.told c.args.folder.now)) c.args.work.now c.args.journal (g.F.Folder.told c.args.folder.now) (g.F.Folder.told c.settle.new.self) c.settle.result c.settle.ensures.changes

pub returns-in_err-settle-in-Done-clause-journal : goal.returns-in_err-settle-in-Done-clause-journal
returns-in_err-settle-in-Done-clause-journal g c = texts_settled (StaysBeside c.args.work.now (g.F.Folder.told c.args.folder.now)) c.args.work.now c.args.journal (g.F.Folder.told c.args.folder.now) (g.F.Folder.told c.settle.new.self) c.settle.result c.settle.ensures.changes

pub returns-in_ok-write-in-Building-clause-journal : goal.returns-in_ok-write-in-Building-clause-journal
returns-in_ok-write-in-Building-clause-journal g c = texts_written (StaysBeside c.args.work.now (g.F.Folder.told c.args.folder.now)) c.args.work.now c.args.journal (g.F.Folder.told c.args.folder.now) (g.F.Folder.told c.write.new.folder) (g.met.F.Folder.sound c.args.folder.now) (λ w stays. stays) c.in-Building.is c.write.ensures.once

pub returns-in_err-write-in-Building-clause-journal : goal.returns-in_err-write-in-Building-clause-journal
returns-in_err-write-in-Building-clause-journal g c = texts_written (StaysBeside c.args.work.now (g.F.Folder.told c.args.folder.now)) c.args.work.now c.args.journal (g.F.Folder.told c.args.folder.now) (g.F.Folder.told c.write.new.folder) (g.met.F.Folder.sound c.args.folder.now) (λ w stays. stays) c.in-Building.is c.write.ensures.once
