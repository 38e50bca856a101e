use Rattle.std.proofs.Common.{Err, ap}
use Rattle.migration_commands.proofs.Migrations.{migrate_printed, migrate_stopped, stopped_drew}
use Rattle.migration_commands.proofs.migrating.migrate_apart.Goals as goal

pub returns-in-Ok-clause-apart : goal.returns-in-Ok-clause-apart
returns-in-Ok-clause-apart g c =
    migrate_printed c.args.moving.now c.in-Ok.done c.print_done.result (g.F.Folder.told c.args.folder.now) (g.F.Folder.told c.begin.new.folder) (g.O.Sink.taken c.args.out.now) (g.O.Sink.taken c.print_done.new.out)
    (g.R.Randoms.left c.args.random.now) (g.R.Randoms.left c.begin.new.random) c.in-Ok.ensures.migrated c.in-Ok.ensures.drew c.in-Ok.ensures.came c.in-Ok.ensures.keeps c.in-Ok.ensures.moves c.print_done.ensures.prints c.print_done.ensures.answers

pub returns-in-Err-clause-apart : goal.returns-in-Err-clause-apart
returns-in-Err-clause-apart g c =
    migrate_stopped c.args.moving.now c.in-Err.answer (g.F.Folder.told c.args.folder.now) (g.F.Folder.told c.begin.new.folder) (g.O.Sink.taken c.args.out.now)
    (g.R.Randoms.left c.args.random.now) (g.R.Randoms.left c.begin.new.random) c.in-Err.ensures.own (λ first second is. c.in-Err.ensures.apart first second (ap Err is))
    (stopped_drew c.in-Err.answer (g.R.Randoms.left c.args.random.now) (g.R.Randoms.left c.begin.new.random) c.in-Err.ensures.drew) c.in-Err.ensures.stopped c.in-Err.ensures.keeps c.in-Err.ensures.moves c.in-Err.ensures.completes
