use Rattle.std.proofs.Common.{sym, ◌∙◌}
use Rattle.std.proofs.KnownBytes.{Keeps-refl}
use Rattle.open_for_reading.specs.World.{World}
use Rattle.migration_commands.specs.Migrate.{pair}
use Rattle.migration_commands.proofs.Carrying.{migrate_carried, two_carried}
use Rattle.migration_commands.proofs.Migrations.{first_two, migrated_apart, no_two, second_two, third_two}
use Rattle.migration_commands.proofs.migrating.migrate.Goals as goal

pub returns-then-do_overlap : goal.returns-then-do_overlap
returns-then-do_overlap g c =
    let moving = c.args.moving.now in
    let before : World = record { told = g.F.Folder.told c.args.folder.now; left = g.I.Source.left c.args.input.now; ended = g.I.Source.ended c.args.input.now; taken = g.O.Sink.taken c.args.out.now; random = g.R.Randoms.left c.args.random.now } in
    two_carried moving (pair moving.source moving.target) c.overlapping.result before _ _ _ _ (first_two moving (sym c.do_overlap.ensures ∙ c.if-do_overlap.true)) c.overlapping.ensures

pub returns-then-do_overlap-2 : goal.returns-then-do_overlap-2
returns-then-do_overlap-2 g c =
    let moving = c.args.moving.now in
    let before : World = record { told = g.F.Folder.told c.args.folder.now; left = g.I.Source.left c.args.input.now; ended = g.I.Source.ended c.args.input.now; taken = g.O.Sink.taken c.args.out.now; random = g.R.Randoms.left c.args.random.now } in
    two_carried moving (pair moving.source moving.work) c.overlapping-then-do_overlap-2.result before _ _ _ _
    (second_two moving (sym c.do_overlap.ensures ∙ c.if-do_overlap.false) (sym c.do_overlap-2.ensures ∙ c.if-do_overlap-2.true)) c.overlapping-then-do_overlap-2.ensures

pub returns-then-do_overlap-3 : goal.returns-then-do_overlap-3
returns-then-do_overlap-3 g c =
    let moving = c.args.moving.now in
    let before : World = record { told = g.F.Folder.told c.args.folder.now; left = g.I.Source.left c.args.input.now; ended = g.I.Source.ended c.args.input.now; taken = g.O.Sink.taken c.args.out.now; random = g.R.Randoms.left c.args.random.now } in
    two_carried moving (pair moving.target moving.work) c.overlapping-then-do_overlap-3.result before _ _ _ _
    (third_two moving (sym c.do_overlap.ensures ∙ c.if-do_overlap.false) (sym c.do_overlap-2.ensures ∙ c.if-do_overlap-2.false) (sym c.do_overlap-3.ensures ∙ c.if-do_overlap-3.true)) c.overlapping-then-do_overlap-3.ensures

pub returns : goal.returns
returns g c =
    let moving = c.args.moving.now in
    let before : World = record { told = g.F.Folder.told c.args.folder.now; left = g.I.Source.left c.args.input.now; ended = g.I.Source.ended c.args.input.now; taken = g.O.Sink.taken c.args.out.now; random = g.R.Randoms.left c.args.random.now } in
    let after : World = record { told = g.F.Folder.told c.migrate_apart.new.folder; left = g.I.Source.left c.args.input.now; ended = g.I.Source.ended c.args.input.now; taken = g.O.Sink.taken c.migrate_apart.new.out; random = g.R.Randoms.left c.migrate_apart.new.random } in
    migrate_carried moving c.migrate_apart.result before after _ _ _ _
    (migrated_apart moving c.migrate_apart.result before after
    (no_two moving (sym c.do_overlap.ensures ∙ c.if-do_overlap.false) (sym c.do_overlap-2.ensures ∙ c.if-do_overlap-2.false) (sym c.do_overlap-3.ensures ∙ c.if-do_overlap-3.false)) (Keeps-refl before.left)
    c.migrate_apart.ensures.apart) c.migrate_apart.ensures.folder_fault c.migrate_apart.ensures.output_fault c.migrate_apart.ensures.random_fault
