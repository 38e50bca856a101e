use Rattle.std.proofs.Common.{◌∙◌}
use Rattle.move_journal.proofs.Writings.{once_at, once_none, writes_none, writes_at, written_at, may_publish}
use Rattle.move_journal.proofs.writing.write.Goals as goal

pub returns-in_err-text-clause-moments : goal.returns-in_err-text-clause-moments
returns-in_err-text-clause-moments g c =
    let law = c.replaced_files_are_old_or_new.ensures in
    writes_none (record { images = law.images; settled = law.settled; clean = law.clean }) c.args.work.now c.args.journal.now (g.F.Folder.told c.args.folder.now) (g.met.F.Folder.sound c.args.folder.now)

pub returns-in_err-new-clause-moments : goal.returns-in_err-new-clause-moments
returns-in_err-new-clause-moments g c =
    let law = c.replaced_files_are_old_or_new.ensures in
    writes_none (record { images = law.images; settled = law.settled; clean = law.clean }) c.args.work.now c.args.journal.now (g.F.Folder.told c.args.folder.now) (g.met.F.Folder.sound c.args.folder.now)

pub returns-in_err-at-clause-moments : goal.returns-in_err-at-clause-moments
returns-in_err-at-clause-moments g c =
    let law = c.replaced_files_are_old_or_new.ensures in
    writes_none (record { images = law.images; settled = law.settled; clean = law.clean }) c.args.work.now c.args.journal.now (g.F.Folder.told c.args.folder.now) (g.met.F.Folder.sound c.args.folder.now)

pub replace_file-requires : goal.replace_file-requires
replace_file-requires g c =
    rw (c.in_ok-new.ensures, c.in_ok-at.ensures) (may_publish (g.F.Folder.told c.args.folder.now) c.args.work.now c.requires.work_folder)

pub returns-clause-moments : goal.returns-clause-moments
returns-clause-moments g c =
    let law = c.replaced_files_are_old_or_new.ensures in
    writes_at (record { images = law.images; settled = law.settled; clean = law.clean }) (g.F.Folder.told c.args.folder.now) (g.F.Folder.told c.replace_file.new.folder) c.args.work.now c.in_ok-new.new c.in_ok-at.at
    c.as_bytes.result.now c.args.journal.now c.in_ok-new.ensures c.in_ok-at.ensures (c.as_bytes.ensures.value ∙ c.in_ok-text.ensures)
    (g.met.F.Folder.sound c.args.folder.now) c.replace_file.ensures.moments

pub returns-clause-written : goal.returns-clause-written
returns-clause-written g c =
    let law = c.replaced_files_are_old_or_new.ensures in
    written_at (record { images = law.images; settled = law.settled; clean = law.clean }) (g.F.Folder.told c.args.folder.now) (g.F.Folder.told c.replace_file.new.folder) c.args.work.now c.in_ok-new.new c.in_ok-at.at
    c.as_bytes.result.now c.args.journal.now c.in_ok-new.ensures c.in_ok-at.ensures (c.as_bytes.ensures.value ∙ c.in_ok-text.ensures)
    c.replace_file.result c.replace_file.ensures.replaced

pub returns-in_err-text-clause-once : goal.returns-in_err-text-clause-once
returns-in_err-text-clause-once g c =
    let law = c.replaced_files_are_old_or_new.ensures in
    once_none (record { images = law.images; settled = law.settled; clean = law.clean }) c.args.work.now c.args.journal.now (g.F.Folder.told c.args.folder.now) (g.met.F.Folder.sound c.args.folder.now)

pub returns-in_err-new-clause-once : goal.returns-in_err-new-clause-once
returns-in_err-new-clause-once g c =
    let law = c.replaced_files_are_old_or_new.ensures in
    once_none (record { images = law.images; settled = law.settled; clean = law.clean }) c.args.work.now c.args.journal.now (g.F.Folder.told c.args.folder.now) (g.met.F.Folder.sound c.args.folder.now)

pub returns-in_err-at-clause-once : goal.returns-in_err-at-clause-once
returns-in_err-at-clause-once g c =
    let law = c.replaced_files_are_old_or_new.ensures in
    once_none (record { images = law.images; settled = law.settled; clean = law.clean }) c.args.work.now c.args.journal.now (g.F.Folder.told c.args.folder.now) (g.met.F.Folder.sound c.args.folder.now)

pub returns-clause-once : goal.returns-clause-once
returns-clause-once g c =
    let law = c.replaced_files_are_old_or_new.ensures in
    once_at (record { images = law.images; settled = law.settled; clean = law.clean }) (g.F.Folder.told c.args.folder.now) (g.F.Folder.told c.replace_file.new.folder) c.args.work.now c.in_ok-new.new c.in_ok-at.at
    c.as_bytes.result.now c.args.journal.now c.in_ok-new.ensures c.in_ok-at.ensures (c.as_bytes.ensures.value ∙ c.in_ok-text.ensures)
    (g.met.F.Folder.sound c.args.folder.now) c.replace_file.ensures.moments
