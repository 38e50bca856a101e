use Rattle.std.proofs.lemmas.Result.{err_from_is_err_and}
use Rattle.work_folder.specs.Entries.{journal_path}
use Rattle.work_folder.specs.Looking.{TestsJournal}
use Rattle.work_folder.proofs.Looks.{kind_fell}
use Rattle.work_folder.proofs.looking.look_for_journal.Goals as goal

pub returns-in_err-kind : goal.returns-in_err-kind
returns-in_err-kind g c =
    let p = err_from_is_err_and c.from_residual-in_err-kind.result c.from_residual-in_err-kind.ensures.1 in
    rw (p.1, p.2)
    (kind_fell (λ v answer. TestsJournal (v (journal_path c.args.at.now)) v c.args.at.now answer) c.in_ok-journal.journal (g.F.Folder.told c.args.folder.now) (g.F.Folder.told c.kind.new.self)
    (g.F.Folder.faults c.args.folder.now) (g.F.Folder.faults c.kind.new.self) c.in_err-kind.field-0.0 c.in_err-kind.ensures.told c.in_err-kind.ensures.answer
    c.in_err-kind.ensures.counts)
