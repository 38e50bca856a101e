use Rattle.std.proofs.Common.{arith, sym, ◌∙◌}
use Rattle.port_model.specs.Counts.{CountRose}
use Rattle.command_answers.specs.declared.answer.Answer.TheVariants.{FolderFault, OutputFault}
use Rattle.demonstration.specs.Demo.{IsBare, chances_of}
use Rattle.demonstration.specs.DemoTrees.{BringsItems, WhereTold}
use Rattle.demonstration.proofs.Demonstrations.{demonstration_told}
use Rattle.command_answers.proofs.Reports.{reported_as, with_status}
use Rattle.demonstration.proofs.demonstrating.demo_in.Goals as goal

pub returns-clause-answer : goal.returns-clause-answer
returns-clause-answer g c =
    let told = demonstration_told (chances_of (CountRose (g.F.Folder.faults c.args.folder.now) (g.F.Folder.faults c.demonstrate-answer.new.folder)) (IsBare (g.F.Folder.told c.args.folder.now)) c.args.seed c.args.count (g.F.Folder.told c.args.folder.now) (g.F.Folder.told c.demonstrate-answer.new.folder))
    (WhereTold (BringsItems c.args.seed c.args.count) (g.F.Folder.told c.args.folder.now) (g.F.Folder.told c.demonstrate-answer.new.folder)) c.args.seed c.args.count c.demonstrate-answer.result c.report-answer.result
    (g.O.Sink.taken c.args.out.now) (g.O.Sink.taken c.demonstrate-answer.new.out) c.report-answer.ensures.kept c.demonstrate-answer.ensures.own c.demonstrate-answer.ensures.ends c.demonstrate-answer.ensures.prints in
    (c.report-answer.result, c.status.ensures, c.report-answer.ensures.line, told.0, told.1, told.2)

pub returns-clause-folder_fault : goal.returns-clause-folder_fault
returns-clause-folder_fault g c = λ is.
    c.demonstrate-answer.ensures.folder_fault (reported_as c.demonstrate-answer.result c.report-answer.result FolderFault c.report-answer.ensures.kept
    (with_status c.report-answer.result 4 (omega arith) (sym c.status.ensures ∙ is)) (λ same. cc))

pub returns-clause-output_fault : goal.returns-clause-output_fault
returns-clause-output_fault g c = λ is.
    c.demonstrate-answer.ensures.output_fault (reported_as c.demonstrate-answer.result c.report-answer.result OutputFault c.report-answer.ensures.kept
    (with_status c.report-answer.result 6 (omega arith) (sym c.status.ensures ∙ is)) (λ same. cc))
