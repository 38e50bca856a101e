use Rattle.std.proofs.Common.{◌≡◌, ◌⊎◌, ℕ, Option, None, Some, IsNone, IsTrue, arith, sym, ◌∙◌, map, string_bytes, subst}
use Rattle.command_words.specs.Commands.{command_of}
use Rattle.port_model.specs.Counts.{CountRose}
use Rattle.command_answers.proofs.Reports.{reported_as, with_status}
use Rattle.command_answers.specs.Answers.{Blames}
use Rattle.command_answers.specs.Rows.{may_end, may_end_told}
use Rattle.command_answers.specs.declared.answer.Answer.TheVariants.{FolderFault, InputFault, OutputFault, RandomFault}
use Rattle.command_words.specs.declared.commands.Command.{Command}
use Rattle.vault_cli.proofs.running.run.Goals as goal

by_none : ((status : ℕ) → IsTrue (may_end None status) → (status ≡ 2) ⊎ (status ≡ 3)) → (command : Option Command) (status : ℕ) → IsNone command → IsTrue (may_end command status) → (status ≡ 2) ⊎ (status ≡ 3)
by_none law None status none may = law status may
by_none law (Some command) status none may = cc

pub returns-clause-answer : goal.returns-clause-answer
returns-clause-answer g c = (
  c.execute-answer.result,
  c.report-answer.result,
  c.report-answer.ensures.kept,
  c.status.ensures,
  c.report-answer.ensures.line,
  c.execute-answer.ensures.runs,
)

pub returns-clause-row : goal.returns-clause-row
returns-clause-row g c =
    let command = command_of (map (λ s. string_bytes s) c.args.words.now) in
    subst (λ s. IsTrue (may_end command s)) (sym c.status.ensures)
    (c.reports_are_answers.ensures.any command c.execute-answer.result c.report-answer.result c.report-answer.ensures.kept c.execute-answer.ensures.row)

pub returns-clause-told_row : goal.returns-clause-told_row
returns-clause-told_row g c v seen folders =
    let command = command_of (map (λ s. string_bytes s) c.args.words.now) in
    subst (λ s. IsTrue (may_end_told command s)) (sym c.status.ensures)
    (c.reports_are_answers.ensures.told command c.execute-answer.result c.report-answer.result c.report-answer.ensures.kept (c.execute-answer.ensures.told_row v seen folders))

pub returns-clause-folder_fault : goal.returns-clause-folder_fault
returns-clause-folder_fault g c = λ is.
    subst (λ a. Blames a (CountRose (g.F.Folder.faults c.args.folder.now) (g.F.Folder.faults c.execute-answer.new.folder)) (CountRose (g.I.Source.faults c.args.input.now) (g.I.Source.faults c.execute-answer.new.input)) (CountRose (g.O.Sink.faults c.args.out.now) (g.O.Sink.faults c.execute-answer.new.out)) (CountRose (g.R.Randoms.faults c.args.random.now) (g.R.Randoms.faults c.execute-answer.new.random)))
    (reported_as c.execute-answer.result c.report-answer.result FolderFault c.report-answer.ensures.kept
    (with_status c.report-answer.result 4 (omega arith) (sym c.status.ensures ∙ is)) (λ same. cc)) c.execute-answer.ensures.blame

pub returns-clause-input_fault : goal.returns-clause-input_fault
returns-clause-input_fault g c = λ is.
    subst (λ a. Blames a (CountRose (g.F.Folder.faults c.args.folder.now) (g.F.Folder.faults c.execute-answer.new.folder)) (CountRose (g.I.Source.faults c.args.input.now) (g.I.Source.faults c.execute-answer.new.input)) (CountRose (g.O.Sink.faults c.args.out.now) (g.O.Sink.faults c.execute-answer.new.out)) (CountRose (g.R.Randoms.faults c.args.random.now) (g.R.Randoms.faults c.execute-answer.new.random)))
    (reported_as c.execute-answer.result c.report-answer.result InputFault c.report-answer.ensures.kept
    (with_status c.report-answer.result 5 (omega arith) (sym c.status.ensures ∙ is)) (λ same. cc)) c.execute-answer.ensures.blame

pub returns-clause-output_fault : goal.returns-clause-output_fault
returns-clause-output_fault g c = λ is.
    subst (λ a. Blames a (CountRose (g.F.Folder.faults c.args.folder.now) (g.F.Folder.faults c.execute-answer.new.folder)) (CountRose (g.I.Source.faults c.args.input.now) (g.I.Source.faults c.execute-answer.new.input)) (CountRose (g.O.Sink.faults c.args.out.now) (g.O.Sink.faults c.execute-answer.new.out)) (CountRose (g.R.Randoms.faults c.args.random.now) (g.R.Randoms.faults c.execute-answer.new.random)))
    (reported_as c.execute-answer.result c.report-answer.result OutputFault c.report-answer.ensures.kept
    (with_status c.report-answer.result 6 (omega arith) (sym c.status.ensures ∙ is)) (λ same. cc)) c.execute-answer.ensures.blame

pub returns-clause-random_fault : goal.returns-clause-random_fault
returns-clause-random_fault g c = λ is.
    subst (λ a. Blames a (CountRose (g.F.Folder.faults c.args.folder.now) (g.F.Folder.faults c.execute-answer.new.folder)) (CountRose (g.I.Source.faults c.args.input.now) (g.I.Source.faults c.execute-answer.new.input)) (CountRose (g.O.Sink.faults c.args.out.now) (g.O.Sink.faults c.execute-answer.new.out)) (CountRose (g.R.Randoms.faults c.args.random.now) (g.R.Randoms.faults c.execute-answer.new.random)))
    (reported_as c.execute-answer.result c.report-answer.result RandomFault c.report-answer.ensures.kept
    (with_status c.report-answer.result 7 (omega arith) (sym c.status.ensures ∙ is)) (λ same. cc)) c.execute-answer.ensures.blame

pub returns-clause-bad_command_line : goal.returns-clause-bad_command_line
returns-clause-bad_command_line g c = λ is.
    let command = command_of (map (λ s. string_bytes s) c.args.words.now) in
    c.words_alone_end_with_2.ensures.bad command (subst (λ s. IsTrue (may_end command s)) is (returns-clause-row g c))

pub returns-clause-no_command : goal.returns-clause-no_command
returns-clause-no_command g c = λ none.
    let command = command_of (map (λ s. string_bytes s) c.args.words.now) in
    by_none c.words_alone_end_with_2.ensures.none command c.status.result none (returns-clause-row g c)
