use Rattle.std.proofs.Common.{IfSome, inl, inr, refl, sym, ◌∙◌, subst, map, string_bytes}
use Rattle.std.proofs.KnownBytes.{Keeps-refl}
use Rattle.folder_spec.specs.Seen.{IsSeen}
use Rattle.folder_spec.specs.View.{View}
use Rattle.command_answers.proofs.Reports.{always_memory, memory_or_told}
use Rattle.command_answers.specs.Rows.{Ends, EndsTold}
use Rattle.command_answers.specs.declared.answer.Answer.TheVariants.{BadCommandLine}
use Rattle.command_words.specs.Commands.{command_of}
use Rattle.command_words.specs.Written.{HasTexts, IsSmall}
use Rattle.vault_cli.specs.Runs.{DoesNothing, Executes, OwnsFolders}
use Rattle.open_for_reading.specs.World.{World}
use Rattle.vault_cli.proofs.running.execute.Goals as goal

nothing : (w : World) → DoesNothing w w
nothing w = record { unchanged = refl; untouched = Keeps-refl w.left; unwritten = Keeps-refl w.taken; undrawn = refl }

pub returns-in-Err : goal.returns-in-Err
returns-in-Err g c =
    let command = command_of (map (λ s. string_bytes s) c.args.words.now) in
    record { runs = inl (refl, nothing _); row = memory_or_told command; told_row = λ v seen folders. always_memory command; blame = tt }

pub returns-in-Ok-None : goal.returns-in-Ok-None
returns-in-Ok-None g c =
    let w : World = record { told = g.F.Folder.told c.args.folder.now; left = g.I.Source.left c.args.input.now; ended = g.I.Source.ended c.args.input.now; taken = g.O.Sink.taken c.args.out.now; random = g.R.Randoms.left c.args.random.now } in
    let known = sym c.in-Ok-None.field-0-is ∙ c.in-Ok-None.ensures.is in
    record {
      runs = inr (subst (λ command. Executes command BadCommandLine w w) known (refl, nothing w));
      row = subst (λ command. Ends command BadCommandLine) known refl;
      told_row = λ v seen folders. subst (λ command. EndsTold command BadCommandLine) known refl;
      blame = tt;
    }

pub execute_command-requires-clause-texts : goal.execute_command-requires-clause-texts
execute_command-requires-clause-texts g c = subst (λ o. IfSome o HasTexts) c.in-Ok-Some.field-0-is c.in-Ok-Some.ensures.texts

pub execute_command-requires-clause-small : goal.execute_command-requires-clause-small
execute_command-requires-clause-small g c = subst (λ o. IfSome o IsSmall) c.in-Ok-Some.field-0-is c.in-Ok-Some.ensures.small

pub returns-in-Ok-Some : goal.returns-in-Ok-Some
returns-in-Ok-Some g c =
    let before : World = record { told = g.F.Folder.told c.args.folder.now; left = g.I.Source.left c.args.input.now; ended = g.I.Source.ended c.args.input.now; taken = g.O.Sink.taken c.args.out.now; random = g.R.Randoms.left c.args.random.now } in
    let after : World = record { told = g.F.Folder.told c.execute_command.new.folder; left = g.I.Source.left c.execute_command.new.input; ended = g.I.Source.ended c.execute_command.new.input; taken = g.O.Sink.taken c.execute_command.new.out; random = g.R.Randoms.left c.execute_command.new.random } in
    let answer = c.execute_command.result in
    let known = sym c.in-Ok-Some.field-0-is ∙ c.in-Ok-Some.ensures.is in
    record {
      runs = inr (subst (λ command. Executes command answer before after) known c.execute_command.ensures.does);
      row = subst (λ command. Ends command answer) known c.execute_command.ensures.row;
      told_row = subst (λ command. (v : View) → IsSeen before.told v → OwnsFolders command v → EndsTold command answer) known c.execute_command.ensures.told_row;
      blame = c.execute_command.ensures.blame;
    }
