-- What every command says of a call: what it made of the objects outside, with which status it ends, and whom it blames.
use Rattle.std.specs.Prelude.{Some}
use Rattle.folder_spec.specs.Seen.{IfSeen}
use Rattle.folder_spec.specs.View.{View}
use Rattle.open_for_reading.specs.World.{World}
use Rattle.command_answers.specs.Answers.{Blames}
use Rattle.command_answers.specs.Rows.{Ends, EndsTold}
use Rattle.command_answers.specs.declared.answer.Answer.{Answer}
use Rattle.command_words.specs.declared.commands.Command.{Command}

-- It does this. Its status is one of its row, whatever was handed in; and one over a folder that tells its state, where that is as the
-- command presumes. What it blames has failed: of the folder, the input, the output and the random source it is told what that means.
pub record CarriesOut (command : Command) (Does : Answer → World → World → Type 0) (Presumes : View → Type 0) (answer : Answer) (before after : World) (folder input output random : Type 0) : Type 0 where
  pub does : Does answer before after
  pub row : Ends (Some command) answer
  pub told_row : IfSeen before.told (λ v. Presumes v → EndsTold (Some command) answer)
  pub blame : Blames answer folder input output random
