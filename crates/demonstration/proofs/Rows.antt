-- How `demo` carries out what it does, whose answer is of its row.
use Rattle.std.proofs.Common.{◌≡◌, ◌≢◌, IsTrue, Some, refl}
use Rattle.std.specs.Prelude.{⊤}
use Rattle.command_answers.specs.Answers.{status_of}
use Rattle.command_answers.specs.Rows.{Ends, may_end}
use Rattle.command_answers.specs.declared.answer.Answer.{Answer}
use Rattle.command_answers.specs.declared.answer.Answer.TheVariants.{FolderFault, InputFault, OutputFault, RandomFault}
use Rattle.open_for_reading.proofs.Carrying.{blamed, carried, unnamed}
use Rattle.open_for_reading.specs.Carrying.{CarriesOut}
use Rattle.open_for_reading.specs.World.{World}
use Rattle.command_words.specs.declared.commands.Command.TheVariants.{Demo}
use Rattle.command_words.specs.declared.commands.Demonstration.{Demonstration}
use Rattle.demonstration.specs.Demo.{Demonstrates, is_of_chance, is_of_demonstration}

-- by the answer: the first clause takes one, and the last each of the others
demonstration_row : (demonstration : Demonstration) (answer : Answer) → IsTrue (is_of_chance answer) → IsTrue (is_of_demonstration answer) → answer ≢ FolderFault → IsTrue (may_end (Some (Demo demonstration)) (status_of answer))
demonstration_row demonstration FolderFault chance own steady = absurd (steady refl)
demonstration_row demonstration answer chance own steady = cc

pub demo_carried : (demonstration : Demonstration) (answer : Answer) (before after : World) (folder input output random : Type 0) → Demonstrates demonstration answer before after → (answer ≡ OutputFault → output)
    → CarriesOut (Demo demonstration) (Demonstrates demonstration) (λ v. ⊤) answer before after folder input output random
demo_carried demonstration answer before after folder input output random did unwritten =
    let ends : Ends (Some (Demo demonstration)) answer = demonstration_row demonstration answer (did.ends.others tt) did.own did.steady in
    carried (Demo demonstration) (Demonstrates demonstration) answer before after folder input output random refl did ends
    (blamed answer folder input output random (unnamed (Demo demonstration) answer FolderFault folder ends refl) (unnamed (Demo demonstration) answer InputFault input ends refl) unwritten (unnamed (Demo demonstration) answer RandomFault random ends refl))
