-- What a command that changes something writes once it is done: a text that tells what was done, and nothing before.
use Rattle.std.specs.Prelude.{ℕ, List, Option}
use Rattle.std.specs.Io.KnownBytes.{Appends, Keeps}
use Rattle.port_model.specs.Told.{AppendsPrefix}
use Rattle.command_answers.specs.declared.answer.Answer.{Answer}
use Rattle.command_answers.specs.declared.answer.Answer.TheVariants.{Done, OutputFault}

-- what the output took of the text: all, or where it failed a front part
abbrev pub PrintsText : List ℕ → Answer → Option (List ℕ) → Option (List ℕ) → Type 0
PrintsText text Done taken taken' = Appends taken taken' text
PrintsText text OutputFault taken taken' = AppendsPrefix taken taken' text
PrintsText text answer taken taken' = Keeps taken taken'

-- this was done, and the output took of its text
abbrev pub Tells : {X : Type 0} → (X → List ℕ) → (X → Type 0) → Answer → Option (List ℕ) → Option (List ℕ) → Type 0
Tells {X} text IsDone answer taken taken' = (x : X) × IsDone x × PrintsText (text x) answer taken taken'

-- nothing is written before all is done
abbrev pub PrintsDone : {X : Type 0} → (X → List ℕ) → (X → Type 0) → Answer → Option (List ℕ) → Option (List ℕ) → Type 0
PrintsDone text IsDone Done taken taken' = Tells text IsDone Done taken taken'
PrintsDone text IsDone OutputFault taken taken' = Tells text IsDone OutputFault taken taken'
PrintsDone text IsDone answer taken taken' = Keeps taken taken'
