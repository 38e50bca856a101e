-- How the commands that read carry out what they do, whose answers are of their rows.
use Rattle.std.proofs.Common.{◌≡◌, IsTrue, List, ℕ, Some, refl, sym, subst}
use Rattle.std.specs.Prelude.{⊤}
use Rattle.command_answers.specs.Answers.{Blames, status_of}
use Rattle.command_answers.specs.Rows.{Ends, may_end}
use Rattle.command_answers.specs.declared.answer.Answer.{Answer}
use Rattle.command_answers.specs.declared.answer.Answer.TheVariants.{Done, FolderFault, InputFault, OutputFault, RandomFault}
use Rattle.open_for_reading.proofs.Carrying.{blamed, carried, unnamed}
use Rattle.open_for_reading.specs.Carrying.{CarriesOut}
use Rattle.open_for_reading.specs.Shown.{is_of_reading}
use Rattle.open_for_reading.specs.World.{World}
use Rattle.command_words.specs.declared.commands.Command.TheVariants.{DecryptFile, Ls, Cat}
use Rattle.command_words.specs.declared.commands.Target.{Target}
use Rattle.reading_commands.specs.Cat.{WritesFile}
use Rattle.reading_commands.specs.DecryptFile.{DecryptsFile, answer_to_end}
use Rattle.reading_commands.specs.Ls.{ListsItems}
use Rattle.reading_commands.specs.declared.decrypting.DecryptEnd.{DecryptEnd}
use Rattle.reading_commands.specs.declared.decrypting.DecryptEnd.TheVariants as ends

-- by the answer: the first clause takes one, and the last each of the others
reading_row : (target : Target) (answer : Answer) → IsTrue (is_of_reading answer) → IsTrue (may_end (Some (Ls target)) (status_of answer))
reading_row target Done own = cc
reading_row target answer own = cc

pub ls_carried : (target : Target) (answer : Answer) (before after : World) (folder input output random : Type 0) → ListsItems target answer before after → (answer ≡ FolderFault → folder) → (answer ≡ OutputFault → output)
    → CarriesOut (Ls target) (ListsItems target) (λ v. ⊤) answer before after folder input output random
ls_carried target answer before after folder input output random did failed unwritten =
    let ends : Ends (Some (Ls target)) answer = reading_row target answer did.reads.own in
    carried (Ls target) (ListsItems target) answer before after folder input output random refl did ends
    (blamed answer folder input output random failed (unnamed (Ls target) answer InputFault input ends refl) unwritten (unnamed (Ls target) answer RandomFault random ends refl))

pub cat_carried : (target : Target) (answer : Answer) (before after : World) (folder input output random : Type 0) → WritesFile target answer before after → (answer ≡ FolderFault → folder) → (answer ≡ OutputFault → output)
    → CarriesOut (Cat target) (WritesFile target) (λ v. ⊤) answer before after folder input output random
cat_carried target answer before after folder input output random did failed unwritten =
    let ends : Ends (Some (Cat target)) answer = reading_row target answer did.reads.own in
    carried (Cat target) (WritesFile target) answer before after folder input output random refl did ends
    (blamed answer folder input output random failed (unnamed (Cat target) answer InputFault input ends refl) unwritten (unnamed (Cat target) answer RandomFault random ends refl))

decryption_row : (key : List ℕ) (end : DecryptEnd) → IsTrue (may_end (Some (DecryptFile key)) (status_of (answer_to_end end)))
decryption_row key ends.Done = refl
decryption_row key ends.OutOfMemory = refl
decryption_row key ends.InputFault = refl
decryption_row key ends.OutputFault = refl
decryption_row key (ends.Damaged fault) = refl
decryption_row key ends.TooLong = refl

decryption_blames : (end : DecryptEnd) (folder input output random : Type 0) → (end ≡ ends.InputFault → input) → (end ≡ ends.OutputFault → output) → Blames (answer_to_end end) folder input output random
decryption_blames ends.InputFault folder input output random unread unwritten = unread refl
decryption_blames ends.OutputFault folder input output random unread unwritten = unwritten refl
decryption_blames end folder input output random unread unwritten = tt

pub decrypt_carried : (key : List ℕ) (end : DecryptEnd) (answer : Answer) (before after : World) (folder input output random : Type 0) → answer ≡ answer_to_end end → DecryptsFile key (answer_to_end end) before after
    → (end ≡ ends.InputFault → input) → (end ≡ ends.OutputFault → output) → CarriesOut (DecryptFile key) (DecryptsFile key) (λ v. ⊤) answer before after folder input output random
decrypt_carried key end answer before after folder input output random is did unread unwritten =
    subst (λ a. CarriesOut (DecryptFile key) (DecryptsFile key) (λ v. ⊤) a before after folder input output random) (sym is)
    (carried (DecryptFile key) (DecryptsFile key) (answer_to_end end) before after folder input output random refl did (decryption_row key end) (decryption_blames end folder input output random unread unwritten))
