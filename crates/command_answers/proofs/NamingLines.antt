-- The line of an answer that names something.
use Rattle.std.proofs.Common.{◌≡◌, false, refl}
use Rattle.command_answers.specs.Messages.{is_plain, line, line_of, message_of}
use Rattle.command_answers.specs.declared.answer.Answer.{Answer}
use Rattle.command_answers.specs.declared.answer.Answer.TheVariants.{Done, Findings, BadCommandLine, OutOfMemory, FolderFault, InputFault, OutputFault, RandomFault, Refused, WrongPass, NotFound, WrongKind, DamagedInput, Damaged, NotAllowed, NotClean, Overlap, NotEmpty, Begun, Unusable, Changed, Differ, ZeroRandom, Taken, Limit, Retired, Meet}

-- it has a message, and so a line
pub naming_line : (answer : Answer) → is_plain answer ≡ false → line_of answer ≡ line (message_of answer)
naming_line Done is = cc
naming_line Findings is = cc
naming_line BadCommandLine is = cc
naming_line OutOfMemory is = cc
naming_line FolderFault is = cc
naming_line InputFault is = cc
naming_line OutputFault is = cc
naming_line (Refused at why) is = refl
naming_line (WrongPass root) is = refl
naming_line (NotFound what) is = refl
naming_line (WrongKind what) is = refl
naming_line (DamagedInput fault) is = refl
naming_line (Damaged at how) is = refl
naming_line (Overlap first second) is = refl
naming_line (NotEmpty at) is = refl
naming_line (Limit which) is = refl
naming_line RandomFault is = cc
naming_line (NotAllowed path) is = refl
naming_line (Begun work) is = refl
naming_line ZeroRandom is = cc
naming_line (Taken at) is = refl
naming_line (NotClean at number) is = refl
naming_line (Unusable work why) is = refl
naming_line (Changed plan items plan' items') is = refl
naming_line (Differ path how) is = refl
naming_line (Retired work) is = refl
naming_line (Meet one other) is = refl
