-- With which answers a migration may stop, and the retiring of its source.
use Rattle.std.specs.Prelude.{Bool, true, false}
use Rattle.command_answers.specs.declared.answer.Answer.{Answer}
use Rattle.command_answers.specs.declared.answer.Answer.TheVariants.{OutOfMemory, FolderFault, RandomFault, Refused, WrongPass, NotFound, WrongKind, Damaged, NotAllowed, NotClean, Overlap, NotEmpty, Begun, Unusable, Changed, Differ, ZeroRandom, Taken, Limit, Retired, Meet}

-- whether a migration that begins may stop with this answer
abbrev pub is_of_stop : Answer → Bool
is_of_stop OutOfMemory = true
is_of_stop FolderFault = true
is_of_stop RandomFault = true
is_of_stop (Refused at why) = true
is_of_stop (WrongPass root) = true
is_of_stop (NotFound what) = true
is_of_stop (WrongKind what) = true
is_of_stop (Damaged at how) = true
is_of_stop (NotAllowed path) = true
is_of_stop (Meet one other) = true
is_of_stop (NotClean at number) = true
is_of_stop (Overlap first second) = true
is_of_stop (NotEmpty at) = true
is_of_stop (Begun work) = true
is_of_stop (Differ path how) = true
is_of_stop ZeroRandom = true
is_of_stop (Taken at) = true
is_of_stop (Limit which) = true
is_of_stop answer = false

-- and one that goes on, by its journal
abbrev pub is_of_told_stop : Answer → Bool
is_of_told_stop (Unusable work why) = true
is_of_told_stop (Changed plan items plan' items') = true
is_of_told_stop (Retired work) = true
is_of_told_stop answer = is_of_stop answer

-- whether a source that isn't retired may be answered so
abbrev pub is_of_refusal : Answer → Bool
is_of_refusal OutOfMemory = true
is_of_refusal FolderFault = true
is_of_refusal (Refused at why) = true
is_of_refusal (WrongPass root) = true
is_of_refusal (NotFound what) = true
is_of_refusal (WrongKind what) = true
is_of_refusal (Damaged at how) = true
is_of_refusal (NotAllowed path) = true
is_of_refusal (Meet one other) = true
is_of_refusal (NotClean at number) = true
is_of_refusal (Overlap first second) = true
is_of_refusal (NotEmpty at) = true
is_of_refusal (Begun work) = true
is_of_refusal (Unusable work why) = true
is_of_refusal (Differ path how) = true
is_of_refusal (Limit which) = true
is_of_refusal answer = false
