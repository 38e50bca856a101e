-- What a command may answer where one of its tests fails.
use Rattle.std.specs.Prelude.{Bool, true, false}
use Rattle.open_for_reading.specs.Shown.{is_of_opening}
use Rattle.command_answers.specs.declared.answer.Answer.{Answer}
use Rattle.command_answers.specs.declared.answer.Answer.TheVariants.{OutOfMemory, FolderFault, Refused, WrongPass, NotFound, WrongKind, NotEmpty, Begun, Limit}

-- whether a command may answer so before it makes anything outside the work folder, if it opens no vault
abbrev pub is_of_readying : Answer → Bool
is_of_readying FolderFault = true
is_of_readying OutOfMemory = true
is_of_readying (NotFound what) = true
is_of_readying (WrongKind what) = true
is_of_readying (NotEmpty at) = true
is_of_readying (Begun work) = true
is_of_readying (Limit which) = true
is_of_readying answer = false

-- and if it does
abbrev pub is_of_beginning : Answer → Bool
is_of_beginning (Refused at why) = true
is_of_beginning (WrongPass root) = true
is_of_beginning answer = is_of_readying answer

-- whether `repair` may answer so before it prints
abbrev pub is_of_moving : Answer → Bool
is_of_moving (NotEmpty at) = true
is_of_moving answer = is_of_opening answer
