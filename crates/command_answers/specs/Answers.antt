-- How a command ends: the status of each answer, and the answers to faults that all commands share.
use Rattle.std.specs.Prelude.{ℕ, ⊤}
use Rattle.folder_spec.specs.declared.FolderFault as folders
use Rattle.folder_spec.specs.declared.FolderFault.TheVariants as folder
use Rattle.command_answers.specs.declared.answer.Answer.{Answer}
use Rattle.command_answers.specs.declared.answer.Answer.TheVariants.{Done, Findings, BadCommandLine, OutOfMemory, FolderFault, InputFault, OutputFault, RandomFault, Refused, WrongPass, NotFound, WrongKind, DamagedInput, Damaged, NotAllowed, NotClean, Overlap, NotEmpty, Begun, Unusable, Changed, Differ, ZeroRandom, Taken, Limit, Retired, Meet}

abbrev pub status_of : Answer → ℕ
status_of Done = 0
status_of Findings = 1
status_of BadCommandLine = 2
status_of OutOfMemory = 3
status_of FolderFault = 4
status_of InputFault = 5
status_of OutputFault = 6
status_of RandomFault = 7
status_of (Refused at why) = 8
status_of (WrongPass root) = 9
status_of (NotFound what) = 10
status_of (WrongKind what) = 11
status_of (DamagedInput fault) = 12
status_of (Damaged at how) = 12
status_of (NotAllowed path) = 13
status_of (NotClean at number) = 14
status_of (Overlap first second) = 15
status_of (NotEmpty at) = 16
status_of (Begun work) = 17
status_of (Unusable work why) = 18
status_of (Changed plan items plan' items') = 19
status_of (Differ path how) = 20
status_of ZeroRandom = 21
status_of (Taken at) = 22
status_of (Limit which) = 23
status_of (Retired work) = 24
status_of (Meet one other) = 25

-- the answer to a fault of the folder
abbrev pub of_folder : folders.FolderFault → Answer
of_folder folder.Failed = FolderFault
of_folder folder.Refused = FolderFault
of_folder folder.NoMemory = OutOfMemory

-- What an answer blames: where it names a fault of the folder, of the input, of the output or of the random source, this holds of that one.
abbrev pub Blames : Answer → (folder input output random : Type 0) → Type 0
Blames FolderFault folder input output random = folder
Blames InputFault folder input output random = input
Blames OutputFault folder input output random = output
Blames RandomFault folder input output random = random
Blames answer folder input output random = ⊤
