-- The answers to a work folder that isn't ready, and to an item that isn't made.
use Rattle.item_making.specs.declared.fault.PutFault.{PutFault}
use Rattle.item_making.specs.declared.fault.PutFault.TheVariants as puts
use Rattle.folder_spec.specs.Path.{Path}
use Rattle.work_folder.specs.declared.fault.WorkFault.{WorkFault}
use Rattle.work_folder.specs.declared.fault.WorkFault.TheVariants as work
use Rattle.command_answers.specs.declared.answer.Answer.{Answer}
use Rattle.command_answers.specs.declared.answer.Answer.TheVariants.{OutOfMemory, FolderFault, InputFault, RandomFault, NotFound, WrongKind, Damaged, NotAllowed, NotEmpty, Begun, ZeroRandom, Taken, Limit}
use Rattle.command_answers.specs.declared.answer.Named.TheVariants as named
use Rattle.command_answers.specs.declared.answer.Damage.TheVariants as damage
use Rattle.command_answers.specs.declared.answer.Limit.TheVariants as limit
use Rattle.open_for_reading.specs.Faults.{of_find, of_limit}

abbrev pub of_put : PutFault → Answer
of_put (puts.Find fault) = of_find fault
of_put (puts.NotAllowed path) = NotAllowed path
of_put (puts.Taken at) = Taken at
of_put (puts.Damaged at fault) = Damaged at (damage.Content fault)
of_put (puts.Limit which) = Limit (of_limit which)
of_put puts.ZeroRandom = ZeroRandom
of_put puts.Source = InputFault
of_put puts.Random = RandomFault
of_put puts.Failed = FolderFault
of_put puts.NoMemory = OutOfMemory

-- of a work folder at this path
abbrev pub of_work : Path → WorkFault → Answer
of_work at (work.NoParent above) = NotFound (named.Folder above)
of_work at (work.WrongKind there) = WrongKind (named.Folder there)
of_work at (work.Foreign entry) = NotEmpty entry
of_work at work.Begun = Begun at
of_work at work.Depth = Limit limit.Removal
of_work at work.Failed = FolderFault
of_work at work.NoMemory = OutOfMemory
