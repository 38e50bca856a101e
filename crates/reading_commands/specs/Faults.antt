-- The answers to a content that isn't written whole.
use Rattle.vault_faults.specs.declared.fault.CatFault.{CatFault}
use Rattle.vault_faults.specs.declared.fault.CatFault.TheVariants as cat
use Rattle.command_answers.specs.declared.answer.Answer.{Answer}
use Rattle.command_answers.specs.declared.answer.Answer.TheVariants.{OutOfMemory, FolderFault, OutputFault, Damaged, Limit}
use Rattle.command_answers.specs.declared.answer.Damage.TheVariants as damage
use Rattle.open_for_reading.specs.Faults.{of_find, of_limit}

abbrev pub of_cat : CatFault → Answer
of_cat (cat.Find fault) = of_find fault
of_cat (cat.Damaged at fault) = Damaged at (damage.Content fault)
of_cat (cat.Limit which) = Limit (of_limit which)
of_cat cat.Sink = OutputFault
of_cat cat.Failed = FolderFault
of_cat cat.NoMemory = OutOfMemory
