-- The answers to a check that doesn't come to its end.
use Rattle.vault_check.specs.declared.fault.CheckFault.{CheckFault}
use Rattle.vault_check.specs.declared.fault.CheckFault.TheVariants as check
use Rattle.command_answers.specs.declared.answer.Answer.{Answer}
use Rattle.command_answers.specs.declared.answer.Answer.TheVariants.{OutOfMemory, FolderFault, Limit}
use Rattle.open_for_reading.specs.Faults.{of_limit}

abbrev pub of_check : CheckFault → Answer
of_check (check.Limit which) = Limit (of_limit which)
of_check check.Failed = FolderFault
of_check check.NoMemory = OutOfMemory
