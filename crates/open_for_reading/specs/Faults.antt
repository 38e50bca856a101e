-- The answers to the faults of reading a vault.
use Rattle.std.specs.Prelude.{◌++◌}
use Rattle.folder_spec.specs.Path.{Path}
use Rattle.vault_faults.specs.declared.fault.FindFault.{FindFault}
use Rattle.vault_faults.specs.declared.fault.FindFault.TheVariants as find
use Rattle.vault_read.specs.declared.fault.LoadFault.{LoadFault}
use Rattle.vault_read.specs.declared.fault.LoadFault.TheVariants as load
use Rattle.vault_faults.specs.declared.fault.Limit as reading
use Rattle.vault_faults.specs.declared.fault.Limit.TheVariants as limited
use Rattle.vault_spec.specs.Vault.{go_conf, vault_file}
use Rattle.command_answers.specs.declared.answer.Answer.{Answer}
use Rattle.command_answers.specs.declared.answer.Answer.TheVariants.{OutOfMemory, FolderFault, Refused, WrongPass, NotFound, WrongKind, Damaged, Limit}
use Rattle.command_answers.specs.declared.answer.Named.TheVariants as named
use Rattle.command_answers.specs.declared.answer.Damage.TheVariants as damage
use Rattle.command_answers.specs.declared.answer.Refusal.TheVariants as refusal
use Rattle.command_answers.specs.declared.answer.Limit as limits
use Rattle.command_answers.specs.declared.answer.Limit.TheVariants as limit

abbrev pub of_find : FindFault → Answer
of_find (find.NotFound path) = NotFound (named.Plain path)
of_find (find.WrongKind path) = WrongKind (named.Plain path)
of_find (find.NoDirKey at) = Damaged at damage.NoDirKey
of_find (find.NoFolder at) = Damaged at damage.NoFolder
of_find find.Failed = FolderFault
of_find find.NoMemory = OutOfMemory

abbrev pub of_limit : reading.Limit → limits.Limit
of_limit limited.Depth = limit.Depth
of_limit limited.Items = limit.Items
of_limit (limited.Length at) = limit.Length at
of_limit limited.Input = limit.Input

-- the answer to a vault that isn't opened
abbrev pub of_load : Path → LoadFault → Answer
of_load root (load.Missing at) = NotFound (named.Folder at)
of_load root (load.WrongKind at) = WrongKind (named.Folder at)
of_load root (load.TooLarge at) = Limit (limit.Length at)
of_load root (load.Go fault) = Refused (root ++ go_conf) (refusal.Gocryptfs fault)
of_load root (load.Cm at fault) = Refused at (refusal.Cryptomator fault)
of_load root load.WrongPass = WrongPass root
of_load root load.BadSignature = Refused (root ++ vault_file) refusal.Signature
of_load root load.Failed = FolderFault
of_load root load.NoMemory = OutOfMemory
