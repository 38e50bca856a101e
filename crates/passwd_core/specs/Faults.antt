-- The faults of what a change of passphrase calls, as it tells them.
use Rattle.folder_spec.specs.declared.FolderFault.{FolderFault}
use Rattle.folder_spec.specs.declared.FolderFault.TheVariants as folder
use Rattle.vault_read.specs.declared.fault.LoadFault.{LoadFault}
use Rattle.vault_read.specs.declared.fault.LoadFault.TheVariants as load
use Rattle.passwd_core.specs.declared.fault.PassFault.{PassFault}
use Rattle.passwd_core.specs.declared.fault.PassFault.TheVariants.{Load, Failed, NoMemory}

-- that the folder failed or memory was refused is told as such
abbrev pub of_load : LoadFault → PassFault
of_load load.Failed = Failed
of_load load.NoMemory = NoMemory
of_load (load.Missing at) = Load (load.Missing at)
of_load (load.WrongKind at) = Load (load.WrongKind at)
of_load (load.TooLarge at) = Load (load.TooLarge at)
of_load (load.Go fault) = Load (load.Go fault)
of_load (load.Cm at fault) = Load (load.Cm at fault)
of_load load.WrongPass = Load load.WrongPass
of_load load.BadSignature = Load load.BadSignature

abbrev pub of_folder : FolderFault → PassFault
of_folder folder.Failed = Failed
of_folder folder.Refused = Failed
of_folder folder.NoMemory = NoMemory

-- the folder failed, or memory was refused
abbrev pub IsOfMachine : LoadFault → Type 0
IsOfMachine load.Failed = Unit {0}
IsOfMachine load.NoMemory = Unit {0}
IsOfMachine (load.Missing at) = ⊥
IsOfMachine (load.WrongKind at) = ⊥
IsOfMachine (load.TooLarge at) = ⊥
IsOfMachine (load.Go fault) = ⊥
IsOfMachine (load.Cm at fault) = ⊥
IsOfMachine load.WrongPass = ⊥
IsOfMachine load.BadSignature = ⊥
