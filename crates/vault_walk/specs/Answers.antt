-- How a walk answers.
use Rattle.folder_spec.specs.declared.FolderFault.{FolderFault}
use Rattle.folder_spec.specs.declared.FolderFault.TheVariants as folder
use Rattle.vault_walk.specs.declared.fault.WalkFault.{WalkFault}
use Rattle.vault_walk.specs.declared.fault.WalkFault.TheVariants.{Failed, NoMemory}

-- the fault of a folder, as a walk tells it
abbrev pub of_folder : FolderFault → WalkFault
of_folder folder.Failed = Failed
of_folder folder.Refused = Failed
of_folder folder.NoMemory = NoMemory
