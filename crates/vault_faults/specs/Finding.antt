-- How looking for a plain path tells the faults of the crates below.
use Rattle.folder_spec.specs.declared.FolderFault.{FolderFault}
use Rattle.folder_spec.specs.declared.FolderFault.TheVariants as folder
use Rattle.vault_faults.specs.declared.fault.FindFault.{FindFault}
use Rattle.vault_faults.specs.declared.fault.FindFault.TheVariants.{Failed, NoMemory}

-- the fault of a folder
abbrev pub of_folder : FolderFault → FindFault
of_folder folder.Failed = Failed
of_folder folder.Refused = Failed
of_folder folder.NoMemory = NoMemory
