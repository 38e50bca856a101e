-- How reading a content tells the faults of the crates below.
use Rattle.folder_spec.specs.declared.FolderFault.{FolderFault}
use Rattle.folder_spec.specs.declared.FolderFault.TheVariants as folder
use Rattle.vault_faults.specs.declared.fault.CatFault.{CatFault}
use Rattle.vault_faults.specs.declared.fault.CatFault.TheVariants.{Find, Failed, NoMemory}
use Rattle.vault_faults.specs.declared.fault.FindFault.{FindFault}
use Rattle.vault_faults.specs.declared.fault.FindFault.TheVariants as finds

-- the fault of a folder, and of looking for a path
abbrev pub of_folder : FolderFault → CatFault
of_folder folder.Failed = Failed
of_folder folder.Refused = Failed
of_folder folder.NoMemory = NoMemory

abbrev pub of_find : FindFault → CatFault
of_find (finds.NotFound path) = Find (finds.NotFound path)
of_find (finds.WrongKind path) = Find (finds.WrongKind path)
of_find (finds.NoDirKey at) = Find (finds.NoDirKey at)
of_find (finds.NoFolder at) = Find (finds.NoFolder at)
of_find finds.Failed = Failed
of_find finds.NoMemory = NoMemory
