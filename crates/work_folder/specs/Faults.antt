-- How the faults of a folder and of a removal are told (private contracts only).
use Rattle.folder_spec.specs.declared.FolderFault.{FolderFault}
use Rattle.folder_spec.specs.declared.FolderFault.TheVariants as folder
use Rattle.folder_staging.specs.declared.removal.RemovalFault.{RemovalFault}
use Rattle.folder_staging.specs.declared.removal.RemovalFault.TheVariants as removal
use Rattle.work_folder.specs.declared.fault.WorkFault.{WorkFault}
use Rattle.work_folder.specs.declared.fault.WorkFault.TheVariants.{Foreign, Depth, Failed, NoMemory}

abbrev pub fault_of : FolderFault → WorkFault
fault_of folder.Failed = Failed
fault_of folder.Refused = Failed
fault_of folder.NoMemory = NoMemory

abbrev pub removal_fault : RemovalFault → WorkFault
removal_fault removal.Depth = Depth
removal_fault (removal.Other at) = Foreign at
removal_fault removal.Failed = Failed
removal_fault removal.NoMemory = NoMemory
