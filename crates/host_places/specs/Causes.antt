-- Why a call fails.
use Rattle.std.specs.Prelude.{◌≡◌}
use Rattle.folder_spec.specs.declared.FolderFault.{FolderFault}
use Rattle.folder_spec.specs.declared.FolderFault.TheVariants.{Failed, Refused}
use Rattle.folder_spec.specs.declared.FolderFault.TheVariants as fault
use Rattle.host_places.specs.declared.causes.Cause.{Cause}
use Rattle.host_places.specs.declared.causes.Cause.TheVariants.{InTheWay, NoMemory}

-- the fault that a cause is: what stands in the way refuses a call, and all else but want of memory is a failure
abbrev pub fault_by : Cause → FolderFault
fault_by NoMemory = fault.NoMemory
fault_by InTheWay = Refused
fault_by _ = Failed

-- neither want of memory, nor that something stands in the way
abbrev pub IsFailure : Cause → Type 0
IsFailure cause = fault_by cause ≡ Failed
