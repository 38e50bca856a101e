-- How checks and repairs answer.
use Rattle.folder_spec.specs.declared.FolderFault.{FolderFault}
use Rattle.folder_spec.specs.declared.FolderFault.TheVariants as folder
use Rattle.vault_faults.specs.declared.fault.Limit.TheVariants as limit
use Rattle.vault_walk.specs.declared.fault.WalkFault.{WalkFault}
use Rattle.vault_walk.specs.declared.fault.WalkFault.TheVariants as walk
use Rattle.vault_check.specs.declared.fault.CheckFault.{CheckFault}
use Rattle.vault_check.specs.declared.fault.CheckFault.TheVariants as check

-- the fault of a folder, and of a survey, as a check tells it; a survey never names a finding as its fault
abbrev pub of_folder : FolderFault → CheckFault
of_folder folder.Failed = check.Failed
of_folder folder.Refused = check.Failed
of_folder folder.NoMemory = check.NoMemory

abbrev pub of_walk : WalkFault → CheckFault
of_walk (walk.Limit limit) = check.Limit limit
of_walk walk.Failed = check.Failed
of_walk walk.NoMemory = check.NoMemory
of_walk (walk.NotClean finding) = check.NoMemory

-- a check passes no limit on an input, and a repair, which reads no contents, none on their lengths
abbrev pub IsCheckFault : CheckFault → Type 0
IsCheckFault (check.Limit limit.Items) = Unit {0}
IsCheckFault (check.Limit limit.Depth) = Unit {0}
IsCheckFault (check.Limit (limit.Length at)) = Unit {0}
IsCheckFault (check.Limit limit.Input) = ⊥
IsCheckFault check.Failed = Unit {0}
IsCheckFault check.NoMemory = Unit {0}

abbrev pub IsRepairFault : CheckFault → Type 0
IsRepairFault (check.Limit limit.Items) = Unit {0}
IsRepairFault (check.Limit limit.Depth) = Unit {0}
IsRepairFault (check.Limit (limit.Length at)) = ⊥
IsRepairFault (check.Limit limit.Input) = ⊥
IsRepairFault check.Failed = Unit {0}
IsRepairFault check.NoMemory = Unit {0}
