-- Which faults a check and a repair answer.
use Rattle.std.proofs.Common.{◌≡◌}
use Rattle.folder_spec.specs.declared.FolderFault.{FolderFault}
use Rattle.folder_spec.specs.declared.FolderFault.TheVariants as folder
use Rattle.vault_faults.specs.declared.fault.Limit.{Limit}
use Rattle.vault_faults.specs.declared.fault.Limit.TheVariants as limit
use Rattle.vault_walk.specs.Surveyed.{IsSurveyFault}
use Rattle.vault_walk.specs.declared.fault.WalkFault.{WalkFault}
use Rattle.vault_walk.specs.declared.fault.WalkFault.TheVariants as walk
use Rattle.vault_check.specs.Answers.{IsCheckFault, of_folder, of_walk}
use Rattle.vault_check.specs.Contents.{IsContentFault}
use Rattle.vault_check.specs.declared.fault.CheckFault.{CheckFault}
use Rattle.vault_check.specs.declared.fault.CheckFault.TheVariants as check

pub survey_fault : (fault : WalkFault) → IsSurveyFault fault → IsCheckFault (of_walk fault)
survey_fault (walk.NotClean finding) is = absurd is
survey_fault (walk.Limit limit.Items) is = tt
survey_fault (walk.Limit limit.Depth) is = tt
survey_fault (walk.Limit (limit.Length at)) is = absurd is
survey_fault (walk.Limit limit.Input) is = absurd is
survey_fault walk.Failed is = tt
survey_fault walk.NoMemory is = tt

pub content_fault : (fault : CheckFault) → IsContentFault fault → IsCheckFault fault
content_fault (check.Limit limit.Items) is = absurd is
content_fault (check.Limit limit.Depth) is = absurd is
content_fault (check.Limit (limit.Length at)) is = tt
content_fault (check.Limit limit.Input) is = absurd is
content_fault check.Failed is = tt
content_fault check.NoMemory is = tt

-- a folder's fault is no limit
pub no_limit : (fault : FolderFault) (limit : Limit) → of_folder fault ≡ check.Limit limit → ⊥
no_limit folder.Failed limit is = cc is
no_limit folder.Refused limit is = cc is
no_limit folder.NoMemory limit is = cc is
