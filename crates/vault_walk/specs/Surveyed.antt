-- What surveys and walks answer, with each path in the folder behind the vault's root.
use Rattle.std.specs.Prelude.{◌≡◌, ◌≢◌, ◌↔◌, ◌++◌, ◌==◌, suc, Bool, List, [], map, nat_le, None, IsTrue, AllPairs, Contains}
use Rattle.std.specs.List.{filter}
use Rattle.std.specs.List.Sorted.{IsPermutation}
use Rattle.folder_spec.specs.Path.{Path}
use Rattle.folder_spec.specs.View.{View}
use Rattle.vault_spec.specs.Findings.{IsFinding, is_fault_of_structure, number_of}
use Rattle.vault_spec.specs.Format.{Format}
use Rattle.vault_spec.specs.Plan.{Planned, IsPlan}
use Rattle.vault_spec.specs.declared.Finding.{Finding}
use Rattle.vault_walk.specs.Levels.{IsMet, IsTargetAmong}
use Rattle.vault_walk.specs.Report.{is_told}
use Rattle.vault_walk.specs.Survey.{depth_limit, FoundAt, HasEachOnce, Precedes, HasTooMany, IsOrdered, IsSurvey, IsTooDeep}
use Rattle.vault_walk.specs.Walking.{Way, IsWalked}
use Rattle.vault_walk.specs.declared.fault.Finding as answer
use Rattle.vault_walk.specs.declared.fault.WalkFault.{WalkFault}
use Rattle.vault_walk.specs.declared.fault.WalkFault.TheVariants as fault
use Rattle.vault_walk.specs.declared.found.Found.{Found}
use Rattle.vault_walk.specs.declared.surveying.Surveyed.{Surveyed}
use Rattle.vault_walk.specs.declared.twice.Target.{Target}
use Rattle.vault_faults.specs.declared.fault.Limit.TheVariants as limit

abbrev pub placed : Path → Planned → Planned
placed root item = record { path = item.path; node = item.node; at = root ++ item.at }

abbrev pub told : Path → FoundAt → answer.Finding
told root x = record { at = root ++ x.at; number = number_of x.finding; fault = None }

-- the answer of a survey
pub record IsSurveyed (root : Path) (f : Format) (v : View) (surveyed : Surveyed) : Type 0 where
  pub plan : List Planned
  pub found : List FoundAt
  pub notes : List Path
  pub is : IsSurvey f v plan found notes
  pub items_are : surveyed.plan.items ≡ map (placed root) plan
  pub findings_are : surveyed.findings.items ≡ map (told root) found
  pub notes_are : surveyed.notes.items ≡ map (λ (at : Path). root ++ at) notes

-- the plan that a walk answers
pub record IsPlanOf (root : Path) (f : Format) (v : View) (items : List Planned) : Type 0 where
  pub plan : List Planned
  pub is : IsPlan f v plan
  pub items_are : items ≡ map (placed root) plan

-- these are the items of a vault in order, each once, also where two ids of directories have one content folder
pub record ListsEachOnce (root : Path) (f : Format) (v : View) (items : List Planned) : Type 0 where
  pub plan : List Planned
  pub once : HasEachOnce f v plan
  pub ordered : IsOrdered plan
  pub items_are : items ≡ map (placed root) plan

-- the finding that a walk answers: of those that make the vault not clean the first, by path, and at one path by number
pub record IsFirstFinding (root : Path) (f : Format) (v : View) (finding : answer.Finding) : Type 0 where
  pub first : FoundAt
  pub is : finding ≡ told root first
  pub of_structure : IsTrue (is_fault_of_structure first.finding)
  pub found : IsFinding f v first.finding first.at
  pub least : (other : FoundAt) → IsTrue (is_fault_of_structure other.finding) → IsFinding f v other.finding other.at → ¬ Precedes other first

-- the vault passes no limit
pub record IsWithin (f : Format) (v : View) : Type 0 where
  pub items : ¬ HasTooMany f v
  pub depth : ¬ IsTooDeep f v

-- A vault that is too deep is named so where it hasn't too many items: a walk goes by levels, and meets these first.
pub record IsOnlyTooDeep (f : Format) (v : View) : Type 0 where
  pub items : ¬ HasTooMany f v
  pub deep : IsTooDeep f v

-- the directories of these ways are those that are reached, and no others, each with a shortest way
abbrev pub AreVisits : Format → View → List Way → Type 0
AreVisits f v visits = IsWalked f v (suc depth_limit) visits []

-- this is found in the vault, damaged contents aside
pub record IsTold (f : Format) (v : View) (x : Found) : Type 0 where
  pub finding : Finding
  pub number : x.number ≡ number_of finding
  pub told : IsTrue (is_told finding)
  pub is : IsFinding f v finding x.at

-- and this is all that is
abbrev pub AreTold : Format → View → List Found → Type 0
AreTold f v found = (x : Found) → Contains found x ↔ IsTold f v x

-- what the walk met: what was found at the root and in the directories that were visited, and the directory items there
pub record HaveMet (f : Format) (v : View) (visits : List Way) (found : List Found) (targets : List Target) : Type 0 where
  pub visits_are : AreVisits f v visits
  pub found_are : (x : Found) → Contains found x ↔ IsMet f v visits x
  pub targets_are : (target : Target) → Contains targets target ↔ IsTargetAmong f v visits target

-- findings have the numbers 1 to 11, and notes the number 14
abbrev pub is_structural : Found → Bool
is_structural x = nat_le x.number 11

abbrev pub is_note : Found → Bool
is_note x = x.number == 14

-- those that make a vault not clean, and the notes, each behind the vault's root
abbrev pub finding_behind : Path → Found → answer.Finding
finding_behind root x = record { at = root ++ x.at; number = x.number; fault = None }

abbrev pub findings_behind : Path → List Found → List answer.Finding
findings_behind root found = map (finding_behind root) (filter is_structural found)

abbrev pub notes_behind : Path → List Found → List Path
notes_behind root found = map (λ (x : Found). root ++ x.at) (filter is_note found)

-- the same items in order of their paths, where each has a path of its own
pub record AreInOrder (items sorted : List Planned) : Type 0 where
  pub same : IsPermutation items sorted
  pub ordered : AllPairs (λ (x y : Planned). x.path ≢ y.path) items → IsOrdered sorted

-- and behind the vault's root
pub record ArePlaced (root : Path) (items plan : List Planned) : Type 0 where
  pub sorted : List Planned
  pub in_order : AreInOrder items sorted
  pub placed_are : plan ≡ map (placed root) sorted

-- a survey refuses by a limit, by the folder or by memory alone
abbrev pub IsSurveyFault : WalkFault → Type 0
IsSurveyFault (fault.NotClean finding) = ⊥
IsSurveyFault (fault.Limit limit.Items) = Unit {0}
IsSurveyFault (fault.Limit limit.Depth) = Unit {0}
IsSurveyFault (fault.Limit (limit.Length at)) = ⊥
IsSurveyFault (fault.Limit limit.Input) = ⊥
IsSurveyFault fault.Failed = Unit {0}
IsSurveyFault fault.NoMemory = Unit {0}

-- and a walk by a finding too
abbrev pub IsWalkFault : WalkFault → Type 0
IsWalkFault (fault.NotClean finding) = Unit {0}
IsWalkFault (fault.Limit limit.Items) = Unit {0}
IsWalkFault (fault.Limit limit.Depth) = Unit {0}
IsWalkFault (fault.Limit (limit.Length at)) = ⊥
IsWalkFault (fault.Limit limit.Input) = ⊥
IsWalkFault fault.Failed = Unit {0}
IsWalkFault fault.NoMemory = Unit {0}
