-- Why the faults of `retire` may come.
use Rattle.std.proofs.Common.{IfErr, Ok, ◌≡◌, ◌≤◌, ℕ, Option, Some, Result, Err, inl, inr, refl, subst, sym}
use Rattle.folder_model.proofs.Counting.{counts_after, counts_at_fault, rose_since}
use Rattle.folder_model.specs.Answers.{Answers, Counts, CountsAbove}
use Rattle.folder_spec.specs.declared.FolderFault.{FolderFault}
use Rattle.folder_spec.specs.declared.FolderFault.TheVariants as folder
use Rattle.folder_spec.specs.declared.Kind.{Kind}
use Rattle.folder_spec.specs.Event.{Allowed, Call, Changes, Told}
use Rattle.folder_spec.specs.Path.{Path}
use Rattle.folder_spec.specs.View.{kind_found}
use Rattle.folder_staging.specs.declared.removal.RemovalFault.{RemovalFault}
use Rattle.folder_staging.specs.declared.removal.RemovalFault.TheVariants as removal
use Rattle.migration_sides.specs.Faults.{IsApartFault, IsBlamed, IsStepFault}
use Rattle.migration_sides.specs.declared.fault.StepFault.{StepFault}
use Rattle.migration_sides.specs.declared.fault.StepFault.TheVariants as step
use Rattle.port_model.specs.Counts.{CountRose}
use Rattle.vault_read.specs.declared.fault.LoadFault.TheVariants as load
use Rattle.vault_walk.specs.declared.fault.WalkFault.TheVariants as walk
use Rattle.retire_core.specs.Causes.{IsOfFolder}
use Rattle.retire_core.specs.Faults.{Blamed, IsLaterFault, IsOfRemoval, IsRetireFault, of_folder, of_removal, of_step}
use Rattle.retire_core.specs.declared.fault.RetireFault.{RetireFault}
use Rattle.retire_core.specs.declared.fault.RetireFault.TheVariants as retire

-- since earlier counts
pub blamed_since : (Own : RetireFault → Type 0) (before mid after : ℕ) → before ≤ mid → (fault : RetireFault) → Blamed Own (CountRose mid after) fault → Blamed Own (CountRose before after) fault
blamed_since Own before mid after le fault b = record { own = b.own; failed = λ is. rose_since before mid after le (b.failed is) }

-- a call of the folder
pub blamed_folder : (T : Type 0) (before after : ℕ) (fault : FolderFault) → CountsAbove {T = T} before after (Err fault) → Blamed IsLaterFault (CountRose before after) (of_folder fault)
blamed_folder T before after folder.Failed counts = record { own = tt; failed = λ is. counts.1 }
blamed_folder T before after folder.Refused counts = record { own = tt; failed = λ is. counts.1 }
blamed_folder T before after folder.NoMemory counts = record { own = tt; failed = λ is. cc is }

-- a question about a kind
pub blamed_kind : (t : Option Told) (at : Path) (before mid after : ℕ) (fault : FolderFault) → before ≤ mid → Answers {T = Kind} t (λ v. Unit {0}) (λ v kind. kind ≡ kind_found (v at)) (Err fault)
    → Counts {T = Kind} t mid after (Err fault) → Blamed IsLaterFault (CountRose before after) (of_folder fault)
blamed_kind t at before mid after fault le answer counts =
    blamed_folder Kind before after fault (counts_at_fault Kind Kind t before mid after (λ v. Unit {0}) (λ v kind. kind ≡ kind_found (v at)) fault le (λ v is. tt) answer counts)

-- a call that changes something, and is allowed
pub blamed_call : (call : Call) (t u : Option Told) (before mid after : ℕ) (fault : FolderFault) → before ≤ mid → ((a : Told) → t ≡ Some a → Allowed a.state call) → Changes call t u (Err fault)
    → Counts {T = Unit {0}} t mid after (Err fault) → Blamed IsLaterFault (CountRose before after) (of_folder fault)
blamed_call call t u before mid after fault le allowed changes counts = blamed_folder (Unit {0}) before after fault (counts_after call t u before mid after (Err fault) le allowed changes counts)

-- a removal
pub blamed_removal : (before mid after : ℕ) (fault : RemovalFault) (result : Result (Unit {0}) RemovalFault) → result ≡ Err fault → before ≤ mid → (result ≡ Err removal.Failed → CountRose mid after)
    → Blamed IsLaterFault (CountRose before after) (of_removal fault)
blamed_removal before mid after removal.Depth result is le failed = record { own = tt; failed = λ is. cc is }
blamed_removal before mid after (removal.Other at) result is le failed = record { own = tt; failed = λ is. cc is }
blamed_removal before mid after removal.Failed result is le failed = record { own = tt; failed = λ same. rose_since before mid after le (failed is) }
blamed_removal before mid after removal.NoMemory result is le failed = record { own = tt; failed = λ is. cc is }

-- ---- a step that both commands share

pub blamed_apart : {F : Type 0} (fault : StepFault) → IsApartFault fault → Blamed IsLaterFault F (of_step fault)
blamed_apart (step.Overlap one two) own = record { own = tt; failed = λ is. cc is }
blamed_apart (step.Load side why) own = absurd own
blamed_apart (step.Walk why) own = absurd own
blamed_apart step.Failed own = absurd own
blamed_apart step.NoMemory own = record { own = tt; failed = λ is. cc is }

pub blamed_step : (folder : Type 0) (fault : StepFault) → IsBlamed folder fault → Blamed IsLaterFault folder (of_step fault)
blamed_step folder fault b = record { own = step_own fault b.own; failed = λ is. b.failed (step_failed fault is) }
  where
    step_own : (fault : StepFault) → IsStepFault fault → IsLaterFault (of_step fault)
    step_own (step.Overlap one two) is = absurd is
    step_own (step.Load side load.Failed) is = absurd is
    step_own (step.Load side load.NoMemory) is = absurd is
    step_own (step.Load side (load.Missing at)) is = tt
    step_own (step.Load side (load.WrongKind at)) is = tt
    step_own (step.Load side (load.TooLarge at)) is = tt
    step_own (step.Load side (load.Go why)) is = tt
    step_own (step.Load side (load.Cm at why)) is = tt
    step_own (step.Load side load.WrongPass) is = tt
    step_own (step.Load side load.BadSignature) is = tt
    step_own (step.Walk walk.Failed) is = absurd is
    step_own (step.Walk walk.NoMemory) is = absurd is
    step_own (step.Walk (walk.NotClean finding)) is = tt
    step_own (step.Walk (walk.Limit which)) is = tt
    step_own step.Failed is = tt
    step_own step.NoMemory is = tt

    step_failed : (fault : StepFault) → of_step fault ≡ retire.Failed → fault ≡ step.Failed
    step_failed (step.Overlap one two) is = cc is
    step_failed (step.Load side why) is = cc is
    step_failed (step.Walk why) is = cc is
    step_failed step.Failed is = refl
    step_failed step.NoMemory is = cc is

-- ---- once the journal is read

-- such a fault is one that `retire` may answer
pub later_own : (fault : RetireFault) → IsLaterFault fault → IsRetireFault fault
later_own (retire.Journal fault) later = absurd later
later_own retire.Unfinished later = absurd later
later_own (retire.Work fault) later = later
later_own (retire.Overlap one two) later = later
later_own (retire.Load side fault) later = later
later_own (retire.Walk fault) later = later
later_own (retire.NotAllowed path) later = later
later_own (retire.Meet one other) later = later
later_own (retire.Match fault) later = later
later_own (retire.Differ path how) later = later
later_own retire.Depth later = later
later_own retire.Failed later = later
later_own retire.NoMemory later = later

pub blamed_later : (before mid after : ℕ) → before ≤ mid → (fault : RetireFault) → Blamed IsLaterFault (CountRose mid after) fault → Blamed IsRetireFault (CountRose before after) fault
blamed_later before mid after le fault b = record { own = later_own fault b.own; failed = λ is. rose_since before mid after le (b.failed is) }

-- more of the fault of an exit
pub if_err_both : {T : Type 0} (P Q : RetireFault → Type 0) (result : Result T RetireFault) → ((fault : RetireFault) → P fault → Q fault) → IfErr result P → IfErr result Q
if_err_both P Q (Ok value) more h = tt
if_err_both P Q (Err fault) more h = more fault h

-- ---- what removing may answer

pub folder_refused : (fault : FolderFault) → IsOfRemoval (of_folder fault)
folder_refused folder.Failed = tt
folder_refused folder.Refused = tt
folder_refused folder.NoMemory = tt

pub removal_refuses : (fault : RemovalFault) → IsOfRemoval (of_removal fault)
removal_refuses removal.Depth = tt
removal_refuses (removal.Other at) = tt
removal_refuses removal.Failed = tt
removal_refuses removal.NoMemory = tt

pub folder_removal : (fault : RetireFault) → IsOfFolder fault → IsOfRemoval fault
folder_removal fault of_folder = elim of_folder [ inl failed ↦ subst IsOfRemoval (sym failed) tt | inr none ↦ subst IsOfRemoval (sym none) tt ]
