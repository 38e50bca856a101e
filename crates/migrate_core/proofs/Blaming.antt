-- Why a migration's faults may come.
use Rattle.std.proofs.Common.{◌≡◌, ◌≢◌, ◌≤◌, ℕ, Bool, IfErr, IsTrue, Option, Result, Ok, Err, refl}
use Rattle.folder_model.proofs.Counting.{rose_since}
use Rattle.folder_model.specs.Answers.{CountsAbove}
use Rattle.folder_spec.specs.declared.FolderFault.{FolderFault}
use Rattle.folder_spec.specs.declared.FolderFault.TheVariants as folder
use Rattle.item_making.specs.declared.fault.PutFault.{PutFault}
use Rattle.item_making.specs.declared.fault.PutFault.TheVariants as put
use Rattle.port_model.specs.Counts.{CountRose}
use Rattle.vault_write.specs.Faults.{IsFileFault}
use Rattle.folder_spec.specs.Apart.{AreSeparate}
use Rattle.folder_spec.specs.Path.{Path}
use Rattle.migration_sides.specs.Causes.{TestsApart}
use Rattle.migration_sides.specs.Causes as steps
use Rattle.migration_sides.proofs.Passing.{none_overlap}
use Rattle.migration_sides.specs.Faults.{IsApartFault, IsBlamed, IsStepFault}
use Rattle.migration_sides.specs.declared.fault.Side.{Side}
use Rattle.migration_sides.specs.declared.fault.StepFault.{StepFault}
use Rattle.migration_sides.specs.declared.fault.StepFault.TheVariants as step
use Rattle.tree_match.specs.declared.answer.MapFault.{MapFault}
use Rattle.tree_match.specs.declared.answer.MapFault.TheVariants as map_
use Rattle.vault_read.specs.declared.fault.LoadFault.{LoadFault}
use Rattle.vault_read.specs.declared.fault.LoadFault.TheVariants as load
use Rattle.vault_walk.specs.declared.fault.WalkFault.{WalkFault}
use Rattle.vault_walk.specs.declared.fault.WalkFault.TheVariants as walk
use Rattle.migrate_core.specs.Faults.{Blamed, IsMoveFault, is_of_apart, is_of_begin, is_of_resume, of_folder, of_map, of_put, of_step}
use Rattle.migrate_core.specs.declared.fault.MoveFault.{MoveFault}
use Rattle.migrate_core.specs.declared.fault.MoveFault.TheVariants.{Load, Walk}
use Rattle.migrate_core.specs.declared.fault.MoveFault.TheVariants as moves

-- since earlier counts
pub blamed_since : (is_own is_more : MoveFault → Bool) → ((fault : MoveFault) → IsTrue (is_own fault) → IsTrue (is_more fault)) → (f f1 f2 r r1 r2 : ℕ) → f ≤ f1 → r ≤ r1 → (fault : MoveFault)
    → Blamed is_own (CountRose f1 f2) (CountRose r1 r2) fault → Blamed is_more (CountRose f f2) (CountRose r r2) fault
blamed_since is_own is_more more f f1 f2 r r1 r2 folder random fault b = record {
  own = b.own;
  may = more fault b.may;
  failed = λ is. rose_since f f1 f2 folder (b.failed is);
  drawn = λ is. rose_since r r1 r2 random (b.drawn is);
}

-- a call of the folder
pub blamed_folder : (T : Type 0) {R : Type 0} (before mid after : ℕ) (fault : FolderFault) → before ≤ mid → CountsAbove {T = T} mid after (Err fault) → Blamed is_of_resume (CountRose before after) R (of_folder fault)
blamed_folder T before mid after folder.Failed le counts = record { own = tt; may = refl; failed = λ is. rose_since before mid after le counts.1; drawn = λ is. cc is }
blamed_folder T before mid after folder.Refused le counts = record { own = tt; may = refl; failed = λ is. rose_since before mid after le counts.1; drawn = λ is. cc is }
blamed_folder T before mid after folder.NoMemory le counts = record { own = tt; may = refl; failed = λ is. cc is; drawn = λ is. cc is }

-- a call that makes a file of a content that reads no source
pub blamed_file : {F R : Type 0} (reads : Option Path) (fault : PutFault) → IsFileFault reads fault → fault ≢ put.Source → (fault ≡ put.Failed → F) → (fault ≡ put.Random → R) → Blamed is_of_apart F R (of_put fault)
blamed_file reads (put.Find why) own none failed drawn = record { own = own; may = refl; failed = λ is. cc is; drawn = λ is. cc is }
blamed_file reads (put.NotAllowed path) own none failed drawn = record { own = tt; may = refl; failed = λ is. cc is; drawn = λ is. cc is }
blamed_file reads (put.Taken at) own none failed drawn = record { own = tt; may = refl; failed = λ is. cc is; drawn = λ is. cc is }
blamed_file reads (put.Damaged at why) own none failed drawn = record { own = tt; may = refl; failed = λ is. cc is; drawn = λ is. cc is }
blamed_file reads (put.Limit which) own none failed drawn = record { own = tt; may = refl; failed = λ is. cc is; drawn = λ is. cc is }
blamed_file reads put.ZeroRandom own none failed drawn = record { own = tt; may = refl; failed = λ is. cc is; drawn = λ is. cc is }
blamed_file reads put.Source own none failed drawn = absurd (none refl)
blamed_file reads put.Random own none failed drawn = record { own = tt; may = refl; failed = λ is. cc is; drawn = λ is. drawn refl }
blamed_file reads put.Failed own none failed drawn = record { own = tt; may = refl; failed = λ is. failed refl; drawn = λ is. cc is }
blamed_file reads put.NoMemory own none failed drawn = record { own = tt; may = refl; failed = λ is. cc is; drawn = λ is. cc is }

-- in a part of one that goes on
pub blamed_later : {T : Type 0} (f f1 f2 r r1 r2 : ℕ) (result : Result T MoveFault) → f ≤ f1 → r ≤ r1 → IfErr result (Blamed is_of_apart (CountRose f1 f2) (CountRose r1 r2)) → IfErr result (Blamed is_of_resume (CountRose f f2) (CountRose r r2))
blamed_later f f1 f2 r r1 r2 (Ok value) folder random b = tt
blamed_later f f1 f2 r r1 r2 (Err fault) folder random b = blamed_since is_of_apart is_of_resume (λ why begins. refl) f f1 f2 r r1 r2 folder random fault b

-- what one may answer of folders that don't overlap, it may
pub begins_too : (fault : MoveFault) → IsTrue (is_of_apart fault) → IsTrue (is_of_begin fault)
begins_too (moves.Work why) is = is
begins_too (moves.Journal why) is = is
begins_too (moves.Overlap first second) is = refl
begins_too (moves.Load side why) is = is
begins_too (moves.Walk why) is = is
begins_too (moves.NotEmpty at) is = is
begins_too (moves.NotAllowed path) is = is
begins_too (moves.Meet one other) is = is
begins_too (moves.Changed plan items plan' items') is = is
begins_too (moves.Match why) is = is
begins_too (moves.Differ path how) is = is
begins_too (moves.Place why) is = is
begins_too moves.SourceGone is = is
begins_too moves.Failed is = is
begins_too moves.NoMemory is = is

pub blamed_begins : {T : Type 0} (f f1 f2 r r1 r2 : ℕ) (result : Result T MoveFault) → f ≤ f1 → r ≤ r1 → IfErr result (Blamed is_of_apart (CountRose f1 f2) (CountRose r1 r2)) → IfErr result (Blamed is_of_begin (CountRose f f2) (CountRose r r2))
blamed_begins f f1 f2 r r1 r2 (Ok value) folder random b = tt
blamed_begins f f1 f2 r r1 r2 (Err fault) folder random b = blamed_since is_of_apart is_of_begin begins_too f f1 f2 r r1 r2 folder random fault b

-- so it may answer
pub blamed_may : {T : Type 0} (is_own : MoveFault → Bool) (folder random : Type 0) (result : Result T MoveFault) → IfErr result (Blamed is_own folder random) → IfErr result (λ fault. IsTrue (is_own fault))
blamed_may is_own folder random (Ok value) b = tt
blamed_may is_own folder random (Err fault) b = b.may

pub folder_tells : (fault : FolderFault) → IsTrue (is_of_apart (of_folder fault))
folder_tells folder.Failed = refl
folder_tells folder.Refused = refl
folder_tells folder.NoMemory = refl

-- ---- a step that the commands share

of_load : (side : Side) (fault : LoadFault) → IsStepFault (step.Load side fault) → IsMoveFault (Load side fault)
of_load side (load.Missing at) own = tt
of_load side (load.WrongKind at) own = tt
of_load side (load.TooLarge at) own = tt
of_load side (load.Go why) own = tt
of_load side (load.Cm at why) own = tt
of_load side load.WrongPass own = tt
of_load side load.BadSignature own = tt
of_load side load.Failed own = own
of_load side load.NoMemory own = own

of_walk : (fault : WalkFault) → IsStepFault (step.Walk fault) → IsMoveFault (Walk fault)
of_walk (walk.NotClean finding) own = tt
of_walk (walk.Limit which) own = tt
of_walk walk.Failed own = own
of_walk walk.NoMemory own = own

-- each of its faults may be told by the call
abbrev pub TellsSteps : (MoveFault → Bool) → Type 0
TellsSteps is_own = (fault : StepFault) → IsStepFault fault → IsTrue (is_own (of_step fault))

pub blamed_by : {F G R : Type 0} (is_own : MoveFault → Bool) → TellsSteps is_own → (F → G) → (fault : StepFault) → IsBlamed F fault → Blamed is_own G R (of_step fault)
blamed_by is_own tells more (step.Overlap p q) b = absurd b.own
blamed_by is_own tells more (step.Load side why) b = record { own = of_load side why b.own; may = tells (step.Load side why) b.own; failed = λ is. cc is; drawn = λ is. cc is }
blamed_by is_own tells more (step.Walk why) b = record { own = of_walk why b.own; may = tells (step.Walk why) b.own; failed = λ is. cc is; drawn = λ is. cc is }
blamed_by is_own tells more step.Failed b = record { own = tt; may = tells step.Failed b.own; failed = λ is. more (b.failed refl); drawn = λ is. cc is }
blamed_by is_own tells more step.NoMemory b = record { own = tt; may = tells step.NoMemory b.own; failed = λ is. cc is; drawn = λ is. cc is }

begin_tells : TellsSteps is_of_apart
begin_tells (step.Overlap p q) own = absurd own
begin_tells (step.Load side why) own = refl
begin_tells (step.Walk why) own = refl
begin_tells step.Failed own = refl
begin_tells step.NoMemory own = refl

-- since an earlier count
pub step_begins : {R : Type 0} (f f1 f2 : ℕ) (fault : StepFault) → f ≤ f1 → IsBlamed (CountRose f1 f2) fault → Blamed is_of_apart (CountRose f f2) R (of_step fault)
step_begins f f1 f2 fault before = blamed_by is_of_apart begin_tells (rose_since f f1 f2 before) fault

pub step_resumes : {R : Type 0} (f f1 f2 : ℕ) (fault : StepFault) → f ≤ f1 → IsBlamed (CountRose f1 f2) fault → Blamed is_of_resume (CountRose f f2) R (of_step fault)
step_resumes f f1 f2 fault before = blamed_by is_of_resume (λ why own. refl) (rose_since f f1 f2 before) fault

-- the test of the folders
pub apart_begins : {F R : Type 0} (fault : StepFault) → IsApartFault fault → Blamed is_of_begin F R (of_step fault)
apart_begins (step.Overlap p q) own = record { own = tt; may = refl; failed = λ is. cc is; drawn = λ is. cc is }
apart_begins (step.Load side why) own = absurd own
apart_begins (step.Walk why) own = absurd own
apart_begins step.Failed own = absurd own
apart_begins step.NoMemory own = record { own = tt; may = refl; failed = λ is. cc is; drawn = λ is. cc is }

-- of folders that don't overlap it tells nothing
pub apart_tells : (from to work : Path) → AreSeparate from to work → (fault : StepFault) → IsApartFault fault → steps.Unless {X = Unit {0}} (Err fault) (TestsApart from to work (Err fault)) → IsTrue (is_of_apart (of_step fault))
apart_tells from to work separate (step.Overlap first second) own cause = absurd (none_overlap from to work first second separate cause)
apart_tells from to work separate (step.Load side why) own cause = absurd own
apart_tells from to work separate (step.Walk why) own cause = absurd own
apart_tells from to work separate step.Failed own cause = absurd own
apart_tells from to work separate step.NoMemory own cause = refl

pub apart_resumes : {F R : Type 0} (fault : StepFault) → IsApartFault fault → Blamed is_of_resume F R (of_step fault)
apart_resumes {F} {R} fault own = let b : Blamed is_of_begin F R (of_step fault) = apart_begins fault own in record { own = b.own; may = refl; failed = b.failed; drawn = b.drawn }

pub map_begins : {F R : Type 0} (fault : MapFault) → Blamed is_of_apart F R (of_map fault)
map_begins (map_.NotAName path) = record { own = tt; may = refl; failed = λ is. cc is; drawn = λ is. cc is }
map_begins (map_.Meet one other) = record { own = tt; may = refl; failed = λ is. cc is; drawn = λ is. cc is }
map_begins map_.NoMemory = record { own = tt; may = refl; failed = λ is. cc is; drawn = λ is. cc is }
