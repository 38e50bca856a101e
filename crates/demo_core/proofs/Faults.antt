-- What a fault of a first call says of the call around it.
use Rattle.std.proofs.Common.{◌≡◌, ◌≢◌, ◌∙◌, ◌⊎◌, ℕ, inl, inr, refl, sym, subst}
use Rattle.item_making.specs.declared.fault.PutFault.{PutFault}
use Rattle.item_making.specs.declared.fault.PutFault.TheVariants as put
use Rattle.folder_spec.specs.Path.{Path}
use Rattle.port_model.specs.Counts.{CountRose}
use Rattle.work_folder.specs.declared.fault.WorkFault.{WorkFault}
use Rattle.work_folder.specs.declared.fault.WorkFault.TheVariants as work
use Rattle.demo_core.specs.Making.{IsFailed, IsItemFault, IsMakeFault, IsNotPut}
use Rattle.demo_core.specs.declared.fault.MakeFault.{MakeFault}
use Rattle.demo_core.specs.declared.fault.MakeFault.TheVariants.{Load, NoMemory, Put, Work}

-- ---- faults of the calls below

pub work_failed : (fault : WorkFault) (old new : ℕ) → (fault ≡ work.Failed → CountRose old new) → IsFailed (Work fault) → CountRose old new
work_failed (work.NoParent at) old new rose failed = absurd failed
work_failed (work.WrongKind at) old new rose failed = absurd failed
work_failed (work.Foreign at) old new rose failed = absurd failed
work_failed work.Begun old new rose failed = absurd failed
work_failed work.Depth old new rose failed = absurd failed
work_failed work.Failed old new rose failed = rose refl
work_failed work.NoMemory old new rose failed = absurd failed

pub put_failed : (fault : PutFault) (old new : ℕ) → (fault ≡ put.Failed → CountRose old new) → IsFailed (Put fault) → CountRose old new
put_failed (put.Find fault) old new rose failed = absurd failed
put_failed (put.NotAllowed path) old new rose failed = absurd failed
put_failed (put.Taken at) old new rose failed = absurd failed
put_failed (put.Damaged at fault) old new rose failed = absurd failed
put_failed (put.Limit limit) old new rose failed = absurd failed
put_failed put.ZeroRandom old new rose failed = absurd failed
put_failed put.Source old new rose failed = absurd failed
put_failed put.Random old new rose failed = absurd failed
put_failed put.Failed old new rose failed = rose refl
put_failed put.NoMemory old new rose failed = absurd failed

-- a fault that isn't of making one
pub not_put_own : (fault : MakeFault) → IsNotPut fault → IsMakeFault fault
not_put_own (Work fault) other = tt
not_put_own (Load fault) other = tt
not_put_own (Put fault) other = absurd other
not_put_own NoMemory other = tt

-- ---- testing that a place is free

abbrev pub OfTest : Path → PutFault → Type 0
OfTest at why = (why ≡ put.Taken at) ⊎ ((why ≡ put.Failed) ⊎ (why ≡ put.NoMemory))

pub test_own : (at : Path) (why : PutFault) → OfTest at why → IsItemFault why
test_own at why cause = elim cause [
  | inl taken ↦ subst IsItemFault (sym taken) tt
  | inr (inl failed) ↦ subst IsItemFault (sym failed) tt
  | inr (inr memory) ↦ subst IsItemFault (sym memory) tt
]

pub test_draws_nothing : (at : Path) (why : PutFault) → OfTest at why → why ≢ put.Random
test_draws_nothing at why cause random = elim cause [
  | inl taken ↦ let never : put.Taken at ≡ put.Random = sym taken ∙ random in cc never
  | inr (inl failed) ↦ let never : put.Failed ≡ put.Random = sym failed ∙ random in cc never
  | inr (inr memory) ↦ let never : put.NoMemory ≡ put.Random = sym memory ∙ random in cc never
]
