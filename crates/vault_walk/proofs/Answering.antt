-- How the answers of a walk's calls go on.
use Rattle.std.proofs.Common.{inl, inr, ℕ, ◌≤◌, Err, arith}
use Rattle.port_model.specs.Counts.{CountRose}
use Rattle.vault_faults.specs.declared.fault.Limit.TheVariants as limit
use Rattle.vault_walk.specs.Levels.{Answers}
use Rattle.vault_walk.specs.Surveyed.{IsSurveyFault, IsWalkFault}
use Rattle.vault_walk.specs.declared.fault.WalkFault.{WalkFault}
use Rattle.vault_walk.specs.declared.fault.WalkFault.TheVariants as fault

rose_before : (before mid after : ℕ) → before ≤ mid → CountRose mid after → CountRose before after
rose_before before mid after less (inl more) = inl (omega arith)
rose_before before mid after less (inr most) = inr most

-- what a call answers, its caller answers
pub answers_on : (T U many deep many' deep' : Type 0) (before mid after : ℕ) (x : WalkFault) → (many → many') → (deep → deep') → before ≤ mid → Answers {T = T} many deep mid after (Err x) → Answers {T = U} many' deep' before after (Err x)
answers_on T U many deep many' deep' before mid after (fault.NotClean finding) on past less a = a
answers_on T U many deep many' deep' before mid after (fault.Limit limit.Items) on past less a = (omega (arith, less, a.0), on a.1)
answers_on T U many deep many' deep' before mid after (fault.Limit limit.Depth) on past less a = (omega (arith, less, a.0), past a.1)
answers_on T U many deep many' deep' before mid after (fault.Limit (limit.Length at)) on past less a = a
answers_on T U many deep many' deep' before mid after (fault.Limit limit.Input) on past less a = a
answers_on T U many deep many' deep' before mid after fault.Failed on past less a = (omega (arith, less, a.0), rose_before before mid after less a.1)
answers_on T U many deep many' deep' before mid after fault.NoMemory on past less a = omega (arith, less, a)

-- ---- what a fault of a survey is to a walk

pub walk_fault : (x : WalkFault) → IsSurveyFault x → IsWalkFault x
walk_fault (fault.NotClean finding) is = tt
walk_fault (fault.Limit limit.Items) is = tt
walk_fault (fault.Limit limit.Depth) is = tt
walk_fault (fault.Limit (limit.Length at)) is = absurd is
walk_fault (fault.Limit limit.Input) is = absurd is
walk_fault fault.Failed is = tt
walk_fault fault.NoMemory is = tt
