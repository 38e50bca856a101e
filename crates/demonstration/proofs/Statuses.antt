-- What the status of a migration tells of its answer, and of its fault.
use Rattle.std.proofs.Common.{◌≡◌, ◌≢◌, ◌⊎◌, ◌≤◌, ℕ, arith, inl, inr, refl, sym, ap, subst, ◌∙◌, IsTrue}
use Rattle.item_making.specs.declared.fault.PutFault.TheVariants as put
use Rattle.folder_spec.specs.Path.{Path}
use Rattle.migrate_core.specs.Completing.{IsOfChance}
use Rattle.migrate_core.specs.declared.fault.MoveFault.{MoveFault}
use Rattle.migrate_core.specs.declared.fault.MoveFault.TheVariants as move
use Rattle.tree_match.specs.declared.answer.MatchFault.TheVariants as match
use Rattle.vault_faults.specs.declared.fault.Limit.TheVariants as limit
use Rattle.command_answers.specs.Answers.{status_of}
use Rattle.demonstration.specs.Demo.{EndsWork, chances_by, is_status_of_chance}
use Rattle.migration_answers.specs.Faults.{of_move}
use Rattle.migration_answers.specs.Stops.{is_of_stop}
use Rattle.command_answers.specs.declared.answer.Answer.{Answer}
use Rattle.command_answers.specs.declared.answer.Answer.TheVariants.{Done, OutOfMemory, FolderFault, RandomFault, ZeroRandom, Taken}
use Rattle.command_answers.proofs.Reports.{with_status}

-- only zeros and a taken place have one of their statuses
drawn_or_taken : (answer : Answer) → 21 ≤ status_of answer → status_of answer ≤ 22 → (answer ≡ ZeroRandom) ⊎ ((at : Path) × (answer ≡ Taken at))
drawn_or_taken ZeroRandom least most = inl refl
drawn_or_taken (Taken at) least most = inr (at, refl)
drawn_or_taken answer least most = absurd (omega (arith, least, most))

zeros_of : (answer : Answer) → status_of answer ≡ 21 → answer ≡ ZeroRandom
zeros_of answer is = elim (drawn_or_taken answer (omega (arith, is)) (omega (arith, is))) [
  | inl zeros ↦ zeros
  | inr taken ↦ let never : 21 ≡ 22 = sym is ∙ ap status_of taken.1 in absurd (omega (arith, never))
]

taken_of : (answer : Answer) → status_of answer ≡ 22 → (at : Path) × (answer ≡ Taken at)
taken_of answer is = elim (drawn_or_taken answer (omega (arith, is)) (omega (arith, is))) [
  | inl zeros ↦ let never : 22 ≡ 21 = sym is ∙ ap status_of zeros in absurd (omega (arith, never))
  | inr taken ↦ taken
]

-- the statuses of chance
chance_status : (work root : Path) (fault : MoveFault) → IsOfChance fault → ((at : Path) → fault ≢ move.Match (match.Limit (limit.Length at))) → of_move work root fault ≢ OutOfMemory → IsTrue (is_status_of_chance (status_of (of_move work root fault)))
chance_status work root move.Failed is small some = refl
chance_status work root move.NoMemory is small some = absurd (some refl)
chance_status work root (move.Place put.Random) is small some = refl
chance_status work root (move.Place put.ZeroRandom) is small some = refl
chance_status work root (move.Place (put.Taken at)) is small some = refl
chance_status work root (move.Match (match.Limit (limit.Length at))) is small some = absurd (small at refl)
chance_status work root fault is small some = absurd is

-- a migration that stops ends the work with the status of its fault
pub ends_work : (work root : Path) (fault : MoveFault) (answer : Answer) (status : ℕ) → status ≡ status_of answer → answer ≢ OutOfMemory → (answer ≡ OutOfMemory) ⊎ (answer ≡ of_move work root fault)
    → (answer ≡ FolderFault → fault ≡ move.Failed) → (answer ≡ RandomFault → fault ≡ move.Place put.Random) → (answer ≡ ZeroRandom → fault ≡ move.Place put.ZeroRandom)
    → ((at : Path) → answer ≡ Taken at → fault ≡ move.Place (put.Taken at)) → IsTrue (is_of_stop answer)
    → EndsWork (chances_by fault) status
ends_work work root fault answer status is memory told folder random zeros taken own = record {
  stops = λ same. let none : IsTrue (is_of_stop Done) = subst (λ a. IsTrue (is_of_stop a)) (with_status answer 0 (omega arith) (sym is ∙ same)) own in cc;
  memory = λ same. memory (with_status answer 3 (omega arith) (sym is ∙ same));
  folder = λ same. folder (with_status answer 4 (omega arith) (sym is ∙ same));
  random = λ same. random (with_status answer 7 (omega arith) (sym is ∙ same));
  zeros = λ known same. zeros (zeros_of answer (sym is ∙ same));
  shared = λ known same. let place = taken_of answer (sym is ∙ same) in (place.0, taken place.0 place.1);
  others = λ known. subst (λ s. IsTrue (is_status_of_chance s)) (sym is) (by_told known.0 known.1 told);
}
  where
    by_told : IsOfChance fault → ((at : Path) → fault ≢ move.Match (match.Limit (limit.Length at))) → (answer ≡ OutOfMemory) ⊎ (answer ≡ of_move work root fault) → IsTrue (is_status_of_chance (status_of answer))
    by_told chance small (inl none) = absurd (memory none)
    by_told chance small (inr same) = subst (λ a. IsTrue (is_status_of_chance (status_of a))) (sym same) (chance_status work root fault chance small (λ none. memory (same ∙ none)))
