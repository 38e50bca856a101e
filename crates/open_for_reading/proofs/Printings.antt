-- What a command writes once it is done.
use Rattle.std.proofs.Common.{◌≡◌, ◌⊎◌, ◌∙◌, Bool, true, false, IsTrue, ℕ, List, Option, inl, inr, refl, sym, subst}
use Rattle.std.specs.Prelude.{◌≢◌, ◌||◌}
use Rattle.std.proofs.lemmas.Bool.{or_left, or_right}
use Rattle.std.specs.Io.KnownBytes.{Keeps}
use Rattle.std.proofs.KnownBytes.{Keeps-refl}
use Rattle.command_answers.specs.Printing.{PrintsDone, PrintsText}
use Rattle.open_for_reading.specs.Shown.{is_of_end}
use Rattle.command_answers.specs.declared.answer.Answer.{Answer}
use Rattle.command_answers.specs.declared.answer.Answer.TheVariants.{Done, OutOfMemory, OutputFault}

-- the answers to a text that is printed
abbrev pub IsPrinted : Answer → Type 0
IsPrinted answer = (answer ≡ Done) ⊎ ((answer ≡ OutputFault) ⊎ (answer ≡ OutOfMemory))

pub printed_is_own : (p : Answer → Bool) (answer : Answer) → IsTrue (p OutOfMemory) → IsPrinted answer → IsTrue (p answer || is_of_end answer)
printed_is_own p answer memory (inl done) = subst (λ a. IsTrue (p a || is_of_end a)) (sym done) (or_right (p Done) true refl)
printed_is_own p answer memory (inr (inl output)) = subst (λ a. IsTrue (p a || is_of_end a)) (sym output) (or_right (p OutputFault) true refl)
printed_is_own p answer memory (inr (inr refused)) = subst (λ a. IsTrue (p a || is_of_end a)) (sym refused) (or_left (p OutOfMemory) false memory)

-- an answer of which this holds is none of which it doesn't
pub is_another : (p : Answer → Bool) (answer other : Answer) → IsTrue (p answer) → p other ≡ false → answer ≢ other
is_another p answer other own none same = let no : true ≡ false = sym (subst (λ a. IsTrue (p a)) same own) ∙ none in cc

module _ {X : Type 0} (text : X → List ℕ) (IsDone : X → Type 0) where
  -- another answer writes nothing
  pub nothing_written : (answer : Answer) (taken taken' : Option (List ℕ)) → answer ≢ Done → answer ≢ OutputFault → Keeps taken taken' → PrintsDone text IsDone answer taken taken'
  nothing_written Done taken taken' done output keeps = absurd (done refl)
  nothing_written OutputFault taken taken' done output keeps = absurd (output refl)
  nothing_written answer taken taken' done output keeps = keeps

  pub nothing_printed : (p : Answer → Bool) (answer : Answer) (taken : Option (List ℕ)) → IsTrue (p answer) → p Done ≡ false → p OutputFault ≡ false → PrintsDone text IsDone answer taken taken
  nothing_printed p answer taken own done output =
      nothing_written answer taken taken (is_another p answer Done own done) (is_another p answer OutputFault own output) (Keeps-refl taken)

  -- what was done is told once its text is printed
  pub printed : (x : X) (answer : Answer) (taken taken' : Option (List ℕ)) → IsDone x → PrintsText (text x) answer taken taken' → IsPrinted answer → PrintsDone text IsDone answer taken taken'
  printed x answer taken taken' is prints (inl done) =
      subst (λ a. PrintsDone text IsDone a taken taken') (sym done) (x, is, subst (λ a. PrintsText (text x) a taken taken') done prints)
  printed x answer taken taken' is prints (inr (inl output)) =
      subst (λ a. PrintsDone text IsDone a taken taken') (sym output) (x, is, subst (λ a. PrintsText (text x) a taken taken') output prints)
  printed x answer taken taken' is prints (inr (inr memory)) =
      subst (λ a. PrintsDone text IsDone a taken taken') (sym memory) (subst (λ a. PrintsText (text x) a taken taken') memory prints)
