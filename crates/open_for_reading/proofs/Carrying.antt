-- How a command carries out what it does.
use Rattle.std.proofs.Common.{◌≡◌, ◌⊎◌, ◌||◌, ◌∙◌, Bool, true, false, IsTrue, Some, [], inl, inr, refl, sym, subst}
use Rattle.std.specs.Prelude.{⊤}
use Rattle.folder_spec.specs.Path.{Path}
use Rattle.open_for_reading.proofs.Printings.{IsPrinted, is_another}
use Rattle.open_for_reading.specs.Carrying.{CarriesOut}
use Rattle.open_for_reading.specs.Places.{overlap}
use Rattle.open_for_reading.specs.World.{World}
use Rattle.command_answers.specs.Answers.{Blames, status_of}
use Rattle.command_answers.specs.Rows.{Ends, EndsTold, contradicted_of, is_among, may_end, may_end_told}
use Rattle.command_answers.specs.declared.answer.Answer.{Answer}
use Rattle.command_answers.specs.declared.answer.Answer.TheVariants.{OutOfMemory, FolderFault, InputFault, OutputFault, RandomFault, Overlap}
use Rattle.command_words.specs.declared.commands.Command.{Command}

-- a status that the row doesn't have isn't answered
pub unnamed : (command : Command) (answer other : Answer) (X : Type 0) → Ends (Some command) answer → may_end (Some command) (status_of other) ≡ false → answer ≡ other → X
unnamed command answer other X ends none is =
    let no : true ≡ false = sym (subst (λ a. IsTrue (may_end (Some command) (status_of a))) is ends) ∙ none in cc

-- what is blamed is what was named
pub blamed : (answer : Answer) (folder input output random : Type 0) → (answer ≡ FolderFault → folder) → (answer ≡ InputFault → input) → (answer ≡ OutputFault → output)
    → (answer ≡ RandomFault → random) → Blames answer folder input output random
blamed FolderFault folder input output random by_folder by_input by_output by_random = by_folder refl
blamed InputFault folder input output random by_folder by_input by_output by_random = by_input refl
blamed OutputFault folder input output random by_folder by_input by_output by_random = by_output refl
blamed RandomFault folder input output random by_folder by_input by_output by_random = by_random refl
blamed answer folder input output random by_folder by_input by_output by_random = tt

-- a row of which nothing is said of a folder that contradicts itself
pub told_same : (command : Command) (answer : Answer) → contradicted_of (Some command) ≡ [] → Ends (Some command) answer → EndsTold (Some command) answer
told_same command answer none ends = or_false (may_end_told (Some command) (status_of answer)) (subst (λ few. IsTrue (may_end_told (Some command) (status_of answer) || is_among few (status_of answer))) none ends)
  where
    or_false : (a : Bool) → IsTrue (a || false) → IsTrue a
    or_false true may = refl
    or_false false may = may

-- a command of such a row
pub carried : (command : Command) (Does : Answer → World → World → Type 0) (answer : Answer) (before after : World) (folder input output random : Type 0) → contradicted_of (Some command) ≡ []
    → Does answer before after → Ends (Some command) answer → Blames answer folder input output random → CarriesOut command Does (λ v. ⊤) answer before after folder input output random
carried command Does answer before after folder input output random none does ends blames =
    record { does = does; row = ends; told_row = λ v seen any. told_same command answer none ends; blame = blames }

-- ---- answers that blame nobody, or the output alone

abbrev pub is_of_output : Answer → Bool
is_of_output FolderFault = false
is_of_output InputFault = false
is_of_output RandomFault = false
is_of_output answer = true

abbrev pub is_blameless : Answer → Bool
is_blameless OutputFault = false
is_blameless answer = is_of_output answer

-- a text that is printed
pub by_printing : (answer other : Answer) (X : Type 0) → IsPrinted answer → is_of_output other ≡ false → answer ≡ other → X
by_printing answer other X printed none is = absurd (is_another is_of_output answer other (own printed) none is)
  where
    own : IsPrinted answer → IsTrue (is_of_output answer)
    own (inl done) = subst (λ a. IsTrue (is_of_output a)) (sym done) refl
    own (inr (inl output)) = subst (λ a. IsTrue (is_of_output a)) (sym output) refl
    own (inr (inr memory)) = subst (λ a. IsTrue (is_of_output a)) (sym memory) refl

-- folders that overlap
pub by_overlap : (answer other : Answer) (one two : Path) (X : Type 0) → (answer ≡ Overlap one two) ⊎ (answer ≡ OutOfMemory) → is_blameless other ≡ false → answer ≡ other → X
by_overlap answer other one two X overlaps none is = absurd (is_another is_blameless answer other (own overlaps) none is)
  where
    own : (answer ≡ Overlap one two) ⊎ (answer ≡ OutOfMemory) → IsTrue (is_blameless answer)
    own (inl meet) = subst (λ a. IsTrue (is_blameless a)) (sym meet) refl
    own (inr memory) = subst (λ a. IsTrue (is_blameless a)) (sym memory) refl

-- that test, and others behind it
pub by_tests : (is_own : Answer → Bool) (answer other : Answer) (one two : Path) (X : Type 0) → (overlap one two ≡ true → (answer ≡ Overlap one two) ⊎ (answer ≡ OutOfMemory)) → (overlap one two ≡ false → IsTrue (is_own answer))
    → is_own other ≡ false → is_blameless other ≡ false → answer ≡ other → X
by_tests is_own answer other one two X overlapping apart none named is = by (overlap one two) overlapping apart
  where
    by : (b : Bool) → (b ≡ true → (answer ≡ Overlap one two) ⊎ (answer ≡ OutOfMemory)) → (b ≡ false → IsTrue (is_own answer)) → X
    by true o a = by_overlap answer other one two X (o refl) named is
    by false o a = absurd (is_another is_own answer other (a refl) none is)
