-- A source that is retired: what was done where the command wasn't begun, and how it is answered.
use Rattle.std.proofs.Common.{◌≡◌, ℕ, List, Option, Some, Ok, Err, inl, inr, refl, sym, ap, ◌∙◌, subst, IsTrue, ◌⊎◌, IfErr}
use Rattle.std.specs.Prelude.{◌≢◌, MatchResult}
use Rattle.std.proofs.lemmas.Bool.{or_left}
use Rattle.folder_spec.proofs.Moments.{went_nowhere}
use Rattle.folder_spec.proofs.Tellings.{from_to_same}
use Rattle.folder_spec.specs.Event.{Told}
use Rattle.folder_spec.specs.Moments.{Went}
use Rattle.folder_spec.specs.Path.{Path}
use Rattle.folder_spec.specs.Seen.{IfSeen, IsSeen}
use Rattle.folder_spec.specs.View.{View}
use Rattle.move_journal.specs.Reading.{ReadsAs, journal_bytes}
use Rattle.move_journal.specs.declared.journal.Journal.{Journal}
use Rattle.move_journal.specs.declared.journal.JournalFault.{JournalFault}
use Rattle.move_journal.specs.declared.journal.JournalFault.TheVariants as journal
use Rattle.retire_core.specs.Causes.{IsOfFolder, PassesTests, ReadsDone}
use Rattle.retire_core.specs.Causes as tests
use Rattle.retire_core.specs.Completing.{CanRetire}
use Rattle.retire_core.specs.Faults.{of_journal, IsOfRemoval}
use Rattle.retire_core.specs.Retiring.{KeepsInOrder, RemovesOnly, StandsBesideOld, TouchesOnly, retiring_by}
use Rattle.retire_core.specs.declared.fault.RetireFault.{RetireFault}
use Rattle.retire_core.specs.declared.fault.RetireFault.TheVariants as faults
use Rattle.retire_core.specs.declared.retiring.Retired.{Retired}
use Rattle.migration_spec.specs.Guard.{Migration}
use Rattle.migration_sides.specs.declared.fault.Side.{Side}
use Rattle.vault_read.specs.declared.fault.LoadFault.{LoadFault}
use Rattle.migration_commands.specs.Moving.{KeepsAll}
use Rattle.command_answers.specs.Printing.{PrintsText}
use Rattle.migration_commands.specs.Resume.{IsFoundJournal, IsResumedFor, IsRootOf, root_by}
use Rattle.migration_answers.specs.Faults.{of_retire}
use Rattle.migration_answers.specs.Stops.{is_of_refusal}
use Rattle.migration_sides.proofs.Unchanged.{tested_seen}
use Rattle.migration_sides.specs.Unchanged.{ChangesNothing}
use Rattle.migration_commands.specs.Retire.{AnswersRetire, ComesTo, Completes, IsCaused, IsRetired, MayCome, Outcome, Retires, TouchesNoMore, retired_text, unopened}
use Rattle.open_for_reading.specs.Shown.{is_of_end}
use Rattle.command_answers.specs.declared.answer.Answer.{Answer}
use Rattle.command_answers.specs.declared.answer.Answer.TheVariants.{OutOfMemory}
use Rattle.command_words.specs.declared.commands.Resuming.{Resuming}
use Rattle.migration_commands.proofs.Migrations.{OfJournal, answers_printed, comes_as, journal_since, root_read}
use Rattle.open_for_reading.proofs.Printings.{IsPrinted, nothing_printed, printed, printed_is_own}

abbrev refused_by : {X : Type 0} → RetireFault → tests.Answer X
refused_by fault = Err fault

printed_completes : (answer : Answer) → IsPrinted answer → Completes answer
printed_completes answer (inl done) = inr (inr (subst (λ a. IsTrue (is_of_end a)) (sym done) refl))
printed_completes answer (inr (inl output)) = inr (inr (subst (λ a. IsTrue (is_of_end a)) (sym output) refl))
printed_completes answer (inr (inr memory)) = inr (inl memory)

-- a failing folder and want of memory are answered as such
pub folder_answered : (work root : Path) (fault : RetireFault) (answer : Answer) → IsOfFolder fault → (answer ≡ OutOfMemory) ⊎ (answer ≡ of_retire work root fault) → Completes answer
folder_answered work root fault answer of (inl memory) = inr (inl memory)
folder_answered work root fault answer (inl failed) (inr is) = inl (is ∙ ap (of_retire work root) failed)
folder_answered work root fault answer (inr memory) (inr is) = inr (inl (is ∙ ap (of_retire work root) memory))

-- nothing has changed
pub order_same : (work : Path) (told told' : Option Told) → told' ≡ told → KeepsInOrder work told told'
order_same work told told' same =
    from_to_same (λ a b. Went (λ s. (s ≡ a.state) ⊎ StandsBesideOld work a.state s) (λ s e. Unit {0}) a b) told told' same
    (λ a. went_nowhere (λ s. (s ≡ a.state) ⊎ StandsBesideOld work a.state s) (λ s e. Unit {0}) a (inl refl))

module _ (resuming : Resuming) where
  pub touches_since : (told mid told' : Option Told) (v : View) (source_pass target_pass : List ℕ) (outcome : Outcome) → mid ≡ told → IsSeen told v
      → OfJournal resuming.work mid (λ journal. TouchesOnly (retiring_by resuming.work source_pass target_pass journal) mid told')
      → OfJournal resuming.work mid (λ journal. RemovesOnly (retiring_by resuming.work source_pass target_pass journal) mid told')
      → (ChangesNothing mid told') ⊎ (IfSeen mid (λ w. IfErr outcome IsOfRemoval × PassesTests resuming.work source_pass target_pass w))
      → TouchesNoMore resuming told told' v source_pass target_pass outcome
  touches_since told mid told' v source_pass target_pass outcome same seen touches removes tested = record {
    touches = λ journal. journal_since resuming.work (λ j t. TouchesOnly (retiring_by resuming.work source_pass target_pass j) t told') told mid same touches v journal seen;
    removes = λ journal. journal_since resuming.work (λ j t. RemovesOnly (retiring_by resuming.work source_pass target_pass j) t told') told mid same removes v journal seen;
    tested = subst (λ t. ChangesNothing t told' ⊎ (IfErr outcome IsOfRemoval × PassesTests resuming.work source_pass target_pass v)) same
        (tested_seen mid told' (λ w. IfErr outcome IsOfRemoval × PassesTests resuming.work source_pass target_pass w) v (subst (λ t. IsSeen t v) (sym same) seen) tested);
  }

  pub retire_stopped : (answer : Answer) (told told' : Option Told) (taken : Option (List ℕ)) → IsTrue (is_of_refusal answer) → IfSeen told (λ v. MayCome resuming answer told told' v)
      → ((g : Migration) → g.work ≡ resuming.work → KeepsAll g told told') → KeepsInOrder resuming.work told told'
      → ((g : Migration) → IfSeen told (λ v. IsResumedFor g resuming v → CanRetire g v → Completes answer)) → Retires resuming answer told told' taken taken
  retire_stopped answer told told' taken own comes keeps order completes = record {
    own = or_left (is_of_refusal answer) (is_of_end answer) own;
    comes = comes;
    keeps = keeps;
    order = order;
    completes = completes;
    prints = nothing_printed retired_text (IsRetired resuming told told') is_of_refusal answer taken own refl refl;
  }

  pub retire_printed : (done : Retired) (answer : Answer) (told told' : Option Told) (taken taken' : Option (List ℕ)) → IsRetired resuming told told' done
      → IfSeen told (λ v. ComesTo resuming (λ outcome. outcome ≡ Ok done) told told' v) → ((g : Migration) → g.work ≡ resuming.work → KeepsAll g told told') → KeepsInOrder resuming.work told told'
      → PrintsText (retired_text done) answer taken taken' → IsPrinted answer → Retires resuming answer told told' taken taken'
  retire_printed done answer told told' taken taken' has comes keeps order prints is_printed = record {
    own = printed_is_own is_of_refusal answer refl is_printed;
    comes = λ v is. inr (comes_as resuming.passes (IsCaused resuming v) (TouchesNoMore resuming told told' v) v (λ outcome. outcome ≡ Ok done) (AnswersRetire resuming.work v answer)
        (answers_printed (λ fault. IsRootOf resuming.work v (unopened fault)) (λ fault root. of_retire resuming.work root fault) answer done is_printed) (comes v is));
    keeps = keeps;
    order = order;
    completes = λ g v is asked can. printed_completes answer is_printed;
    prints = printed retired_text (IsRetired resuming told told') done answer taken taken' has prints is_printed;
  }

  -- the root that is named of a vault that isn't opened is the journal's
  module _ (v : View) where
    no_load : (side : Side) (f : LoadFault) (fault : JournalFault) → faults.Load side f ≢ of_journal fault
    no_load side f journal.NoJournal same = cc
    no_load side f fault same = cc

    fault_is : {X : Type 0} (a b : RetireFault) → refused_by {X = X} a ≡ refused_by b → a ≡ b
    fault_is a b same = cc

    -- where a vault isn't opened, the journal was read
    journal_read : (side : Side) (f : LoadFault) (tested : tests.Answer Journal) (P : Journal → Type 0) → ReadsDone resuming.work v tested
        → MatchResult tested P (λ fault. refused_by {X = Retired} (faults.Load side f) ≡ refused_by fault) → (j : Journal) × ReadsAs (journal_bytes v resuming.work) (Ok j)
    journal_read side f tested P (Ok j, reads, phase) match = (j, reads)
    journal_read side f (Ok j) P (Err fault, reads, same) match = absurd cc
    journal_read side f (Err other) P (Err fault, reads, same) match =
        absurd (no_load side f fault (fault_is (faults.Load side f) other match ∙ fault_is {X = Journal} other (of_journal fault) same))

    pub retire_root : (found : Option Journal) (fault : RetireFault) → IsFoundJournal resuming.work v found → (s t : List ℕ) → IsCaused resuming v s t (Err fault)
        → IsRootOf resuming.work v (unopened fault) (root_by resuming.work found (unopened fault))
    retire_root found (faults.Load side f) is s t (inl failed) = let no = fault_is {X = Retired} (faults.Load side f) faults.Failed failed in cc
    retire_root found (faults.Load side f) is s t (inr (inl memory)) = let no = fault_is {X = Retired} (faults.Load side f) faults.NoMemory memory in cc
    retire_root found (faults.Load side f) is s t (inr (inr tested)) =
        let read = journal_read side f tested.0 _ tested.1 tested.2 in
        root_read resuming.work v side found read.0 is read.1 (λ o. root_by resuming.work o (Some side)) (λ k. refl)
    retire_root found fault is s t cause = tt
