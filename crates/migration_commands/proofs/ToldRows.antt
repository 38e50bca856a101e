-- What a folder that tells its state rules out: that `migrate` finds two trees that differ, where no two directories of either vault share a
-- folder, and that `resume` or `retire` finds a migration that was begun.
use Rattle.std.proofs.Common.{◌≡◌, ◌≢◌, ◌||◌, Bool, true, false, IsTrue, List, [], ◌∷◌, length, nat_le, ℕ, Option, Some, None, Result, Ok, Err, inl, inr, refl, sym, ap, subst}
use Rattle.std.specs.Prelude.{MatchOption}
use Rattle.item_making.specs.declared.fault.PutFault.{PutFault}
use Rattle.item_making.specs.declared.fault.PutFault.TheVariants as puts
use Rattle.folder_spec.specs.Path.{Path}
use Rattle.folder_spec.specs.Seen.{IfSeen, IsSeen, under}
use Rattle.folder_spec.specs.View.{Found, NoEntry, Folder, FileOf, Special, View}
use Rattle.migrate_core.specs.Causes.{Begins, BeginsApart, BeginsWith, ForbidsMappedLast, IsOfMoving, IsStop, Moves, Resumes, ResumesTold, ResumesWith, StopsAt, TestsEmpty, TestsHeld, TestsItems, TestsMapped, TestsMatch, TestsNames, TestsSource, TestsTold, is_done, where_in}
use Rattle.migrate_core.specs.Copying.{BothHaveOwnFolders}
use Rattle.migrate_core.specs.Faults.{of_journal, of_map, of_match, of_step, of_work}
use Rattle.migration_sides.specs.Causes.{Opens, TestsApart, Walks, WalksBoth, of_refusal}
use Rattle.migration_sides.specs.Faults.{of_walk}
use Rattle.migration_sides.specs.Sides.{opened_in}
use Rattle.migration_sides.specs.Tests.{PassesOr, Then, own}
use Rattle.migration_sides.specs.declared.fault.StepFault.{StepFault}
use Rattle.migration_sides.specs.declared.fault.StepFault.TheVariants as steps
use Rattle.migrate_core.specs.Sides.{AllowsMappedLast, AreTold}
use Rattle.migrate_core.specs.declared.fault.MoveFault.{MoveFault}
use Rattle.migrate_core.specs.declared.fault.MoveFault.TheVariants as moves
use Rattle.migrate_core.specs.declared.placing.Done as placing
use Rattle.move_journal.specs.Reading.{ReadsAs, journal_bytes}
use Rattle.move_journal.specs.declared.journal.Journal.{Journal}
use Rattle.move_journal.specs.declared.journal.JournalFault.{JournalFault}
use Rattle.move_journal.specs.declared.journal.JournalFault.TheVariants as journals
use Rattle.move_journal.specs.declared.journal.Phase.{Phase}
use Rattle.move_journal.specs.declared.journal.Phase.TheVariants as phases
use Rattle.plain_tree.specs.Names as plain
use Rattle.retire_core.specs.Causes as retiring
use Rattle.retire_core.specs.Faults as retired
use Rattle.retire_core.specs.declared.fault.RetireFault.{RetireFault}
use Rattle.retire_core.specs.declared.fault.RetireFault.TheVariants as retires
use Rattle.folder_staging.specs.declared.removal.RemovalFault.{RemovalFault}
use Rattle.folder_staging.specs.declared.removal.RemovalFault.TheVariants as removals
use Rattle.migration_spec.specs.Guard.{old_path}
use Rattle.tree_match.specs.declared.answer.Match.{Match}
use Rattle.tree_match.specs.declared.answer.Match.TheVariants.{Same, Contained, Differs}
use Rattle.tree_match.specs.declared.answer.MatchFault.{MatchFault}
use Rattle.tree_match.specs.declared.answer.MatchFault.TheVariants as matches
use Rattle.plain_tree.specs.declared.name_map.NameMap.{NameMap}
use Rattle.tree_match.specs.Mapping.{MapsTo}
use Rattle.tree_match.specs.Matching.{where_of}
use Rattle.tree_match.specs.Trees.{Compares}
use Rattle.tree_match.specs.declared.answer.MapFault.{MapFault}
use Rattle.tree_match.specs.declared.answer.MapFault.TheVariants as maps
use Rattle.migration_sides.specs.declared.fault.Side.TheVariants as sides
use Rattle.vault_spec.specs.Opened.{OpenedVault}
use Rattle.vault_faults.specs.declared.fault.FindFault.TheVariants as finds
use Rattle.vault_read.specs.declared.fault.LoadFault.TheVariants as loads
use Rattle.vault_spec.specs.Format.{Format}
use Rattle.vault_spec.specs.Plan.{Planned}
use Rattle.vault_spec.specs.Vault.{Either, Loads, Vault, format_of}
use Rattle.vault_walk.specs.Digest.{plan_digest}
use Rattle.vault_walk.specs.declared.fault.WalkFault.TheVariants as walks
use Rattle.folder_staging.specs.Removal.{RemovesAs, deepest, from}
use Rattle.work_folder.specs.Entering.{Empties, EntersAs}
use Rattle.work_folder.specs.Entries.{new_journal_path, stage_path}
use Rattle.work_folder.specs.Looking.{Tests, TestsEntries}
use Rattle.work_folder.specs.declared.fault.WorkFault.{WorkFault}
use Rattle.work_folder.specs.declared.fault.WorkFault.TheVariants as works
use Rattle.command_answers.specs.Answers.{status_of}
use Rattle.command_answers.specs.Rows.{Ends, EndsTold, contradicted_of, is_among, may_end_told}
use Rattle.command_answers.specs.declared.answer.Answer.{Answer}
use Rattle.command_answers.specs.declared.answer.Answer.TheVariants.{Done, OutOfMemory, FolderFault, OutputFault, Refused, WrongPass, NotFound, WrongKind, Limit}
use Rattle.command_answers.specs.declared.answer.Limit.TheVariants as limit
use Rattle.command_words.specs.declared.commands.Command.{Command}
use Rattle.command_words.specs.declared.commands.Command.TheVariants.{Migrate, Resume, Retire}
use Rattle.command_words.specs.declared.commands.Moving.{Moving}
use Rattle.command_words.specs.declared.commands.Passes.{Passes}
use Rattle.command_words.specs.declared.commands.Resuming.{Resuming}
use Rattle.open_for_reading.proofs.Printings.{IsPrinted}
use Rattle.migration_commands.proofs.Rows.{migrate_row, resume_row, retire_row}
use Rattle.migration_answers.specs.Faults.{of_move, of_retire}
use Rattle.migration_commands.specs.Migrate.{MigratesApart, MigratesTree, SidesHaveOwnFolders, Pair, first_overlap}
use Rattle.migration_commands.specs.Migrate as migrating
use Rattle.migration_commands.specs.Moving.{AnswersBy, ArePhrases, OfPasses}
use Rattle.open_for_reading.specs.Opening.{OfPassFile, passphrase_in}
use Rattle.open_for_reading.specs.Places.{RefusesOverlap}
use Rattle.open_for_reading.specs.Refusing as refusing
use Rattle.migration_commands.specs.Resume.{ResumesTree}
use Rattle.migration_commands.specs.Resume as resuming_on
use Rattle.migration_commands.specs.Retire.{RetiresSource}
use Rattle.migration_commands.specs.Retire as retiring_on
use Rattle.open_for_reading.specs.Shown.{Shown, is_of_opening, refused}
use Rattle.open_for_reading.specs.World.{World}

-- ---- one test after the other

abbrev stopped : {Y G : Type 0} → G → Result Y G
stopped fault = Err fault

fault_is : {Y G : Type 0} (a b : G) → stopped {Y = Y} a ≡ stopped b → a ≡ b
fault_is a b same = cc

-- what holds of each fault that the test tells, and of what may follow, holds of the fault
told_then : {X Y F G : Type 0} (P : G → Type 0) (told : F → G) (test : Result X F → Type 0) (next : X → Result Y G → Type 0) (why : G) → ((fault : F) → test (Err fault) → P (told fault))
    → ((x : X) → test (Ok x) → next x (Err why) → P why) → Then told test next (Err why) → P why
told_then P told test next why first rest (Ok x, passed, follows) = rest x passed follows
told_then P told test next why first rest (Err fault, refused, is) = subst P (sym (fault_is why (told fault) is)) (first fault refused)

told_or : {G : Type 0} (P : G → Type 0) (passes fails : Type 0) (fault why : G) → P fault → PassesOr passes fails fault (Err why) → P why
told_or P passes fails fault why holds (inl passed) = cc passed.1
told_or P passes fails fault why holds (inr failed) = subst P (sym (fault_is why fault failed.1)) holds

-- where it holds of whatever a step refuses by, it holds of what the command answers, unless of what may follow
module _ {G : Type 0} (P : G → Type 0) (told : StepFault → G) (holds : (fault : StepFault) → P (told fault)) (v : View) (why : G) where
  told_apart : {Y : Type 0} (from to work : Path) (next : Unit {0} → Result Y G → Type 0) → (next tt (Err why) → P why) → Then told (TestsApart from to work) next (Err why) → P why
  told_apart from to work next rest = told_then P told (TestsApart from to work) next why (λ fault tested. holds fault) (λ x passed. rest)

  told_opens : {Y : Type 0} (from to : Path) (source_pass target_pass : List ℕ) (next : OpenedVault → OpenedVault → Result Y G → Type 0)
      → ((source target : Vault) → Loads (under from v) source_pass (Ok source) → Loads (under to v) target_pass (Ok target) → next (opened_in from source) (opened_in to target) (Err why) → P why)
      → Opens told v from to source_pass target_pass next (Err why) → P why
  told_opens from to source_pass target_pass next rest =
      told_then P (λ refusal. told (of_refusal sides.Source from refusal)) (Loads (under from v) source_pass)
      (λ source. Then (λ refusal. told (of_refusal sides.Target to refusal)) (Loads (under to v) target_pass) (λ target. next (opened_in from source) (opened_in to target))) why
      (λ refusal refused. holds (of_refusal sides.Source from refusal))
      (λ source loads. told_then P (λ refusal. told (of_refusal sides.Target to refusal)) (Loads (under to v) target_pass) (λ target. next (opened_in from source) (opened_in to target)) why
      (λ refusal refused. holds (of_refusal sides.Target to refusal)) (λ target loads_too. rest source target loads loads_too))

  told_walks : {Y : Type 0} (a b : OpenedVault) (next : List Planned → List Planned → Result Y G → Type 0) → ((items there : List Planned) → next items there (Err why) → P why)
      → WalksBoth told a b v next (Err why) → P why
  told_walks a b next rest =
      told_then P (λ fault. told (of_walk fault)) (Walks a v) (λ items. Then (λ fault. told (of_walk fault)) (Walks b v) (λ there. next items there)) why (λ fault refused. holds (of_walk fault))
      (λ items walked. told_then P (λ fault. told (of_walk fault)) (Walks b v) (λ there. next items there) why (λ fault refused. holds (of_walk fault)) (λ there walked_too. rest items there))

-- and so it is of a plan that isn't mapped
told_maps : {Y G : Type 0} (P : G → Type 0) (told : MapFault → G) → ((fault : MapFault) → P (told fault)) → (rule : NameMap) (items : List Planned) (next : List Planned → Result Y G → Type 0) (why : G)
    → ((mapped : List Planned) → next mapped (Err why) → P why) → Then told (MapsTo rule items) (λ plan. next plan.items) (Err why) → P why
told_maps P told holds rule items next why rest = told_then P told (MapsTo rule items) (λ plan. next plan.items) why (λ fault refused. holds fault) (λ plan maps. rest plan.items)

-- that a migration was begun is told neither by the entries of the work folder nor by the stage
other_by_entries : (old : Bool) (v : View) (work : Path) (fault : WorkFault) → TestsEntries old v work (Err fault) → fault ≢ works.Begun
other_by_entries old v work fault (inl passed) = cc passed.1
other_by_entries old v work works.Begun (inr first) = cc first.2
other_by_entries old v work fault (inr first) = λ is. cc

other_by_stage : (v : View) (work : Path) (fault : WorkFault) → Empties v work (Err fault) → fault ≢ works.Begun
other_by_stage v work works.Begun empties = absurd empties
other_by_stage v work fault empties = λ is. cc

told_names : (P : MoveFault → Type 0) → ((at : plain.Path) → P (moves.NotAllowed at)) → (rule : NameMap) (f : Format) (items : List Planned) (why : MoveFault) → TestsNames rule f items (Err why) → P why
told_names P holds rule f [] why is = cc is
told_names P holds rule f (item ∷ items) why tested =
    told_then P own (PassesOr (AllowsMappedLast rule f item.path) (ForbidsMappedLast rule f item.path) (moves.NotAllowed item.path)) (λ (_ : Unit {0}). TestsNames rule f items) why
    (λ fault. told_or P (AllowsMappedLast rule f item.path) (ForbidsMappedLast rule f item.path) (moves.NotAllowed item.path) fault (holds item.path)) (λ x passed. told_names P holds rule f items why) tested

told_mapped : (P : MoveFault → Type 0) → ((at : plain.Path) → P (moves.NotAllowed at)) → ((fault : MapFault) → P (of_map fault)) → (rule : NameMap) (f : Format) (items : List Planned)
    (next : List Planned → Result placing.Done MoveFault → Type 0) (why : MoveFault) → ((mapped : List Planned) → next mapped (Err why) → P why) → TestsMapped rule f items next (Err why) → P why
told_mapped P forbids holds rule f items next why rest =
    told_then P own (TestsNames rule f items) (λ (_ : Unit {0}). Then of_map (MapsTo rule items) (λ plan. next plan.items)) why (λ fault. told_names P forbids rule f items fault)
    (λ x passed. told_maps P of_map holds rule items next why rest)

told_empty : (P : MoveFault → Type 0) → ((at : Path) → P (moves.NotEmpty at)) → (there : List Planned) (why : MoveFault) → TestsEmpty there (Err why) → P why
told_empty P holds [] why is = cc is
told_empty P holds (item ∷ items) why is = subst P (sym (fault_is why (moves.NotEmpty item.at) is)) (holds item.at)

-- ---- `migrate`

-- of a fault that says that the trees differ, this is so
abbrev OnDiffer : Type 0 → MoveFault → Type 0
OnDiffer X (moves.Differ path how) = X
OnDiffer X fault = Unit {0}

work_or : (X : Type 0) (fault : WorkFault) → OnDiffer X (of_work fault)
work_or X works.Failed = tt
work_or X fault = tt

step_or : (X : Type 0) (fault : StepFault) → OnDiffer X (of_step fault)
step_or X steps.Failed = tt
step_or X fault = tt

map_or : (X : Type 0) (fault : MapFault) → OnDiffer X (of_map fault)
map_or X maps.NoMemory = tt
map_or X fault = tt

stop_or : (Is X : Type 0) (Q : PutFault → Type 0) → (¬ Is → X) → (fault : MoveFault) → IsStop Is Q fault → OnDiffer X fault
stop_or Is X Q not (moves.Differ path how) stops = not stops
stop_or Is X Q not fault stops = tt

less_differs : (X : Type 0) → ¬ X → (fault : MoveFault) → OnDiffer X fault → OnDiffer ⊥ fault
less_differs X not (moves.Differ path how) differs = not differs
less_differs X not fault differs = tt

module _ (from to work : Path) (source_pass target_pass : List ℕ) (v : View) (why : MoveFault) where
  -- the two vaults open, and two directories of one of them share a folder
  abbrev SharesFolder : Type 0
  SharesFolder =
      (source target : Vault) × Loads (under from v) source_pass (Ok source) × Loads (under to v) target_pass (Ok target) × (¬ BothHaveOwnFolders (opened_in from source) (opened_in to target) v)

  module _ (rule : NameMap) (a b : OpenedVault) (shares : ¬ BothHaveOwnFolders a b v → SharesFolder) where
    abbrev moved : List Planned → Result placing.Done MoveFault → Type 0
    moved items = Moves (EntersAs v work) a b v items

    abbrev emptied : List Planned → List Planned → Result placing.Done MoveFault → Type 0
    emptied items there = Then own (TestsEmpty there) (λ (_ : Unit {0}). TestsMapped rule (format_of b.vault) items moved)

    moved_or : (items : List Planned) → moved items (Err why) → OnDiffer SharesFolder why
    moved_or items =
        told_then (OnDiffer SharesFolder) of_work (EntersAs v work) (λ (_ : Unit {0}). IsOfMoving (BothHaveOwnFolders a b v) (StopsAt (BothHaveOwnFolders a b v) a v items)) why (λ fault refused. work_or SharesFolder fault)
        (λ x passed. stop_or (BothHaveOwnFolders a b v) SharesFolder (StopsAt (BothHaveOwnFolders a b v) a v items) shares why)

    emptied_or : (items there : List Planned) → emptied items there (Err why) → OnDiffer SharesFolder why
    emptied_or items there =
        told_then (OnDiffer SharesFolder) own (TestsEmpty there) (λ (_ : Unit {0}). TestsMapped rule (format_of b.vault) items moved) why (λ fault. told_empty (OnDiffer SharesFolder) (λ at. tt) there fault)
        (λ x passed. told_mapped (OnDiffer SharesFolder) (λ at. tt) (map_or SharesFolder) rule (format_of b.vault) items moved why moved_or)

    with_or : BeginsWith {Y = placing.Done} rule a b work v (Err why) → OnDiffer SharesFolder why
    with_or = told_walks (OnDiffer SharesFolder) of_step (step_or SharesFolder) v why a b emptied emptied_or

  begins_or : (rule : NameMap) → Begins {Y = placing.Done} rule from to work source_pass target_pass v (Err why) → OnDiffer SharesFolder why
  begins_or rule =
      told_apart (OnDiffer SharesFolder) of_step (step_or SharesFolder) v why from to work (λ (_ : Unit {0}). BeginsApart {Y = placing.Done} rule from to work source_pass target_pass v)
      (told_then (OnDiffer SharesFolder) of_work (Tests v work) (λ (_ : Unit {0}). Opens {Y = placing.Done} of_step v from to source_pass target_pass (λ a b. BeginsWith rule a b work v)) why
      (λ fault refused. work_or SharesFolder fault)
      (λ y passes. told_opens (OnDiffer SharesFolder) of_step (step_or SharesFolder) v why from to source_pass target_pass (λ a b. BeginsWith {Y = placing.Done} rule a b work v)
      (λ source target loads loads_too. with_or rule (opened_in from source) (opened_in to target) (λ shared. (source, target, loads, loads_too, shared)))))

-- ---- `resume`

-- the fault doesn't say that a migration was begun
abbrev NotBegun : MoveFault → Type 0
NotBegun (moves.Work works.Begun) = ⊥
NotBegun fault = Unit {0}

not_by_journal : (fault : JournalFault) → NotBegun (of_journal fault)
not_by_journal journals.Failed = tt
not_by_journal fault = tt

not_by_work : (fault : WorkFault) → fault ≢ works.Begun → NotBegun (of_work fault)
not_by_work works.Begun other = absurd (other refl)
not_by_work fault other = tt

not_by_step : (fault : StepFault) → NotBegun (of_step fault)
not_by_step steps.Failed = tt
not_by_step fault = tt

not_by_map : (fault : MapFault) → NotBegun (of_map fault)
not_by_map maps.NoMemory = tt
not_by_map fault = tt

not_by_match : (fault : MatchFault) → NotBegun (of_match fault)
not_by_match matches.Failed = tt
not_by_match fault = tt

not_by_source : (phase : Phase) (work source : Path) (v : View) (why : MoveFault) → TestsSource phase work source v (Err why) → NotBegun why
not_by_source phases.Building work source v why is = cc is
not_by_source phases.Done work source v why tested = told_or NotBegun _ _ moves.SourceGone why tt tested

not_by_difference : (m : Match) (why : MoveFault) → TestsHeld m (Err why) → NotBegun why
not_by_difference Same why is = cc is
not_by_difference (Contained path) why is = cc is
not_by_difference (Differs path how) why is = subst NotBegun (sym (fault_is why (moves.Differ path (where_in how)) is)) tt

not_by_stop : (Is : Type 0) (Q : PutFault → Type 0) (why : MoveFault) → IsStop Is Q why → NotBegun why
not_by_stop Is Q (moves.Work fault) stops = absurd stops
not_by_stop Is Q fault stops = tt

module _ (work : Path) (source_pass target_pass : List ℕ) (v : View) (why : MoveFault) where
  module _ (journal : Journal) (a b : OpenedVault) where
    abbrev goes : List Planned → Result placing.Done MoveFault → Type 0
    goes items = Moves (Empties v work) a b v items

    abbrev compares : List Planned → List Planned → Result placing.Done MoveFault → Type 0
    compares items there = TestsMatch b there a items v (goes items)

    goes_not : (items : List Planned) → goes items (Err why) → NotBegun why
    goes_not items =
        told_then NotBegun of_work (Empties v work) (λ (_ : Unit {0}). IsOfMoving (BothHaveOwnFolders a b v) (StopsAt (BothHaveOwnFolders a b v) a v items)) why (λ fault empties. not_by_work fault (other_by_stage v work fault empties))
        (λ x passed. not_by_stop (BothHaveOwnFolders a b v) (StopsAt (BothHaveOwnFolders a b v) a v items) why)

    compares_not : (items there : List Planned) → compares items there (Err why) → NotBegun why
    compares_not items there =
        told_then NotBegun of_match (Compares b there a items v) (λ m. Then own (TestsHeld m) (λ (_ : Unit {0}). goes items)) why (λ fault compared. not_by_match fault)
        (λ m compared. told_then NotBegun own (TestsHeld m) (λ (_ : Unit {0}). goes items) why (not_by_difference m) (λ x passed. goes_not items))

    items_not : (items there : List Planned) → TestsItems a b journal v items there goes (Err why) → NotBegun why
    items_not items there =
        told_then NotBegun own (TestsTold journal items) (λ (_ : Unit {0}). TestsMapped journal.names (format_of b.vault) items (λ mapped. compares mapped there)) why
        (λ fault. told_or NotBegun (AreTold journal items) (¬ AreTold journal items) (moves.Changed journal.plan journal.items (plan_digest items) (length items)) fault tt)
        (λ x passed. told_mapped NotBegun (λ at. tt) not_by_map journal.names (format_of b.vault) items (λ mapped. compares mapped there) why (λ mapped. compares_not mapped there))

    with_not : ResumesWith {Y = placing.Done} a b work journal v (Err why) → NotBegun why
    with_not = told_walks NotBegun of_step not_by_step v why a b (λ items there. TestsItems a b journal v items there goes) items_not

  told_not : (journal : Journal) → ResumesTold {Y = placing.Done} work source_pass target_pass v journal (Err why) → NotBegun why
  told_not journal =
      told_then NotBegun own (TestsSource journal.phase work journal.source v)
      (λ (_ : Unit {0}). Opens {Y = placing.Done} of_step v journal.source journal.target source_pass target_pass (λ a b. ResumesWith a b work journal v)) why (not_by_source journal.phase work journal.source v)
      (λ x passed. told_opens NotBegun of_step not_by_step v why journal.source journal.target source_pass target_pass (λ a b. ResumesWith {Y = placing.Done} a b work journal v)
      (λ source target loads loads_too. with_not journal (opened_in journal.source source) (opened_in journal.target target)))

  resumes_not : Resumes {Y = placing.Done} work source_pass target_pass v (Err why) → NotBegun why
  resumes_not =
      told_then NotBegun of_journal (ReadsAs (journal_bytes v work))
      (λ journal. Then of_step (TestsApart journal.source journal.target work) (λ (_ : Unit {0}). Then of_work (TestsEntries (is_done journal.phase) v work) (λ (_ : Unit {0}). ResumesTold {Y = placing.Done} work source_pass target_pass v journal))) why
      (λ fault reads. not_by_journal fault)
      (λ journal reads. told_apart NotBegun of_step not_by_step v why journal.source journal.target work
      (λ (_ : Unit {0}). Then of_work (TestsEntries (is_done journal.phase) v work) (λ (_ : Unit {0}). ResumesTold {Y = placing.Done} work source_pass target_pass v journal))
      (told_then NotBegun of_work (TestsEntries (is_done journal.phase) v work) (λ (_ : Unit {0}). ResumesTold {Y = placing.Done} work source_pass target_pass v journal) why
      (λ fault tested. not_by_work fault (other_by_entries (is_done journal.phase) v work fault tested)) (λ y passes. told_not journal)))

-- ---- `retire`

abbrev NeverBegun : RetireFault → Type 0
NeverBegun (retires.Work works.Begun) = ⊥
NeverBegun fault = Unit {0}

never_by_journal : (fault : JournalFault) → NeverBegun (retired.of_journal fault)
never_by_journal journals.Failed = tt
never_by_journal fault = tt

never_by_work : (fault : WorkFault) → fault ≢ works.Begun → NeverBegun (retired.of_work fault)
never_by_work works.Begun other = absurd (other refl)
never_by_work fault other = tt

never_by_step : (fault : StepFault) → NeverBegun (retired.of_step fault)
never_by_step steps.Failed = tt
never_by_step fault = tt

never_by_map : (fault : MapFault) → NeverBegun (retired.of_map fault)
never_by_map maps.NoMemory = tt
never_by_map fault = tt

never_by_match : (fault : MatchFault) → NeverBegun (retired.of_match fault)
never_by_match matches.Failed = tt
never_by_match fault = tt

never_by_removal : (fault : RemovalFault) → NeverBegun (retired.of_removal fault)
never_by_removal removals.Failed = tt
never_by_removal fault = tt

never_by_phase : (journal : Journal) (phase : Phase) (why : RetireFault) → retiring.TestsPhase journal phase (Err why) → NeverBegun why
never_by_phase journal phases.Building why is = subst NeverBegun (sym (fault_is why retires.Unfinished is)) tt
never_by_phase journal phases.Done why is = cc is

never_by_difference : (m : Match) (why : RetireFault) → retiring.TestsMatch m (Err why) → NeverBegun why
never_by_difference Same why is = cc is
never_by_difference (Contained path) why is = cc is
never_by_difference (Differs path how) why is = subst NeverBegun (sym (fault_is why (retires.Differ path (where_of how)) is)) tt

-- where a test passes, nothing follows
passes_not : {X : Type 0} (x : X) (why : RetireFault) → retiring.Passes x (Err why) → NeverBegun why
passes_not x why is = cc is

module _ (work : Path) (source_pass target_pass : List ℕ) (v : View) where
  reads_never : (why : RetireFault) → retiring.ReadsDone work v (Err why) → NeverBegun why
  reads_never why =
      told_then NeverBegun retired.of_journal (ReadsAs (journal_bytes v work)) (λ (journal : Journal). retiring.TestsPhase journal journal.phase) why (λ fault reads. never_by_journal fault)
      (λ journal reads. never_by_phase journal journal.phase why)

  items_never : (a : OpenedVault) (items : List Planned) (b : OpenedVault) (others : List Planned) (why : RetireFault) → retiring.TestsItems a items b others v (Err why) → NeverBegun why
  items_never a items b others why =
      told_then NeverBegun retired.of_match (Compares a items b others v) retiring.TestsMatch why (λ fault compared. never_by_match fault) (λ m compared. never_by_difference m why)

  vaults_never : (rule : NameMap) (a b : OpenedVault) (why : RetireFault) → retiring.TestsVaults rule a b v (Err why) → NeverBegun why
  vaults_never rule a b why =
      told_walks NeverBegun retired.of_step never_by_step v why a b (λ items others. Then retired.of_map (MapsTo rule items) (λ mapped. retiring.TestsItems a mapped.items b others v))
      (λ items others. told_maps NeverBegun retired.of_map never_by_map rule items (λ mapped. retiring.TestsItems a mapped b others v) why (λ mapped. items_never a mapped b others why))

  held_never : (rule : NameMap) (from to : Path) (why : RetireFault) → retiring.TestsHeld rule from to source_pass target_pass v (Err why) → NeverBegun why
  held_never rule from to why =
      told_opens NeverBegun retired.of_step never_by_step v why from to source_pass target_pass (λ a b. retiring.TestsVaults rule a b v)
      (λ source target loads loads_too. vaults_never rule (opened_in from source) (opened_in to target) why)

  away_never : (journal : Journal) (why : RetireFault) → retiring.TestsAway work source_pass target_pass journal v (Err why) → NeverBegun why
  away_never journal why (inl gone) = cc gone.1
  away_never journal why (inr there) =
      told_then NeverBegun own (retiring.TestsFree work v) (λ (_ : Unit {0}). retiring.TestsHeld journal.names journal.source journal.target source_pass target_pass v) why
      (λ fault. told_or NeverBegun (v (old_path work) ≡ NoEntry) (v (old_path work) ≢ NoEntry) (retires.Work (works.Foreign (old_path work))) fault tt) (λ x free. held_never journal.names journal.source journal.target why) there.1

  removal_never : (at : Path) (w : View) (why : RetireFault) → retiring.TestsRemoval at w (Err why) → NeverBegun why
  removal_never at w why =
      told_then NeverBegun retired.of_removal (RemovesAs (from at deepest) w) retiring.Passes why (λ fault removes. never_by_removal fault) (λ x removed. passes_not x why)

  removals_never : (w : View) (why : RetireFault) → retiring.TestsRemovals work w (Err why) → NeverBegun why
  removals_never w why =
      told_then NeverBegun own (retiring.TestsRemoval (old_path work) w) (λ (_ : Unit {0}). Then own (retiring.TestsRemoval (stage_path work) w) (λ (_ : Unit {0}). retiring.TestsRemoval (new_journal_path work) w)) why
      (removal_never (old_path work) w)
      (λ x removed. told_then NeverBegun own (retiring.TestsRemoval (stage_path work) w) (λ (_ : Unit {0}). retiring.TestsRemoval (new_journal_path work) w) why (removal_never (stage_path work) w)
      (λ y removes. removal_never (new_journal_path work) w why))

  gone_never : (journal : Journal) (why : RetireFault) → retiring.RetiresTold work source_pass target_pass journal v (Err why) → NeverBegun why
  gone_never journal why =
      told_then NeverBegun own (retiring.TestsAway work source_pass target_pass journal v)
      (λ (_ : Unit {0}). Then own (retiring.TestsRemovals work (retiring.moved_away (v journal.source) journal.source work v)) (λ (_ : Unit {0}). retiring.Passes (retiring.retired_of journal))) why (away_never journal)
      (λ x away. told_then NeverBegun own (retiring.TestsRemovals work (retiring.moved_away (v journal.source) journal.source work v)) (λ (_ : Unit {0}). retiring.Passes (retiring.retired_of journal)) why
      (removals_never (retiring.moved_away (v journal.source) journal.source work v)) (λ y removed. passes_not (retiring.retired_of journal) why))

  retires_never : (why : RetireFault) → retiring.Retires work source_pass target_pass v (Err why) → NeverBegun why
  retires_never why =
      told_then NeverBegun own (retiring.ReadsDone work v)
      (λ journal. Then retired.of_step (TestsApart journal.source journal.target work) (λ (_ : Unit {0}). Then retired.of_work (TestsEntries true v work) (λ (_ : Unit {0}). retiring.RetiresTold work source_pass target_pass journal v))) why
      reads_never
      (λ journal reads. told_apart NeverBegun retired.of_step never_by_step v why journal.source journal.target work
      (λ (_ : Unit {0}). Then retired.of_work (TestsEntries true v work) (λ (_ : Unit {0}). retiring.RetiresTold work source_pass target_pass journal v))
      (told_then NeverBegun retired.of_work (TestsEntries true v work) (λ (_ : Unit {0}). retiring.RetiresTold work source_pass target_pass journal v) why (λ fault tested. never_by_work fault (other_by_entries true v work fault tested))
      (λ y passes. gone_never journal why)))

-- ---- the answers

no_difference : (work root : Path) (fault : MoveFault) → OnDiffer ⊥ fault → ¬ IsTrue (is_among (20 ∷ []) (status_of (of_move work root fault)))
no_difference work root (moves.Differ path how) not is = absurd not
no_difference work root (moves.Work works.Failed) not is = cc is
no_difference work root (moves.Journal journals.Failed) not is = cc is
no_difference work root (moves.Load side loads.Failed) not is = cc is
no_difference work root (moves.Walk walks.Failed) not is = cc is
no_difference work root (moves.Match matches.Failed) not is = cc is
no_difference work root (moves.Place (puts.Find finds.Failed)) not is = cc is
no_difference work root fault not is = cc is

no_beginning : (work root : Path) (fault : MoveFault) → NotBegun fault → ¬ IsTrue (is_among (17 ∷ []) (status_of (of_move work root fault)))
no_beginning work root (moves.Work works.Begun) not is = absurd not
no_beginning work root (moves.Work works.Failed) not is = cc is
no_beginning work root (moves.Journal journals.Failed) not is = cc is
no_beginning work root (moves.Load side loads.Failed) not is = cc is
no_beginning work root (moves.Walk walks.Failed) not is = cc is
no_beginning work root (moves.Match matches.Failed) not is = cc is
no_beginning work root (moves.Place (puts.Find finds.Failed)) not is = cc is
no_beginning work root fault not is = cc is

never_beginning : (work root : Path) (fault : RetireFault) → NeverBegun fault → ¬ IsTrue (is_among (17 ∷ []) (status_of (of_retire work root fault)))
never_beginning work root (retires.Work works.Begun) not is = absurd not
never_beginning work root (retires.Work works.Failed) not is = cc is
never_beginning work root (retires.Journal journals.Failed) not is = cc is
never_beginning work root (retires.Load side loads.Failed) not is = cc is
never_beginning work root (retires.Walk walks.Failed) not is = cc is
never_beginning work root (retires.Match matches.Failed) not is = cc is
never_beginning work root fault not is = cc is

-- an answer of the row that isn't one of a folder that contradicts itself
told_by : (a b : Bool) → IsTrue (a || b) → ¬ IsTrue b → IsTrue a
told_by true b may not = refl
told_by false b may not = absurd (not may)

-- each answer to a vault that isn't opened
by_opening : (p : ℕ → Bool) → IsTrue (p 3) → IsTrue (p 4) → IsTrue (p 8) → IsTrue (p 9) → IsTrue (p 10) → IsTrue (p 11) → IsTrue (p 23) → (answer : Answer) → IsTrue (is_of_opening answer) → IsTrue (p (status_of answer))
by_opening p memory failed refuses wrong missing other limited OutOfMemory own = memory
by_opening p memory failed refuses wrong missing other limited FolderFault own = failed
by_opening p memory failed refuses wrong missing other limited (Refused at why) own = refuses
by_opening p memory failed refuses wrong missing other limited (WrongPass root) own = wrong
by_opening p memory failed refuses wrong missing other limited (NotFound what) own = missing
by_opening p memory failed refuses wrong missing other limited (WrongKind what) own = other
by_opening p memory failed refuses wrong missing other limited (Limit which) own = limited
by_opening p memory failed refuses wrong missing other limited answer own = cc

-- a passphrase that isn't read
by_file : (at : Path) (there : Found) (answer : Answer) (next : List ℕ → Type 0) → ((phrase : List ℕ) → next phrase → IsTrue (is_of_opening answer)) → OfPassFile at there (refused answer) next → IsTrue (is_of_opening answer)
by_file at NoEntry answer next more is = subst (λ a. IsTrue (is_of_opening a)) (sym (ap (λ (s : Shown). s.answer) is)) refl
by_file at Folder answer next more is = subst (λ a. IsTrue (is_of_opening a)) (sym (ap (λ (s : Shown). s.answer) is)) refl
by_file at Special answer next more is = subst (λ a. IsTrue (is_of_opening a)) (sym (ap (λ (s : Shown). s.answer) is)) refl
by_file at (FileOf bytes) answer next more is = by (nat_le (length bytes) 2048) is
  where
    by : (b : Bool) → Either b (next (passphrase_in bytes)) (refused answer ≡ refused (Limit limit.PassFile)) → IsTrue (is_of_opening answer)
    by true x = more (passphrase_in bytes) x
    by false x = subst (λ a. IsTrue (is_of_opening a)) (sym (ap (λ (s : Shown). s.answer) x)) refl

by_passes : (passes : Passes) (v : View) (answer : Answer) → refusing.Unless answer (OfPasses passes v answer (λ source target. ⊥)) → IsTrue (is_of_opening answer)
by_passes passes v answer (inl failed) = subst (λ a. IsTrue (is_of_opening a)) (sym failed) refl
by_passes passes v answer (inr (inl memory)) = subst (λ a. IsTrue (is_of_opening a)) (sym memory) refl
by_passes passes v answer (inr (inr of)) =
    by_file passes.source (v passes.source) answer (λ source. OfPassFile passes.target (v passes.target) (refused answer) (λ target. ⊥))
    (λ source. by_file passes.target (v passes.target) answer (λ target. ⊥) (λ target none. absurd none)) of

by_printing : (command : Option Command) (answer : Answer) → EndsTold command Done → EndsTold command OutputFault → EndsTold command OutOfMemory → IsPrinted answer → EndsTold command answer
by_printing command answer done output memory (inl is) = subst (EndsTold command) (sym is) done
by_printing command answer done output memory (inr (inl is)) = subst (EndsTold command) (sym is) output
by_printing command answer done output memory (inr (inr is)) = subst (EndsTold command) (sym is) memory

-- a command is answered as it comes out, where no fault is told by what only a folder leads to that contradicts itself
answered_told : {D F : Type 0} (command : Option Command) (IsRoot : F → Path → Type 0) (told : F → Path → Answer) (answer : Answer) (outcome : Result D F)
    → EndsTold command Done → EndsTold command OutputFault → EndsTold command OutOfMemory → Ends command answer
    → ((fault : F) (root : Path) → outcome ≡ Err fault → ¬ IsTrue (is_among (contradicted_of command) (status_of (told fault root)))) → AnswersBy IsRoot told answer outcome → EndsTold command answer
answered_told command IsRoot told answer (Ok done) finished output memory any never printed = by_printing command answer finished output memory printed
answered_told command IsRoot told answer (Err fault) finished output memory any never (inl none) = subst (EndsTold command) (sym none) memory
answered_told command IsRoot told answer (Err fault) finished output memory any never (inr (root, is_root, is)) =
    told_by (may_end_told command (status_of answer)) (is_among (contradicted_of command) (status_of answer)) any
    (subst (λ a. ¬ IsTrue (is_among (contradicted_of command) (status_of a))) (sym is) (never fault root refl))

-- ---- the three commands

pub migrate_told : (moving : Moving) (answer : Answer) (before after : World) (v : View) → IsSeen before.told v → SidesHaveOwnFolders moving v → MigratesTree moving answer before after
    → EndsTold (Some (Migrate moving)) answer
migrate_told moving answer before after v seen folders did = by (first_overlap moving) did.apart
  where
    any : Ends (Some (Migrate moving)) answer
    any = migrate_row moving answer before after did

    no_share : (source_pass target_pass : List ℕ) → ArePhrases moving.passes source_pass target_pass v → SharesFolder moving.source moving.target moving.work source_pass target_pass v moves.Failed → ⊥
    no_share source_pass target_pass phrases (source, target, loads, loads_too, shared) =
        let mine = folders source target (source_pass, phrases.source, loads) (target_pass, phrases.target, loads_too) in
        shared (record { source = mine.0; target = mine.1 })

    by_cause : (source_pass target_pass : List ℕ) → ArePhrases moving.passes source_pass target_pass v → (fault : MoveFault) → migrating.IsCaused moving v source_pass target_pass (Err fault) → OnDiffer ⊥ fault
    by_cause source_pass target_pass phrases fault (inl failed) = subst (OnDiffer ⊥) (sym (fault_is fault moves.Failed failed)) tt
    by_cause source_pass target_pass phrases fault (inr (inl memory)) = subst (OnDiffer ⊥) (sym (fault_is fault moves.NoMemory memory)) tt
    by_cause source_pass target_pass phrases fault (inr (inr begins)) =
        less_differs (SharesFolder moving.source moving.target moving.work source_pass target_pass v fault) (no_share source_pass target_pass phrases) fault (begins_or moving.source moving.target moving.work source_pass target_pass v fault moving.names begins)

    came : migrating.MayCome moving answer before.told after.told before.random after.random v → EndsTold (Some (Migrate moving)) answer
    came (inl refuses) = by_opening (may_end_told (Some (Migrate moving))) refl refl refl refl refl refl refl answer (by_passes moving.passes v answer refuses.0.answers)
    came (inr comes) =
        answered_told (Some (Migrate moving)) (migrating.IsRootOf moving) (λ fault root. of_move moving.work root fault) answer comes.outcome refl refl refl any
        (λ fault root is. no_difference moving.work root fault
        (by_cause comes.source_pass comes.target_pass comes.phrases fault (subst (migrating.IsCaused moving v comes.source_pass comes.target_pass) is comes.cause))) comes.answers

    by : (o : Option Pair) → MatchOption o (MigratesApart moving answer before.told after.told before.taken after.taken before.random after.random)
        (λ two. RefusesOverlap two.first two.second answer before after) → EndsTold (Some (Migrate moving)) answer
    by None migrates = came (migrates.comes v seen)
    by (Some two) refuses = elim refuses.answers [ inl overlaps ↦ subst (EndsTold (Some (Migrate moving))) (sym overlaps) refl | inr memory ↦ subst (EndsTold (Some (Migrate moving))) (sym memory) refl ]

pub resume_told : (resuming : Resuming) (answer : Answer) (before after : World) → IfSeen before.told (λ v. ResumesTree resuming answer before after → EndsTold (Some (Resume resuming)) answer)
resume_told resuming answer before after v seen did = came (did.resumes.comes v seen)
  where
    any : Ends (Some (Resume resuming)) answer
    any = resume_row resuming answer before after did

    by_cause : (source_pass target_pass : List ℕ) (fault : MoveFault) → resuming_on.IsCaused resuming v source_pass target_pass (Err fault) → NotBegun fault
    by_cause source_pass target_pass fault (inl failed) = subst NotBegun (sym (fault_is fault moves.Failed failed)) tt
    by_cause source_pass target_pass fault (inr (inl memory)) = subst NotBegun (sym (fault_is fault moves.NoMemory memory)) tt
    by_cause source_pass target_pass fault (inr (inr resumes)) = resumes_not resuming.work source_pass target_pass v fault resumes

    came : resuming_on.MayCome resuming answer before.told after.told before.random after.random v → EndsTold (Some (Resume resuming)) answer
    came (inl refuses) = by_opening (may_end_told (Some (Resume resuming))) refl refl refl refl refl refl refl answer (by_passes resuming.passes v answer refuses.0.answers)
    came (inr comes) =
        answered_told (Some (Resume resuming)) (λ fault. resuming_on.IsRootOf resuming.work v (resuming_on.unopened fault)) (λ fault root. of_move resuming.work root fault) answer comes.outcome refl refl refl any
        (λ fault root is. no_beginning resuming.work root fault
        (by_cause comes.source_pass comes.target_pass fault (subst (resuming_on.IsCaused resuming v comes.source_pass comes.target_pass) is comes.cause))) comes.answers

pub retire_told : (resuming : Resuming) (answer : Answer) (before after : World) → IfSeen before.told (λ v. RetiresSource resuming answer before after → EndsTold (Some (Retire resuming)) answer)
retire_told resuming answer before after v seen did = came (did.retires.comes v seen)
  where
    any : Ends (Some (Retire resuming)) answer
    any = retire_row resuming answer before after did

    by_cause : (source_pass target_pass : List ℕ) (fault : RetireFault) → retiring_on.IsCaused resuming v source_pass target_pass (Err fault) → NeverBegun fault
    by_cause source_pass target_pass fault (inl failed) = subst NeverBegun (sym (fault_is fault retires.Failed failed)) tt
    by_cause source_pass target_pass fault (inr (inl memory)) = subst NeverBegun (sym (fault_is fault retires.NoMemory memory)) tt
    by_cause source_pass target_pass fault (inr (inr gone)) = retires_never resuming.work source_pass target_pass v fault gone

    came : retiring_on.MayCome resuming answer before.told after.told v → EndsTold (Some (Retire resuming)) answer
    came (inl refuses) = by_opening (may_end_told (Some (Retire resuming))) refl refl refl refl refl refl refl answer (by_passes resuming.passes v answer refuses.answers)
    came (inr comes) =
        answered_told (Some (Retire resuming)) (λ fault. resuming_on.IsRootOf resuming.work v (retiring_on.unopened fault)) (λ fault root. of_retire resuming.work root fault) answer comes.outcome refl refl refl any
        (λ fault root is. never_beginning resuming.work root fault
        (by_cause comes.source_pass comes.target_pass fault (subst (retiring_on.IsCaused resuming v comes.source_pass comes.target_pass) is comes.cause))) comes.answers
