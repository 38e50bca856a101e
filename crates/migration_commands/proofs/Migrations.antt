-- Migrations that are led on: nothing is lost at any moment, and what was done where one wasn't begun.
use Rattle.std.proofs.Common.{◌≡◌, ℕ, Bool, true, false, List, Option, Some, None, Result, Ok, Err, IfErr, IsErrAnd, inl, inr, refl, sym, ap, ◌∙◌, subst, IsTrue, ◌⊎◌, []}
use Rattle.std.specs.Prelude.{◌≢◌, ◌||◌, MatchOption, MatchResult, if◌then◌else◌}
use Rattle.std.proofs.lemmas.Bool.{or_left}
use Rattle.std.specs.Io.KnownBytes as known
use Rattle.std.proofs.KnownBytes.{Keeps-refl}
use Rattle.item_making.specs.declared.fault.PutFault.TheVariants as puts
use Rattle.folder_spec.specs.Event.{Told}
use Rattle.folder_spec.specs.Image.{Image, IsImage}
use Rattle.folder_spec.specs.Moments.{Went}
use Rattle.folder_spec.specs.Apart.{AreSeparate}
use Rattle.folder_spec.specs.Path.{Path}
use Rattle.folder_spec.specs.Region.{IsAsBefore, apart_from_both}
use Rattle.folder_spec.specs.Seen.{IfSeen, IsSeen}
use Rattle.folder_spec.specs.State.{State}
use Rattle.folder_spec.specs.View.{Found, FileOf, View, view_of}
use Rattle.folder_spec.proofs.Moments.{went_more, went_nowhere}
use Rattle.folder_spec.proofs.Regions.{as_before}
use Rattle.folder_spec.proofs.Seen.{one_view}
use Rattle.folder_spec.proofs.Tellings.{from_to_more, from_to_same}
use Rattle.migrate_core.specs.Causes.{IsOfPlacing}
use Rattle.migrate_core.specs.Completing.{CanBegin, CanResume, IsOfChance}
use Rattle.migrate_core.specs.Drawing.{Drew, DrewBy}
use Rattle.migrate_core.specs.Faults as causes
use Rattle.migrate_core.specs.Lasting.{HaveToldTrees, KeepsEachJournal}
use Rattle.migrate_core.specs.Moving.{MovesOnly, OnlyBrings}
use Rattle.migrate_core.specs.declared.fault.MoveFault.{MoveFault}
use Rattle.migrate_core.specs.declared.fault.MoveFault.TheVariants as moves
use Rattle.migrate_core.specs.declared.placing.Done as moved
use Rattle.move_journal.specs.Journal.{IsJournal}
use Rattle.move_journal.specs.Writing.{GivesBack}
use Rattle.move_journal.specs.Reading.{ReadsAs, journal_bytes, StandsIn}
use Rattle.move_journal.specs.declared.journal.JournalFault.{JournalFault}
use Rattle.move_journal.specs.declared.journal.JournalFault.TheVariants as journal
use Rattle.move_journal.specs.declared.journal.Journal.{Journal}
use Rattle.move_journal.proofs.Standing.{ReadsBack, read_stands}
use Rattle.port_model.specs.Draws.{ByteStream}
use Rattle.migration_spec.specs.Alone.{KeepsGuarded, StaysGuarded}
use Rattle.migration_spec.specs.Guard.{AreOpenedBy, Guarded, IsOpenedBy, IsSafe, LosesNothing, Migration}
use Rattle.tree_match.specs.declared.answer.MatchFault.TheVariants as match
use Rattle.migration_sides.proofs.Unchanged.{unchanged}
use Rattle.migration_sides.specs.Unchanged.{ChangesNothing}
use Rattle.migration_sides.specs.declared.fault.Side.{Side}
use Rattle.vault_faults.specs.declared.fault.FindFault.TheVariants as finds
use Rattle.vault_faults.specs.declared.fault.Limit.TheVariants as limit
use Rattle.vault_walk.specs.declared.fault.WalkFault.TheVariants as walks
use Rattle.work_folder.specs.declared.fault.WorkFault.TheVariants as works
use Rattle.vault_read.specs.declared.fault.LoadFault.{LoadFault}
use Rattle.migrate_core.proofs.Drawing.{drew_for}
use Rattle.migrate_core.proofs.Lastings.{journals_more, texts_same}
use Rattle.migration_commands.specs.Migrate.{HasMigrated, IsAskedFor, MigratesApart, MigratesTree, Pair, first_overlap, pair}
use Rattle.migration_commands.specs.Migrate as migrating
use Rattle.migration_answers.specs.Faults.{of_move}
use Rattle.migration_answers.specs.Stops.{is_of_stop, is_of_told_stop}
use Rattle.migration_commands.specs.Moving.{AnswersBy, AnswersMove, ArePhrases, AtWrongPass, Comes, Completes, FailPasses, HoldKeys, KeepsAll, OfPasses, Outcome, RefusesPasses, RefusesUndrawn, done_text, is_of_chance}
use Rattle.open_for_reading.specs.Opening.{IsPhrase, OfPassFile, passphrase_in}
use Rattle.open_for_reading.specs.Places.{RefusesOverlap, overlap}
use Rattle.command_answers.specs.Printing.{PrintsText}
use Rattle.open_for_reading.specs.Refusing.{RefusesPass, Unless}
use Rattle.migration_commands.specs.Resume.{HasResumed, IsResumedFor, Resumes}
use Rattle.migration_commands.specs.Resume as resuming_on
use Rattle.open_for_reading.specs.Shown.{is_of_end, is_of_opening, refused}
use Rattle.open_for_reading.specs.World.{World}
use Rattle.command_answers.specs.declared.answer.Answer.{Answer}
use Rattle.command_answers.specs.declared.answer.Answer.TheVariants.{OutOfMemory, FolderFault, Overlap, WrongPass, ZeroRandom}
use Rattle.command_words.specs.declared.commands.Moving.{Moving}
use Rattle.command_words.specs.declared.commands.Passes.{Passes}
use Rattle.command_words.specs.declared.commands.Resuming.{Resuming}
use Rattle.open_for_reading.proofs.Overlaps.{apart_by, none_drawn, refuses_overlap}
use Rattle.open_for_reading.proofs.Printings.{IsPrinted, is_another, nothing_printed, printed, printed_is_own}
use Rattle.open_for_reading.proofs.Refusals.{pass_gives, pass_taken, pass_then, unless_then}

-- ---- a passphrase that doesn't open its vault

module _ (P : Type 0) where
  -- no fault behind the tests is told so
  move_opens : (work root : Path) (fault : MoveFault) → IsOfPlacing fault → AtWrongPass P (of_move work root fault)
  move_opens work root (moves.Work (works.NoParent p)) of = tt
  move_opens work root (moves.Work (works.WrongKind p)) of = tt
  move_opens work root (moves.Work (works.Foreign p)) of = tt
  move_opens work root (moves.Work works.Begun) of = tt
  move_opens work root (moves.Work works.Depth) of = tt
  move_opens work root (moves.Work works.Failed) of = tt
  move_opens work root (moves.Work works.NoMemory) of = tt
  move_opens work root (moves.Journal fault) of = absurd of
  move_opens work root (moves.Overlap p q) of = absurd of
  move_opens work root (moves.Load side fault) of = absurd of
  move_opens work root (moves.Walk (walks.NotClean finding)) of = tt
  move_opens work root (moves.Walk (walks.Limit which)) of = tt
  move_opens work root (moves.Walk walks.Failed) of = tt
  move_opens work root (moves.Walk walks.NoMemory) of = tt
  move_opens work root (moves.NotEmpty at) of = absurd of
  move_opens work root (moves.NotAllowed path) of = absurd of
  move_opens work root (moves.Meet one other) of = absurd of
  move_opens work root (moves.Changed plan items plan' items') of = absurd of
  move_opens work root (moves.Match (match.Damaged at fault)) of = tt
  move_opens work root (moves.Match (match.Limit which)) of = tt
  move_opens work root (moves.Match match.Failed) of = tt
  move_opens work root (moves.Match match.NoMemory) of = tt
  move_opens work root (moves.Differ path how) of = tt
  move_opens work root (moves.Place (puts.Find (finds.NotFound path))) of = tt
  move_opens work root (moves.Place (puts.Find (finds.WrongKind path))) of = tt
  move_opens work root (moves.Place (puts.Find (finds.NoDirKey at))) of = tt
  move_opens work root (moves.Place (puts.Find (finds.NoFolder at))) of = tt
  move_opens work root (moves.Place (puts.Find finds.Failed)) of = tt
  move_opens work root (moves.Place (puts.Find finds.NoMemory)) of = tt
  move_opens work root (moves.Place (puts.NotAllowed path)) of = tt
  move_opens work root (moves.Place (puts.Taken at)) of = tt
  move_opens work root (moves.Place (puts.Damaged at fault)) of = tt
  move_opens work root (moves.Place (puts.Limit which)) of = tt
  move_opens work root (moves.Place puts.ZeroRandom) of = tt
  move_opens work root (moves.Place puts.Source) of = tt
  move_opens work root (moves.Place puts.Random) of = tt
  move_opens work root (moves.Place puts.Failed) of = tt
  move_opens work root (moves.Place puts.NoMemory) of = tt
  move_opens work root moves.SourceGone of = absurd of
  move_opens work root moves.Failed of = tt
  move_opens work root moves.NoMemory of = tt

  pub unread_printed : (answer : Answer) → IsPrinted answer → AtWrongPass P answer
  unread_printed answer (inl is) = subst (AtWrongPass P) (sym is) tt
  unread_printed answer (inr (inl is)) = subst (AtWrongPass P) (sym is) tt
  unread_printed answer (inr (inr is)) = subst (AtWrongPass P) (sym is) tt

at_wrong_pass : (P : Type 0) (answer : Answer) → P → AtWrongPass P answer
at_wrong_pass P answer is = at_all answer
  where
    at_all : (answer : Answer) → AtWrongPass P answer
    at_all (WrongPass root) = is
    at_all answer = tt

unchanged_at : (answer : Answer) (told told' : Option Told) → told' ≡ told → AtWrongPass (ChangesNothing told told') answer
unchanged_at answer told told' same = at_wrong_pass (ChangesNothing told told') answer (unchanged told told' same)

-- where a test refuses nothing is changed
unread_by : (work : Path) (IsRoot : MoveFault → Path → Type 0) (answer : Answer) (told told' : Option Told) (Q : Type 0) (outcome : Outcome) → ChangesNothing told told' ⊎ (IfErr outcome IsOfPlacing × Q)
    → AnswersMove work IsRoot answer outcome → AtWrongPass (ChangesNothing told told') answer
unread_by work IsRoot answer told told' Q outcome (inl still) answers = at_wrong_pass (ChangesNothing told told') answer still
unread_by work IsRoot answer told told' Q (Ok done) (inr passed) answers = unread_printed (ChangesNothing told told') answer answers
unread_by work IsRoot answer told told' Q (Err fault) (inr passed) (inl memory) = subst (AtWrongPass (ChangesNothing told told')) (sym memory) tt
unread_by work IsRoot answer told told' Q (Err fault) (inr passed) (inr named) = subst (AtWrongPass (ChangesNothing told told')) (sym named.2) (move_opens (ChangesNothing told told') work named.0 fault passed.0)

-- ---- nothing is lost

abbrev pub AreSafe : Type 0
AreSafe = (g : Migration) (s : State) (image : Image) → Guarded g s → IsImage s image → IsSafe g (view_of image)

module _ (law : AreSafe) (g : Migration) (told told' : Option Told) where
  loses_nothing : (s : State) → Guarded g s → LosesNothing g s
  loses_nothing s guarded = record { guarded = guarded; safe = λ image is. law g s image guarded is }

  abbrev Keeps : Told → Told → Type 0
  Keeps a b = Guarded g a.state → Went (LosesNothing g) (λ s e. Unit {0}) a b

  pub keeps_all : KeepsGuarded g told told' → KeepsAll g told told'
  keeps_all = from_to_more (λ a b. Guarded g a.state → StaysGuarded g a b) Keeps told told' (λ a b is stays guarded.
      went_more (Guarded g) (LosesNothing g) (λ s e. Unit {0}) (λ s e. Unit {0}) a b loses_nothing (λ s e x. x) (stays guarded))

  pub keeps_same : told' ≡ told → KeepsAll g told told'
  keeps_same same = from_to_same Keeps told told' same (λ a guarded. went_nowhere (LosesNothing g) (λ s e. Unit {0}) a (loses_nothing a.state guarded))

pub moves_nothing : (work target : Path) (told told' : Option Told) → told' ≡ told → MovesOnly work target told told'
moves_nothing work target told told' same =
    from_to_same (λ a b. Went (IsAsBefore (apart_from_both work target) a.state) (λ s e. OnlyBrings work target s e.call) a b) told told' same
    (λ a. went_nowhere (IsAsBefore (apart_from_both work target) a.state) (λ s e. OnlyBrings work target s e.call) a (as_before (apart_from_both work target) a.state))

-- ---- the passphrases

phrase_is_one : (there : Found) (a b : List ℕ) → IsPhrase there a → IsPhrase there b → a ≡ b
phrase_is_one there a b p q =
    let both : FileOf p.0 ≡ FileOf q.0 = sym p.1 ∙ q.1 in
    let same : p.0 ≡ q.0 = cc in
    p.3 ∙ ap passphrase_in same ∙ sym q.3

pub first_refused : (passes : Passes) (v : View) (answer : Answer) → RefusesPass passes.source (v passes.source) answer → FailPasses passes v answer
first_refused passes v answer =
    unless_then (OfPassFile passes.source (v passes.source) (refused answer) (λ s. ⊥)) (OfPasses passes v answer (λ s t. ⊥)) answer
    (pass_then passes.source (v passes.source) (refused answer) (λ s. ⊥) (λ s. OfPassFile passes.target (v passes.target) (refused answer) (λ t. ⊥)) (λ s none. absurd none))

pub second_refused : (passes : Passes) (v : View) (answer : Answer) (source : List ℕ) → IsPhrase (v passes.source) source → RefusesPass passes.target (v passes.target) answer → FailPasses passes v answer
second_refused passes v answer source is =
    unless_then (OfPassFile passes.target (v passes.target) (refused answer) (λ t. ⊥)) (OfPasses passes v answer (λ s t. ⊥)) answer
    (pass_gives passes.source (v passes.source) (refused answer) (λ s. OfPassFile passes.target (v passes.target) (refused answer) (λ t. ⊥)) source is)

pub phrases_are : (passes : Passes) (source target source_pass target_pass : List ℕ) (v : View) → source_pass ≡ source → target_pass ≡ target → IsPhrase (v passes.source) source → IsPhrase (v passes.target) target
    → ArePhrases passes source_pass target_pass v
phrases_are passes source target source_pass target_pass v first second is is' =
    record { source = subst (IsPhrase (v passes.source)) (sym first) is; target = subst (IsPhrase (v passes.target)) (sym second) is' }

-- where both stand in their files, nothing of these refuses
pub phrases_read : (passes : Passes) (source target : List ℕ) (v : View) (answer : Answer) (P : Type 0) → ArePhrases passes source target v → FailPasses passes v answer → Unless answer P
phrases_read passes source target v answer P are =
    unless_then (OfPasses passes v answer (λ s t. ⊥)) P answer (λ of.
    absurd (pass_taken passes.target (v passes.target) (refused answer) (λ t. ⊥) target are.target
    (pass_taken passes.source (v passes.source) (refused answer) (λ s. OfPassFile passes.target (v passes.target) (refused answer) (λ t. ⊥)) source are.source of)))

-- where the two files hold the keys of a migration's vaults, the passphrases that were read open them
pub keys_read : (g : Migration) (passes : Passes) (v : View) (source target : List ℕ) → ArePhrases passes source target v → HoldKeys g passes v → AreOpenedBy g source target v
keys_read g passes v source target are keys = record {
  source = subst (λ pass. IsOpenedBy g.source pass v) (phrase_is_one (v passes.source) keys.source_pass source keys.phrases.source are.source) keys.opened.source;
  target = subst (λ pass. IsOpenedBy g.target pass v) (phrase_is_one (v passes.target) keys.target_pass target keys.phrases.target are.target) keys.opened.target;
}

-- so it is of all that is seen, where no more was done
pub keys_seen : (g : Migration) (passes : Passes) (v : View) (told mid : Option Told) (source target : List ℕ) → mid ≡ told → IsSeen told v → ArePhrases passes source target v → HoldKeys g passes v
    → IfSeen mid (λ w. AreOpenedBy g source target w)
keys_seen g passes v told mid source target same is are keys w seen =
    subst (λ x. AreOpenedBy g source target x) (one_view told v w is (subst (λ t. IsSeen t w) same seen)) (keys_read g passes v source target are keys)

-- a call that goes on with it loses nothing
pub keeps_since : AreSafe → (g : Migration) (told mid told' : Option Told) → mid ≡ told → KeepsGuarded g mid told' → KeepsAll g told told'
keeps_since law g told mid told' same guard = keeps_all law g told told' (subst (λ t. KeepsGuarded g t told') same guard)

-- ---- the journal

pub journal_found : (work : Path) (v : View) (j : Journal) → ReadsAs (journal_bytes v work) (Ok j) → resuming_on.IsFoundJournal work v (Some j)
journal_found work v j reads = (is_journal (journal_bytes v work) reads, read_stands work v j reads)
  where
    is_journal : (file : Option (List ℕ)) → ReadsAs file (Ok j) → IsJournal j
    is_journal (Some bytes) reads = reads.0
    is_journal None reads = absurd reads

-- the root of a vault that isn't opened is that of the journal, where one is read
pub root_read : (work : Path) (v : View) (side : Side) (found : Option Journal) (j : Journal) → resuming_on.IsFoundJournal work v found → ReadsAs (journal_bytes v work) (Ok j)
    → (named : Option Journal → Path) → ((k : Journal) → named (Some k) ≡ resuming_on.root_in k side) → resuming_on.IsRootIn work v side (named found)
root_read work v side (Some k) j is reads named same = (k, is.0, is.1, same k)
root_read work v side None j is reads named same = let stands : IsJournal j × StandsIn work j v = journal_found work v j reads in absurd (is j stands.0 stands.1)

-- what is so of the journal that stands in the work folder
abbrev pub OfJournal : Path → Option Told → (Journal → Type 0) → Type 0
OfJournal work told P = (v : View) (journal : Journal) → IsSeen told v → IsJournal journal → StandsIn work journal v → P journal

-- what a call says of it is said of what was told before, where that is the same
pub journal_since : (work : Path) (P : Journal → Option Told → Type 0) (told mid : Option Told) → mid ≡ told → OfJournal work mid (λ journal. P journal mid) → OfJournal work told (λ journal. P journal told)
journal_since work P told mid same = subst (λ t. OfJournal work t (λ journal. P journal t)) same

-- where nothing is changed it stands
pub journal_same : (Is : View → Journal → View → Type 0) (work : Path) (told told' : Option Told) → told' ≡ told → KeepsEachJournal Is work told told'
journal_same Is work told told' same v journal seen is stands = record {
  moments = texts_same (Is v journal) work journal told told' same;
  stands = λ w is_w. inl (subst (StandsIn work journal) (one_view told v w seen (subst (λ t. IsSeen t w) same is_w)) stands);
}

-- what is done of it in the end is done from the start
pub journals_since : (resuming : Resuming) (s t : List ℕ) (told mid told' : Option Told) → mid ≡ told → IfSeen told (λ v. ArePhrases resuming.passes s t v) → KeepsEachJournal (HaveToldTrees s t) resuming.work mid told'
    → KeepsEachJournal (resuming_on.HaveTrees resuming) resuming.work told told'
journals_since resuming s t told mid told' same phrases kept =
    journals_more (HaveToldTrees s t) (resuming_on.HaveTrees resuming) resuming.work told told'
    (λ v journal is w trees. record { source_pass = s; target_pass = t; phrases = phrases v is; trees = trees })
    (subst (λ o. KeepsEachJournal (HaveToldTrees s t) resuming.work o told') same kept)

-- a journal that stands is read
pub journal_missing : ReadsBack → (work : Path) (v : View) (result : Result Journal JournalFault) → ((j : Journal) → ¬ GivesBack j result) → ReadsAs (journal_bytes v work) result → resuming_on.IsFoundJournal work v None
journal_missing law work v result none reads j good stands = none j (law work v j result good stands reads)

-- ---- what a migration comes to

pub passes_unread : (passes : Passes) (answer : Answer) (told told' : Option Told) (v : View) → told' ≡ told → FailPasses passes v answer → RefusesPasses passes answer told told' v
passes_unread passes answer told told' v same fail = record { answers = fail; unchanged = same }

pub unread_undrawn : (passes : Passes) (answer : Answer) (told told' : Option Told) (stream : Option ByteStream) (v : View) → told' ≡ told → FailPasses passes v answer → RefusesUndrawn passes answer told told' stream stream v
unread_undrawn passes answer told told' stream v same fail = (passes_unread passes answer told told' v same fail, none_drawn stream)

cut_completes : (answer : Answer) → Unless answer ⊥ → Completes answer
cut_completes answer (inl failed) = subst Completes (sym failed) refl
cut_completes answer (inr (inl memory)) = subst Completes (sym memory) refl
cut_completes answer (inr (inr none)) = absurd none

-- where both passphrases stand in their files
pub read_completes : (passes : Passes) (source target : List ℕ) (v : View) (answer : Answer) → ArePhrases passes source target v → FailPasses passes v answer → Completes answer
read_completes passes source target v answer are fail = cut_completes answer (phrases_read passes source target v answer ⊥ are fail)

chance : (work root : Path) (fault : MoveFault) → IsOfChance fault → IsTrue (is_of_chance (of_move work root fault))
chance work root moves.Failed of = refl
chance work root moves.NoMemory of = refl
chance work root (moves.Place puts.Random) of = refl
chance work root (moves.Place puts.ZeroRandom) of = refl
chance work root (moves.Place (puts.Taken at)) of = refl
chance work root (moves.Match (match.Limit (limit.Length at))) of = refl
chance work root fault of = absurd of

-- what chance has it is answered as such
pub chance_answered : (work root : Path) (fault : MoveFault) (answer : Answer) → IsOfChance fault → (answer ≡ OutOfMemory) ⊎ (answer ≡ of_move work root fault) → Completes answer
chance_answered work root fault answer of (inl memory) = subst Completes (sym memory) refl
chance_answered work root fault answer of (inr is) = or_left (is_of_chance answer) (is_of_end answer) (subst (λ a. IsTrue (is_of_chance a)) (sym is) (chance work root fault of))

pub cut_short : (passes : Passes) (v : View) (answer : Answer) → (answer ≡ FolderFault) ⊎ (answer ≡ OutOfMemory) → FailPasses passes v answer
cut_short passes v answer (inl failed) = inl failed
cut_short passes v answer (inr memory) = inr (inl memory)

module _ {O : Type 0} (passes : Passes) (IsCaused DoesSo : List ℕ → List ℕ → O → Type 0) (v : View) where
  pub comes_as : (P Q : O → Type 0) → ((outcome : O) → P outcome → Q outcome) → Comes passes IsCaused DoesSo P v → Comes passes IsCaused DoesSo Q v
  comes_as P Q f comes = record {
    source_pass = comes.source_pass;
    target_pass = comes.target_pass;
    phrases = comes.phrases;
    outcome = comes.outcome;
    cause = comes.cause;
    does = comes.does;
    answers = f comes.outcome comes.answers;
  }

pub answers_printed : {D F : Type 0} (IsRoot : F → Path → Type 0) (told : F → Path → Answer) (answer : Answer) (done : D) → IsPrinted answer → (outcome : Result D F) → outcome ≡ Ok done → AnswersBy IsRoot told answer outcome
answers_printed IsRoot told answer done is_printed outcome is = subst (AnswersBy IsRoot told answer) (sym is) is_printed

-- ---- zeros are told only where they were drawn

undrawn : (zeros : Type 0) (stream : Option ByteStream) → ¬ zeros → Drew zeros stream stream
undrawn zeros stream never = record { drawn = []; were_drawn = none_drawn stream; ends = λ is. absurd (never is) }

-- where the passphrases aren't read
pub unread_drew : {T : Type 0} (answer : Answer) (result : Result T Answer) (stream : Option ByteStream) → IsErrAnd result (λ told. told ≡ answer) → IsTrue (is_of_opening answer) → Drew (result ≡ Err ZeroRandom) stream stream
unread_drew answer (Ok value) stream is own = absurd is
unread_drew answer (Err told) stream is own =
    undrawn _ stream (λ same. is_another is_of_opening answer ZeroRandom own refl (let zeros : told ≡ ZeroRandom = cc same in sym is ∙ zeros))

abbrev comes_to : moved.Done → Result moved.Done Answer
comes_to done = Ok done

abbrev tells : Answer → Result moved.Done Answer
tells answer = Err answer

abbrev came : moved.Done → Outcome
came done = Ok done

abbrev fell : MoveFault → Outcome
fell fault = Err fault

-- by what a migration comes to
pub done_drew : (done : moved.Done) (s t : Option ByteStream) → DrewBy (came done) s t → Drew (comes_to done ≡ Err ZeroRandom) s t
done_drew done s t = drew_for (comes_to done ≡ Err ZeroRandom) (came done ≡ Err (moves.Place puts.ZeroRandom)) s t (λ is. cc is)

pub fault_drew : (fault : MoveFault) (answer : Answer) (s t : Option ByteStream) → (answer ≡ ZeroRandom → fault ≡ moves.Place puts.ZeroRandom) → DrewBy (fell fault) s t → Drew (tells answer ≡ Err ZeroRandom) s t
fault_drew fault answer s t zeros = drew_for (tells answer ≡ Err ZeroRandom) (fell fault ≡ Err (moves.Place puts.ZeroRandom)) s t (λ is. ap fell (zeros (let same : answer ≡ ZeroRandom = cc is in same)))

pub stopped_drew : (answer : Answer) (s t : Option ByteStream) → Drew (tells answer ≡ Err ZeroRandom) s t → Drew (answer ≡ ZeroRandom) s t
stopped_drew answer s t = drew_for (answer ≡ ZeroRandom) (tells answer ≡ Err ZeroRandom) s t (ap tells)

-- once what was done is printed
printed_drew : (answer : Answer) (done : moved.Done) (s t : Option ByteStream) → IsPrinted answer → Drew (comes_to done ≡ Err ZeroRandom) s t → Drew (answer ≡ ZeroRandom) s t
printed_drew answer done s t is_printed = drew_for (answer ≡ ZeroRandom) (comes_to done ≡ Err ZeroRandom) s t
    (λ is. absurd (is_another (λ a. is_of_opening a || is_of_end a) answer ZeroRandom (printed_is_own is_of_opening answer refl is_printed) refl is))

-- ---- `migrate`

module _ (moving : Moving) where
  abbrev pick : Bool → Bool → Bool → Option Pair
  pick one two three =
      if one then Some (pair moving.source moving.target)
      else if two then Some (pair moving.source moving.work)
      else if three then Some (pair moving.target moving.work)
      else None

  -- the first two folders that overlap
  pub first_two : overlap moving.source moving.target ≡ true → first_overlap moving ≡ Some (pair moving.source moving.target)
  first_two is = ap (λ b. pick b (overlap moving.source moving.work) (overlap moving.target moving.work)) is

  pub second_two : overlap moving.source moving.target ≡ false → overlap moving.source moving.work ≡ true → first_overlap moving ≡ Some (pair moving.source moving.work)
  second_two first is = ap (λ b. pick b (overlap moving.source moving.work) (overlap moving.target moving.work)) first ∙ ap (λ b. pick false b (overlap moving.target moving.work)) is

  by_last : (b : Bool) → overlap moving.source moving.target ≡ false → overlap moving.source moving.work ≡ false → overlap moving.target moving.work ≡ b → first_overlap moving ≡ pick false false b
  by_last b first second is =
      ap (λ b. pick b (overlap moving.source moving.work) (overlap moving.target moving.work)) first ∙ ap (λ b. pick false b (overlap moving.target moving.work)) second ∙ ap (pick false false) is

  pub third_two : overlap moving.source moving.target ≡ false → overlap moving.source moving.work ≡ false → overlap moving.target moving.work ≡ true → first_overlap moving ≡ Some (pair moving.target moving.work)
  third_two = by_last true

  pub no_two : overlap moving.source moving.target ≡ false → overlap moving.source moving.work ≡ false → overlap moving.target moving.work ≡ false → first_overlap moving ≡ None
  no_two = by_last false

  pub separate : overlap moving.source moving.target ≡ false → overlap moving.source moving.work ≡ false → overlap moving.target moving.work ≡ false → AreSeparate moving.source moving.target moving.work
  separate one two three = record { vaults = apart_by moving.source moving.target one; source = apart_by moving.source moving.work two; target = apart_by moving.target moving.work three }

  pub two_refused : (two : Pair) (answer : Answer) (w : World) → first_overlap moving ≡ Some two → (answer ≡ Overlap two.first two.second) ⊎ (answer ≡ OutOfMemory) → MigratesTree moving answer w w
  two_refused two answer w is answers = record {
    apart = subst (λ (o : Option Pair). MatchOption o (MigratesApart moving answer w.told w.told w.taken w.taken w.random w.random) (λ (p : Pair). RefusesOverlap p.first p.second answer w w)) (sym is)
        (refuses_overlap two.first two.second answer w w.told answers refl);
    untouched = Keeps-refl w.left;
  }

  pub migrated_apart : (answer : Answer) (before after : World) → first_overlap moving ≡ None → known.Keeps before.left after.left → MigratesApart moving answer before.told after.told before.taken after.taken before.random after.random
      → MigratesTree moving answer before after
  migrated_apart answer before after none untouched migrates = record {
    apart = subst (λ (o : Option Pair). MatchOption o (MigratesApart moving answer before.told after.told before.taken after.taken before.random after.random) (λ (p : Pair). RefusesOverlap p.first p.second answer before after))
        (sym none) migrates;
    untouched = untouched;
  }

  migrate_unread : (answer : Answer) (told told' : Option Told) (stream stream' : Option ByteStream) → IfSeen told (λ v. migrating.MayCome moving answer told told' stream stream' v)
      → IfSeen told (λ v. AtWrongPass (ChangesNothing told told') answer)
  migrate_unread answer told told' stream stream' comes v is = elim (comes v is) [
    | inl refuses ↦ unchanged_at answer told told' refuses.0.unchanged
    | inr came ↦ unread_by moving.work _ answer told told' _ came.outcome came.does.tested came.answers
  ]

  pub migrate_stopped : (answer : Answer) (told told' : Option Told) (taken : Option (List ℕ)) (stream stream' : Option ByteStream) → IsTrue (is_of_stop answer)
      → ((first second : Path) → answer ≢ Overlap first second) → Drew (answer ≡ ZeroRandom) stream stream' → IfSeen told (λ v. migrating.MayCome moving answer told told' stream stream' v)
      → ((g : Migration) → IfSeen told (λ v. IsAskedFor g moving v → KeepsAll g told told')) → MovesOnly moving.work moving.target told told'
      → ((g : Migration) → IfSeen told (λ v. IsAskedFor g moving v → CanBegin g v → Completes answer)) → MigratesApart moving answer told told' taken taken stream stream'
  migrate_stopped answer told told' taken stream stream' own apart drew comes keeps moves completes = record {
    own = or_left (is_of_stop answer) (is_of_end answer) own;
    apart = apart;
    drew = drew;
    comes = comes;
    keeps = keeps;
    moves = moves;
    unread = migrate_unread answer told told' stream stream' comes;
    completes = completes;
    prints = nothing_printed done_text (λ done. HasMigrated moving done told told') is_of_stop answer taken own refl refl;
  }

  pub migrate_printed : (done : moved.Done) (answer : Answer) (told told' : Option Told) (taken taken' : Option (List ℕ)) (stream stream' : Option ByteStream) → HasMigrated moving done told told'
      → Drew (comes_to done ≡ Err ZeroRandom) stream stream'
      → IfSeen told (λ v. migrating.ComesTo moving (λ outcome. outcome ≡ Ok done) told told' stream stream' v)
      → ((g : Migration) → IfSeen told (λ v. IsAskedFor g moving v → KeepsAll g told told')) → MovesOnly moving.work moving.target told told'
      → PrintsText (done_text done) answer taken taken' → IsPrinted answer → MigratesApart moving answer told told' taken taken' stream stream'
  migrate_printed done answer told told' taken taken' stream stream' has drew comes keeps moves prints is_printed = record {
    own = printed_is_own is_of_stop answer refl is_printed;
    apart = λ first second. is_another (λ a. is_of_chance a || is_of_end a) answer (Overlap first second) (printed_is_own is_of_chance answer refl is_printed) refl;
    drew = printed_drew answer done stream stream' is_printed drew;
    comes = λ v is. inr (comes_as moving.passes (migrating.IsCaused moving v) (migrating.IsWritten moving told told' stream stream' v) v (λ outcome. outcome ≡ Ok done)
        (AnswersMove moving.work (migrating.IsRootOf moving) answer) (answers_printed (migrating.IsRootOf moving) (λ fault root. of_move moving.work root fault) answer done is_printed) (comes v is));
    keeps = keeps;
    moves = moves;
    unread = λ v is. unread_printed (ChangesNothing told told') answer is_printed;
    completes = λ g v is asked can. printed_is_own is_of_chance answer refl is_printed;
    prints = printed done_text (λ done. HasMigrated moving done told told') done answer taken taken' has prints is_printed;
  }

-- ---- `resume`

module _ (resuming : Resuming) where
  resume_unread : (answer : Answer) (told told' : Option Told) (stream stream' : Option ByteStream) → IfSeen told (λ v. resuming_on.MayCome resuming answer told told' stream stream' v)
      → IfSeen told (λ v. AtWrongPass (ChangesNothing told told') answer)
  resume_unread answer told told' stream stream' comes v is = elim (comes v is) [
    | inl refuses ↦ unchanged_at answer told told' refuses.0.unchanged
    | inr came ↦ unread_by resuming.work _ answer told told' _ came.outcome came.does.tested came.answers
  ]

  -- the root that a fault names is the journal's
  abbrev IsOurs : View → MoveFault → Path → Type 0
  IsOurs v fault root = resuming_on.IsRootOf resuming.work v (resuming_on.unopened fault) root

  abbrev Brings : Option Told → Option Told → Type 0
  Brings told told' = OfJournal resuming.work told (λ journal. MovesOnly resuming.work journal.target told told')

  pub resume_stopped : (answer : Answer) (told told' : Option Told) (taken : Option (List ℕ)) (stream stream' : Option ByteStream) → IsTrue (is_of_told_stop answer)
      → Drew (answer ≡ ZeroRandom) stream stream' → IfSeen told (λ v. resuming_on.MayCome resuming answer told told' stream stream' v)
      → ((g : Migration) → IfSeen told (λ v. IsResumedFor g resuming v → KeepsAll g told told')) → Brings told told' → KeepsEachJournal (resuming_on.HaveTrees resuming) resuming.work told told'
      → ((g : Migration) → IfSeen told (λ v. IsResumedFor g resuming v → CanResume g v → Completes answer)) → Resumes resuming answer told told' taken taken stream stream'
  resume_stopped answer told told' taken stream stream' own drew comes keeps moves journal completes = record {
    own = or_left (is_of_told_stop answer) (is_of_end answer) own;
    drew = drew;
    comes = comes;
    keeps = keeps;
    moves = moves;
    unread = resume_unread answer told told' stream stream' comes;
    journal = journal;
    completes = completes;
    prints = nothing_printed done_text (λ done. HasResumed resuming done told told') is_of_told_stop answer taken own refl refl;
  }

  pub resume_printed : (done : moved.Done) (answer : Answer) (told told' : Option Told) (taken taken' : Option (List ℕ)) (stream stream' : Option ByteStream) → HasResumed resuming done told told'
      → Drew (comes_to done ≡ Err ZeroRandom) stream stream'
      → IfSeen told (λ v. resuming_on.ComesTo resuming (λ outcome. outcome ≡ Ok done) told told' stream stream' v)
      → ((g : Migration) → IfSeen told (λ v. IsResumedFor g resuming v → KeepsAll g told told')) → Brings told told' → KeepsEachJournal (resuming_on.HaveTrees resuming) resuming.work told told'
      → PrintsText (done_text done) answer taken taken' → IsPrinted answer → Resumes resuming answer told told' taken taken' stream stream'
  resume_printed done answer told told' taken taken' stream stream' has drew comes keeps moves journal prints is_printed = record {
    own = printed_is_own is_of_told_stop answer refl is_printed;
    drew = printed_drew answer done stream stream' is_printed drew;
    comes = λ v is. inr (comes_as resuming.passes (resuming_on.IsCaused resuming v) (resuming_on.IsWritten resuming told told' stream stream' v) v (λ outcome. outcome ≡ Ok done)
        (AnswersMove resuming.work (IsOurs v) answer) (answers_printed (IsOurs v) (λ fault root. of_move resuming.work root fault) answer done is_printed) (comes v is));
    keeps = keeps;
    moves = moves;
    unread = λ v is. unread_printed (ChangesNothing told told') answer is_printed;
    journal = journal;
    completes = λ g v is asked can. printed_is_own is_of_chance answer refl is_printed;
    prints = printed done_text (λ done. HasResumed resuming done told told') done answer taken taken' has prints is_printed;
  }

  -- the root that is named of a vault that isn't opened is the journal's
  module _ (v : View) where
    no_load : (side : Side) (f : LoadFault) (fault : JournalFault) → moves.Load side f ≢ causes.of_journal fault
    no_load side f journal.NoJournal same = cc
    no_load side f fault same = cc

    abbrev stopped_by : MoveFault → Outcome
    stopped_by fault = Err fault

    fault_is : (a b : MoveFault) → stopped_by a ≡ stopped_by b → a ≡ b
    fault_is a b same = cc

    load_root : (found : Option Journal) (side : Side) (f : LoadFault) → resuming_on.IsFoundJournal resuming.work v found → (tested : Result Journal JournalFault) (P : Journal → Type 0)
        → ReadsAs (journal_bytes v resuming.work) tested → MatchResult tested P (λ fault. stopped_by (moves.Load side f) ≡ stopped_by (causes.of_journal fault))
        → resuming_on.IsRootIn resuming.work v side (resuming_on.root_by resuming.work found (Some side))
    load_root found side f is (Ok j) P reads match = root_read resuming.work v side found j is reads (λ o. resuming_on.root_by resuming.work o (Some side)) (λ k. refl)
    load_root found side f is (Err fault) P reads match = absurd (no_load side f fault (fault_is (moves.Load side f) (causes.of_journal fault) match))

    pub journal_root : (found : Option Journal) (fault : MoveFault) → resuming_on.IsFoundJournal resuming.work v found → (s t : List ℕ) → resuming_on.IsCaused resuming v s t (Err fault)
        → IsOurs v fault (resuming_on.root_by resuming.work found (resuming_on.unopened fault))
    journal_root found (moves.Load side f) is s t (inl failed) = let no = fault_is (moves.Load side f) moves.Failed failed in cc
    journal_root found (moves.Load side f) is s t (inr (inl memory)) = let no = fault_is (moves.Load side f) moves.NoMemory memory in cc
    journal_root found (moves.Load side f) is s t (inr (inr tested)) = load_root found side f is tested.0 _ tested.1 tested.2
    journal_root found fault is s t cause = tt
