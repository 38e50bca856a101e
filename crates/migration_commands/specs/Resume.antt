-- `resume`: going on with the migration that the journal in a work folder tells of.
use Rattle.std.specs.Prelude.{ℕ, List, [], Option, Some, None, IfErr, IsTrue, ◌≡◌, ◌⊎◌}
use Rattle.std.specs.Io.KnownBytes.{Keeps}
use Rattle.folder_spec.specs.Event.{Told}
use Rattle.folder_spec.specs.Path.{Path}
use Rattle.folder_spec.specs.Seen.{IfSeen, IsSeen}
use Rattle.folder_spec.specs.View.{View}
use Rattle.migrate_core.specs.Causes.{IsOfPlacing, PassesResume, Unless}
use Rattle.migrate_core.specs.Causes as causes
use Rattle.migrate_core.specs.Completing.{CanResume}
use Rattle.migrate_core.specs.Drawing.{Drew}
use Rattle.migrate_core.specs.Lasting.{Clears, Finishes, HaveToldTrees, KeepsEachJournal}
use Rattle.migrate_core.specs.Limits.{IsOfLimit, PassesAsTold}
use Rattle.migrate_core.specs.Moved.{MovesTold}
use Rattle.migrate_core.specs.Moving.{MovesOnly}
use Rattle.migrate_core.specs.Sharing.{IsOfTaken, SharesAsTold}
use Rattle.migrate_core.specs.Written.{MayWriteTold}
use Rattle.migrate_core.specs.declared.fault.MoveFault.{MoveFault}
use Rattle.migrate_core.specs.declared.fault.MoveFault.TheVariants.{Load}
use Rattle.migrate_core.specs.declared.placing.Done as moved
use Rattle.move_journal.specs.Journal.{IsJournal}
use Rattle.move_journal.specs.declared.journal.Journal.{Journal}
use Rattle.move_journal.specs.Reading.{StandsIn}
use Rattle.port_model.specs.Draws.{ByteStream, Draws}
use Rattle.migration_spec.specs.Guard.{Migration}
use Rattle.migration_sides.specs.Lasting.{Lasts}
use Rattle.migration_sides.specs.Unchanged.{ChangesNothing}
use Rattle.migration_sides.specs.declared.fault.Side.{Side}
use Rattle.migration_sides.specs.declared.fault.Side.TheVariants.{Source, Target}
use Rattle.migration_commands.specs.Moving.{AnswersMove, ArePhrases, AtWrongPass, Comes, Completes, HoldKeys, KeepsAll, Outcome, RefusesUndrawn, done_text, is_of_told_migration}
use Rattle.command_answers.specs.Printing.{PrintsDone}
use Rattle.open_for_reading.specs.World.{World}
use Rattle.command_answers.specs.declared.answer.Answer.{Answer}
use Rattle.command_answers.specs.declared.answer.Answer.TheVariants.{ZeroRandom}
use Rattle.command_words.specs.declared.commands.Resuming.{Resuming}

-- a migration through the work folder, of whose vaults the two files hold the keys
pub record IsResumedFor (g : Migration) (resuming : Resuming) (v : View) : Type 0 where
  pub work : g.work ≡ resuming.work
  pub keys : HoldKeys g resuming.passes v

-- Both vaults, which the journal tells and the passphrases in the two files open, are clean, the target has the mapped tree of the source by
-- the journal's rule, and the journal says so. That lasts: no directory change is pending, and where the migration was guarded at first it
-- is finished. And in the work folder `stage` is empty, and `journal.new` is gone or as it was.
pub record HasResumed (resuming : Resuming) (done : moved.Done) (told told' : Option Told) : Type 0 where
  pub source_pass : List ℕ
  pub target_pass : List ℕ
  pub phrases : IfSeen told (λ v. ArePhrases resuming.passes source_pass target_pass v)
  pub moves : IfSeen told (λ v. MovesTold resuming.work source_pass target_pass done told told' v)
  pub lasts : Lasts told'
  pub finishes : (g : Migration) → IfSeen told (λ v. IsResumedFor g resuming v → Finishes g told told')
  pub clears : Clears resuming.work told told'

-- Of the vaults that the journal tells, opened in the first view by the passphrases in the two files, the target has the mapped tree of the
-- source.
pub record HaveTrees (resuming : Resuming) (v : View) (journal : Journal) (w : View) : Type 0 where
  pub source_pass : List ℕ
  pub target_pass : List ℕ
  pub phrases : ArePhrases resuming.passes source_pass target_pass v
  pub trees : HaveToldTrees source_pass target_pass v journal w

-- the root of a vault that the journal tells
abbrev pub root_in : Journal → Side → Path
root_in journal Source = journal.source
root_in journal Target = journal.target

-- so the journal tells the root of the vault on this side
abbrev pub IsRootIn : Path → View → Side → Path → Type 0
IsRootIn work v side root = (journal : Journal) × IsJournal journal × StandsIn work journal v × (root ≡ root_in journal side)

-- and that of the vault that isn't opened, where one isn't
abbrev pub IsRootOf : Path → View → Option Side → Path → Type 0
IsRootOf work v (Some side) root = IsRootIn work v side root
IsRootOf work v None root = Unit {0}

-- the vault that isn't opened
abbrev pub unopened : MoveFault → Option Side
unopened (Load side fault) = Some side
unopened fault = None

-- why `resume` comes to what it comes to under these passphrases, by what is seen at first
abbrev pub IsCaused : Resuming → View → List ℕ → List ℕ → Outcome → Type 0
IsCaused resuming v source_pass target_pass outcome = Unless outcome (causes.Resumes resuming.work source_pass target_pass v outcome)

-- What it draws and writes. Where it answers that a compared content passes the limit, it does so; where a place is taken, an item of the
-- source shares it; and nothing is changed and no byte drawn unless all its tests pass, of which none is the answer then.
pub record IsWritten (resuming : Resuming) (told told' : Option Told) (stream stream' : Option ByteStream) (v : View) (source_pass target_pass : List ℕ) (outcome : Outcome) : Type 0 where
  pub writes : MayWriteTold outcome resuming.work source_pass target_pass stream stream' told told' v
  pub too_long : IfErr outcome (IsOfLimit (PassesAsTold resuming.work source_pass target_pass told told' v))
  pub shared : IfErr outcome (IsOfTaken (SharesAsTold resuming.work source_pass target_pass stream stream' told told' v))
  pub tested : ChangesNothing told told' ⊎ (IfErr outcome IsOfPlacing × PassesResume resuming.work source_pass target_pass v)
  pub undrawn : Draws stream stream' [] ⊎ (IfErr outcome IsOfPlacing × PassesResume resuming.work source_pass target_pass v)

abbrev pub ComesTo : Resuming → (Outcome → Type 0) → Option Told → Option Told → Option ByteStream → Option ByteStream → View → Type 0
ComesTo resuming IsAnswered told told' stream stream' v = Comes resuming.passes (IsCaused resuming v) (IsWritten resuming told told' stream stream' v) IsAnswered v

-- or the passphrases aren't read, or the folder failed, or memory was refused
abbrev pub MayCome : Resuming → Answer → Option Told → Option Told → Option ByteStream → Option ByteStream → View → Type 0
MayCome resuming answer told told' stream stream' v =
    RefusesUndrawn resuming.passes answer told told' stream stream' v ⊎ ComesTo resuming (AnswersMove resuming.work (λ fault. IsRootOf resuming.work v (unopened fault)) answer) told told' stream stream' v

-- Whatever the answer is, nothing is lost; where a journal stands in the work folder, all but that folder and the target stays as it was,
-- and nothing of the target is removed or replaced. At 0 the tree is moved. Where no test can fail and no content is damaged, it comes to
-- that. Zeros are the answer only where sixteen were drawn last; where a passphrase doesn't open its vault, nothing is changed; and a journal
-- that stood stands, or one that says that all is done, which comes only while the target has the mapped tree of the source.
pub record Resumes (resuming : Resuming) (answer : Answer) (told told' : Option Told) (taken taken' : Option (List ℕ)) (stream stream' : Option ByteStream) : Type 0 where
  pub own : IsTrue (is_of_told_migration answer)
  pub drew : Drew (answer ≡ ZeroRandom) stream stream'
  pub comes : IfSeen told (λ v. MayCome resuming answer told told' stream stream' v)
  pub keeps : (g : Migration) → IfSeen told (λ v. IsResumedFor g resuming v → KeepsAll g told told')
  pub moves : (v : View) (journal : Journal) → IsSeen told v → IsJournal journal → StandsIn resuming.work journal v → MovesOnly resuming.work journal.target told told'
  pub unread : IfSeen told (λ v. AtWrongPass (ChangesNothing told told') answer)
  pub journal : KeepsEachJournal (HaveTrees resuming) resuming.work told told'
  pub completes : (g : Migration) → IfSeen told (λ v. IsResumedFor g resuming v → CanResume g v → Completes answer)
  pub prints : PrintsDone done_text (λ done. HasResumed resuming done told told') answer taken taken'

-- `resume`, which takes nothing of the input
pub record ResumesTree (resuming : Resuming) (answer : Answer) (before after : World) : Type 0 where
  pub resumes : Resumes resuming answer before.told after.told before.taken after.taken before.random after.random
  pub untouched : Keeps before.left after.left

-- ---- private contracts

-- the journal that stands in the work folder, where one does
abbrev pub IsFoundJournal : Path → View → Option Journal → Type 0
IsFoundJournal work v None = (journal : Journal) → IsJournal journal → ¬ StandsIn work journal v
IsFoundJournal work v (Some journal) = IsJournal journal × StandsIn work journal v

-- the root of the vault on this side, as that journal tells it
abbrev pub root_by : Path → Option Journal → Option Side → Path
root_by work (Some journal) (Some side) = root_in journal side
root_by work found side = work
