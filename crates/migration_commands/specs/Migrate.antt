-- `migrate`: moving the tree of one vault into another, which is empty, through a new work folder.
use Rattle.std.specs.Prelude.{◌≡◌, ◌≢◌, ◌⊎◌, ℕ, List, [], if◌then◌else◌, Option, Some, None, IfErr, IsTrue, MatchOption}
use Rattle.std.specs.Io.KnownBytes.{Keeps}
use Rattle.folder_spec.specs.Event.{Told}
use Rattle.folder_spec.specs.Path.{Path}
use Rattle.folder_spec.specs.Seen.{IfSeen, under}
use Rattle.folder_spec.specs.View.{View}
use Rattle.migrate_core.specs.Causes.{Begins, IsOfPlacing, PassesBegin, Unless}
use Rattle.migrate_core.specs.Completing.{CanBegin}
use Rattle.migrate_core.specs.Drawing.{Drew}
use Rattle.migrate_core.specs.Lasting.{BringsJournal, Finishes}
use Rattle.migrate_core.specs.Limits.{IsOfLimit, PassesInTree}
use Rattle.migrate_core.specs.Moved.{IsTidyWork, MovesTree}
use Rattle.migrate_core.specs.Moving.{MovesOnly}
use Rattle.migrate_core.specs.Sharing.{IsOfTaken, SharesInTree}
use Rattle.migrate_core.specs.Sides.{IsAsked}
use Rattle.migrate_core.specs.Written.{MayWriteTree}
use Rattle.migrate_core.specs.declared.fault.MoveFault.{MoveFault}
use Rattle.migrate_core.specs.declared.fault.MoveFault.TheVariants.{Load}
use Rattle.migrate_core.specs.declared.placing.Done as moved
use Rattle.port_model.specs.Draws.{ByteStream, Draws}
use Rattle.migration_spec.specs.Guard.{Migration}
use Rattle.vault_read.specs.OwnFolders.{HasOwnFolders}
use Rattle.vault_spec.specs.Vault.{Vault}
use Rattle.migration_sides.specs.Lasting.{Lasts}
use Rattle.migration_sides.specs.Unchanged.{ChangesNothing}
use Rattle.migration_sides.specs.declared.fault.Side.TheVariants.{Target}
use Rattle.migration_commands.specs.Moving.{AnswersMove, ArePhrases, AtWrongPass, Comes, Completes, HoldKeys, KeepsAll, Outcome, RefusesUndrawn, done_text, is_of_migration}
use Rattle.open_for_reading.specs.Opening.{Opens}
use Rattle.open_for_reading.specs.Places.{overlap, RefusesOverlap}
use Rattle.command_answers.specs.Printing.{PrintsDone}
use Rattle.open_for_reading.specs.World.{World}
use Rattle.command_answers.specs.declared.answer.Answer.{Answer}
use Rattle.command_answers.specs.declared.answer.Answer.TheVariants.{Overlap, ZeroRandom}
use Rattle.command_words.specs.declared.commands.Moving.{Moving}

-- two folders that overlap
pub record Pair : Type 0 where
  pub first : Path
  pub second : Path

abbrev pub pair : Path → Path → Pair
pair first second = record { first = first; second = second }

-- the first two of the three folders that overlap, in the order of the words
abbrev pub first_overlap : Moving → Option Pair
first_overlap moving =
    if overlap moving.source moving.target then Some (pair moving.source moving.target)
    else if overlap moving.source moving.work then Some (pair moving.source moving.work)
    else if overlap moving.target moving.work then Some (pair moving.target moving.work)
    else None

-- The migration that the words ask for: its folders are those, its rule for names is that of the flag, and the two files hold the keys of
-- its vaults.
pub record IsAskedFor (g : Migration) (moving : Moving) (v : View) : Type 0 where
  pub asked : IsAsked g moving.names moving.source moving.target moving.work
  pub keys : HoldKeys g moving.passes v

-- Both vaults, which the passphrases in the two files open, are clean, the target has the mapped tree of the source, and the journal says
-- so. That lasts: no directory change is pending, and where the migration was guarded at first it is finished. And an empty stage and the
-- journal alone are left in the work folder.
pub record HasMigrated (moving : Moving) (done : moved.Done) (told told' : Option Told) : Type 0 where
  pub source_pass : List ℕ
  pub target_pass : List ℕ
  pub phrases : IfSeen told (λ v. ArePhrases moving.passes source_pass target_pass v)
  pub moves : MovesTree moving.names moving.source moving.target moving.work source_pass target_pass done told told'
  pub lasts : Lasts told'
  pub finishes : (g : Migration) → IfSeen told (λ v. IsAskedFor g moving v → Finishes g told told')
  pub clears : IfSeen told' (λ v. IsTidyWork moving.work v)

-- the root of the vault that isn't opened
abbrev pub root_of : Moving → MoveFault → Path
root_of moving (Load Target fault) = moving.target
root_of moving fault = moving.source

abbrev pub IsRootOf : Moving → MoveFault → Path → Type 0
IsRootOf moving fault root = root ≡ root_of moving fault

-- why `begin` comes to what it comes to under these passphrases, by what is seen at first
abbrev pub IsCaused : Moving → View → List ℕ → List ℕ → Outcome → Type 0
IsCaused moving v source_pass target_pass outcome = Unless outcome (Begins moving.names moving.source moving.target moving.work source_pass target_pass v outcome)

-- What it draws and writes. Where it answers that a compared content passes the limit, it does so; where a place is taken, an item of the
-- source shares it. That all is done is said only while the target has the mapped tree of the source. And nothing is changed and no byte drawn
-- unless all its tests pass, of which none is the answer then.
pub record IsWritten (moving : Moving) (told told' : Option Told) (stream stream' : Option ByteStream) (v : View) (source_pass target_pass : List ℕ) (outcome : Outcome) : Type 0 where
  pub writes : MayWriteTree outcome moving.names moving.source moving.target moving.work source_pass target_pass stream stream' told told'
  pub too_long : IfErr outcome (IsOfLimit (PassesInTree moving.names moving.source moving.target source_pass target_pass told told'))
  pub shared : IfErr outcome (IsOfTaken (SharesInTree moving.names moving.source moving.target moving.work source_pass target_pass stream stream' told told'))
  pub tested : ChangesNothing told told' ⊎ (IfErr outcome IsOfPlacing × PassesBegin moving.names moving.source moving.target moving.work source_pass target_pass v)
  pub journal : BringsJournal moving.names moving.source moving.target moving.work source_pass target_pass told told' v
  pub undrawn : Draws stream stream' [] ⊎ (IfErr outcome IsOfPlacing × PassesBegin moving.names moving.source moving.target moving.work source_pass target_pass v)

abbrev pub ComesTo : Moving → (Outcome → Type 0) → Option Told → Option Told → Option ByteStream → Option ByteStream → View → Type 0
ComesTo moving IsAnswered told told' stream stream' v = Comes moving.passes (IsCaused moving v) (IsWritten moving told told' stream stream' v) IsAnswered v

-- or the passphrases aren't read
abbrev pub MayCome : Moving → Answer → Option Told → Option Told → Option ByteStream → Option ByteStream → View → Type 0
MayCome moving answer told told' stream stream' v =
    RefusesUndrawn moving.passes answer told told' stream stream' v ⊎ ComesTo moving (AnswersMove moving.work (IsRootOf moving) answer) told told' stream stream' v

-- No two directories of either vault share a folder, of the two vaults that are compared once all is placed.
abbrev pub SidesHaveOwnFolders : Moving → View → Type 0
SidesHaveOwnFolders moving v =
    (source target : Vault) → Opens v moving.source moving.passes.source source → Opens v moving.target moving.passes.target target
    → HasOwnFolders source (under moving.source v) × HasOwnFolders target (under moving.target v)

-- Of folders that don't overlap: whatever the answer is, nothing is lost; all but the work folder and the target stays as it was, nothing
-- of the target is removed or replaced, and files come there staged. At 0 the tree is moved. Where no test can fail and no content is
-- damaged, it comes to that. It isn't answered that they overlap; zeros are the answer only where sixteen were drawn last; and where a
-- passphrase doesn't open its vault, nothing is changed.
pub record MigratesApart (moving : Moving) (answer : Answer) (told told' : Option Told) (taken taken' : Option (List ℕ)) (stream stream' : Option ByteStream) : Type 0 where
  pub own : IsTrue (is_of_migration answer)
  pub apart : (first second : Path) → answer ≢ Overlap first second
  pub drew : Drew (answer ≡ ZeroRandom) stream stream'
  pub comes : IfSeen told (λ v. MayCome moving answer told told' stream stream' v)
  pub keeps : (g : Migration) → IfSeen told (λ v. IsAskedFor g moving v → KeepsAll g told told')
  pub moves : MovesOnly moving.work moving.target told told'
  pub unread : IfSeen told (λ v. AtWrongPass (ChangesNothing told told') answer)
  pub completes : (g : Migration) → IfSeen told (λ v. IsAskedFor g moving v → CanBegin g v → Completes answer)
  pub prints : PrintsDone done_text (λ done. HasMigrated moving done told told') answer taken taken'

-- `migrate`, which takes nothing of the input
pub record MigratesTree (moving : Moving) (answer : Answer) (before after : World) : Type 0 where
  pub apart : MatchOption (first_overlap moving) (MigratesApart moving answer before.told after.told before.taken after.taken before.random after.random)
      (λ two. RefusesOverlap two.first two.second answer before after)
  pub untouched : Keeps before.left after.left
