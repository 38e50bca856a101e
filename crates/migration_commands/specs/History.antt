-- Whole histories of the three commands that move a tree: each run does what its command says, and goes on from the end of the one before
-- or from what a crash at any moment of it left.
use Rattle.std.specs.Prelude.{◌≡◌, ◌⊎◌, false, List, [], ◌∷◌, ◌++◌, Some}
use Rattle.command_answers.specs.declared.answer.Answer.{Answer}
use Rattle.open_for_reading.specs.World.{World}
use Rattle.command_words.specs.declared.commands.Moving.{Moving}
use Rattle.command_words.specs.declared.commands.Resuming.{Resuming}
use Rattle.folder_spec.specs.Event.{Event, Told, after}
use Rattle.folder_spec.specs.Image.{Image, IsImage, state_of}
use Rattle.folder_spec.specs.Seen.{seen}
use Rattle.folder_spec.specs.State.{State, IsSound, HasNothingPending}
use Rattle.folder_spec.specs.View.{View}
use Rattle.migration_spec.specs.Guard.{Migration, IsNotBegun, IsSeparate, IsWork, kinds_in}
use Rattle.migration_sides.specs.Unchanged.{ChangesNothing}
use Rattle.migration_commands.specs.Migrate.{IsAskedFor, MigratesTree}
use Rattle.migration_commands.specs.Resume.{IsResumedFor, ResumesTree}
use Rattle.migration_commands.specs.Retire.{RetiresSource}

-- ---- a run

-- one of the commands, with its words
pub data Asks : Type 0 where
  Migrates : Moving → Asks
  Resumes : Resuming → Asks
  Retires : Resuming → Asks

-- its folders and its rule are those of the migration, and, but for `retire`, its files of passphrases hold the keys of its vaults
abbrev pub IsOf : Migration → Asks → View → Type 0
IsOf g (Migrates moving) v = IsAskedFor g moving v
IsOf g (Resumes resuming) v = IsResumedFor g resuming v
IsOf g (Retires resuming) v = g.work ≡ resuming.work

-- it answers so, and does what it says, from the world before to the world after
abbrev pub Does : Asks → Answer → World → World → Type 0
Does (Migrates moving) answer before after = MigratesTree moving answer before after
Does (Resumes resuming) answer before after = ResumesTree resuming answer before after
Does (Retires resuming) answer before after = RetiresSource resuming answer before after

-- A run of one of the commands over a folder that tells its state: of this migration, or by which nothing is changed, as by one with a
-- passphrase that opens no vault.
pub record Run (g : Migration) : Type 0 where
  pub asks : Asks
  pub answer : Answer
  pub before : World
  pub after : World
  pub entry : Told
  pub end : Told
  pub tells_entry : before.told ≡ Some entry
  pub tells_end : after.told ≡ Some end
  pub of : IsOf g asks (seen entry.state) ⊎ ChangesNothing (Some entry) (Some end)
  pub does : Does asks answer before after

-- a state is the first of these moments or one of those after each event
abbrev pub IsMoment : State → State → List Event → Type 0
IsMoment s entry [] = s ≡ entry
IsMoment s entry (e ∷ events) = (s ≡ entry) ⊎ IsMoment s (after entry e) events

-- a state of the run: its entry, or the one after an event that it adds to the folder's log
pub record IsStateOf {g : Migration} (r : Run g) (s : State) : Type 0 where
  pub events : List Event
  pub log : r.end.log ≡ r.entry.log ++ events
  pub moment : IsMoment s r.entry.state events

-- a crash at one of the run's states left this
pub record IsLeftBy {g : Migration} (r : Run g) (s : State) : Type 0 where
  pub moment : State
  pub is : IsStateOf r moment
  pub image : Image
  pub left : IsImage moment image
  pub taken : s ≡ state_of image

-- ---- histories

-- the next run begins where the one before ended, or with what a crash there left
abbrev pub Follows : {g : Migration} → Run g → Run g → Type 0
Follows r next = (next.entry.state ≡ r.end.state) ⊎ IsLeftBy r next.entry.state

-- runs that follow one another, the first of them after this one
abbrev pub FollowEach : {g : Migration} → Run g → List (Run g) → Type 0
FollowEach r [] = Unit {0}
FollowEach r (next ∷ more) = Follows r next × FollowEach next more

-- Nothing is pending. Both vaults are there, the target without items; the work folder is Missing or without a journal and foreign
-- entries; and no two of the three folders overlap.
pub record IsBeginning (g : Migration) (s : State) : Type 0 where
  pub sound : IsSound s
  pub settled : HasNothingPending s
  pub separate : IsSeparate g
  pub vaults : IsNotBegun g (seen s)
  pub work : IsWork false (kinds_in (seen s)) g.work

-- a history of a migration: its first run, and those that follow
pub record IsHistory {g : Migration} (first : Run g) (more : List (Run g)) : Type 0 where
  pub begins : IsBeginning g first.entry.state
  pub runs : FollowEach first more

-- a state of one of these runs
abbrev pub IsStateIn : {g : Migration} → Run g → List (Run g) → State → Type 0
IsStateIn r [] s = IsStateOf r s
IsStateIn r (next ∷ more) s = IsStateOf r s ⊎ IsStateIn next more s
