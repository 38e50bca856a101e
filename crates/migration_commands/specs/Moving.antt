-- What the commands share that lead a migration on: its passphrases stand in two files, what is lost at no moment, and what is printed.
use Rattle.std.specs.Prelude.{◌++◌, ◌∷◌, [], ℕ, Bool, true, false, ◌||◌, List, codes, decimal, Option, Result, Ok, Err, ◌⊎◌, ◌≡◌, IsTrue}
use Rattle.folder_spec.specs.Event.{Told, FromTo}
use Rattle.folder_spec.specs.Moments.{Went}
use Rattle.folder_spec.specs.Path.{Path}
use Rattle.folder_spec.specs.View.{View}
use Rattle.migrate_core.specs.declared.fault.MoveFault.{MoveFault}
use Rattle.migrate_core.specs.declared.placing.Done as moved
use Rattle.port_model.specs.Draws.{ByteStream, Draws}
use Rattle.migration_spec.specs.Guard.{AreOpenedBy, Migration, Guarded, LosesNothing}
use Rattle.migration_answers.specs.Faults.{of_move}
use Rattle.migration_answers.specs.Stops.{is_of_stop, is_of_told_stop}
use Rattle.open_for_reading.specs.Opening.{IsPhrase, OfPassFile}
use Rattle.open_for_reading.specs.Refusing.{Unless}
use Rattle.open_for_reading.specs.Shown.{is_of_end, refused}
use Rattle.command_answers.specs.declared.answer.Answer.{Answer}
use Rattle.command_answers.specs.declared.answer.Answer.TheVariants.{Done, OutOfMemory, FolderFault, OutputFault, RandomFault, WrongPass, ZeroRandom, Taken}
use Rattle.command_answers.specs.declared.answer.Answer.TheVariants as answers
use Rattle.command_answers.specs.declared.answer.Limit as limits
use Rattle.command_answers.specs.declared.answer.Limit.TheVariants as limit
use Rattle.command_words.specs.declared.commands.Passes.{Passes}

-- the two files hold these passphrases
pub record ArePhrases (passes : Passes) (source_pass target_pass : List ℕ) (v : View) : Type 0 where
  pub source : IsPhrase (v passes.source) source_pass
  pub target : IsPhrase (v passes.target) target_pass

-- they hold passphrases that open both vaults of the migration, where these are there
pub record HoldKeys (g : Migration) (passes : Passes) (v : View) : Type 0 where
  pub source_pass : List ℕ
  pub target_pass : List ℕ
  pub phrases : ArePhrases passes source_pass target_pass v
  pub opened : AreOpenedBy g source_pass target_pass v

-- what follows of the passphrases in the two files
abbrev pub OfPasses : Passes → View → Answer → (List ℕ → List ℕ → Type 0) → Type 0
OfPasses passes v answer next =
    OfPassFile passes.source (v passes.source) (refused answer) (λ source.
    OfPassFile passes.target (v passes.target) (refused answer) (λ target. next source target))

-- They aren't read, and nothing is changed.
pub record RefusesPasses (passes : Passes) (answer : Answer) (told told' : Option Told) (v : View) : Type 0 where
  pub answers : Unless answer (OfPasses passes v answer (λ source target. ⊥))
  pub unchanged : told' ≡ told

-- nor drawn
abbrev pub RefusesUndrawn : Passes → Answer → Option Told → Option Told → Option ByteStream → Option ByteStream → View → Type 0
RefusesUndrawn passes answer told told' stream stream' v = RefusesPasses passes answer told told' v × Draws stream stream' []

-- what a migration comes to
abbrev pub Outcome : Type 0
Outcome = Result moved.Done MoveFault

-- The answer to what a command comes to, of which a fault is told so; the root is that of the vault that isn't opened.
abbrev pub AnswersBy : {D F : Type 0} → (F → Path → Type 0) → (F → Path → Answer) → Answer → Result D F → Type 0
AnswersBy IsRoot told answer (Ok done) = (answer ≡ Done) ⊎ ((answer ≡ OutputFault) ⊎ (answer ≡ OutOfMemory))
AnswersBy IsRoot told answer (Err fault) = (answer ≡ OutOfMemory) ⊎ ((root : Path) × IsRoot fault root × (answer ≡ told fault root))

-- so of a migration through this work folder
abbrev pub AnswersMove : Path → (MoveFault → Path → Type 0) → Answer → Outcome → Type 0
AnswersMove work IsRoot answer outcome = AnswersBy IsRoot (λ fault root. of_move work root fault) answer outcome

-- They are read, and under them the call comes to this, for such a cause; it does so, and is answered so.
pub record Comes {O : Type 0} (passes : Passes) (IsCaused : List ℕ → List ℕ → O → Type 0) (DoesSo : List ℕ → List ℕ → O → Type 0) (IsAnswered : O → Type 0) (v : View) : Type 0 where
  pub source_pass : List ℕ
  pub target_pass : List ℕ
  pub phrases : ArePhrases passes source_pass target_pass v
  pub outcome : O
  pub cause : IsCaused source_pass target_pass outcome
  pub does : DoesSo source_pass target_pass outcome
  pub answers : IsAnswered outcome

-- where the migration is guarded at first, nothing is lost at any moment
abbrev pub KeepsAll : Migration → Option Told → Option Told → Type 0
KeepsAll g = FromTo (λ a b. Guarded g a.state → Went (LosesNothing g) (λ s e. Unit {0}) a b)

-- where the answer is that a passphrase doesn't open its vault, this is so
abbrev pub AtWrongPass : Type 0 → Answer → Type 0
AtWrongPass P (WrongPass root) = P
AtWrongPass P answer = Unit {0}

-- `placed N, items M`
abbrev pub done_text : moved.Done → List ℕ
done_text done = codes "placed " ++ decimal done.placed ++ codes ", items " ++ decimal done.items ++ 10 ∷ []

-- whether a migration may end with this answer, one that begins
abbrev pub is_of_migration : Answer → Bool
is_of_migration answer = is_of_stop answer || is_of_end answer

-- and one that goes on
abbrev pub is_of_told_migration : Answer → Bool
is_of_told_migration answer = is_of_told_stop answer || is_of_end answer

abbrev pub is_of_length : limits.Limit → Bool
is_of_length (limit.Length at) = true
is_of_length which = false

-- Whether a migration that no test and no content stops may be answered so: the folder or the random source failed, or memory was
-- refused; zeros were drawn, or the place of a new item was taken; or a content passes the limit where it is compared.
abbrev pub is_of_chance : Answer → Bool
is_of_chance OutOfMemory = true
is_of_chance FolderFault = true
is_of_chance RandomFault = true
is_of_chance ZeroRandom = true
is_of_chance (Taken at) = true
is_of_chance (answers.Limit which) = is_of_length which
is_of_chance answer = false

-- it comes to its end, unless chance has it otherwise
abbrev pub Completes : Answer → Type 0
Completes answer = IsTrue (is_of_chance answer || is_of_end answer)

-- why the passphrases aren't read (private contracts only)
abbrev pub FailPasses : Passes → View → Answer → Type 0
FailPasses passes v answer = Unless answer (OfPasses passes v answer (λ source target. ⊥))
