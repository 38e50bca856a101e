-- How a command that changes a vault begins: the vault and the work folder don't overlap, the passphrase is read, the folder is
-- settled, and the work folder is made ready. The first test that fails is the answer.
use Rattle.std.specs.Prelude.{◌≡◌, ◌⊎◌, Bool, [], IsTrue, Option, MatchResult}
use Rattle.std.specs.Io.KnownBytes.{Keeps}
use Rattle.folder_spec.specs.Path.{Path}
use Rattle.folder_spec.specs.State.{State}
use Rattle.folder_spec.specs.Event.{Told}
use Rattle.folder_spec.specs.Moments.{Moments}
use Rattle.folder_spec.specs.Region.{IsAsBefore, Spares, apart_from}
use Rattle.folder_spec.specs.Seen.{IfSeen}
use Rattle.folder_spec.specs.View.{View}
use Rattle.port_model.specs.Draws.{Draws}
use Rattle.vault_spec.specs.Vault.{Either, Vault}
use Rattle.work_folder.specs.Entering.{EntersAs}
use Rattle.work_folder.specs.Looking as work
use Rattle.open_for_changing.specs.Faults.{of_work}
use Rattle.open_for_changing.specs.Staying.{Leaves}
use Rattle.open_for_reading.specs.Opening.{OfPassFile, OfVault}
use Rattle.open_for_reading.specs.Places.{RefusesOverlap, overlap}
use Rattle.open_for_reading.specs.Refusing.{Unless}
use Rattle.open_for_reading.specs.Shown.{refused}
use Rattle.open_for_reading.specs.World.{World}
use Rattle.command_answers.specs.declared.answer.Answer.{Answer}
use Rattle.command_words.specs.declared.commands.Change.{Change}

-- what follows where the work folder can be made ready, and else the answer is why it can't
abbrev pub OfWork : View → Path → Answer → Type 0 → Type 0
OfWork v at answer next = (entered : work.Looked) × EntersAs v at entered × MatchResult entered (λ done. next) (λ fault. answer ≡ of_work at fault)

-- The tests of a command that changes an opened vault, behind that of overlapping folders, by what is seen at first: what follows of
-- the vault, where all pass.
abbrev pub OfSite : Change → View → Answer → (Vault → Type 0) → Type 0
OfSite change v answer next =
    OfPassFile change.target.pass (v change.target.pass) (refused answer) (λ phrase.
    OfWork v change.work answer (OfVault v change.target.vault phrase (refused answer) next))

-- nothing but the work folder is changed, at every moment
abbrev pub ChangesOnlyWork : Path → Option Told → Option Told → Type 0
ChangesOnlyWork work = Moments (IsAsBefore (apart_from work)) (λ s0 s e. Spares (apart_from work) e.call)

-- The call ended before it came to the making, with an answer of its own: nothing but the work folder is changed, at every moment, and
-- nothing is drawn or taken of the input.
pub record EndsBefore (is_own : Answer → Bool) (work : Path) (answer : Answer) (before after : World) : Type 0 where
  pub own : IsTrue (is_own answer)
  pub moments : ChangesOnlyWork work before.told after.told
  pub undrawn : Draws before.random after.random []
  pub untouched : Keeps before.left after.left

-- Of folders that don't overlap: the first test that fails by what is seen at first is the answer; what is foreign in the work folder
-- stays; and the call ended before it came to the making, or that is done.
pub record MakesApart (is_own : Answer → Bool) (work : Path) (Tests : View → Type 0) (Makes : Type 0) (answer : Answer) (before after : World) : Type 0 where
  pub cause : IfSeen before.told (λ v. Unless answer (Tests v))
  pub leaves : Leaves work before.told after.told
  pub comes : EndsBefore is_own work answer before after ⊎ Makes

-- A command makes something of a vault beside a work folder, and writes nothing.
pub record MakesBeside (is_own : Answer → Bool) (vault work : Path) (Tests : View → Type 0) (Makes : Type 0) (answer : Answer) (before after : World) : Type 0 where
  pub apart : Either (overlap vault work) (RefusesOverlap vault work answer before after) (MakesApart is_own work Tests Makes answer before after)
  pub unwritten : Keeps before.taken after.taken

-- Since s0 no file was made, and nothing but the work folder is changed (private contracts only).
pub record IsBeginning (work : Path) (s0 s : State) : Type 0 where
  pub others : IsAsBefore (apart_from work) s0 s
  pub nodes : s.nodes ≡ s0.nodes
  pub made : s.made ≡ s0.made

abbrev pub ChangesWork : Path → Option Told → Option Told → Type 0
ChangesWork work before after = Moments (IsBeginning work) (λ s0 s e. Spares (apart_from work) e.call) before after
