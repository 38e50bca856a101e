-- Places of a folder that a command names: whether they overlap, and whether one is free.
use Rattle.std.specs.Prelude.{◌≡◌, ◌⊎◌, ◌||◌, Bool, [], is_some}
use Rattle.std.specs.Io.KnownBytes.{Keeps}
use Rattle.folder_spec.specs.Path.{Path, below, parent}
use Rattle.folder_spec.specs.View.{Found, NoEntry, Folder, FileOf, Special, View}
use Rattle.port_model.specs.Draws.{Draws}
use Rattle.open_for_reading.specs.World.{World}
use Rattle.command_answers.specs.declared.answer.Answer.{Answer}
use Rattle.command_answers.specs.declared.answer.Answer.TheVariants.{OutOfMemory, NotFound, WrongKind, Overlap, NotEmpty}
use Rattle.command_answers.specs.declared.answer.Named.TheVariants as named

-- one of the paths begins with the other
abbrev pub overlap : Path → Path → Bool
overlap one other = is_some (below one other) || is_some (below other one)

-- what follows where a directory stands at a path
abbrev pub OfDirectory : Path → Found → Answer → Type 0 → Type 0
OfDirectory at NoEntry answer next = answer ≡ NotFound (named.Folder at)
OfDirectory at Folder answer next = next
OfDirectory at (FileOf bytes) answer next = answer ≡ WrongKind (named.Folder at)
OfDirectory at Special answer next = answer ≡ WrongKind (named.Folder at)

-- what follows where nothing stands at a path
abbrev pub OfMissing : Path → Found → Answer → Type 0 → Type 0
OfMissing at NoEntry answer next = next
OfMissing at Folder answer next = answer ≡ NotEmpty at
OfMissing at (FileOf bytes) answer next = answer ≡ NotEmpty at
OfMissing at Special answer next = answer ≡ NotEmpty at

-- what follows where nothing stands at a path, and a directory above it
abbrev pub OfFree : View → Path → Answer → Type 0 → Type 0
OfFree v at answer next = OfDirectory (parent at) (v (parent at)) answer (OfMissing at (v at) answer next)

-- overlapping folders are refused by the words alone, and nothing comes of the call
pub record RefusesOverlap (one other : Path) (answer : Answer) (before after : World) : Type 0 where
  pub answers : (answer ≡ Overlap one other) ⊎ (answer ≡ OutOfMemory)
  pub unchanged : after.told ≡ before.told
  pub untouched : Keeps before.left after.left
  pub unwritten : Keeps before.taken after.taken
  pub undrawn : Draws before.random after.random []
