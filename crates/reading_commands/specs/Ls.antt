-- `ls`: the items of a directory, one a line.
use Rattle.std.specs.Prelude.{◌≡◌, ◌⊎◌, ℕ, List, [], ◌∷◌, ◌++◌, Ok, MatchResult}
use Rattle.std.specs.Io.KnownBytes.{Keeps}
use Rattle.std.specs.List.{flat_map}
use Rattle.folder_spec.specs.View.{View}
use Rattle.folder_spec.specs.Seen.{IsSeen, under}
use Rattle.plain_tree.specs.Shown.{shown}
use Rattle.plain_tree.specs.declared.NodeKind.{NodeKind}
use Rattle.plain_tree.specs.declared.NodeKind.TheVariants as node
use Rattle.vault_spec.specs.Find.{enter}
use Rattle.vault_spec.specs.Format.{Directory}
use Rattle.vault_spec.specs.Listing.{Listed, AreListed}
use Rattle.vault_spec.specs.Vault.{Vault, format_of}
use Rattle.reading_commands.specs.Finding.{answer_to_finding}
use Rattle.open_for_reading.specs.Opening.{OfOpened, Opens}
use Rattle.open_for_reading.specs.Shown.{IsCutShort, Reads, Shown, refused}
use Rattle.open_for_reading.specs.World.{World}
use Rattle.command_answers.specs.declared.answer.Answer.{Answer}
use Rattle.command_answers.specs.declared.answer.Answer.TheVariants.{Done, OutputFault}
use Rattle.command_words.specs.declared.commands.Target.{Target}

-- `d` for a directory and `f` for a file
abbrev pub node_letter : NodeKind → ℕ
node_letter node.Dir = 100
node_letter node.File = 102

-- the letter, a space, the shown name and a newline
abbrev pub item_line : Listed → List ℕ
item_line item = node_letter item.node ∷ 32 ∷ [] ++ shown item.name ++ 10 ∷ []

abbrev pub ls_text : List Listed → List ℕ
ls_text items = flat_map item_line items

-- what `ls` shows
abbrev pub ShowsItems : Target → View → Shown → Type 0
ShowsItems target v shown =
    OfOpened v target.vault target.pass shown (λ vault.
    MatchResult (enter (format_of vault) (under target.vault v) target.path)
    (λ dir. (items : List Listed) × AreListed (format_of vault) (under target.vault v) dir items × (shown ≡ record { pieces = ls_text items ∷ []; answer = Done }))
    (λ refusal. shown ≡ refused (answer_to_finding target.vault refusal)))

-- the root and the passphrase are a vault, and the directory at the path is entered
pub record OpensDirectory (target : Target) (v : View) : Type 0 where
  pub vault : Vault
  pub opens : Opens v target.vault target.pass vault
  pub directory : Directory
  pub entered : enter (format_of vault) (under target.vault v) target.path ≡ Ok directory

-- `ls`, which writes nothing before all is known, takes nothing of the input and draws nothing. Where the directory
-- is entered, it is listed, unless the command is cut short.
pub record ListsItems (target : Target) (answer : Answer) (before after : World) : Type 0 where
  pub reads : Reads (ShowsItems target) answer before.told after.told before.taken after.taken
  pub complete : (v : View) → IsSeen before.told v → OpensDirectory target v → (answer ≡ Done) ⊎ IsCutShort answer
  pub quiet : (answer ≡ Done) ⊎ ((answer ≡ OutputFault) ⊎ Keeps before.taken after.taken)
  pub untouched : Keeps before.left after.left
  pub undrawn : after.random ≡ before.random
