-- What is known of values that words write, by their kinds: some text writes a folder path, so that a journal can tell the roots of a
-- migration, and a number is within its bound.
use Rattle.std.specs.Prelude.{◌≤◌, List, [], ◌∷◌, ⊤}
use Rattle.folder_model.specs.Text.{IsParsed}
use Rattle.command_words.specs.declared.commands.Command.{Command}
use Rattle.command_words.specs.declared.commands.Command.TheVariants as command
use Rattle.command_words.specs.declared.commands.Moving.{Moving}
use Rattle.command_words.specs.declared.rows.Kind.{Kind}
use Rattle.command_words.specs.declared.rows.Kind.TheVariants as kind
use Rattle.command_words.specs.declared.values.Value.{Value}
use Rattle.command_words.specs.declared.values.Value.TheVariants as value

abbrev pub IsWritten : Kind → Value → Type 0
IsWritten kind.FolderPath (value.Folder path) = IsParsed path
IsWritten (kind.Number most) (value.Number number) = number ≤ most
IsWritten kind value = ⊤

-- each value is written by its kind
abbrev pub EachWritten : List Kind → List Value → Type 0
EachWritten [] [] = ⊤
EachWritten (kind ∷ kinds) (value ∷ values) = IsWritten kind value × EachWritten kinds values
EachWritten kinds values = ⊥

-- the first values are, and flags stand behind them
abbrev pub AllWritten : List Kind → List Value → Type 0
AllWritten [] flags = ⊤
AllWritten (kind ∷ kinds) [] = ⊥
AllWritten (kind ∷ kinds) (value ∷ values) = IsWritten kind value × AllWritten kinds values

-- some text writes each root of a migration
abbrev pub AreWritten : Moving → Type 0
AreWritten moving = IsParsed moving.source × IsParsed moving.target

abbrev pub HasTexts : Command → Type 0
HasTexts (command.Migrate moving) = AreWritten moving
HasTexts other = ⊤

-- a demonstration has 2,000 items at most
abbrev pub IsSmall : Command → Type 0
IsSmall (command.Demo demonstration) = demonstration.count ≤ 2000
IsSmall other = ⊤
