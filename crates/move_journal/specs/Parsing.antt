-- What the functions that read a journal's text answer (private contracts only).
use Rattle.std.specs.Prelude.{◌≡◌, ℕ, suc, List, ◌∷◌, ◌++◌, Result, Ok, Err}
use Rattle.plain_tree.specs.declared.name_map.NameMap.{NameMap}
use Rattle.plain_tree.specs.declared.name_map.NameMap.TheVariants.{Same}
use Rattle.move_journal.specs.declared.journal.Form.{Form}
use Rattle.move_journal.specs.declared.journal.Form.TheVariants.{First, Second}
use Rattle.move_journal.specs.declared.journal.Journal.{Journal}
use Rattle.move_journal.specs.declared.journal.JournalFault.{JournalFault}
use Rattle.move_journal.specs.declared.journal.JournalFault.TheVariants.{NoJournal, BadJournal, TooLarge, Failed, NoMemory}
use Rattle.move_journal.specs.Journal.{IsJournal, IsTextOf, names_line}
use Rattle.move_journal.specs.Lines.{IsBadLine}

-- how many lines stand in this form where n stand in the first: one more in the second, that of the names
abbrev pub in_form : Form → ℕ → ℕ
in_form First n = n
in_form Second n = suc n

-- what the line of the names tells, and what is left behind it; the first form has none
abbrev pub TellsNames : Form → NameMap → List ℕ → List ℕ → Type 0
TellsNames First names text rest = (names ≡ Same) × (rest ≡ text)
TellsNames Second names text rest = text ≡ names_line names ++ 10 ∷ rest

abbrev pub ParsesAs : List ℕ → Result Journal JournalFault → Type 0
ParsesAs text (Ok j) = IsJournal j × IsTextOf j text
ParsesAs text (Err NoJournal) = ⊥
ParsesAs text (Err (BadJournal number)) = IsBadLine text number
ParsesAs text (Err TooLarge) = ⊥
ParsesAs text (Err Failed) = ⊥
ParsesAs text (Err NoMemory) = Unit {0}
