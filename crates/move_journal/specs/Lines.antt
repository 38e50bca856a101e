-- Which line of a text is the first that fits no journal.
use Rattle.std.specs.Prelude.{◌≡◌, ◌≢◌, ℕ, ◌<◌, suc, Bool, ◌==◌, not, List, [], ◌∷◌, ◌++◌, Some, slice_get}
use Rattle.std.specs.List.{list_all}
use Rattle.move_journal.specs.declared.journal.Form.{Form}
use Rattle.move_journal.specs.declared.journal.Journal.{Journal}
use Rattle.move_journal.specs.Journal.{IsJournal, lines_of, line_count}

abbrev pub has_no_newline : List ℕ → Bool
has_no_newline = list_all (λ b. not (b == 10))

-- the line comes in some journal, in this form, after n others
pub record IsLine (form : Form) (n : ℕ) (line : List ℕ) : Type 0 where
  pub journal : Journal
  pub fits : IsJournal journal
  pub there : slice_get (lines_of form journal) n ≡ Some line

-- after n lines of the text, each of which fits this form, this is left of it
pub data Leaves (form : Form) (text : List ℕ) : ℕ → List ℕ → Type 0 where
  at_start : Leaves form text 0 text
  after_line : (n : ℕ) (line rest : List ℕ) → Leaves form text n (line ++ 10 ∷ rest) → IsLine form n line → Leaves form text (suc n) rest

-- the text does not begin with a line that comes in a journal, in this form, after n others
abbrev pub BeginsWithNoLine : Form → ℕ → List ℕ → Type 0
BeginsWithNoLine form n text = (line rest : List ℕ) → IsLine form n line → text ≢ line ++ 10 ∷ rest

-- the first line and all others before this one fit the form, and this one does not; after the last one a text must end
pub record IsBadLineIn (form : Form) (text : List ℕ) (number : ℕ) : Type 0 where
  pub before : ℕ
  pub rest : List ℕ
  pub place : number ≡ suc before
  pub some : 0 < before
  pub others : Leaves form text before rest
  pub bad : BeginsWithNoLine form before rest
  pub longer : before ≡ line_count form → rest ≢ []

-- the first line is that of neither form, or this is the first line that does not fit the form of that
pub data IsBadLine (text : List ℕ) (number : ℕ) : Type 0 where
  AtFirst : number ≡ 1 → ((form : Form) → BeginsWithNoLine form 0 text) → IsBadLine text number
  Behind : (form : Form) → IsBadLineIn form text number → IsBadLine text number
