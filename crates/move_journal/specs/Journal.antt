-- The journal of a migration, and its text: lines, each ended by one newline byte. It is written in the second form, of seven lines. The
-- first form, of six, has no line for the rule for names, and is read as the text of a migration whose names stay as they are.
use Rattle.std.specs.Prelude.{◌≡◌, ◌≤◌, ℕ, List, [], ◌∷◌, ◌++◌, length, codes, decimal, IsTrue}
use Rattle.hex.specs.Hex.{encode_lower, IsBytes}
use Rattle.folder_spec.specs.Path.{Path}
use Rattle.folder_model.specs.Text.{IsParsed, text_of}
use Rattle.plain_tree.specs.declared.name_map.NameMap.{NameMap}
use Rattle.plain_tree.specs.declared.name_map.NameMap.TheVariants.{Same, Nfc}
use Rattle.move_journal.specs.declared.journal.Form.{Form}
use Rattle.move_journal.specs.declared.journal.Form.TheVariants.{First, Second}
use Rattle.move_journal.specs.declared.journal.Journal.{Journal}
use Rattle.move_journal.specs.declared.journal.Phase.{Phase}
use Rattle.move_journal.specs.declared.journal.Phase.TheVariants.{Building, Done}

-- a digest of 32 bytes
pub record IsDigest (digest : List ℕ) : Type 0 where
  pub size : length digest ≡ 32
  pub bytes : IsBytes digest

-- the journals that are written and read
pub record IsJournal (j : Journal) : Type 0 where
  pub source : IsParsed j.source
  pub target : IsParsed j.target
  pub items : j.items ≤ 200000
  pub plan : IsDigest j.plan

abbrev pub title : Form → List ℕ
title First = codes "vaultmove 1"
title Second = codes "vaultmove 2"

abbrev pub phase_line : Phase → List ℕ
phase_line Building = codes "phase building"
phase_line Done = codes "phase done"

abbrev pub names_line : NameMap → List ℕ
names_line Same = codes "names same"
names_line Nfc = codes "names nfc"

abbrev pub from_line : Path → List ℕ
from_line path = codes "from " ++ text_of path

abbrev pub to_line : Path → List ℕ
to_line path = codes "to " ++ text_of path

abbrev pub items_line : ℕ → List ℕ
items_line items = codes "items " ++ decimal items

abbrev pub plan_line : List ℕ → List ℕ
plan_line plan = codes "plan " ++ encode_lower plan

-- its lines in each form
abbrev pub lines_of : Form → Journal → List (List ℕ)
lines_of First j = title First ∷ phase_line j.phase ∷ from_line j.source ∷ to_line j.target ∷ items_line j.items ∷ plan_line j.plan ∷ []
lines_of Second j =
    title Second ∷ phase_line j.phase ∷ names_line j.names ∷ from_line j.source ∷ to_line j.target ∷ items_line j.items ∷ plan_line j.plan ∷ []

abbrev pub line_count : Form → ℕ
line_count First = 6
line_count Second = 7

-- lines, each ended by a newline
abbrev pub ended : List (List ℕ) → List ℕ
ended [] = []
ended (line ∷ lines) = line ++ 10 ∷ ended lines

abbrev pub text_in : Form → Journal → List ℕ
text_in form j = ended (lines_of form j)

-- the text that is written
abbrev pub journal_text : Journal → List ℕ
journal_text j = text_in Second j

-- the texts that are read as this journal: that one, and the one in the first form where names stay as they are
pub data IsTextOf (j : Journal) (text : List ℕ) : Type 0 where
  InSecond : text ≡ journal_text j → IsTextOf j text
  InFirst : j.names ≡ Same → text ≡ text_in First j → IsTextOf j text
