-- How the lines of a text are read, one after another.
use Rattle.std.proofs.Common.{◌≡◌, ◌≢◌, ℕ, ◌<◌, ◌≤◌, zero, suc, List, [], ◌∷◌, ◌++◌, codes, decimal, unwrap_or, refl, sym, ap, ◌∙◌, subst, arith, Some, None, lit<}
use Rattle.std.specs.Prelude.{slice_get}
use Rattle.std.proofs.lemmas.Str.{IsUtf8-from_ascii}
use Rattle.std.proofs.lemmas.Str.Ascii.{IsAscii-cons, IsAscii-nil}
use Rattle.hex.specs.Hex.{encode_lower, IsBytes}
use Rattle.folder_spec.specs.Path.{Path}
use Rattle.folder_model.specs.Text.{IsParsed, text_of}
use Rattle.plain_tree.specs.declared.name_map.NameMap.{NameMap}
use Rattle.plain_tree.specs.declared.name_map.NameMap.TheVariants.{Same, Nfc}
use Rattle.move_journal.specs.declared.journal.Form.{Form}
use Rattle.move_journal.specs.declared.journal.Form.TheVariants.{First, Second}
use Rattle.move_journal.specs.declared.journal.Journal.{Journal}
use Rattle.move_journal.specs.declared.journal.Phase.{Phase}
use Rattle.move_journal.specs.declared.journal.Phase.TheVariants.{Building, Done}
use Rattle.move_journal.specs.Journal.{IsDigest, IsJournal, IsTextOf, InFirst, InSecond, title, phase_line, names_line, from_line, to_line, items_line, plan_line, lines_of, line_count}
use Rattle.move_journal.specs.Lines.{IsLine, Leaves, at_start, after_line, BeginsWithNoLine, IsBadLine, Behind}
use Rattle.move_journal.specs.Parsing.{TellsNames, in_form}
use Rattle.move_journal.proofs.Values.{IsPathText, IsItemsText, IsPlanText}

the_line : (found line : List ℕ) → Some found ≡ Some line → line ≡ found
the_line found line e = sym (ap (λ o. unwrap_or o []) e)

-- a line of a journal is the one that the journal has there
pub title_there : (form : Form) (line : List ℕ) → IsLine form 0 line → line ≡ title form
title_there First line h = the_line (title First) line h.there
title_there Second line h = the_line (title Second) line h.there

pub phase_there : (form : Form) (line : List ℕ) → IsLine form 1 line → (phase : Phase) × (line ≡ phase_line phase)
phase_there First line h = (h.journal.phase, the_line (phase_line h.journal.phase) line h.there)
phase_there Second line h = (h.journal.phase, the_line (phase_line h.journal.phase) line h.there)

pub names_there : (line : List ℕ) → IsLine Second 2 line → (names : NameMap) × (line ≡ names_line names)
names_there line h = (h.journal.names, the_line (names_line h.journal.names) line h.there)

pub source_there : (form : Form) (line : List ℕ) → IsLine form (in_form form 2) line → (value : List ℕ) × IsPathText value × (line ≡ codes "from " ++ value)
source_there First line h = (text_of h.journal.source, (h.journal.source, h.fits.source, refl), the_line (from_line h.journal.source) line h.there)
source_there Second line h = (text_of h.journal.source, (h.journal.source, h.fits.source, refl), the_line (from_line h.journal.source) line h.there)

pub target_there : (form : Form) (line : List ℕ) → IsLine form (in_form form 3) line → (value : List ℕ) × IsPathText value × (line ≡ codes "to " ++ value)
target_there First line h = (text_of h.journal.target, (h.journal.target, h.fits.target, refl), the_line (to_line h.journal.target) line h.there)
target_there Second line h = (text_of h.journal.target, (h.journal.target, h.fits.target, refl), the_line (to_line h.journal.target) line h.there)

pub items_there : (form : Form) (line : List ℕ) → IsLine form (in_form form 4) line → (value : List ℕ) × IsItemsText value × (line ≡ codes "items " ++ value)
items_there First line h = (decimal h.journal.items, (h.journal.items, h.fits.items, refl), the_line (items_line h.journal.items) line h.there)
items_there Second line h = (decimal h.journal.items, (h.journal.items, h.fits.items, refl), the_line (items_line h.journal.items) line h.there)

pub plan_there : (form : Form) (line : List ℕ) → IsLine form (in_form form 5) line → (value : List ℕ) × IsPlanText value × (line ≡ codes "plan " ++ value)
plan_there First line h = (encode_lower h.journal.plan, (h.journal.plan, h.fits.plan, refl), the_line (plan_line h.journal.plan) line h.there)
plan_there Second line h = (encode_lower h.journal.plan, (h.journal.plan, h.fits.plan, refl), the_line (plan_line h.journal.plan) line h.there)

-- lines of one front and a value: a text that has no such value after the front begins with none of them
pub no_value : (form : Form) (n : ℕ) (front text : List ℕ) (Is : List ℕ → Type 0) → ((line : List ℕ) → IsLine form n line → (value : List ℕ) × Is value × (line ≡ front ++ value))
    → ((value rest : List ℕ) → Is value → text ≢ front ++ (value ++ 10 ∷ rest)) → BeginsWithNoLine form n text
no_value form n front text Is there none line rest is e =
    let value = there line is in
    none value.0 rest value.1 (e ∙ ap (λ l. l ++ 10 ∷ rest) value.2 ∙ regroup front value.0 (10 ∷ rest))
  where
    regroup : (a b c : List ℕ) → (a ++ b) ++ c ≡ a ++ (b ++ c)
    regroup [] b c = refl
    regroup (x ∷ a) b c = ap (λ l. x ∷ l) (regroup a b c)

pub no_phase : (text : List ℕ) → ((rest : List ℕ) → text ≢ codes "phase building\n" ++ rest) → ((rest : List ℕ) → text ≢ codes "phase done\n" ++ rest) → (form : Form) → BeginsWithNoLine form 1 text
no_phase text not_building not_done form line rest is e = by_phase (phase_there form line is).0 (phase_there form line is).1
  where
    by_phase : (phase : Phase) → line ≡ phase_line phase → ⊥
    by_phase Building same = not_building rest (e ∙ ap (λ l. l ++ 10 ∷ rest) same)
    by_phase Done same = not_done rest (e ∙ ap (λ l. l ++ 10 ∷ rest) same)

pub no_names : (text : List ℕ) → ((rest : List ℕ) → text ≢ codes "names same\n" ++ rest) → ((rest : List ℕ) → text ≢ codes "names nfc\n" ++ rest) → BeginsWithNoLine Second 2 text
no_names text not_same not_nfc line rest is e = by_names (names_there line is).0 (names_there line is).1
  where
    by_names : (names : NameMap) → line ≡ names_line names → ⊥
    by_names Same same = not_same rest (e ∙ ap (λ l. l ++ 10 ∷ rest) same)
    by_names Nfc same = not_nfc rest (e ∙ ap (λ l. l ++ 10 ∷ rest) same)

pub no_title : (text : List ℕ) → ((rest : List ℕ) → text ≢ codes "vaultmove 1\n" ++ rest) → ((rest : List ℕ) → text ≢ codes "vaultmove 2\n" ++ rest) → (form : Form) → BeginsWithNoLine form 0 text
no_title text not_first not_second First line rest is e = not_first rest (e ∙ ap (λ l. l ++ 10 ∷ rest) (title_there First line is))
no_title text not_first not_second Second line rest is e = not_second rest (e ∙ ap (λ l. l ++ 10 ∷ rest) (title_there Second line is))

-- some journal, for the lines that are not read yet
zeros : ℕ → List ℕ
zeros zero = []
zeros (suc n) = 0 ∷ zeros n

zeros_are_bytes : (n : ℕ) → IsBytes (zeros n)
unfolding zeros
zeros_are_bytes zero i = lit< tt
zeros_are_bytes (suc n) zero = lit< tt
zeros_are_bytes (suc n) (suc i) = zeros_are_bytes n i

some_path : Path
some_path = (97 ∷ []) ∷ []

some_path_is_parsed : IsParsed some_path
unfolding some_path
some_path_is_parsed = record { text = 97 ∷ []; utf8 = IsUtf8-from_ascii (97 ∷ []) (IsAscii-cons 97 [] (lit< tt) IsAscii-nil); fits = refl; is = refl }

some_digest_is_one : IsDigest (zeros 32)
unfolding zeros
some_digest_is_one = record { size = refl; bytes = zeros_are_bytes 32 }

abbrev pub journal_with : Phase → NameMap → Path → Path → ℕ → List ℕ → Journal
journal_with phase names source target items plan = record { phase = phase; names = names; source = source; target = target; items = items; plan = plan }

is_journal : (phase : Phase) (names : NameMap) (source target : Path) (items : ℕ) (plan : List ℕ) → IsParsed source → IsParsed target → items ≤ 200000 → IsDigest plan
    → IsJournal (journal_with phase names source target items plan)
is_journal phase names source target items plan from_ to_ small digest = record { source = from_; target = to_; items = small; plan = digest }

-- a line that such a journal has
line_with : (form : Form) (n : ℕ) (line : List ℕ) (phase : Phase) (names : NameMap) (source target : Path) (items : ℕ) (plan : List ℕ) → IsParsed source → IsParsed target → items ≤ 200000 → IsDigest plan
    → slice_get (lines_of form (journal_with phase names source target items plan)) n ≡ Some line → IsLine form n line
line_with form n line phase names source target items plan from_ to_ small digest there = record {
  journal = journal_with phase names source target items plan;
  fits = is_journal phase names source target items plan from_ to_ small digest;
  there = there;
}

pub title_is_line : (form : Form) → IsLine form 0 (title form)
title_is_line First = line_with First 0 (title First) Building Same some_path some_path 0 (zeros 32) some_path_is_parsed some_path_is_parsed (omega arith) some_digest_is_one refl
title_is_line Second = line_with Second 0 (title Second) Building Same some_path some_path 0 (zeros 32) some_path_is_parsed some_path_is_parsed (omega arith) some_digest_is_one refl

pub phase_is_line : (form : Form) (phase : Phase) → IsLine form 1 (phase_line phase)
phase_is_line First phase = line_with First 1 (phase_line phase) phase Same some_path some_path 0 (zeros 32) some_path_is_parsed some_path_is_parsed (omega arith) some_digest_is_one refl
phase_is_line Second phase = line_with Second 1 (phase_line phase) phase Same some_path some_path 0 (zeros 32) some_path_is_parsed some_path_is_parsed (omega arith) some_digest_is_one refl

pub names_is_line : (names : NameMap) → IsLine Second 2 (names_line names)
names_is_line names = line_with Second 2 (names_line names) Building names some_path some_path 0 (zeros 32) some_path_is_parsed some_path_is_parsed (omega arith) some_digest_is_one refl

pub from_is_line : (form : Form) (path : Path) → IsParsed path → IsLine form (in_form form 2) (from_line path)
from_is_line First path h = line_with First 2 (from_line path) Building Same path some_path 0 (zeros 32) h some_path_is_parsed (omega arith) some_digest_is_one refl
from_is_line Second path h = line_with Second 3 (from_line path) Building Same path some_path 0 (zeros 32) h some_path_is_parsed (omega arith) some_digest_is_one refl

pub to_is_line : (form : Form) (path : Path) → IsParsed path → IsLine form (in_form form 3) (to_line path)
to_is_line First path h = line_with First 3 (to_line path) Building Same some_path path 0 (zeros 32) some_path_is_parsed h (omega arith) some_digest_is_one refl
to_is_line Second path h = line_with Second 4 (to_line path) Building Same some_path path 0 (zeros 32) some_path_is_parsed h (omega arith) some_digest_is_one refl

pub items_is_line : (form : Form) (items : ℕ) → items ≤ 200000 → IsLine form (in_form form 4) (items_line items)
items_is_line First items h = line_with First 4 (items_line items) Building Same some_path some_path items (zeros 32) some_path_is_parsed some_path_is_parsed h some_digest_is_one refl
items_is_line Second items h = line_with Second 5 (items_line items) Building Same some_path some_path items (zeros 32) some_path_is_parsed some_path_is_parsed h some_digest_is_one refl

pub plan_is_line : (form : Form) (plan : List ℕ) → IsDigest plan → IsLine form (in_form form 5) (plan_line plan)
plan_is_line First plan h = line_with First 5 (plan_line plan) Building Same some_path some_path 0 plan some_path_is_parsed some_path_is_parsed (omega arith) h refl
plan_is_line Second plan h = line_with Second 6 (plan_line plan) Building Same some_path some_path 0 plan some_path_is_parsed some_path_is_parsed (omega arith) h refl

-- one more line
leaves_more : (form : Form) (n : ℕ) (text before line rest : List ℕ) → Leaves form text n before → before ≡ line ++ 10 ∷ rest → IsLine form n line → Leaves form text (suc n) rest
leaves_more form n text before line rest so_far e is = after_line n line rest (subst (Leaves form text n) e so_far) is

pub after_title : (form : Form) (text a : List ℕ) → text ≡ title form ++ 10 ∷ a → Leaves form text 1 a
after_title form text a e = leaves_more form 0 text text (title form) a at_start e (title_is_line form)

pub after_names : (form : Form) (names : NameMap) (phase : Phase) (text a b c : List ℕ) → text ≡ title form ++ 10 ∷ a → a ≡ phase_line phase ++ 10 ∷ b → TellsNames form names b c
    → Leaves form text (in_form form 2) c
after_names First names phase text a b c first second tells =
    subst (Leaves First text 2) (sym tells.1) (leaves_more First 1 text a (phase_line phase) b (after_title First text a first) second (phase_is_line First phase))
after_names Second names phase text a b c first second tells =
    leaves_more Second 2 text b (names_line names) c (leaves_more Second 1 text a (phase_line phase) b (after_title Second text a first) second (phase_is_line Second phase)) tells (names_is_line names)

-- and one behind the names
leaves_next : (form : Form) (n : ℕ) (text before line rest : List ℕ) → Leaves form text (in_form form n) before → before ≡ line ++ 10 ∷ rest → IsLine form (in_form form n) line
    → Leaves form text (in_form form (suc n)) rest
leaves_next First n text before line rest so_far e is = leaves_more First n text before line rest so_far e is
leaves_next Second n text before line rest so_far e is = leaves_more Second (suc n) text before line rest so_far e is

pub after_source : (form : Form) (path : Path) (text before rest : List ℕ) → Leaves form text (in_form form 2) before → IsParsed path × (before ≡ from_line path ++ 10 ∷ rest)
    → Leaves form text (in_form form 3) rest
after_source form path text before rest so_far h = leaves_next form 2 text before (from_line path) rest so_far h.1 (from_is_line form path h.0)

pub after_target : (form : Form) (path : Path) (text before rest : List ℕ) → Leaves form text (in_form form 3) before → IsParsed path × (before ≡ to_line path ++ 10 ∷ rest)
    → Leaves form text (in_form form 4) rest
after_target form path text before rest so_far h = leaves_next form 3 text before (to_line path) rest so_far h.1 (to_is_line form path h.0)

pub after_items : (form : Form) (items : ℕ) (text before rest : List ℕ) → Leaves form text (in_form form 4) before → (items ≤ 200000) × (before ≡ items_line items ++ 10 ∷ rest)
    → Leaves form text (in_form form 5) rest
after_items form items text before rest so_far h = leaves_next form 4 text before (items_line items) rest so_far h.1 (items_is_line form items h.0)

pub after_plan : (form : Form) (plan text before rest : List ℕ) → Leaves form text (in_form form 5) before → IsDigest plan × (before ≡ plan_line plan ++ 10 ∷ rest)
    → Leaves form text (in_form form 6) rest
after_plan form plan text before rest so_far h = leaves_next form 5 text before (plan_line plan) rest so_far h.1 (plan_is_line form plan h.0)

-- the first line that fits none, behind the first of all
pub bad_line : (form : Form) (n : ℕ) (text rest : List ℕ) → 0 < n → n < line_count form → Leaves form text n rest → BeginsWithNoLine form n rest → IsBadLine text (suc n)
bad_line form n text rest some small others bad =
    Behind form (record { before = n; rest = rest; place = refl; some = some; others = others; bad = bad; longer = λ e. absurd (omega (arith, e)) })

-- each form has more than two
pub two_lines : (form : Form) → 1 < line_count form
two_lines First = omega arith
two_lines Second = omega arith

-- the third line of the second form
pub bad_third : (form : Form) (phase : Phase) (text a b : List ℕ) → text ≡ title form ++ 10 ∷ a → a ≡ phase_line phase ++ 10 ∷ b → form ≡ Second → BeginsWithNoLine Second 2 b → IsBadLine text 3
bad_third First phase text a b first second is bad = cc is
bad_third Second phase text a b first second is bad =
    bad_line Second 2 text b (omega arith) (omega arith) (leaves_more Second 1 text a (phase_line phase) b (after_title Second text a first) second (phase_is_line Second phase)) bad

-- behind the line of the names, by its number in the first form
pub bad_behind : (form : Form) (n number : ℕ) (text rest : List ℕ) → number ≡ in_form form (suc n) → 0 < n → n < 6 → Leaves form text (in_form form n) rest
    → BeginsWithNoLine form (in_form form n) rest → IsBadLine text number
bad_behind First n number text rest is some small others bad = subst (IsBadLine text) (sym is) (bad_line First n text rest some small others bad)
bad_behind Second n number text rest is some small others bad = subst (IsBadLine text) (sym is) (bad_line Second (suc n) text rest (omega arith) (omega arith) others bad)

-- no line comes behind the last
pub no_line_behind : (form : Form) (line : List ℕ) → IsLine form (line_count form) line → ⊥
no_line_behind First line h = let none : None ≡ Some line = h.there in cc none
no_line_behind Second line h = let none : None ≡ Some line = h.there in cc none

-- bytes behind the last
pub bad_end : (form : Form) (number : ℕ) (text rest : List ℕ) → number ≡ in_form form 7 → Leaves form text (in_form form 6) rest → rest ≢ [] → IsBadLine text number
bad_end First number text rest is others more =
    Behind First (record { before = 6; rest = rest; place = is; some = omega arith; others = others; bad = λ line after h e. no_line_behind First line h; longer = λ e. more })
bad_end Second number text rest is others more =
    Behind Second (record { before = 7; rest = rest; place = is; some = omega arith; others = others; bad = λ line after h e. no_line_behind Second line h; longer = λ e. more })

-- the lines from the source's on, put together
whole_rest : (j : Journal) (c d e f g : List ℕ) → c ≡ from_line j.source ++ 10 ∷ d → d ≡ to_line j.target ++ 10 ∷ e → e ≡ items_line j.items ++ 10 ∷ f → f ≡ plan_line j.plan ++ 10 ∷ g → g ≡ []
    → c ≡ from_line j.source ++ 10 ∷ (to_line j.target ++ 10 ∷ (items_line j.items ++ 10 ∷ (plan_line j.plan ++ 10 ∷ [])))
whole_rest j c d e f g source target items plan end_ =
    source
    ∙ ap (λ l. from_line j.source ++ 10 ∷ l)
    (target ∙ ap (λ l. to_line j.target ++ 10 ∷ l) (items ∙ ap (λ l. items_line j.items ++ 10 ∷ l) (plan ∙ ap (λ l. plan_line j.plan ++ 10 ∷ l) end_)))

-- and all lines
pub whole_text : (form : Form) (j : Journal) (text a b c d e f g : List ℕ) → text ≡ title form ++ 10 ∷ a → a ≡ phase_line j.phase ++ 10 ∷ b → TellsNames form j.names b c
    → c ≡ from_line j.source ++ 10 ∷ d → d ≡ to_line j.target ++ 10 ∷ e → e ≡ items_line j.items ++ 10 ∷ f → f ≡ plan_line j.plan ++ 10 ∷ g → g ≡ [] → IsTextOf j text
whole_text First j text a b c d e f g first second tells source target items plan end_ =
    InFirst tells.0
    (first ∙ ap (λ l. title First ++ 10 ∷ l) (second ∙ ap (λ l. phase_line j.phase ++ 10 ∷ l) (sym tells.1 ∙ whole_rest j c d e f g source target items plan end_)))
whole_text Second j text a b c d e f g first second tells source target items plan end_ =
    InSecond
    (first
    ∙ ap (λ l. title Second ++ 10 ∷ l)
    (second ∙ ap (λ l. phase_line j.phase ++ 10 ∷ l) (tells ∙ ap (λ l. names_line j.names ++ 10 ∷ l) (whole_rest j c d e f g source target items plan end_))))
