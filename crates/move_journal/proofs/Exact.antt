-- Which texts are those of journals: no line of them is bad.
use Rattle.std.proofs.Common.{◌≡◌, ◌≢◌, ℕ, ◌<◌, ◌≤◌, zero, suc, true, List, [], ◌∷◌, ◌++◌, codes, decimal, drop, get_or, length, refl, sym, ap, ◌∙◌, subst, arith, Some, ◌⊎◌, inl, inr}
use Rattle.std.specs.Prelude.{slice_get}
use Rattle.std.specs.Cmp.{first_so, second_so}
use Rattle.std.specs.List.{list_all}
use Rattle.std.proofs.lemmas.Bool.{and_from}
use Rattle.std.proofs.Math.Nat.{eq-or-lt_of_le}
use Rattle.std.proofs.lemmas.Option.{slice_get_within}
use Rattle.hex.specs.Hex.{encode_lower}
use Rattle.folder_model.specs.Text.{text_of}
use Rattle.plain_tree.specs.declared.name_map.NameMap.{NameMap}
use Rattle.plain_tree.specs.declared.name_map.NameMap.TheVariants.{Same, Nfc}
use Rattle.move_journal.specs.declared.journal.Form.{Form}
use Rattle.move_journal.specs.declared.journal.Form.TheVariants.{First, Second}
use Rattle.move_journal.specs.declared.journal.Journal.{Journal}
use Rattle.move_journal.specs.declared.journal.Phase.{Phase}
use Rattle.move_journal.specs.declared.journal.Phase.TheVariants.{Building, Done}
use Rattle.move_journal.specs.Journal.{IsJournal, IsTextOf, InFirst, InSecond, title, phase_line, names_line, from_line, to_line, items_line, plan_line, lines_of, line_count, ended, text_in}
use Rattle.move_journal.specs.Lines.{IsLine, Leaves, at_start, after_line, BeginsWithNoLine, IsBadLine, AtFirst, Behind, IsBadLineIn, has_no_newline}
use Rattle.move_journal.proofs.Values.{one_line, no_newline-append, path_has_no_newline, items_have_no_newline, plan_has_no_newline}
use Rattle.move_journal.proofs.Lines.{title_there, title_is_line}

phase_is_plain : (phase : Phase) → has_no_newline (phase_line phase) ≡ true
phase_is_plain Building = refl
phase_is_plain Done = refl

names_are_plain : (names : NameMap) → has_no_newline (names_line names) ≡ true
names_are_plain Same = refl
names_are_plain Nfc = refl

title_is_plain : (form : Form) → has_no_newline (title form) ≡ true
title_is_plain First = refl
title_is_plain Second = refl

-- no line of a journal has a newline in it
pub lines_are_plain : (form : Form) (j : Journal) → IsJournal j → list_all has_no_newline (lines_of form j) ≡ true
lines_are_plain form j h = by form
  where
    from_is_plain : has_no_newline (from_line j.source) ≡ true
    from_is_plain = no_newline-append (codes "from ") (text_of j.source) refl (path_has_no_newline (text_of j.source) (j.source, h.source, refl))

    to_is_plain : has_no_newline (to_line j.target) ≡ true
    to_is_plain = no_newline-append (codes "to ") (text_of j.target) refl (path_has_no_newline (text_of j.target) (j.target, h.target, refl))

    items_are_plain : has_no_newline (items_line j.items) ≡ true
    items_are_plain = no_newline-append (codes "items ") (decimal j.items) refl (items_have_no_newline (decimal j.items) (j.items, h.items, refl))

    plan_is_plain : has_no_newline (plan_line j.plan) ≡ true
    plan_is_plain = no_newline-append (codes "plan ") (encode_lower j.plan) refl (plan_has_no_newline (encode_lower j.plan) (j.plan, h.plan, refl))

    rest_is_plain : list_all has_no_newline (from_line j.source ∷ to_line j.target ∷ items_line j.items ∷ plan_line j.plan ∷ []) ≡ true
    rest_is_plain = and_from _ _ from_is_plain (and_from _ _ to_is_plain (and_from _ _ items_are_plain (and_from _ _ plan_is_plain refl)))

    by : (form : Form) → list_all has_no_newline (lines_of form j) ≡ true
    by First = and_from _ _ (title_is_plain First) (and_from _ _ (phase_is_plain j.phase) rest_is_plain)
    by Second = and_from _ _ (title_is_plain Second) (and_from _ _ (phase_is_plain j.phase) (and_from _ _ (names_are_plain j.names) rest_is_plain))

plain_at : (lines : List (List ℕ)) (n : ℕ) (line : List ℕ) → list_all has_no_newline lines ≡ true → slice_get lines n ≡ Some line → has_no_newline line ≡ true
plain_at [] n line plain there = cc there
plain_at (own ∷ lines) zero line plain there =
    let same : own ≡ line = cc there in subst (λ (l : List ℕ). has_no_newline l ≡ true) same (first_so (has_no_newline own) (list_all has_no_newline lines) plain)
plain_at (own ∷ lines) (suc n) line plain there = plain_at lines n line (second_so (has_no_newline own) (list_all has_no_newline lines) plain) there

line_is_plain : (form : Form) (n : ℕ) (line : List ℕ) → IsLine form n line → has_no_newline line ≡ true
line_is_plain form n line h = plain_at (lines_of form h.journal) n line (lines_are_plain form h.journal h.fits) h.there

own_line : (form : Form) (j : Journal) (n : ℕ) (line : List ℕ) → IsJournal j → slice_get (lines_of form j) n ≡ Some line → IsLine form n line
own_line form j n line fits there = record { journal = j; fits = fits; there = there }

-- no line is taken off yet
none_off : (lines : List (List ℕ)) → ended lines ≡ ended (drop 0 lines)
none_off [] = refl
none_off (line ∷ lines) = refl

-- one line more
next_left : (lines : List (List ℕ)) (n : ℕ) (line rest : List ℕ) → list_all has_no_newline lines ≡ true → has_no_newline line ≡ true → line ++ 10 ∷ rest ≡ ended (drop n lines)
    → rest ≡ ended (drop (suc n) lines)
next_left [] zero [] rest plain own e = cc e
next_left [] zero (x ∷ line) rest plain own e = cc e
next_left [] (suc n) [] rest plain own e = cc e
next_left [] (suc n) (x ∷ line) rest plain own e = cc e
next_left (first ∷ lines) zero line rest plain own e = (one_line line first rest (ended lines) own (first_so (has_no_newline first) (list_all has_no_newline lines) plain) e).1 ∙ none_off lines
next_left (first ∷ lines) (suc n) line rest plain own e = next_left lines n line rest (second_so (has_no_newline first) (list_all has_no_newline lines) plain) own e

-- what is left of a journal's text after n lines
left_of_journal : (form : Form) (j : Journal) (n : ℕ) (rest : List ℕ) → IsJournal j → Leaves form (text_in form j) n rest → rest ≡ ended (drop n (lines_of form j))
left_of_journal form j _ _ fits at_start = none_off (lines_of form j)
left_of_journal form j _ _ fits (after_line n line rest before is) =
    next_left (lines_of form j) n line rest (lines_are_plain form j fits) (line_is_plain form n line is) (left_of_journal form j n (line ++ 10 ∷ rest) fits before)

pub counts : (form : Form) (j : Journal) → length (lines_of form j) ≡ line_count form
counts First j = refl
counts Second j = refl

at_most_all : (form : Form) (text : List ℕ) (n : ℕ) (rest : List ℕ) → Leaves form text n rest → n ≤ line_count form
at_most_all form text _ _ at_start = omega arith
at_most_all form text _ _ (after_line n line rest before is) =
    let within : n < length (lines_of form is.journal) = slice_get_within (lines_of form is.journal) n line is.there in
    omega (arith, within, counts form is.journal)

-- lines from one on
line_from : (lines : List (List ℕ)) (n : ℕ) → n < length lines → (line : List ℕ) × (slice_get lines n ≡ Some line) × (ended (drop n lines) ≡ line ++ 10 ∷ ended (drop (suc n) lines))
line_from [] n few = absurd (omega arith)
line_from (line ∷ lines) zero few = (line, refl, ap (λ l. line ++ 10 ∷ l) (none_off lines))
line_from (line ∷ lines) (suc n) few = line_from lines n (omega arith)

none_left : (lines : List (List ℕ)) → ended (drop (length lines) lines) ≡ []
none_left [] = refl
none_left (line ∷ lines) = none_left lines

-- a text in a form has no line that is bad in it
good_in : (form : Form) (j : Journal) (number : ℕ) → IsJournal j → IsBadLineIn form (text_in form j) number → ⊥
good_in form j number fits b =
    at b.before b.rest (left_of_journal form j b.before b.rest fits b.others) (eq-or-lt_of_le (at_most_all form (text_in form j) b.before b.rest b.others)) b.bad b.longer
  where
    at : (n : ℕ) (rest : List ℕ) → rest ≡ ended (drop n (lines_of form j)) → (n ≡ line_count form) ⊎ (n < line_count form) → BeginsWithNoLine form n rest → (n ≡ line_count form → rest ≢ []) → ⊥
    at n rest e (inl all_) bad longer =
        longer all_ (e ∙ ap (λ k. ended (drop k (lines_of form j))) (all_ ∙ sym (counts form j)) ∙ none_left (lines_of form j))
    at n rest e (inr few) bad longer =
        let own = line_from (lines_of form j) n (omega (arith, few, counts form j)) in
        bad own.0 (ended (drop (suc n) (lines_of form j))) (own_line form j n own.0 fits own.1) (e ∙ own.2)

-- the first line tells the form
pub text_begins : (form : Form) (j : Journal) → (more : List ℕ) × (text_in form j ≡ title form ++ 10 ∷ more)
text_begins First j = (ended (drop 1 (lines_of First j)), refl)
text_begins Second j = (ended (drop 1 (lines_of Second j)), refl)

pub same_form : (form other : Form) (x y : List ℕ) → title form ++ 10 ∷ x ≡ title other ++ 10 ∷ y → form ≡ other
same_form First First x y e = refl
same_form Second Second x y e = refl
same_form First Second x y e =
    let same : title First ≡ title Second = (one_line (title First) (title Second) x y refl refl e).0 in
    let last : 49 ≡ 50 = ap (λ (line : List ℕ). get_or line 10 0) same in absurd (omega (arith, last))
same_form Second First x y e =
    let same : title Second ≡ title First = (one_line (title Second) (title First) x y refl refl e).0 in
    let last : 50 ≡ 49 = ap (λ (line : List ℕ). get_or line 10 0) same in absurd (omega (arith, last))

begins_titled : (form : Form) (text : List ℕ) (n : ℕ) (rest : List ℕ) → Leaves form text n rest → 0 < n → (more : List ℕ) × (text ≡ title form ++ 10 ∷ more)
begins_titled form text _ _ at_start some = absurd (omega arith)
begins_titled form text _ _ (after_line zero line rest before is) some = (rest, start zero (line ++ 10 ∷ rest) before refl ∙ ap (λ l. l ++ 10 ∷ rest) (title_there form line is))
  where
    start : (n : ℕ) (left : List ℕ) → Leaves form text n left → n ≡ 0 → text ≡ left
    start _ _ at_start e = refl
    start _ _ (after_line n line left before is) e = absurd (omega arith)
begins_titled form text _ _ (after_line (suc n) line rest before is) some = begins_titled form text (suc n) (line ++ 10 ∷ rest) before (omega arith)

no_bad_in : (form : Form) (j : Journal) (number : ℕ) → IsJournal j → IsBadLine (text_in form j) number → ⊥
no_bad_in form j number fits (AtFirst is none) = let begins = text_begins form j in none form (title form) begins.0 (title_is_line form) begins.1
no_bad_in form j number fits (Behind other b) =
    let begins = text_begins form j in
    let other_begins = begins_titled other (text_in form j) b.before b.rest b.others b.some in
    let same : other ≡ form = same_form other form other_begins.0 begins.0 (sym other_begins.1 ∙ begins.1) in
    good_in form j number fits (subst (λ (f : Form). IsBadLineIn f (text_in form j) number) same b)

-- no text of a journal has a bad line
pub no_bad_line : (j : Journal) (text : List ℕ) (number : ℕ) → IsJournal j → IsTextOf j text → IsBadLine text number → ⊥
no_bad_line j text number fits (InSecond is) bad = no_bad_in Second j number fits (subst (λ t. IsBadLine t number) is bad)
no_bad_line j text number fits (InFirst same is) bad = no_bad_in First j number fits (subst (λ t. IsBadLine t number) is bad)
