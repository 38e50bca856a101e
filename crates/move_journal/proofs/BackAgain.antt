-- A journal is read back from its text.
use Rattle.std.proofs.Common.{◌≡◌, ℕ, ◌+◌, ◌*◌, ◌<◌, ◌≤◌, true, nat_le, List, [], ◌∷◌, ◌++◌, codes, decimal, length, get_or, refl, sym, ap, ap₂, ◌∙◌, subst, arith, length-append, Result, Ok, Err, ◌&&◌, not, nat_eq, Some}
use Rattle.std.specs.Cmp.{first_so, second_so}
use Rattle.std.specs.List.{list_all}
use Rattle.std.proofs.Math.Nat.{mul-suc}
use Rattle.std.proofs.lemmas.Fmt.{decimal_injective, length-decimal-le}
use Rattle.hex.specs.Hex.{encode_lower, decode_sized, lower_digits}
use Rattle.hex.proofs.HexLemmas.{length-encode_with}
use Rattle.folder_spec.specs.Path.{Path}
use Rattle.folder_spec.specs.View.{FileOf, View}
use Rattle.folder_model.specs.Text.{IsParsed, is_plain_byte, is_plain_part, parts_of, text_of}
use Rattle.plain_tree.specs.declared.name_map.NameMap.{NameMap}
use Rattle.plain_tree.specs.declared.name_map.NameMap.TheVariants.{Same, Nfc}
use Rattle.move_journal.specs.declared.journal.Form.{Form}
use Rattle.move_journal.specs.declared.journal.Form.TheVariants.{First, Second}
use Rattle.move_journal.specs.declared.journal.Journal.{Journal}
use Rattle.move_journal.specs.declared.journal.JournalFault.{JournalFault}
use Rattle.move_journal.specs.declared.journal.JournalFault.TheVariants.{NoJournal, BadJournal, TooLarge, Failed, NoMemory}
use Rattle.move_journal.specs.declared.journal.Phase.{Phase}
use Rattle.move_journal.specs.declared.journal.Phase.TheVariants.{Building, Done}
use Rattle.move_journal.specs.Journal.{IsDigest, IsJournal, IsTextOf, InFirst, InSecond, phase_line, names_line, from_line, to_line, items_line, plan_line, lines_of, line_count, ended, text_in}
use Rattle.move_journal.specs.Lines.{has_no_newline}
use Rattle.move_journal.specs.Reading.{ReadsAs, StandsIn, file_bytes, journal_bytes}
use Rattle.move_journal.specs.Writing.{GivesBack}
use Rattle.move_journal.proofs.Values.{one_line, same_rest, parsed_text, plan_decoded}
use Rattle.move_journal.proofs.Lines.{journal_with}
use Rattle.move_journal.proofs.Exact.{counts, lines_are_plain, no_bad_line, same_form, text_begins}

same_phase : (p q : Phase) → phase_line p ≡ phase_line q → p ≡ q
same_phase Building Building e = refl
same_phase Done Done e = refl
same_phase Building Done e = cc e
same_phase Done Building e = cc e

-- a path is the one that its text gives
path_of_text : (path : Path) → IsParsed path → parts_of (text_of path) ≡ path
path_of_text path h = ap parts_of (parsed_text path h) ∙ sym h.is

same_path : (p q : Path) → IsParsed p → IsParsed q → text_of p ≡ text_of q → p ≡ q
same_path p q h k e = sym (path_of_text p h) ∙ ap parts_of e ∙ path_of_text q k

same_plan : (a b : List ℕ) → IsDigest a → IsDigest b → encode_lower a ≡ encode_lower b → a ≡ b
same_plan a b h k e =
    let one : decode_sized (encode_lower a) 32 ≡ Ok a = plan_decoded (encode_lower a) a h refl in
    let two : decode_sized (encode_lower a) 32 ≡ Ok b = plan_decoded (encode_lower a) b k e in
    cc

same_items : (m n : ℕ) → m ≤ 200000 → n ≤ 200000 → decimal m ≡ decimal n → m ≡ n
same_items m n small little e = decimal_injective m n (omega arith) (omega arith) e

same_names : (m n : NameMap) → names_line m ≡ names_line n → m ≡ n
same_names Same Same e = refl
same_names Nfc Nfc e = refl
same_names Same Nfc e = cc e
same_names Nfc Same e = cc e

-- as many lines that come to one text are the same
same_lines : (lines others : List (List ℕ)) → list_all has_no_newline lines ≡ true → list_all has_no_newline others ≡ true → length lines ≡ length others → ended lines ≡ ended others → lines ≡ others
same_lines [] [] p q n e = refl
same_lines [] (other ∷ others) p q n e = absurd (omega arith)
same_lines (line ∷ lines) [] p q n e = absurd (omega arith)
same_lines (line ∷ lines) (other ∷ others) p q n e =
    let parts = one_line line other (ended lines) (ended others) (first_so (has_no_newline line) (list_all has_no_newline lines) p) (first_so (has_no_newline other) (list_all has_no_newline others) q) e in
    ap₂ (λ (l : List ℕ) (ls : List (List ℕ)). l ∷ ls) parts.0
    (same_lines lines others (second_so (has_no_newline line) (list_all has_no_newline lines) p) (second_so (has_no_newline other) (list_all has_no_newline others) q) (omega arith) parts.1)

lines_of_text : (form : Form) (j k : Journal) → IsJournal j → IsJournal k → text_in form j ≡ text_in form k → lines_of form j ≡ lines_of form k
lines_of_text form j k h i e = same_lines (lines_of form j) (lines_of form k) (lines_are_plain form j h) (lines_are_plain form k i) (counts form j ∙ sym (counts form k)) e

same_fields : (j k : Journal) → IsJournal j → IsJournal k → j.names ≡ k.names → phase_line j.phase ≡ phase_line k.phase → from_line j.source ≡ from_line k.source → to_line j.target ≡ to_line k.target
    → items_line j.items ≡ items_line k.items → plan_line j.plan ≡ plan_line k.plan → j ≡ k
same_fields j k h i names phase source target items plan =
    ap (λ (x : Phase). journal_with x j.names j.source j.target j.items j.plan) (same_phase j.phase k.phase phase)
    ∙ ap (λ (x : NameMap). journal_with k.phase x j.source j.target j.items j.plan) names
    ∙ ap (λ (x : Path). journal_with k.phase k.names x j.target j.items j.plan)
    (same_path j.source k.source h.source i.source (same_rest (codes "from ") (text_of j.source) (text_of k.source) source))
    ∙ ap (λ (x : Path). journal_with k.phase k.names k.source x j.items j.plan) (same_path j.target k.target h.target i.target (same_rest (codes "to ") (text_of j.target) (text_of k.target) target))
    ∙ ap (λ (x : ℕ). journal_with k.phase k.names k.source k.target x j.plan) (same_items j.items k.items h.items i.items (same_rest (codes "items ") (decimal j.items) (decimal k.items) items))
    ∙ ap (λ (x : List ℕ). journal_with k.phase k.names k.source k.target k.items x) (same_plan j.plan k.plan h.plan i.plan (same_rest (codes "plan ") (encode_lower j.plan) (encode_lower k.plan) plan))

abbrev line_at : ℕ → List (List ℕ) → List ℕ
line_at n lines = get_or lines n []

-- two journals of one text are one
one_in : (form : Form) (j k : Journal) → IsJournal j → IsJournal k → text_in form j ≡ text_in form k → (form ≡ First → j.names ≡ k.names) → j ≡ k
one_in First j k h i e names =
    let same = lines_of_text First j k h i e in
    same_fields j k h i (names refl) (ap (line_at 1) same) (ap (line_at 2) same) (ap (line_at 3) same) (ap (line_at 4) same) (ap (line_at 5) same)
one_in Second j k h i e names =
    let same = lines_of_text Second j k h i e in
    same_fields j k h i (same_names j.names k.names (ap (line_at 2) same)) (ap (line_at 1) same) (ap (line_at 3) same) (ap (line_at 4) same) (ap (line_at 5) same) (ap (line_at 6) same)

-- no text is in both forms
one_form : (form other : Form) (j k : Journal) → text_in form j ≡ text_in other k → form ≡ other
one_form form other j k e =
    let one = text_begins form j in
    let two = text_begins other k in
    same_form form other one.0 two.0 (sym one.1 ∙ e ∙ two.1)

pub one_journal : (j k : Journal) (text : List ℕ) → IsJournal j → IsJournal k → IsTextOf j text → IsTextOf k text → j ≡ k
one_journal j k text h i (InSecond is) (InSecond also) = one_in Second j k h i (sym is ∙ also) (λ e. cc e)
one_journal j k text h i (InFirst same is) (InFirst same_too also) = one_in First j k h i (sym is ∙ also) (λ e. same ∙ sym same_too)
one_journal j k text h i (InSecond is) (InFirst same_too also) = let apart : Second ≡ First = one_form Second First j k (sym is ∙ also) in cc apart
one_journal j k text h i (InFirst same is) (InSecond also) = let apart : First ≡ Second = one_form First Second j k (sym is ∙ also) in cc apart

path_is_short : (path : Path) → IsParsed path → length (text_of path) ≤ 1024
path_is_short path h = subst (λ bs. length bs ≤ 1024) (sym (parsed_text path h)) (short h.text h.fits)
  where
    le : (n : ℕ) → nat_le n 1024 ≡ true → n ≤ 1024
    le n e = grind (arith)

    short : (text : List ℕ) → (not (nat_eq (length text) 0) && nat_le (length text) 1024 && list_all is_plain_byte text && list_all is_plain_part (parts_of text)) ≡ true → length text ≤ 1024
    short text fits =
        le (length text) (second_so (not (nat_eq (length text) 0)) (nat_le (length text) 1024)
        (first_so (not (nat_eq (length text) 0) && nat_le (length text) 1024) (list_all is_plain_byte text)
        (first_so (not (nat_eq (length text) 0) && nat_le (length text) 1024 && list_all is_plain_byte text) (list_all is_plain_part (parts_of text)) fits)))

phase_is_short : (phase : Phase) → length (phase_line phase) ≤ 14
phase_is_short Building = omega arith
phase_is_short Done = omega arith

names_are_short : (names : NameMap) → length (names_line names) ≤ 10
names_are_short Same = omega arith
names_are_short Nfc = omega arith

value_is_short : (front value : List ℕ) (k n most : ℕ) → length front ≡ k → length value ≤ n → k + n < most → length (front ++ value) < most
value_is_short front value k n most size small fits = omega (arith, length-append front value, size, small, fits)

-- each line has fewer bytes than that
abbrev AreShort : ℕ → List (List ℕ) → Type 0
AreShort n [] = Unit {0}
AreShort n (line ∷ lines) = (length line < n) × AreShort n lines

short_together : (n : ℕ) (lines : List (List ℕ)) → AreShort n lines → length (ended lines) ≤ n * length lines
short_together n [] h = omega arith
short_together n (line ∷ lines) h =
    let rest : length (ended lines) ≤ n * length lines = short_together n lines h.1 in
    let first : length line < n = h.0 in
    omega (arith, rest, first, length-append line (10 ∷ ended lines), mul-suc n (length lines))

lines_are_short : (form : Form) (j : Journal) → IsJournal j → AreShort 1030 (lines_of form j)
lines_are_short form j h = by form
  where
    digits : length (encode_lower j.plan) ≤ 64
    digits = omega (arith, length-encode_with lower_digits j.plan, h.plan.size)

    number : length (decimal j.items) ≤ 6
    number = length-decimal-le 6 j.items (omega arith) (omega (arith, h.items)) (omega (arith, h.items))

    rest_is_short : AreShort 1030 (from_line j.source ∷ to_line j.target ∷ items_line j.items ∷ plan_line j.plan ∷ [])
    rest_is_short = (
      value_is_short (codes "from ") (text_of j.source) 5 1024 1030 refl (path_is_short j.source h.source) (omega arith),
      (
        value_is_short (codes "to ") (text_of j.target) 3 1024 1030 refl (path_is_short j.target h.target) (omega arith),
        (value_is_short (codes "items ") (decimal j.items) 6 6 1030 refl number (omega arith), (value_is_short (codes "plan ") (encode_lower j.plan) 5 64 1030 refl digits (omega arith), tt)),
      ),
    )

    by : (form : Form) → AreShort 1030 (lines_of form j)
    by First = (omega arith, (omega (arith, phase_is_short j.phase), rest_is_short))
    by Second = (omega arith, (omega (arith, phase_is_short j.phase), (omega (arith, names_are_short j.names), rest_is_short)))

-- its texts are short
text_in_is_short : (form : Form) (j : Journal) → IsJournal j → length (text_in form j) ≤ 65536
text_in_is_short form j h =
    let whole : length (text_in form j) ≤ 1030 * length (lines_of form j) = short_together 1030 (lines_of form j) (lines_are_short form j h) in
    by form (counts form j) whole
  where
    by : (form : Form) → length (lines_of form j) ≡ line_count form → length (text_in form j) ≤ 1030 * length (lines_of form j) → length (text_in form j) ≤ 65536
    by First n whole = omega (arith, whole)
    by Second n whole = omega (arith, whole)

text_is_short : (j : Journal) (text : List ℕ) → IsJournal j → IsTextOf j text → length text ≤ 65536
text_is_short j text h (InSecond is) = subst (λ (t : List ℕ). length t ≤ 65536) (sym is) (text_in_is_short Second j h)
text_is_short j text h (InFirst same is) = subst (λ (t : List ℕ). length t ≤ 65536) (sym is) (text_in_is_short First j h)

pub read_back : (j : Journal) (text : List ℕ) (result : Result Journal JournalFault) → IsJournal j → IsTextOf j text → ReadsAs (Some text) result → GivesBack j result
read_back j text (Ok k) h is reads = sym (one_journal j k text h reads.0 is reads.1)
read_back j text (Err NoJournal) h is reads = reads
read_back j text (Err (BadJournal number)) h is reads = no_bad_line j text number h is reads.1
read_back j text (Err TooLarge) h is reads = (let short : length text ≤ 65536 = text_is_short j text h is in omega (arith, short, reads))
read_back j text (Err Failed) h is reads = tt
read_back j text (Err NoMemory) h is reads = tt

-- ---- in a folder

pub one_stands : (work : Path) (v : View) (j k : Journal) → IsJournal j → IsJournal k → StandsIn work j v → StandsIn work k v → j ≡ k
one_stands work v j k h i one other =
    let same : other.text ≡ one.text = (let files : FileOf other.text ≡ FileOf one.text = sym other.file ∙ one.file in cc) in
    one_journal j k one.text h i one.of (subst (IsTextOf k) same other.of)

pub found_back : (work : Path) (v : View) (j : Journal) (result : Result Journal JournalFault) → IsJournal j → StandsIn work j v → ReadsAs (journal_bytes v work) result → GivesBack j result
found_back work v j result h stands reads = read_back j stands.text result h stands.of (subst (λ found. ReadsAs (file_bytes found) result) stands.file reads)
