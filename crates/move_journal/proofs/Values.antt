-- Texts between newlines, and the values that have none.
use Rattle.std.proofs.Common.{◌≡◌, ◌≢◌, ℕ, ◌<◌, ◌≤◌, suc, Bool, true, false, not, nat_eq, ◌&&◌, nat_le, List, [], ◌∷◌, ◌++◌, length, get_or, refl, sym, ap, ◌∙◌, subst, decimal, Some, None, Option, Result, Ok, Err, MatchOption, IsFalse, IsOk, OnOk, ◌↔◌, ◌^◌, ◌*◌, arith, IsTrue, take, drop, take-append-drop, length-append, zero, ◌+◌, ◌/◌, ◌%◌}
use Rattle.std.specs.Cmp.{first_so, second_so}
use Rattle.std.specs.List.{list_all}
use Rattle.std.proofs.lemmas.Bool.{false≢true}
use Rattle.std.specs.Str.{bytes_eq, IsUtf8}
use Rattle.std.specs.Str.Parse.{ParsesUnsigned}
use Rattle.std.proofs.lemmas.Slice.Eq.{bytes_eq-Decides}
use Rattle.std.proofs.lemmas.List.Splits.{join_with_byte-slice_split}
use Rattle.std.proofs.lemmas.Fmt.{decimal_by_steps, IsAscii-decimal, parse-decimal}
use Rattle.std.proofs.lemmas.Str.{IsUtf8-from_ascii}
use Rattle.hex.specs.Hex.{encode_lower, encode_with, lower_digits, hex_digit_value, decode_sized, IsBytes}
use Rattle.hex.proofs.HexLemmas.{IsDigits-lower_digits, decode_sized-encode_lower}
use Rattle.folder_spec.specs.Path.{Path}
use Rattle.folder_model.specs.Text.{IsParsed, is_path_text, is_plain_byte, is_plain_part, parts_of, text_of}
use Rattle.move_journal.specs.Journal.{IsDigest}
use Rattle.move_journal.specs.Lines.{has_no_newline}

-- what comes after one front is one
pub same_rest : (front x y : List ℕ) → front ++ x ≡ front ++ y → x ≡ y
same_rest [] x y e = e
same_rest (a ∷ front) x y e = same_rest front x y cc

newline_first : (b : ℕ) (bs : List ℕ) → has_no_newline (b ∷ bs) ≡ true → 10 ≡ b → ⊥
newline_first b bs h e = let at_ten : has_no_newline (10 ∷ bs) ≡ true = subst (λ n. has_no_newline (n ∷ bs) ≡ true) (sym e) h in false≢true at_ten

-- a text has one first line
pub one_line : (a b x y : List ℕ) → has_no_newline a ≡ true → has_no_newline b ≡ true → a ++ 10 ∷ x ≡ b ++ 10 ∷ y → (a ≡ b) × (x ≡ y)
one_line [] [] x y p q e = (refl, cc)
one_line [] (b ∷ bs) x y p q e = absurd (newline_first b bs q cc)
one_line (a ∷ front) [] x y p q e = absurd (newline_first a front p cc)
one_line (a ∷ front) (b ∷ bs) x y p q e =
    let heads : a ≡ b = cc in
    let more : (front ≡ bs) × (x ≡ y) = one_line front bs x y (second_so (not (nat_eq a 10)) (has_no_newline front) p) (second_so (not (nat_eq b 10)) (has_no_newline bs) q) cc in
    (let tails : front ≡ bs = more.0 in cc, more.1)

pub no_newline-append : (xs ys : List ℕ) → has_no_newline xs ≡ true → has_no_newline ys ≡ true → has_no_newline (xs ++ ys) ≡ true
no_newline-append [] ys p q = q
no_newline-append (x ∷ xs) ys p q =
    rw (first_so (not (nat_eq x 10)) (has_no_newline xs) p) (no_newline-append xs ys (second_so (not (nat_eq x 10)) (has_no_newline xs) p) q)

not_ten : (b : ℕ) → b ≢ 10 → not (nat_eq b 10) ≡ true
not_ten b apart = grind (arith)

no_newline-cons : (b : ℕ) (bs : List ℕ) → b ≢ 10 → has_no_newline bs ≡ true → has_no_newline (b ∷ bs) ≡ true
no_newline-cons b bs apart rest = rw (not_ten b apart) rest

plain_is_not_ten : (b : ℕ) → is_plain_byte b ≡ true → b ≢ 10
plain_is_not_ten b h e = false≢true (subst (λ n. is_plain_byte n ≡ true) e h)

plain_has_no_newline : (bs : List ℕ) → list_all is_plain_byte bs ≡ true → has_no_newline bs ≡ true
plain_has_no_newline [] h = refl
plain_has_no_newline (b ∷ bs) h =
    no_newline-cons b bs (plain_is_not_ten b (first_so (is_plain_byte b) (list_all is_plain_byte bs) h)) (plain_has_no_newline bs (second_so (is_plain_byte b) (list_all is_plain_byte bs) h))

-- a text gives a path whose text it is
pub text_of-parts_of : (text : List ℕ) → text_of (parts_of text) ≡ text
text_of-parts_of text = join_with_byte-slice_split 47 text

pub parsed_text : (path : Path) (h : IsParsed path) → text_of path ≡ h.text
parsed_text path h = ap text_of h.is ∙ text_of-parts_of h.text

-- the values of the lines
abbrev pub IsPathText : List ℕ → Type 0
IsPathText value = (path : Path) × IsParsed path × (value ≡ text_of path)

abbrev pub IsItemsText : List ℕ → Type 0
IsItemsText value = (items : ℕ) × (items ≤ 200000) × (value ≡ decimal items)

abbrev pub IsPlanText : List ℕ → Type 0
IsPlanText value = (plan : List ℕ) × IsDigest plan × (value ≡ encode_lower plan)

pub path_has_no_newline : (value : List ℕ) → IsPathText value → has_no_newline value ≡ true
path_has_no_newline value h =
    let text = h.1.text in
    let plain : list_all is_plain_byte text ≡ true =
    second_so (not (nat_eq (length text) 0) && nat_le (length text) 1024) (list_all is_plain_byte text)
    (first_so (not (nat_eq (length text) 0) && nat_le (length text) 1024 && list_all is_plain_byte text) (list_all is_plain_part (parts_of text)) h.1.fits) in
    subst (λ bs. has_no_newline bs ≡ true) (sym (h.2 ∙ parsed_text h.0 h.1)) (plain_has_no_newline text plain)

pub items_have_no_newline : (value : List ℕ) → IsItemsText value → has_no_newline value ≡ true
items_have_no_newline value h =
    subst (λ bs. has_no_newline bs ≡ true) (sym h.2)
    (decimal_by_steps (λ n bs. has_no_newline bs ≡ true) (λ n small. no_newline-cons (48 + n) [] (λ e. omega arith) refl)
    (λ n ds large before. no_newline-append ds ((48 + n % 10) ∷ []) before (no_newline-cons (48 + n % 10) [] (λ e. omega arith) refl))
    h.0 (let small : h.0 ≤ 200000 = h.1 in omega arith))

digit_is_not_ten : (d : ℕ) → d < 16 → get_or lower_digits d 0 ≢ 10
digit_is_not_ten d small e =
    let read : hex_digit_value 10 ≡ Some d = subst (λ n. hex_digit_value n ≡ Some d) e (IsDigits-lower_digits d small) in cc read

hex_has_no_newline : (plan : List ℕ) → IsBytes plan → has_no_newline (encode_lower plan) ≡ true
unfolding encode_with
hex_has_no_newline [] bytes = refl
hex_has_no_newline (b ∷ plan) bytes =
    let small : b < 256 = bytes 0 in
    let high : b / 16 < 16 = omega arith in
    let low : b % 16 < 16 = omega arith in
    no_newline-cons (get_or lower_digits (b / 16) 0) (get_or lower_digits (b % 16) 0 ∷ encode_lower plan) (digit_is_not_ten (b / 16) high)
    (no_newline-cons (get_or lower_digits (b % 16) 0) (encode_lower plan) (digit_is_not_ten (b % 16) low) (hex_has_no_newline plan (λ i. bytes (suc i))))

pub plan_has_no_newline : (value : List ℕ) → IsPlanText value → has_no_newline value ≡ true
plan_has_no_newline value h = subst (λ bs. has_no_newline bs ≡ true) (sym h.2) (hex_has_no_newline h.0 h.1.bytes)

-- a text whose next value is none of these has no such value
pub other_value : (front value more text : List ℕ) (Is : List ℕ → Type 0) → text ≡ front ++ (value ++ 10 ∷ more) → has_no_newline value ≡ true
    → ((w : List ℕ) → Is w → has_no_newline w ≡ true) → ((w : List ℕ) → Is w → value ≢ w) → (w rest : List ℕ) → Is w → text ≢ front ++ (w ++ 10 ∷ rest)
other_value front value more text Is begins plain all_plain apart w rest is e =
    apart w is (one_line value w more rest plain (all_plain w is) (same_rest front (value ++ 10 ∷ more) (w ++ 10 ∷ rest) (sym begins ∙ e))).0

pub take_front : (front rest : List ℕ) → take (length front) (front ++ rest) ≡ front
take_front [] rest = refl
take_front (a ∷ front) rest = ap (λ l. a ∷ l) (take_front front rest)

-- of a front that is not there
pub front_absent : (text front : List ℕ) → bytes_eq (take (length front) text) front ≡ false → (rest : List ℕ) → text ≢ front ++ rest
front_absent text front h rest e =
    let same : take (length front) text ≡ front = ap (take (length front)) e ∙ take_front front rest in
    let yes_ : bytes_eq (take (length front) text) front ≡ true = (bytes_eq-Decides (take (length front) text) front).1 same in cc

-- and of one that is
pub front_there : (text front rest : List ℕ) → bytes_eq (take (length front) text) front ≡ true → rest ≡ drop (length front) text → text ≡ front ++ rest
front_there text front rest h e =
    let same : take (length front) text ≡ front = (bytes_eq-Decides (take (length front) text) front).0 h in
    sym (take-append-drop (length front) text) ∙ ap (λ x. x ++ drop (length front) text) same ∙ ap (λ x. front ++ x) (sym e)

-- no newline at any place
pub plain_by_place : (xs : List ℕ) → ((k : ℕ) → k < length xs → get_or xs k 0 ≢ 10) → has_no_newline xs ≡ true
plain_by_place [] h = refl
plain_by_place (x ∷ xs) h = no_newline-cons x xs (h 0 (omega arith)) (plain_by_place xs (λ k small. h (suc k) (omega arith)))

-- a text without a newline has no first line
pub no_first_line : (text : List ℕ) → ((k : ℕ) → k < length text → get_or text k 0 ≢ 10) → (line rest : List ℕ) → text ≢ line ++ 10 ∷ rest
no_first_line text h line rest e =
    h (length line) (omega (arith, ap length e, length-append line (10 ∷ rest))) (ap (λ l. get_or l (length line) 0) e ∙ at_end line)
  where
    at_end : (line : List ℕ) → get_or (line ++ 10 ∷ rest) (length line) 0 ≡ 10
    at_end [] = refl
    at_end (b ∷ line) = at_end line

-- the first line of a text with a newline
pub first_line : (text : List ℕ) (place : ℕ) → place < length text → get_or text place 0 ≡ 10 → text ≡ take place text ++ 10 ∷ drop (place + 1) text
first_line [] place small at_place = absurd (omega arith)
first_line (b ∷ text) zero small at_place = ap (λ x. x ∷ text) at_place
first_line (b ∷ text) (suc place) small at_place =
    let next : suc place + 1 ≡ suc (place + 1) = omega arith in rw next (ap (λ l. b ∷ l) (first_line text place (omega arith) at_place))

pub first_line_plain : (text : List ℕ) (place : ℕ) → ((k : ℕ) → k < place → get_or text k 0 ≢ 10) → has_no_newline (take place text) ≡ true
first_line_plain [] zero h = refl
first_line_plain [] (suc place) h = refl
first_line_plain (b ∷ text) zero h = refl
first_line_plain (b ∷ text) (suc place) h = no_newline-cons b (take place text) (h 0 (omega arith)) (first_line_plain text place (λ k small. h (suc k) (omega arith)))

-- an answer that says more
pub found_also : {A : Type 0} {P P' : Type 0} {Q Q' : A → Type 0} (o : Option A) → (P → P') → ((a : A) → Q a → Q' a) → MatchOption o P Q → MatchOption o P' Q'
found_also None none some h = none h
found_also (Some a) none some h = some a h

-- after a front that is there
pub no_value_after : (text front after : List ℕ) → text ≡ front ++ after → ((line rest : List ℕ) → after ≢ line ++ 10 ∷ rest) → (value rest : List ℕ) → text ≢ front ++ (value ++ 10 ∷ rest)
no_value_after text front after begins none value rest e = none value rest (same_rest front after (value ++ 10 ∷ rest) (sym begins ∙ e))

pub parsed : (value text : List ℕ) (path : Path) → text ≡ value → IsUtf8 value → IsTrue (is_path_text text) → path ≡ parts_of text → IsParsed path × (value ≡ text_of path)
parsed value text path same utf8 fits is =
    (record { text = text; utf8 = subst IsUtf8 (sym same) utf8; fits = fits; is = is }, sym same ∙ sym (text_of-parts_of text) ∙ ap text_of (sym is))

pub not_utf8_path : (value : List ℕ) → ¬ IsUtf8 value → (path : Path) → IsParsed path → value ≢ text_of path
not_utf8_path value no_ path h e = no_ (subst IsUtf8 (sym (e ∙ parsed_text path h)) h.utf8)

pub not_parsed : (value text : List ℕ) → text ≡ value → IsFalse (is_path_text text) → (path : Path) → IsParsed path → value ≢ text_of path
not_parsed value text same no_ path h e = false≢true (sym no_ ∙ ap is_path_text (same ∙ e ∙ parsed_text path h) ∙ h.fits)

pub not_utf8_items : (value : List ℕ) → ¬ IsUtf8 value → (items : ℕ) → items ≤ 200000 → value ≢ decimal items
not_utf8_items value no_ items small e =
    let fits : items < 2 ^ 64 = omega arith in no_ (subst IsUtf8 (sym e) (IsUtf8-from_ascii (decimal items) (IsAscii-decimal items fits)))

pub items_parsed : {E : Type 0} (text value : List ℕ) (r : Result ℕ E) → ParsesUnsigned 64 10 text r → text ≡ value → (items : ℕ) → items ≤ 200000 → value ≡ decimal items → r ≡ Ok items
items_parsed text value r parses same items small e =
    let fits : items < 2 ^ 64 = omega arith in parse-decimal 64 items text r fits fits (same ∙ e) parses

pub plan_decoded : (value plan : List ℕ) → IsDigest plan → value ≡ encode_lower plan → decode_sized value 32 ≡ Ok plan
plan_decoded value plan digest e = ap (λ bytes. decode_sized bytes 32) e ∙ decode_sized-encode_lower plan 32 digest.size digest.bytes

pub texts_differ : (a b : List ℕ) (r : Bool) → r ≡ bytes_eq a b → r ≡ false → a ≢ b
texts_differ a b r is no_ e = false≢true (sym no_ ∙ is ∙ (bytes_eq-Decides a b).1 e)

-- what was written where there was room for it
pub written : {E : Type 0} (r : Result (Unit {0}) E) (room : ℕ) (out bytes : List ℕ) → IsOk r ↔ (room ≡ 2 * length bytes) → OnOk r (out ≡ encode_lower bytes) → room ≡ 2 * length bytes → out ≡ encode_lower bytes
written (Ok _) room out bytes fits is enough = is
written (Err e) room out bytes fits is enough = absurd (false≢true (fits.1 enough))
