-- The shown form is text.
use Rattle.std.proofs.Common.{◌≡◌, ℕ, zero, suc, ◌<◌, ◌≤◌, ◌/◌, ◌%◌, ◌++◌, ◌∷◌, [], Bool, true, false, cond, List, length, get_or, Result, Ok, Err, refl, sym, ap, ◌∙◌, subst, arith, lit<, append-nil, ltb}
use Rattle.std.specs.Result.{MatchResult, is_ok}
use Rattle.std.specs.List.{flat_map}
use Rattle.std.specs.Char.{digit_char}
use Rattle.std.specs.Str.{IsUtf8, IsAscii, is_utf8}
use lib.Utf8.{encode, encodes, scalars, scalar}
use Rattle.std.proofs.lemmas.Str.{is_utf8-from_IsUtf8, IsUtf8-from_is_utf8, IsUtf8-from_ascii, IsUtf8-append, IsUtf8-nil, IsAscii-append, inside_one, encode_ascii}
use Rattle.std.proofs.lemmas.Str.Ascii.{IsAscii-nil}
use Rattle.std.specs.Cmp.{first_so, second_so}
use Rattle.std.proofs.lemmas.List.Concat.{flat_map-append}
use Rattle.std.proofs.lemmas.Bool.Decides.{nat_tests}
use Rattle.plain_tree.specs.Shown.{escape, is_escaped, shown_byte, shown}

false_from_not : (b : Bool) → ¬ (b ≡ true) → false ≡ b
false_from_not true h = absurd (h refl)
false_from_not false h = refl

-- what `from_utf8` answers is the test of its bytes
pub is_ok-from_utf8 : {T E : Type 0} (A : T → Type 0) (B : E → Type 0) (bytes : List ℕ) (r : Result T E) → MatchResult r (λ s. A s × IsUtf8 bytes) (λ e. ¬ (IsUtf8 bytes) × B e) → is_ok r ≡ is_utf8 bytes
is_ok-from_utf8 A B bytes (Ok s) h = sym (is_utf8-from_IsUtf8 bytes h.1)
is_ok-from_utf8 A B bytes (Err e) h = false_from_not _ (λ yes. h.0 (IsUtf8-from_is_utf8 bytes yes))

-- each is a byte
abbrev pub AreBytes : List ℕ → Type 0
AreBytes bytes = (k : ℕ) → get_or bytes k 0 < 256

IsAscii-cons : (x : ℕ) (xs : List ℕ) → x < 128 → IsAscii xs → IsAscii (x ∷ xs)
IsAscii-cons x xs h t zero = h
IsAscii-cons x xs h t (suc k) = t k

digit_char_ascii : (d : ℕ) → d < 16 → digit_char d < 128
digit_char_ascii d h = grind (arith, nat_tests)

IsAscii-escape : (byte : ℕ) → byte < 256 → IsAscii (escape byte)
IsAscii-escape byte h =
    let high = digit_char (byte / 16) in
    let low = digit_char (byte % 16) in
    IsAscii-cons 92 (120 ∷ high ∷ low ∷ []) (lit< tt)
    (IsAscii-cons 120 (high ∷ low ∷ []) (lit< tt)
    (IsAscii-cons high (low ∷ []) (digit_char_ascii (byte / 16) (omega arith))
    (IsAscii-cons low [] (digit_char_ascii (byte % 16) (omega arith)) IsAscii-nil)))

-- a byte that stands as it is only where it is ASCII is shown by ASCII
IsAscii-shown_byte : (utf8 : Bool) (byte : ℕ) → byte < 256 → (is_escaped utf8 byte ≡ false → byte < 128) → IsAscii (shown_byte utf8 byte)
unfolding shown_byte
IsAscii-shown_byte utf8 byte h stays = by (is_escaped utf8 byte) stays
  where
    by : (b : Bool) → (b ≡ false → byte < 128) → IsAscii (cond b (escape byte) (byte ∷ []))
    by true k = IsAscii-escape byte h
    by false k = IsAscii-cons byte [] (k refl) IsAscii-nil

plain_is_low : (byte : ℕ) → is_escaped false byte ≡ false → byte < 128
plain_is_low byte e = grind (arith, nat_tests)

-- so is each byte of bytes that aren't UTF-8
IsAscii-shown_bytes : (bytes : List ℕ) → AreBytes bytes → IsAscii (flat_map (shown_byte false) bytes)
IsAscii-shown_bytes [] h = IsAscii-nil
IsAscii-shown_bytes (byte ∷ bytes) h =
    IsAscii-append _ _ (IsAscii-shown_byte false byte (h zero) (plain_is_low byte)) (IsAscii-shown_bytes bytes (λ k. h (suc k)))

-- in bytes that are, a byte from 0x80 on stands as it is
high_stays : (byte : ℕ) → 128 ≤ byte → shown_byte true byte ≡ byte ∷ []
unfolding shown_byte
high_stays byte h =
    let e : is_escaped true byte ≡ false = grind (arith, nat_tests) in ap (λ b. cond b (escape byte) (byte ∷ [])) e

all_high_stay : (bytes : List ℕ) → ((k : ℕ) → k < length bytes → 128 ≤ get_or bytes k 0) → flat_map (shown_byte true) bytes ≡ bytes
all_high_stay [] h = refl
all_high_stay (byte ∷ bytes) h =
    ap (λ shown. shown ++ flat_map (shown_byte true) bytes) (high_stays byte (h zero (omega arith)))
    ∙ ap (λ rest. byte ∷ rest) (all_high_stay bytes (λ k l. h (suc k) (omega arith)))

encode_stays : (c : ℕ) → 128 ≤ c → flat_map (shown_byte true) (encode c) ≡ encode c
encode_stays c h =
    all_high_stay (encode c) (λ k l. let low = inside_one c [] (encode c) k (sym (append-nil (encode c))) l in grind arith)

-- the shown form of one character's bytes is text
IsUtf8-shown_char : (c : ℕ) → scalar c ≡ true → IsUtf8 (flat_map (shown_byte true) (encode c))
IsUtf8-shown_char c s = by (ltb c 128) refl
  where
    low : c < 128 → IsUtf8 (flat_map (shown_byte true) (encode c))
    low l =
        subst (λ bytes. IsUtf8 (flat_map (shown_byte true) bytes)) (sym (encode_ascii c l))
        (IsUtf8-append _ _ (IsUtf8-from_ascii _ (IsAscii-shown_byte true c (omega arith) (λ _. l))) IsUtf8-nil)

    high : 128 ≤ c → IsUtf8 (flat_map (shown_byte true) (encode c))
    high l = subst IsUtf8 (sym (encode_stays c l)) (c ∷ [], (s', append-nil (encode c)))
      where
        s' : scalars (c ∷ []) ≡ true
        s' = rw s refl

    by : (b : Bool) → ltb c 128 ≡ b → IsUtf8 (flat_map (shown_byte true) (encode c))
    by true e = low (grind (arith, nat_tests))
    by false e = high (grind (arith, nat_tests))

IsUtf8-shown_chars : (cs : List ℕ) → scalars cs ≡ true → IsUtf8 (flat_map (shown_byte true) (encodes cs))
IsUtf8-shown_chars [] h = IsUtf8-nil
IsUtf8-shown_chars (c ∷ cs) h =
    subst IsUtf8 (sym (flat_map-append (shown_byte true) (encode c) (encodes cs)))
    (IsUtf8-append _ _ (IsUtf8-shown_char c (first_so _ _ h)) (IsUtf8-shown_chars cs (second_so (scalar c) _ h)))

pub IsUtf8-shown : (bytes : List ℕ) → AreBytes bytes → IsUtf8 (shown bytes)
unfolding shown
IsUtf8-shown bytes h = by (is_utf8 bytes) refl
  where
    by : (b : Bool) → is_utf8 bytes ≡ b → IsUtf8 (flat_map (shown_byte b) bytes)
    by true e =
        let u = IsUtf8-from_is_utf8 bytes e in
        subst (λ text. IsUtf8 (flat_map (shown_byte true) text)) u.1.1 (IsUtf8-shown_chars u.0 u.1.0)
    by false e = IsUtf8-from_ascii _ (IsAscii-shown_bytes bytes h)
