-- The shown form of a path reads as the path.
use Rattle.std.proofs.Common.{◌≡◌, ℕ, suc, ◌+◌, ◌*◌, ◌/◌, ◌%◌, ◌<◌, ◌≤◌, ◌==◌, Bool, true, false, not, cond, List, [], ◌∷◌, ◌++◌, length, map, Some, None, refl, sym, ap, ◌∙◌, append-nil, arith}
use Rattle.std.specs.Option.{option_map, option_and_then}
use Rattle.std.specs.List.{list_all, flat_map, All}
use Rattle.std.specs.Char.{digit_char}
use Rattle.std.specs.Str.{is_utf8}
use Rattle.std.proofs.lemmas.Bool.{and_parts, and_from}
use Rattle.std.proofs.lemmas.Bool.Decides.{nat_tests}
use Rattle.std.proofs.lemmas.List.{length-map}
use Rattle.std.proofs.lemmas.List.Folds.{list_all-append}
use Rattle.std.proofs.lemmas.List.Recursion.{and_at}
use Rattle.std.proofs.lemmas.List.Splits.{slice_split_none, slice_split_at}
use Rattle.plain_tree.specs.Names.{Path, is_name_byte, is_name}
use Rattle.plain_tree.specs.Shown.{escape, is_escaped, shown_byte, shown, shown_path}
use Rattle.plain_tree.specs.FirstByte.{byte_behind, first_written}
use Rattle.plain_tree.specs.Reading.{digit_of, byte_of, escaped_byte, written, before, read_name, read_names, read_path, parts_of}
use Rattle.plain_tree.proofs.Writing.{written-step, read_path-few}

digit_of-digit_char : (d : ℕ) → d < 16 → digit_of (digit_char d) ≡ Some d
digit_of-digit_char d h = grind (arith, nat_tests)

byte_of-digits : (byte : ℕ) → byte < 256 → byte_of (digit_char (byte / 16)) (digit_char (byte % 16)) ≡ Some byte
unfolding byte_of
byte_of-digits byte h =
    ap (option_and_then (λ h. option_map (λ l. h * 16 + l) (digit_of (digit_char (byte % 16))))) (digit_of-digit_char (byte / 16) (omega arith))
    ∙ ap (option_map (λ l. byte / 16 * 16 + l)) (digit_of-digit_char (byte % 16) (omega arith))
    ∙ ap Some (omega arith)

first_written-escape : (byte : ℕ) (text : List ℕ) → byte < 256 → first_written (escape byte ++ text) ≡ Some (byte, 4)
unfolding first_written byte_behind escaped_byte
first_written-escape byte text h = ap (option_map (λ value. (value, 4))) (byte_of-digits byte h)

first_written-plain : (byte : ℕ) (text : List ℕ) → (byte == 92) ≡ false → first_written (byte ∷ text) ≡ Some (byte, 1)
unfolding first_written
first_written-plain byte text e = rw e refl

plain_no_backslash : (utf8 : Bool) (byte : ℕ) → is_escaped utf8 byte ≡ false → (byte == 92) ≡ false
plain_no_backslash utf8 byte e = grind (arith, nat_tests)

-- what a byte is shown by writes the byte
written-shown_byte : (utf8 : Bool) (byte : ℕ) (text : List ℕ) → byte < 256 → written (shown_byte utf8 byte ++ text) ≡ option_map (λ rest. byte ∷ rest) (written text)
unfolding shown_byte
written-shown_byte utf8 byte text h = by (is_escaped utf8 byte) (plain_no_backslash utf8 byte)
  where
    by : (b : Bool) → (b ≡ false → (byte == 92) ≡ false) → written (cond b (escape byte) (byte ∷ []) ++ text) ≡ option_map (λ rest. byte ∷ rest) (written text)
    by true plain = written-step (escape byte ++ text) byte 3 (first_written-escape byte text h)
    by false plain = written-step (byte ∷ text) byte 0 (first_written-plain byte text (plain refl))

name_byte_fits : (byte : ℕ) → is_name_byte byte ≡ true → byte < 256
name_byte_fits byte e = grind (arith, nat_tests)

written-shown_bytes : (utf8 : Bool) (bytes : List ℕ) → list_all is_name_byte bytes ≡ true → written (flat_map (shown_byte utf8) bytes) ≡ Some bytes
written-shown_bytes utf8 [] h = refl
written-shown_bytes utf8 (byte ∷ bytes) h =
    let parts = and_parts (is_name_byte byte) (list_all is_name_byte bytes) h in
    written-shown_byte utf8 byte (flat_map (shown_byte utf8) bytes) (name_byte_fits byte parts.0)
    ∙ ap (option_map (λ rest. byte ∷ rest)) (written-shown_bytes utf8 bytes parts.1)

has_name_bytes : (name : List ℕ) → is_name name ≡ true → list_all is_name_byte name ≡ true
unfolding is_name
has_name_bytes name h = (and_parts _ (list_all is_name_byte name) (and_parts _ _ h).0).1

read_name-shown : (name : List ℕ) → is_name name ≡ true → read_name (shown name) ≡ Some name
unfolding read_name shown
read_name-shown name h =
    ap (option_and_then (λ bytes. cond (is_name bytes) (Some bytes) None)) (written-shown_bytes (is_utf8 name) name (has_name_bytes name h))
    ∙ ap (λ b. cond b (Some name) None) h

read_names-shown : (names : Path) → list_all is_name names ≡ true → read_names (map shown names) ≡ Some names
read_names-shown [] h = refl
read_names-shown (name ∷ names) h =
    let parts = and_parts (is_name name) (list_all is_name names) h in
    ap (λ value. before value (read_names (map shown names))) (read_name-shown name parts.0)
    ∙ ap (before (Some name)) (read_names-shown names parts.1)

-- ---- no slash is in the shown form of a name

abbrev is_no_slash : ℕ → Bool
is_no_slash byte = not (byte == 47)

digit_char_no_slash : (d : ℕ) → is_no_slash (digit_char d) ≡ true
digit_char_no_slash d = grind (arith, nat_tests)

name_byte_no_slash : (byte : ℕ) → is_name_byte byte ≡ true → is_no_slash byte ≡ true
name_byte_no_slash byte e = grind (arith, nat_tests)

shown_byte_no_slash : (utf8 : Bool) (byte : ℕ) → is_name_byte byte ≡ true → list_all is_no_slash (shown_byte utf8 byte) ≡ true
unfolding shown_byte
shown_byte_no_slash utf8 byte h = by (is_escaped utf8 byte)
  where
    by : (b : Bool) → list_all is_no_slash (cond b (escape byte) (byte ∷ [])) ≡ true
    by true = and_from _ _ (digit_char_no_slash (byte / 16)) (and_from _ _ (digit_char_no_slash (byte % 16)) refl)
    by false = and_from _ _ (name_byte_no_slash byte h) refl

shown_bytes_no_slash : (utf8 : Bool) (bytes : List ℕ) → list_all is_name_byte bytes ≡ true → list_all is_no_slash (flat_map (shown_byte utf8) bytes) ≡ true
shown_bytes_no_slash utf8 [] h = refl
shown_bytes_no_slash utf8 (byte ∷ bytes) h =
    let parts = and_parts (is_name_byte byte) (list_all is_name_byte bytes) h in
    list_all-append is_no_slash (shown_byte utf8 byte) (flat_map (shown_byte utf8) bytes)
    ∙ and_from _ _ (shown_byte_no_slash utf8 byte parts.0) (shown_bytes_no_slash utf8 bytes parts.1)

not_true : (b : Bool) → not b ≡ true → b ≡ false
not_true true e = sym e
not_true false e = refl

shown_no_slash : (name : List ℕ) → is_name name ≡ true → All (λ byte. (byte == 47) ≡ false) (shown name)
unfolding shown
shown_no_slash name h k d l =
    not_true _ (and_at (list_all is_no_slash) is_no_slash refl (λ _ _. refl) (shown name) k d l (shown_bytes_no_slash (is_utf8 name) name (has_name_bytes name h)))

-- so the slashes of a shown path part its names
parts_of-shown : (name : List ℕ) (names : Path) → is_name name ≡ true → list_all is_name names ≡ true → parts_of (shown name ++ flat_map (λ other. (47 ∷ []) ++ shown other) names) ≡ map shown (name ∷ names)
parts_of-shown name [] n h =
    ap parts_of (append-nil (shown name)) ∙ slice_split_none (λ byte. byte == 47) (shown name) (shown_no_slash name n)
parts_of-shown name (other ∷ names) n h =
    let parts = and_parts (is_name other) (list_all is_name names) h in
    slice_split_at (λ byte. byte == 47) (shown name) 47 (shown other ++ flat_map (λ other. (47 ∷ []) ++ shown other) names) (shown_no_slash name n) refl
    ∙ ap (λ rest. shown name ∷ rest) (parts_of-shown other names parts.0 parts.1)

not_zero : (n : ℕ) → (suc n == 0) ≡ false
not_zero n = grind (arith, nat_tests)

-- no path but the root's has the empty text, since no name is empty
read_path-from_names : (text : List ℕ) (names : Path) → length (parts_of text) ≤ 64 → read_names (parts_of text) ≡ Some names → read_path text ≡ Some names
unfolding read_name is_name
read_path-from_names [] names l e = cc
read_path-from_names (byte ∷ text) names l e = read_path-few (byte ∷ text) (not_zero (length text)) l ∙ e

pub reads_back : (names : Path) → list_all is_name names ≡ true → length names ≤ 64 → read_path (shown_path names) ≡ Some names
unfolding read_path shown_path
reads_back [] h l = refl
reads_back (name ∷ names) h l =
    let parts = and_parts (is_name name) (list_all is_name names) h in
    let parted = parts_of-shown name names parts.0 parts.1 in
    read_path-from_names (shown name ++ flat_map (λ other. (47 ∷ []) ++ shown other) names) (name ∷ names)
    (rw parted (omega (arith, length-map (name ∷ names) shown)))
    (ap read_names parted ∙ read_names-shown (name ∷ names) h)
