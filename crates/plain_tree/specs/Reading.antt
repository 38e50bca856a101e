-- Reading a shown form. The empty text is the root. In any other the slashes part the names, `\xHH` with
-- lower-case digits writes a byte, and each other byte writes itself. A backslash that begins no such
-- escape, a part that writes no name, and more than 64 parts make the text no path.
use Rattle.std.specs.Prelude.{ℕ, ◌+◌, ◌*◌, ◌-◌, ◌==◌, ◌&&◌, nat_lt, nat_le, List, [], ◌∷◌, length, if◌then◌else◌, Option, None, Some, option_map}
use Rattle.std.specs.Option.{option_and_then}
use Rattle.std.specs.List.{slice_split}
use Rattle.plain_tree.specs.Names.{Path, is_name}

-- the value of a lower-case hexadecimal digit
abbrev pub digit_of : ℕ → Option ℕ
digit_of c =
    if nat_le 48 c && nat_le c 57 then Some (c - 48)
    else if nat_le 97 c && nat_le c 102 then Some (c - 87)
    else None

-- a value before the others, where all are there
abbrev pub before : {A : Type 0} → Option A → Option (List A) → Option (List A)
before None others = None
before (Some value) None = None
before (Some value) (Some others) = Some (value ∷ others)

-- the byte of two digits
unfoldable pub byte_of : ℕ → ℕ → Option ℕ
byte_of high low = option_and_then (λ h. option_map (λ l. h * 16 + l) (digit_of low)) (digit_of high)

-- the byte that a backslash writes with the three bytes behind it
unfoldable pub escaped_byte : ℕ → ℕ → ℕ → Option ℕ
escaped_byte x high low = if x == 120 then byte_of high low else None

-- the bytes that a text writes
abbrev pub written : List ℕ → Option (List ℕ)
written (byte ∷ x ∷ high ∷ low ∷ text) =
    if byte == 92 then before (escaped_byte x high low) (written text)
    else before (Some byte) (written (x ∷ high ∷ low ∷ text))
written (byte ∷ text) = if byte == 92 then None else before (Some byte) (written text)
written [] = Some []

-- the name that a part writes
unfoldable pub read_name : List ℕ → Option (List ℕ)
read_name part = option_and_then (λ bytes. if is_name bytes then Some bytes else None) (written part)

abbrev pub read_names : List (List ℕ) → Option Path
read_names [] = Some []
read_names (part ∷ parts) = before (read_name part) (read_names parts)

abbrev pub parts_of : List ℕ → List (List ℕ)
parts_of text = slice_split (λ byte. byte == 47) text

-- the path that a text writes
unfoldable pub read_path : List ℕ → Option Path
read_path text =
    if length text == 0 then Some []
    else if nat_lt 64 (length (parts_of text)) then None
    else read_names (parts_of text)
