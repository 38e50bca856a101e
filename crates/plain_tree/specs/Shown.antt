-- The shown form of names and paths, which is text whatever their bytes are. In bytes that are UTF-8 each
-- byte below 0x20, the byte 0x7F and the backslash are written `\xHH` with two lower-case hexadecimal
-- digits, and all else stands as it is. In other bytes each byte from 0x80 on is written so too.
use Rattle.std.specs.Prelude.{ℕ, ◌/◌, ◌%◌, ◌==◌, ◌||◌, ◌&&◌, Bool, not, nat_lt, nat_le, List, [], ◌∷◌, if◌then◌else◌}
use Rattle.std.specs.List.{flat_map, join_by}
use Rattle.std.specs.Char.{digit_char}
use Rattle.std.specs.Str.{is_utf8}
use Rattle.plain_tree.specs.Names.{Path}

-- `\xHH`
abbrev pub escape : ℕ → List ℕ
escape byte = 92 ∷ 120 ∷ digit_char (byte / 16) ∷ digit_char (byte % 16) ∷ []

-- whether a byte is written so, in bytes that are UTF-8 or are not
abbrev pub is_escaped : Bool → ℕ → Bool
is_escaped utf8 byte = nat_lt byte 0x20 || byte == 0x7f || byte == 92 || (not utf8 && nat_le 0x80 byte)

unfoldable pub shown_byte : Bool → ℕ → List ℕ
shown_byte utf8 byte = if is_escaped utf8 byte then escape byte else byte ∷ []

unfoldable pub shown : List ℕ → List ℕ
shown bytes = flat_map (shown_byte (is_utf8 bytes)) bytes

-- the names of a path so, with a slash between each two; the root is the empty text
unfoldable pub shown_path : Path → List ℕ
shown_path names = join_by shown (47 ∷ []) names
