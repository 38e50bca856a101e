-- Names and paths of the plain tree. Names are bytes and need not be text. A path is the list of its
-- names from the root down, and the root has none.
use Rattle.std.specs.Prelude.{ℕ, Bool, List, ◌==◌, ◌&&◌, ◌||◌, not, length, nat_lt, nat_le, codes}
use Rattle.std.specs.List.{list_all}
use Rattle.std.specs.Str.{bytes_eq, IsUtf8, chars}
use Rattle.unicode_normalization.specs.Forms.{IsInForm, Nfc}

abbrev pub Path : Type 0
Path = List (List ℕ)

-- a byte other than zero and the slash
abbrev pub is_name_byte : ℕ → Bool
is_name_byte byte = nat_lt byte 256 && not (byte == 0) && not (byte == 47)

-- `.` or `..`
abbrev pub is_dots : List ℕ → Bool
is_dots bytes = bytes_eq bytes (codes ".") || bytes_eq bytes (codes "..")

-- 1 to 255 bytes, no slash, no zero byte, and neither `.` nor `..`
unfoldable pub is_name : List ℕ → Bool
is_name bytes = nat_lt 0 (length bytes) && nat_le (length bytes) 255 && list_all is_name_byte bytes && not (is_dots bytes)

-- UTF-8, and in Unicode's normalization form C
abbrev pub IsNfc : List ℕ → Type 0
IsNfc bytes = IsUtf8 bytes × IsInForm Nfc (chars bytes)
