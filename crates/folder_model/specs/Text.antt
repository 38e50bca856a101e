-- Folder paths as text: parts joined by a slash.
use Rattle.std.specs.Prelude.{◌≡◌, ℕ, Bool, List, [], ◌∷◌, ◌==◌, ◌&&◌, ◌||◌, not, length, nat_le, IsTrue}
use Rattle.std.specs.List.{list_all, slice_split, join_with_byte}
use Rattle.std.specs.Str.{IsUtf8, bytes_eq}
use Rattle.folder_spec.specs.Path.{Path}

-- no control character
abbrev pub is_plain_byte : ℕ → Bool
is_plain_byte b = nat_le 0x20 b && not (b == 0x7f)

-- not empty, `.` or `..`
abbrev pub is_plain_part : List ℕ → Bool
is_plain_part part = not (length part == 0 || bytes_eq part (46 ∷ []) || bytes_eq part (46 ∷ 46 ∷ []))

-- what stands between the slashes
abbrev pub parts_of : List ℕ → Path
parts_of text = slice_split (λ b. b == 47) text

-- the parts joined by slashes
abbrev pub text_of : Path → List ℕ
text_of path = join_with_byte 47 path

-- a text that is a path: of 1 to 1,024 bytes, no control character among them, and of plain parts
abbrev pub is_path_text : List ℕ → Bool
is_path_text text = not (length text == 0) && nat_le (length text) 1024 && list_all is_plain_byte text && list_all is_plain_part (parts_of text)

-- a path that some text gives
pub record IsParsed (path : Path) : Type 0 where
  pub text : List ℕ
  pub utf8 : IsUtf8 text
  pub fits : IsTrue (is_path_text text)
  pub is : path ≡ parts_of text
