-- The numbers that words write.
use Rattle.std.specs.Prelude.{ℕ, Bool, ◌&&◌, ◌||◌, ◌==◌, not, List, length, slice_index, nat_le, if◌then◌else◌, Option, Some, None}
use Rattle.std.specs.List.{list_all}
use Rattle.std.specs.Str.Parse.{digits_value}

abbrev pub is_digit : ℕ → Bool
is_digit byte = nat_le 48 byte && nat_le byte 57

-- decimal digits without a leading zero, unless they are it alone
abbrev pub is_number : List ℕ → Bool
is_number word = not (length word == 0) && list_all is_digit word && (length word == 1 || not (slice_index word 0 == 48))

-- the number that a word writes, up to a limit
abbrev pub number_within : ℕ → List ℕ → Option ℕ
number_within most word = if is_number word && nat_le (digits_value 10 word) most then Some (digits_value 10 word) else None
