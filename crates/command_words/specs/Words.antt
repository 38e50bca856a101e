-- The words of the command line.
--
-- The first word is the command's name. Of the others, before a word `--`, each that begins with `-` and has more characters is an
-- option: `--name=VALUE`, or `--name` with its value in the next word, which doesn't begin with `-`; one of the command's flags takes no
-- next word. All other words there, and each behind the `--`, are positional, in their order.
use Rattle.std.specs.Prelude.{ℕ, Bool, false, ◌==◌, ◌&&◌, ◌||◌, not, List, [], ◌∷◌, ◌++◌, nat_lt, length, codes, if◌then◌else◌, Option, None, Some}
use Rattle.std.specs.List.{before_first, after_first, list_any, position_or_len}
use Rattle.std.specs.Str.{bytes_eq}

abbrev pub begins_with_dash : List ℕ → Bool
begins_with_dash [] = false
begins_with_dash (byte ∷ rest) = byte == 45

abbrev pub is_option : List ℕ → Bool
is_option word = begins_with_dash word && nat_lt 1 (length word)

abbrev pub ends_options : List ℕ → Bool
ends_options word = bytes_eq word (codes "--")

abbrev pub is_equals : ℕ → Bool
is_equals byte = byte == 61

abbrev pub has_value : List ℕ → Bool
has_value word = nat_lt (position_or_len is_equals word) (length word)

-- a name is one of these
abbrev pub is_among : List ℕ → List (List ℕ) → Bool
is_among name names = list_any (λ each. bytes_eq each name) names

-- an option of the command line, and its value, if it has one
pub record Choice : Type 0 where
  pub name : List ℕ
  pub value : Option (List ℕ)

-- the next word as an option's value
abbrev pub value_in : List (List ℕ) → Option (List ℕ)
value_in [] = None
value_in (next ∷ rest) = if begins_with_dash next then None else Some next

abbrev pub value_behind : List (List ℕ) → List ℕ → List (List ℕ) → Option (List ℕ)
value_behind flags word rest = if is_among word flags then None else value_in rest

-- the option that a word is, by the words behind it
abbrev pub choice_of : List (List ℕ) → List ℕ → List (List ℕ) → Choice
choice_of flags word rest =
    record { name = before_first is_equals word; value = if has_value word then Some (after_first is_equals word) else value_behind flags word rest }

-- the options among words, in order
abbrev pub choices_in : List (List ℕ) → List (List ℕ) → List Choice
choices_in flags [] = []
choices_in flags (word ∷ rest) = if is_option word then choice_of flags word rest ∷ choices_in flags rest else choices_in flags rest

-- the next word is the value of this one
abbrev pub takes_next : List (List ℕ) → List ℕ → Bool
takes_next flags word = is_option word && not (has_value word) && not (is_among word flags)

-- the words that are neither options nor their values; whether the first is the value of the word before it
abbrev pub positional_in : List (List ℕ) → Bool → List (List ℕ) → List (List ℕ)
positional_in flags taken [] = []
positional_in flags taken (word ∷ rest) =
    if taken || is_option word then positional_in flags (takes_next flags word) rest else word ∷ positional_in flags (takes_next flags word) rest

-- what stands behind a command's name
pub record Arguments : Type 0 where
  pub choices : List Choice
  pub positional : List (List ℕ)

abbrev pub before_end : List (List ℕ) → List (List ℕ)
before_end words = before_first ends_options words

abbrev pub behind_end : List (List ℕ) → List (List ℕ)
behind_end words = after_first ends_options words

-- the options and positional words behind the name of a command with these flags
abbrev pub arguments_of : List (List ℕ) → List (List ℕ) → Arguments
arguments_of flags words =
    record { choices = choices_in flags (before_end words); positional = positional_in flags false (before_end words) ++ behind_end words }
