-- What words write, by their kinds, and what the words behind a command's name write, by its row.
use Rattle.std.specs.Prelude.{ℕ, suc, Bool, true, false, ◌==◌, ◌&&◌, ◌||◌, List, [], ◌∷◌, ◌++◌, codes, map, nat_le, if◌then◌else◌, Option, None, Some, option_map, option_and_then}
use Rattle.std.specs.List.{list_all}
use Rattle.std.specs.Str.{bytes_eq}
use Rattle.std.specs.Result.{result_ok}
use Rattle.folder_model.specs.Text.{is_path_text, parts_of}
use Rattle.folder_spec.specs.Path.{Path}
use Rattle.hex.specs.Hex.{decode_sized}
use Rattle.plain_tree.specs.Names as plain
use Rattle.plain_tree.specs.Reading.{read_path}
use Rattle.command_words.specs.Numbers.{number_within}
use Rattle.command_words.specs.Rows.{Row, Valued}
use Rattle.command_words.specs.Words.{Arguments, Choice, arguments_of, is_among}
use Rattle.command_words.specs.declared.rows.Kind.{Kind}
use Rattle.command_words.specs.declared.rows.Kind.TheVariants as kind
use Rattle.command_words.specs.declared.values.Format.{Format}
use Rattle.command_words.specs.declared.values.Format.TheVariants.{Gocryptfs, Cryptomator, CryptomatorCtrMac}
use Rattle.command_words.specs.declared.values.Value.{Value}
use Rattle.command_words.specs.declared.values.Value.TheVariants as value

-- the folder path that a word writes
abbrev pub folder_path : List ℕ → Option Path
folder_path word = if is_path_text word then Some (parts_of word) else None

-- the format of vaults that a word names
abbrev pub format_of : List ℕ → Option Format
format_of word =
    if bytes_eq word (codes "gocryptfs") then Some Gocryptfs
    else if bytes_eq word (codes "cryptomator") then Some Cryptomator
    else if bytes_eq word (codes "cryptomator-ctrmac") then Some CryptomatorCtrMac
    else None

-- the 32 bytes that 64 hexadecimal digits of either case write
abbrev pub key_of : List ℕ → Option (List ℕ)
key_of text = result_ok (decode_sized text 32)

-- what a word writes, by its kind
abbrev pub value_by : Kind → List ℕ → Option Value
value_by kind.FolderPath word = option_map value.Folder (folder_path word)
value_by kind.PlainPath word = option_map value.Plain (read_path word)
value_by kind.PlainPathOrRoot word = option_map value.Plain (read_path word)
value_by kind.Format word = option_map value.Format (format_of word)
value_by kind.Key word = option_map value.Key (key_of word)
value_by (kind.Number most) word = option_map value.Number (number_within most word)

abbrev pub joined : {T : Type 0} → Option T → Option (List T) → Option (List T)
joined (Some first) (Some rest) = Some (first ∷ rest)
joined _ _ = None

-- a last word of this kind may be left out; it is read as the empty text then, which writes the root
abbrev pub may_lack : Kind → List Kind → Bool
may_lack kind.PlainPathOrRoot [] = true
may_lack _ _ = false

-- what positional words write
abbrev pub values_of : List Kind → List (List ℕ) → Option (List Value)
values_of [] [] = Some []
values_of [] (word ∷ words) = None
values_of (kind ∷ kinds) [] = if may_lack kind kinds then joined (value_by kind []) (values_of kinds []) else None
values_of (kind ∷ kinds) (word ∷ words) = joined (value_by kind word) (values_of kinds words)

-- the value of the first option of this name, if it has one
abbrev pub value_named : List ℕ → List Choice → Option (List ℕ)
value_named name [] = None
value_named name (choice ∷ choices) = if bytes_eq choice.name name then choice.value else value_named name choices

-- what the values of options write
abbrev pub option_values : List Choice → List Valued → Option (List Value)
option_values choices [] = Some []
option_values choices (valued ∷ rest) =
    joined (option_and_then (value_by valued.kind) (value_named valued.name choices)) (option_values choices rest)

-- how many options have this name
abbrev pub times : List ℕ → List Choice → ℕ
times name [] = 0
times name (choice ∷ choices) = if bytes_eq choice.name name then suc (times name choices) else times name choices

abbrev pub has_none : Choice → Bool
has_none choice = is_none choice.value
  where
    is_none : Option (List ℕ) → Bool
    is_none None = true
    is_none (Some value) = false

-- an option is one of the row's, or one of its flags, without a value
abbrev pub is_of : Row → Choice → Bool
is_of row choice = is_among choice.name (map (λ valued. valued.name) row.options) || (is_among choice.name row.flags && has_none choice)

-- the options are the row's, each once, and flags of the row, each once at most
abbrev pub fits : Row → List Choice → Bool
fits row choices =
    list_all (λ valued. times valued.name choices == 1) row.options
    && list_all (λ flag. nat_le (times flag choices) 1) row.flags
    && list_all (λ choice. is_of row choice) choices

-- which flags are there
abbrev pub flag_values : List Choice → List (List ℕ) → List Value
flag_values choices flags = map (λ flag. value.Flag (times flag choices == 1)) flags

abbrev pub together : List Value → Option (List Value) → Option (List Value) → Option (List Value)
together flags (Some words) (Some options) = Some (words ++ options ++ flags)
together flags _ _ = None

-- what arguments write: the positional words, then the options and then the flags, in the order of the row
abbrev pub values_in : Row → Arguments → Option (List Value)
values_in row arguments =
    if fits row arguments.choices
    then together (flag_values arguments.choices row.flags) (values_of row.words arguments.positional) (option_values arguments.choices row.options)
    else None

-- what the words behind the name of a row's command write
abbrev pub written : Row → List (List ℕ) → Option (List Value)
written row words = values_in row (arguments_of row.flags words)

-- what a value is

abbrev pub folder_value : Option Value → Option Path
folder_value (Some (value.Folder path)) = Some path
folder_value _ = None

abbrev pub plain_value : Option Value → Option plain.Path
plain_value (Some (value.Plain path)) = Some path
plain_value _ = None

abbrev pub format_value : Option Value → Option Format
format_value (Some (value.Format format)) = Some format
format_value _ = None

abbrev pub key_value : Option Value → Option (List ℕ)
key_value (Some (value.Key key)) = Some key
key_value _ = None

abbrev pub number_value : Option Value → Option ℕ
number_value (Some (value.Number number)) = Some number
number_value _ = None

abbrev pub flag_value : Option Value → Option Bool
flag_value (Some (value.Flag there)) = Some there
flag_value _ = None
