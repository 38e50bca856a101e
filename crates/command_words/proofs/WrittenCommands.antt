-- The arguments of a command are written by the kinds of its row.
use Rattle.std.proofs.Common.{◌≡◌, ◌≤◌, ℕ, Bool, List, [], ◌∷◌, Option, None, Some, IfSome, map, option_and_then, option_map, refl, subst, sym}
use Rattle.std.specs.Str.{bytes_eq}
use Rattle.std.specs.Prelude.{if◌then◌else◌, true, false}
use Rattle.folder_spec.specs.Path.{Path}
use Rattle.folder_model.specs.Text.{IsParsed}
use Rattle.command_words.specs.Commands.{command_by, demonstration_by, moving_by}
use Rattle.command_words.specs.Requests.{Request, request_in, request_of}
use Rattle.command_words.specs.Rows.{Row, kinds_of, row_in, row_named, row_of, verbs}
use Rattle.command_words.specs.Values.{folder_value, number_value, written}
use Rattle.command_words.specs.Written.{AllWritten, HasTexts, IsSmall, IsWritten}
use Rattle.command_words.specs.declared.commands.Command.{Command}
use Rattle.command_words.specs.declared.commands.Command.TheVariants as command
use Rattle.command_words.specs.declared.commands.Passes.{Passes}
use Rattle.command_words.specs.declared.rows.Kind.{Kind}
use Rattle.command_words.specs.declared.rows.Kind.TheVariants as kind
use Rattle.command_words.specs.declared.rows.Verb.{Verb}
use Rattle.command_words.specs.declared.rows.Verb.TheVariants as verb
use Rattle.command_words.specs.declared.values.Value.{Value}
use Rattle.command_words.specs.declared.values.Value.TheVariants as value

abbrev IsKnown : Command → Type 0
IsKnown command = HasTexts command × IsSmall command

path_parsed : (it : Value) → IsWritten kind.FolderPath it → IfSome (folder_value (Some it)) IsParsed
path_parsed (value.Folder path) written = written
path_parsed other written = _

number_within : (most : ℕ) (it : Value) → IsWritten (kind.Number most) it → IfSome (number_value (Some it)) (λ number. number ≤ most)
number_within most (value.Number number) written = written
number_within most other written = _

known_moving : (source target work : Option Path) (passes : Option Passes) (nfc : Option Bool) → IfSome source IsParsed → IfSome target IsParsed
    → IfSome (option_map command.Migrate (moving_by source target work passes nfc)) IsKnown
known_moving (Some source) (Some target) (Some work) (Some passes) (Some nfc) one other = ((one, other), tt)
known_moving source target work passes nfc one other = _

known_demonstration : (seed count : Option ℕ) → IfSome count (λ number. number ≤ 2000) → IfSome (option_map command.Demo (demonstration_by seed count)) IsKnown
known_demonstration (Some seed) (Some count) few = (tt, few)
known_demonstration seed count few = _

-- nothing is to be known of others
mapped : {A : Type 0} (make : A → Command) (made : Option A) → ((x : A) → IsKnown (make x)) → IfSome (option_map make made) IsKnown
mapped make None each = _
mapped make (Some x) each = each x

-- the command of values that are written by the kinds of its row
known : (verb : Verb) (values : List Value) → AllWritten (kinds_of (row_of verb)) values → IfSome (command_by verb values) IsKnown
known verb.Migrate [] written = absurd written
known verb.Migrate (source ∷ []) written = absurd written.1
known verb.Migrate (source ∷ target ∷ rest) written = known_moving _ _ _ _ _ (path_parsed source written.0) (path_parsed target written.1.0)
known verb.Demo [] written = absurd written
known verb.Demo (seed ∷ []) written = absurd written.1
known verb.Demo (seed ∷ count ∷ rest) written = known_demonstration _ _ (number_within 2000 count written.1.0)
known other values written = mapped _ _ (λ x. (tt, tt))

texts_of : (command : Option Command) → IfSome command IsKnown → IfSome command HasTexts
texts_of None known = _
texts_of (Some command) known = known.0

small_of : (command : Option Command) → IfSome command IsKnown → IfSome command IsSmall
small_of None known = _
small_of (Some command) known = known.1

-- a row of the table is that of its verb
verb_is : (verb : Verb) → (row_of verb).verb ≡ verb
verb_is verb.DecryptFile = refl
verb_is other = refl

in_table : (name : List ℕ) (some : List Verb) → IfSome (row_in name (map row_of some)) (λ row. row ≡ row_of row.verb)
in_table name [] = _
in_table name (verb ∷ more) = by (bytes_eq (row_of verb).name name) (in_table name more)
  where
    by : (here : Bool) → IfSome (row_in name (map row_of more)) (λ row. row ≡ row_of row.verb)
        → IfSome (if here then Some (row_of verb) else row_in name (map row_of more)) (λ row. row ≡ row_of row.verb)
    by true others = subst (λ it. row_of verb ≡ row_of it) (sym (verb_is verb)) refl
    by false others = others

of_table : (words : List (List ℕ)) → IfSome (request_of words) (λ request. request.row ≡ row_of request.row.verb)
of_table [] = _
of_table (name ∷ rest) = by_row (row_named name) (in_table name verbs)
  where
    by_values : (row : Row) → row ≡ row_of row.verb → (values : Option (List Value)) → IfSome {T = Request} (option_map (λ all. record { row = row; values = all }) values) (λ request. request.row ≡ row_of request.row.verb)
    by_values row is None = _
    by_values row is (Some values) = is

    by_row : (row : Option Row) → IfSome row (λ it. it ≡ row_of it.verb) → IfSome (option_and_then (request_in rest) row) (λ request. request.row ≡ row_of request.row.verb)
    by_row None is = _
    by_row (Some row) is = by_values row is (written row rest)

known_by : (request : Request) (words : List (List ℕ)) (command : Option Command) → Some request ≡ request_of words → AllWritten (kinds_of request.row) request.values
    → command ≡ command_by request.row.verb request.values → IfSome command IsKnown
known_by request words command is all made =
    let row = subst (λ it. IfSome it (λ known. known.row ≡ row_of known.row.verb)) (sym is) (of_table words) in
    subst (λ it. IfSome it IsKnown) (sym made) (known request.row.verb request.values (subst (λ it. AllWritten (kinds_of it) request.values) row all))

pub has_texts : (request : Request) (words : List (List ℕ)) (command : Option Command) → Some request ≡ request_of words → AllWritten (kinds_of request.row) request.values
    → command ≡ command_by request.row.verb request.values → IfSome command HasTexts
has_texts request words command is all made = texts_of command (known_by request words command is all made)

pub is_small : (request : Request) (words : List (List ℕ)) (command : Option Command) → Some request ≡ request_of words → AllWritten (kinds_of request.row) request.values
    → command ≡ command_by request.row.verb request.values → IfSome command IsSmall
is_small request words command is all made = small_of command (known_by request words command is all made)
