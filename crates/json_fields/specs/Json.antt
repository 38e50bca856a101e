-- What stands at a name of a JSON object, where it has a form.
use Rattle.std.specs.Prelude.{ℕ, List, [], ◌∷◌, is_some, if◌then◌else◌, Option, Some, None, option_map, option_and_then}
use Rattle.std.specs.Str.{is_utf8}
use Rattle.serde_json.specs.Data.{Data, Items, no_items, item}
use Rattle.serde_json.specs.Read.{read}
use Rattle.serde_json.specs.Find.{get, as_number, as_u64, as_str, as_array, as_object}
use Rattle.json_fields.specs.declared.base64_text.Alphabet.{Alphabet}
use Rattle.json_fields.specs.Base64.{decoded_by}

-- the value, where it is an object
abbrev pub object_of : Data → Option Data
object_of d = if is_some (as_object d) then Some d else None

-- the object that some bytes are the JSON text of, in UTF-8
abbrev pub json_object : List ℕ → Option Data
json_object bytes = if is_utf8 bytes then option_and_then object_of (read bytes) else None

-- the texts of an array, where each of its items is one
abbrev pub texts_of : Items → Option (List (List ℕ))
texts_of no_items = Some []
texts_of (item d ds) =
    option_and_then (λ text. option_map (λ texts. text ∷ texts) (texts_of ds)) (as_str d)

-- the whole number at a name, of 0 to 2^64-1 without fraction or exponent
abbrev pub number_at : List ℕ → Data → Option ℕ
number_at name d = option_and_then as_u64 (option_and_then as_number (get name d))

-- the text at a name
abbrev pub text_at : List ℕ → Data → Option (List ℕ)
text_at name d = option_and_then as_str (get name d)

-- the texts of the array at a name
abbrev pub texts_at : List ℕ → Data → Option (List (List ℕ))
texts_at name d = option_and_then texts_of (option_and_then as_array (get name d))

-- the bytes whose base64 stands at a name
abbrev pub bytes_at : Alphabet → List ℕ → Data → Option (List ℕ)
bytes_at alphabet name d = option_and_then (decoded_by alphabet) (text_at name d)

-- the object at a name
abbrev pub object_at : List ℕ → Data → Option Data
object_at name d = option_and_then object_of (get name d)
