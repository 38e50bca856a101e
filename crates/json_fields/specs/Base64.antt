-- Base64 (RFC 4648) by its alphabet.
use Rattle.std.specs.Prelude.{◌≡◌, ◌↔◌, ◌||◌, ◌==◌, ℕ, Bool, List, Option, Some}
use Rattle.std.specs.Char.{is_ascii_alphanumeric}
use Rattle.base64.specs.declared.engine.general_purpose.GeneralPurpose.{GeneralPurpose}
use Rattle.base64.specs.Engines.{standard, url_safe_no_pad}
use Rattle.base64.specs.GeneralPurpose.{IsBytes, decoded_of, encode_of}
use Rattle.json_fields.specs.declared.base64_text.Alphabet.{Alphabet}
use Rattle.json_fields.specs.declared.base64_text.Alphabet.TheVariants.{Standard, UrlSafe}

-- the standard alphabet with padding, and the one for URLs without
abbrev pub engine_of : Alphabet → GeneralPurpose
engine_of Standard = standard
engine_of UrlSafe = url_safe_no_pad

-- the bytes that a text is the base64 of
abbrev pub decoded_by : Alphabet → List ℕ → Option (List ℕ)
decoded_by alphabet text = decoded_of (engine_of alphabet) text

-- the base64 of bytes
abbrev pub encoded_by : Alphabet → List ℕ → List ℕ
encoded_by alphabet bytes = encode_of (engine_of alphabet) bytes

-- a character of the alphabet for URLs: a letter, a digit, `-` or `_`
abbrev pub is_base64url : ℕ → Bool
is_base64url c = is_ascii_alphanumeric c || c == 45 || c == 95

-- a text is read as bytes exactly where it is their base64
abbrev pub ReadsEncodings : Alphabet → Type 0
ReadsEncodings alphabet =
    (text bytes : List ℕ) → IsBytes text → IsBytes bytes → (decoded_by alphabet text ≡ Some bytes) ↔ (text ≡ encoded_by alphabet bytes)
