-- A signed token in compact form (RFC 7515, section 7.1): three parts with dots between them, each in base64url without
-- padding. Newlines and blanks may follow.
use Rattle.std.specs.Prelude.{ℕ, ◌+◌, ◌==◌, ◌||◌, Bool, List, [], ◌∷◌, ◌++◌, codes, take, drop, if◌then◌else◌, Option, option_map, option_and_then}
use Rattle.std.specs.List.{list_all, position_from}
use Rattle.serde_json.specs.Data.{Data}
use Rattle.json_fields.specs.declared.base64_text.Alphabet.TheVariants.{UrlSafe}
use Rattle.json_fields.specs.Base64.{decoded_by}
use Rattle.json_fields.specs.Json.{json_object}

-- a newline, a carriage return or a blank
abbrev pub is_blank : ℕ → Bool
is_blank byte = byte == 10 || byte == 13 || byte == 32

-- the bytes without those at their end
unfoldable pub trimmed : List ℕ → List ℕ
trimmed [] = []
trimmed (byte ∷ bytes) = if list_all is_blank (byte ∷ bytes) then [] else byte ∷ trimmed bytes

abbrev pub is_dot : ℕ → Bool
is_dot byte = byte == 46

-- the bytes before the first dot, and those behind it
abbrev pub at_dot : List ℕ → Option (List ℕ × List ℕ)
at_dot bytes = option_map (λ place. (take place bytes, drop (place + 1) bytes)) (position_from is_dot 0 bytes)

-- the parts of a token
pub record Parts : Type 0 where
  pub header : List ℕ
  pub payload : List ℕ
  pub signature : List ℕ

-- the three parts; base64url has no dots, so a fourth one makes the third no base64url
abbrev pub parts_of : List ℕ → Option Parts
parts_of bytes =
    option_and_then (λ first. option_map (λ second.
    record { header = first.0; payload = second.0; signature = second.1 })
    (at_dot first.1)) (at_dot bytes)

-- the first two with their dot, which are signed
abbrev pub signed_part : Parts → List ℕ
signed_part parts = parts.header ++ codes "." ++ parts.payload

-- a token, read
pub record Jwt : Type 0 where
  pub header : Data
  pub payload : Data
  pub signed : List ℕ
  pub signature : List ℕ

-- the JSON object whose base64url some bytes are
abbrev pub object_in : List ℕ → Option Data
object_in part = option_and_then json_object (decoded_by UrlSafe part)

abbrev pub jwt_of : Parts → Option Jwt
jwt_of parts =
    option_and_then (λ header. option_and_then (λ payload. option_map (λ signature.
    record { header = header; payload = payload; signed = signed_part parts; signature = signature })
    (decoded_by UrlSafe parts.signature)) (object_in parts.payload)) (object_in parts.header)

-- the token that the bytes of a file are
unfoldable pub jwt_in : List ℕ → Option Jwt
jwt_in bytes = option_and_then jwt_of (parts_of (trimmed bytes))
