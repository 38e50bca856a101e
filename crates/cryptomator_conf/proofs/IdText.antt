-- The text of an id stands in a JSON string as it is.
use Rattle.std.proofs.Common.{◌≡◌, ℕ, zero, suc, ◌<◌, List, [], ◌∷◌, ◌++◌, Bool, true, false, cond, inl, refl, ap, ap₂, ◌∙◌, arith}
use Rattle.std.specs.Str.{bytes_eq, IsUtf8, IsAscii}
use Rattle.std.proofs.lemmas.Str.{IsUtf8-from_ascii}
use Rattle.std.proofs.lemmas.Slice.Eq.{bytes_eq-Decides}
use Rattle.std.proofs.lemmas.List.Concat.{flat_map-append}
use Rattle.json.specs.Print.{escape, escape_byte}
use Rattle.base64.specs.GeneralPurpose.{IsBytes}
use Rattle.base64.specs.Tables.{all_below}
use Rattle.base64.proofs.Tables.{all_below_at}
use Rattle.uuid.specs.Text.{by_index, hex_digit, lower, is_hyphen_place, nibble, digit_place}
use Rattle.uuid.proofs.TextLemmas.{nibble_small, hyphenated_ascii}
use Rattle.vault_values.specs.Id.{id_of}

is_plain : ℕ → Bool
is_plain d = bytes_eq (escape_byte (hex_digit lower d)) (hex_digit lower d ∷ [])

digits_plain : all_below is_plain 16 ≡ true
unfolding escape_byte is_plain
digits_plain = refl

escape-digit : (d : ℕ) → d < 16 → escape_byte (hex_digit lower d) ≡ hex_digit lower d ∷ []
unfolding is_plain
escape-digit d small = (bytes_eq-Decides (escape_byte (hex_digit lower d)) (hex_digit lower d ∷ [])).0 (all_below_at is_plain 16 d digits_plain small)

escape-hyphen : escape_byte 45 ≡ 45 ∷ []
unfolding escape_byte
escape-hyphen = refl

escape-place : (hyphen : Bool) (d : ℕ) → d < 16 → escape_byte (cond hyphen 45 (hex_digit lower d)) ≡ cond hyphen 45 (hex_digit lower d) ∷ []
escape-place true d small = escape-hyphen
escape-place false d small = escape-digit d small

escape-by_index : (n : ℕ) (f : ℕ → ℕ) → ((k : ℕ) → escape_byte (f k) ≡ f k ∷ []) → escape (by_index n f) ≡ by_index n f
unfolding by_index
escape-by_index zero f plain = refl
escape-by_index (suc n) f plain =
    flat_map-append escape_byte (by_index n f) (f n ∷ [])
    ∙ ap₂ (λ a b. a ++ b) (escape-by_index n f plain) (ap (λ front. front ++ []) (plain n))

pub escape-id : (drawn : List ℕ) → escape (id_of drawn) ≡ id_of drawn
unfolding id_of
escape-id drawn = escape-by_index 36 _ (λ k. escape-place (is_hyphen_place k) (nibble _ (digit_place k)) (nibble_small _ (digit_place k)))

pub utf8-id : (drawn : List ℕ) → IsUtf8 (id_of drawn)
unfolding id_of
utf8-id drawn = IsUtf8-from_ascii _ (hyphenated_ascii lower _ (inl refl))

ascii-id : (drawn : List ℕ) → IsAscii (id_of drawn)
unfolding id_of
ascii-id drawn = hyphenated_ascii lower _ (inl refl)

pub bytes-id : (drawn : List ℕ) → IsBytes (id_of drawn)
bytes-id drawn = λ k. omega (arith, ascii-id drawn k)
