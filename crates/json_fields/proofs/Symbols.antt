-- The characters of base64 for URLs, and how many there are of base64.
use Rattle.std.proofs.Common.{◌≡◌, ℕ, suc, ◌+◌, ◌*◌, ◌/◌, ◌%◌, ◌<◌, true, false, List, [], ◌∷◌, length, replicate, slice_index, inl, inr, refl, ap, ◌∙◌, arith, append-nil, length-append}
use Rattle.std.proofs.lemmas.List.{length-replicate}
use Rattle.std.specs.List.{list_all}
use Rattle.std.proofs.lemmas.Bool.{and_from, cases_Bool}
use Rattle.std.proofs.lemmas.List.Folds.{list_all_at}
use Rattle.base64.specs.Engines.{standard, url_safe_no_pad}
use Rattle.base64.specs.GeneralPurpose.{IsBytes}
use Rattle.base64.specs.Rfc4648.{encode_symbols, padding_len}
use Rattle.base64.proofs.RoundTrip.{length-encode_symbols}
use Rattle.json_fields.specs.declared.base64_text.Alphabet.TheVariants.{Standard, UrlSafe}
use Rattle.json_fields.specs.Base64.{encoded_by, is_base64url}

-- the alphabet of base64url
abbrev symbols : List ℕ
symbols = url_safe_no_pad.encode_table

is_base64url-symbol : (k : ℕ) → k < 64 → is_base64url (slice_index symbols k) ≡ true
is_base64url-symbol k within = elim (cases_Bool (is_base64url (slice_index symbols k))) [
  | inl is ↦ is
  | inr not ↦
      let some : true ≡ false = list_all_at is_base64url symbols k 0 within not in
      cc
]

are_symbols : (bytes : List ℕ) → IsBytes bytes → list_all is_base64url (encode_symbols symbols bytes) ≡ true
unfolding encode_symbols
are_symbols [] are = refl
are_symbols (a ∷ []) are =
    let a_byte : a < 256 = are 0 in
    and_from _ _ (is_base64url-symbol (a / 4) (omega arith)) (and_from _ _ (is_base64url-symbol (a % 4 * 16) (omega arith)) refl)
are_symbols (a ∷ b ∷ []) are =
    let a_byte : a < 256 = are 0 in
    let b_byte : b < 256 = are 1 in
    and_from _ _ (is_base64url-symbol (a / 4) (omega arith))
    (and_from _ _ (is_base64url-symbol (a % 4 * 16 + b / 16) (omega arith))
    (and_from _ _ (is_base64url-symbol (b % 16 * 4) (omega arith)) refl))
are_symbols (a ∷ b ∷ c ∷ rest) are =
    let a_byte : a < 256 = are 0 in
    let b_byte : b < 256 = are 1 in
    let c_byte : c < 256 = are 2 in
    and_from _ _ (is_base64url-symbol (a / 4) (omega arith))
    (and_from _ _ (is_base64url-symbol (a % 4 * 16 + b / 16) (omega arith))
    (and_from _ _ (is_base64url-symbol (b % 16 * 4 + c / 64) (omega arith))
    (and_from _ _ (is_base64url-symbol (c % 64) (omega arith)) (are_symbols rest (λ k. are (suc (suc (suc k))))))))

pub are_base64url : (bytes : List ℕ) → IsBytes bytes → list_all is_base64url (encoded_by UrlSafe bytes) ≡ true
are_base64url bytes are = ap (list_all is_base64url) (append-nil (encode_symbols symbols bytes)) ∙ are_symbols bytes are

pub length-base64url : (bytes : List ℕ) → length (encoded_by UrlSafe bytes) ≡ (4 * length bytes + 2) / 3
length-base64url bytes = ap length (append-nil (encode_symbols symbols bytes)) ∙ length-encode_symbols symbols bytes

-- with padding
pub length-base64 : (bytes : List ℕ) → length (encoded_by Standard bytes) ≡ (length bytes + 2) / 3 * 4
length-base64 bytes =
    let n : ℕ = length bytes in
    let parts : length (encoded_by Standard bytes) ≡ length (encode_symbols (standard.encode_table) bytes) + length (replicate (padding_len n) 61) =
    length-append (encode_symbols (standard.encode_table) bytes) (replicate (padding_len n) 61) in
    let size : length (encode_symbols (standard.encode_table) bytes) ≡ (4 * n + 2) / 3 = length-encode_symbols (standard.encode_table) bytes in
    let padding : length (replicate (padding_len n) 61) ≡ padding_len n = length-replicate {A = ℕ} (padding_len n) 61 in
    omega (arith, parts, size, padding)
