-- The text of a new `vault.cryptomator` reads as what it says.
use Rattle.std.proofs.Common.{◌≡◌, ℕ, zero, suc, List, [], ◌∷◌, ◌++◌, true, nat_lt, codes, decimal, Some, Ok, option_and_then, refl, sym, ap, ◌∙◌, arith, lit<, append_assoc}
use Rattle.std.specs.Fmt.{digits}
use Rattle.std.specs.List.{list_all}
use Rattle.std.specs.Str.{IsUtf8}
use Rattle.std.proofs.lemmas.Bool.{and_parts, ltb-true}
use Rattle.std.proofs.lemmas.Str.{IsUtf8-append}
use Rattle.aes_lanes.proofs.Bytes.{bytes-append}
use Rattle.json.specs.Print.{escape, escape_byte}
use Rattle.json.proofs.Printed.Decimals.{IsNumber-decimal}
use Rattle.json.proofs.Printed.Utf8.{IsUtf8-are_ascii}
use Rattle.base64.specs.GeneralPurpose.{IsBytes}
use Rattle.serde_json.specs.Data.{Data}
use Rattle.serde_json.specs.Read.{read}
use Rattle.serde_json.specs.Written.{compact_text}
use Rattle.serde_json.proofs.Numbers.{number_of-decimal}
use Rattle.json_fields.specs.declared.base64_text.Alphabet.TheVariants.{UrlSafe}
use Rattle.json_fields.specs.Base64.{encoded_by, decoded_by, is_base64url}
use Rattle.json_fields.specs.Fields.{need}
use Rattle.json_fields.specs.Json.{json_object}
use Rattle.json_fields.proofs.Objects.{object_in as object_of_text}
use Rattle.cryptomator_conf.specs.declared.conf.Alg.TheVariants.{Hs256}
use Rattle.cryptomator_conf.specs.declared.conf.CmDraw.{CmDraw}
use Rattle.cryptomator_conf.specs.declared.conf.Combo.{Combo}
use Rattle.cryptomator_conf.specs.declared.conf.Combo.TheVariants.{SivGcm, SivCtrMac}
use Rattle.cryptomator_conf.specs.declared.fault.CmConfFault.TheVariants.{NotJwt}
use Rattle.cryptomator_conf.specs.Combo.{combo_name}
use Rattle.vault_values.specs.Id.{id_of}
use Rattle.cryptomator_conf.specs.Jwt.{Parts, jwt_in, jwt_of, object_in}
use Rattle.cryptomator_conf.specs.Laws.{made_vault}
use Rattle.kdf_suite.specs.Hmac.{hmac_sha256}
use Rattle.cryptomator_conf.specs.Signature.{signature_of}
use Rattle.cryptomator_conf.specs.Text.{keys_of, header_text, payload_text, signed_text, vault_text}
use Rattle.cryptomator_conf.proofs.Value.{header_data, payload_data}
use Rattle.cryptomator_conf.specs.Vault.{after, settings_of, vault_fields_of, vault_in, vault_of}
use Rattle.cryptomator_conf.proofs.Dots.{parts-joined}
use Rattle.cryptomator_conf.proofs.IdText.{escape-id, utf8-id, bytes-id}
use Rattle.cryptomator_conf.proofs.ReadBack.{reads-written, decoded-encoded}

-- base64 for URLs is of its alphabet
abbrev pub IsOfAlphabet : Type 0
IsOfAlphabet = (bytes : List ℕ) → IsBytes bytes → list_all is_base64url (encoded_by UrlSafe bytes) ≡ true

-- tags are bytes
abbrev pub TagsAreBytes : Type 0
TagsAreBytes = (key text : List ℕ) → IsBytes (hmac_sha256 key text)

bytes-literal : (xs : List ℕ) → list_all (λ c. nat_lt c 256) xs ≡ true → IsBytes xs
bytes-literal [] small k = lit< tt
bytes-literal (x ∷ xs) small zero = ltb-true x 256 (and_parts (nat_lt x 256) (list_all (λ c. nat_lt c 256) xs) small).0
bytes-literal (x ∷ xs) small (suc k) = bytes-literal xs (and_parts (nat_lt x 256) (list_all (λ c. nat_lt c 256) xs) small).1 k

-- the first object
compact_text-header : compact_text header_data ≡ header_text
unfolding escape_byte
compact_text-header = refl

object-header : json_object header_text ≡ Some header_data
object-header =
    object_of_text header_text header_data (IsUtf8-are_ascii header_text refl)
    (ap read (sym compact_text-header) ∙ reads-written header_data (tt, (tt, (tt, tt))) (omega arith) refl)

-- the second
decimal-8 : decimal 8 ≡ codes "8"
unfolding digits
decimal-8 = refl

decimal-220 : decimal 220 ≡ codes "220"
unfolding digits
decimal-220 = refl

-- a name of ciphers stands in a JSON string as it is
escape-name : (combo : Combo) → escape (combo_name combo) ≡ combo_name combo
unfolding escape_byte
escape-name SivGcm = refl
escape-name SivCtrMac = refl

utf8-name : (combo : Combo) → IsUtf8 (combo_name combo)
utf8-name SivGcm = IsUtf8-are_ascii _ refl
utf8-name SivCtrMac = IsUtf8-are_ascii _ refl

bytes-name : (combo : Combo) → IsBytes (combo_name combo)
bytes-name SivGcm = bytes-literal (combo_name SivGcm) refl
bytes-name SivCtrMac = bytes-literal (combo_name SivCtrMac) refl

-- the parts of the payload's text around the two that vary
abbrev opening : List ℕ
opening = codes "{\"cipherCombo\":\""

abbrev between : List ℕ
between = codes "\",\"format\":8,\"jti\":\""

abbrev closing : List ℕ
closing = codes "\",\"shorteningThreshold\":220}"

regrouped : (name id quote a b c : List ℕ) → a ++ ((name ++ quote) ++ (b ++ ((id ++ quote) ++ c))) ≡ a ++ name ++ (quote ++ b) ++ id ++ (quote ++ c)
regrouped name id quote a b c = simp append_assoc refl

compact_text-payload : (combo : Combo) (id : List ℕ) → escape id ≡ id → compact_text (payload_data combo id) ≡ payload_text combo id
unfolding escape_byte payload_text
compact_text-payload combo id plain =
    rw (escape-name combo, plain, decimal-8, decimal-220)
    (regrouped (combo_name combo) id (codes "\"") opening (codes ",\"format\":8,\"jti\":\"") (codes ",\"shorteningThreshold\":220}"))

utf8-payload : (combo : Combo) (id : List ℕ) → IsUtf8 id → IsUtf8 (payload_text combo id)
unfolding payload_text
utf8-payload combo id utf8 =
    IsUtf8-append _ closing
    (IsUtf8-append _ id (IsUtf8-append _ between (IsUtf8-append opening (combo_name combo) (IsUtf8-are_ascii _ refl) (utf8-name combo)) (IsUtf8-are_ascii _ refl)) utf8)
    (IsUtf8-are_ascii _ refl)

bytes-payload : (combo : Combo) (id : List ℕ) → IsBytes id → IsBytes (payload_text combo id)
unfolding payload_text
bytes-payload combo id bytes =
    let name : List ℕ = combo_name combo in
    bytes-append (opening ++ name ++ between ++ id) closing
    (bytes-append (opening ++ name ++ between) id
    (bytes-append (opening ++ name) between (bytes-append opening name (bytes-literal opening refl) (bytes-name combo)) (bytes-literal between refl)) bytes)
    (bytes-literal closing refl)

object-payload : (combo : Combo) (id : List ℕ) → escape id ≡ id → IsUtf8 id → json_object (payload_text combo id) ≡ Some (payload_data combo id)
object-payload combo id plain utf8 =
    object_of_text (payload_text combo id) (payload_data combo id) (utf8-payload combo id utf8)
    (ap read (sym (compact_text-payload combo id plain))
    ∙ reads-written (payload_data combo id) (tt, (IsNumber-decimal 8 (lit< tt), (tt, (IsNumber-decimal 220 (lit< tt), tt)))) (omega arith)
    (rw (number_of-decimal 8 (lit< tt), number_of-decimal 220 (lit< tt)) refl))

object_in-encoded : (text : List ℕ) (d : Data) → IsBytes text → json_object text ≡ Some d → object_in (encoded_by UrlSafe text) ≡ Some d
object_in-encoded text d bytes object = ap (option_and_then json_object) (decoded-encoded UrlSafe text bytes) ∙ object

-- the token
jwt_of-parts : (parts : Parts) (header payload : Data) (signature : List ℕ) → object_in parts.header ≡ Some header → object_in parts.payload ≡ Some payload
    → decoded_by UrlSafe parts.signature ≡ Some signature
    → jwt_of parts ≡ Some (record { header = header; payload = payload; signed = parts.header ++ codes "." ++ parts.payload; signature = signature })
jwt_of-parts parts header payload signature is_header is_payload is_signature = rw (is_header, is_payload, is_signature) refl

jwt_in-text : (combo : Combo) (drawn : CmDraw) → IsOfAlphabet → TagsAreBytes
    → jwt_in (vault_text combo drawn) ≡ Some (record {
      header = header_data;
      payload = payload_data combo (id_of drawn.jti);
      signed = signed_text combo (id_of drawn.jti);
      signature = signature_of Hs256 (keys_of drawn) (signed_text combo (id_of drawn.jti));
    })
unfolding jwt_in vault_text signed_text
jwt_in-text combo drawn alphabet tags =
    let id : List ℕ = id_of drawn.jti in
    let text : List ℕ = payload_text combo id in
    let header_bytes : IsBytes header_text = bytes-literal header_text refl in
    let payload_bytes : IsBytes text = bytes-payload combo id (bytes-id drawn.jti) in
    let header : List ℕ = encoded_by UrlSafe header_text in
    let payload : List ℕ = encoded_by UrlSafe text in
    let tag : List ℕ = signature_of Hs256 (keys_of drawn) (header ++ codes "." ++ payload) in
    let tag_bytes : IsBytes tag = tags _ _ in
    ap (option_and_then jwt_of)
    (parts-joined header payload (encoded_by UrlSafe tag) (alphabet header_text header_bytes) (alphabet text payload_bytes) (alphabet tag tag_bytes))
    ∙ jwt_of-parts (record { header = header; payload = payload; signature = encoded_by UrlSafe tag }) header_data (payload_data combo id) tag
    (object_in-encoded header_text header_data header_bytes object-header)
    (object_in-encoded text (payload_data combo id) payload_bytes (object-payload combo id (escape-id drawn.jti) (utf8-id drawn.jti)))
    (decoded-encoded UrlSafe tag tag_bytes)

pub vault_reads_back : (combo : Combo) (drawn : CmDraw) → IsOfAlphabet → TagsAreBytes → vault_in (vault_text combo drawn) ≡ Ok (made_vault combo drawn)
unfolding vault_in
vault_reads_back SivGcm drawn alphabet tags =
    ap (λ found. need NotJwt found (λ jwt. after (vault_of jwt) (after settings_of (vault_fields_of jwt)))) (jwt_in-text SivGcm drawn alphabet tags)
vault_reads_back SivCtrMac drawn alphabet tags =
    ap (λ found. need NotJwt found (λ jwt. after (vault_of jwt) (after settings_of (vault_fields_of jwt)))) (jwt_in-text SivCtrMac drawn alphabet tags)
