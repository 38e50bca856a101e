-- The text of a configuration reads as the configuration.
use Rattle.std.proofs.Common.{◌≡◌, ℕ, ◌+◌, ◌^◌, ◌*◌, ◌/◌, ◌<◌, ◌≤◌, List, [], ◌∷◌, ◌++◌, length, codes, decimal, Option, Some, Result, Ok, Err, MatchResult, option_and_then, refl, sym, ap, subst, ◌∙◌, arith, lit<, append-nil, length-append}
use Rattle.std.specs.Str.{IsUtf8}
use Rattle.std.proofs.lemmas.Str.{IsUtf8-append, IsUtf8-from_ascii}
use Rattle.std.proofs.lemmas.Fmt.{IsAscii-decimal, length-decimal-le}
use Rattle.std.proofs.Math.Nat.{le-mul_of_pos_right}
use Rattle.json.specs.Lex.{tokens}
use Rattle.json.specs.Token.{Token}
use Rattle.json.specs.Json as json
use Rattle.json.specs.Print.{escape}
use Rattle.json.specs.Tree.{json_tokens, HasNumbers}
use Rattle.json.proofs.Printed.Decimals.{IsNumber-decimal}
use Rattle.json.proofs.Printed.Tokens.{tokens-print}
use Rattle.json.proofs.Printed.Trees.{ArePrintable-json_tokens, value-json_tokens}
use Rattle.json.proofs.Printed.Utf8.{IsUtf8-are_ascii}
use Rattle.base64.specs.Engines.{standard}
use Rattle.base64.specs.GeneralPurpose.{IsBytes, encode_of, decoded_of}
use Rattle.base64.proofs.EngineFacts.{IsAscii-encode_of, decode_of-encode_of}
use Rattle.base64.proofs.Streams.{decoded_of-ok}
use Rattle.serde_json.specs.Data.{Data}
use Rattle.serde_json.specs.Read.{of_json, read, max_depth}
use Rattle.serde_json.specs.Written.{outline}
use Rattle.serde_json.proofs.Numbers.{number_of-decimal}
use Rattle.serde_json.proofs.Texts.{print-outline}
use Rattle.kdf_suite.specs.ScryptCost.{Cost, IsCost}
use Rattle.gocrypt_conf.specs.declared.conf.GoConf.{GoConf}
use Rattle.gocrypt_conf.specs.declared.fault.GoConfFault.{GoConfFault}
use Rattle.json_fields.specs.Json.{json_object}
use Rattle.gocrypt_conf.specs.Fields.{Fields, fields_of, fields_in}
use Rattle.gocrypt_conf.specs.Tests.{ReadConf, Checks, ReadsAs}
use Rattle.gocrypt_conf.specs.Text.{text_with, conf_text, made_conf}
use Rattle.gocrypt_conf.specs.Keys.{unlocking_key}
use Rattle.gocrypt_conf.specs.MasterKey.{sealed_key}
use Rattle.gocrypt_conf.specs.Laws.{MadeTextReturns}
use Rattle.gocrypt_conf.proofs.Value.{conf_data, scrypt_data}
use Rattle.gocrypt_conf.proofs.Checked.{all_passed}
use Rattle.json_fields.proofs.Objects.{object_in}
use Rattle.gocrypt_conf.proofs.Sealing.{HasTags, nonce_first}
use Rattle.gocrypt_conf.proofs.SealedBytes.{HasTexts, length-sealed_key, bytes-sealed_key}
use Rattle.gocrypt_conf.proofs.Written.{IsPlain, compact_text-conf_data}

-- scrypt's numbers fit 64 bits
pub record Fits (n r p : ℕ) : Type 0 where
  pub n_fits : n < 2 ^ 64
  pub r_fits : r < 2 ^ 64
  pub p_fits : p < 2 ^ 64

numbers : (sealed salt : List ℕ) (n r p : ℕ) → Fits n r p → HasNumbers (outline (conf_data sealed (scrypt_data salt n r p)))
numbers sealed salt n r p fits = (
  tt,
  (tt, ((tt, (tt, (tt, (tt, (tt, (tt, tt)))))), ((IsNumber-decimal 32 (lit< tt), (IsNumber-decimal n fits.n_fits, (IsNumber-decimal p fits.p_fits, (IsNumber-decimal r fits.r_fits, (tt, tt))))), (IsNumber-decimal 2 (lit< tt), tt)))),
)

-- the value that tokens are
abbrev value_of : List Token → Option Data
value_of ts = option_and_then of_json (option_and_then (λ p. json.if_last p.0 p.1) (json.value max_depth ts))

of_json-outline : (sealed salt : List ℕ) (n r p : ℕ) → Fits n r p
    → of_json (outline (conf_data sealed (scrypt_data salt n r p))) ≡ Some (conf_data sealed (scrypt_data salt n r p))
of_json-outline sealed salt n r p fits =
    rw (number_of-decimal 32 (lit< tt), number_of-decimal 2 (lit< tt), number_of-decimal n fits.n_fits, number_of-decimal r fits.r_fits, number_of-decimal p fits.p_fits) refl

pub read-text_with : (sealed salt : List ℕ) (n r p : ℕ) → Fits n r p → escape sealed ≡ sealed → escape salt ≡ salt
    → read (text_with sealed salt n r p) ≡ Some (conf_data sealed (scrypt_data salt n r p))
read-text_with sealed salt n r p fits plain_sealed plain_salt =
    let d : Data = conf_data sealed (scrypt_data salt n r p) in
    let j : json.Json = outline d in
    let lexed : tokens (text_with sealed salt n r p) ≡ json_tokens j ++ [] =
    ap tokens (sym (print-outline d ∙ compact_text-conf_data sealed salt n r p plain_sealed plain_salt))
    ∙ tokens-print (json_tokens j) (ArePrintable-json_tokens j (numbers sealed salt n r p fits))
    ∙ sym (append-nil (json_tokens j)) in
    ap value_of lexed
    ∙ ap (λ o. option_and_then of_json (option_and_then (λ p. json.if_last p.0 p.1) o)) (value-json_tokens j max_depth [] (omega arith))
    ∙ of_json-outline sealed salt n r p fits

base64-utf8 : (m : List ℕ) → IsUtf8 (encode_of standard m)
base64-utf8 m = IsUtf8-from_ascii _ (IsAscii-encode_of standard m)

decimal-utf8 : (n : ℕ) → n < 2 ^ 64 → IsUtf8 (decimal n)
decimal-utf8 n small = IsUtf8-from_ascii _ (IsAscii-decimal n small)

utf8-joined : (a sealed b n c p d r e salt f : List ℕ) → IsUtf8 a → IsUtf8 sealed → IsUtf8 b → IsUtf8 n → IsUtf8 c → IsUtf8 p → IsUtf8 d → IsUtf8 r → IsUtf8 e
    → IsUtf8 salt → IsUtf8 f → IsUtf8 (a ++ sealed ++ b ++ n ++ c ++ p ++ d ++ r ++ e ++ salt ++ f)
utf8-joined a sealed b n c p d r e salt f ha hsealed hb hn hc hp hd hr he hsalt hf =
    IsUtf8-append _ f (IsUtf8-append _ salt (IsUtf8-append _ e (IsUtf8-append _ r (IsUtf8-append _ d (IsUtf8-append _ p (IsUtf8-append _ c (IsUtf8-append _ n (IsUtf8-append _ b
    (IsUtf8-append a sealed ha hsealed) hb) hn) hc) hp) hd) hr) he) hsalt) hf

utf8-text_with : (sealed salt : List ℕ) (n r p : ℕ) → IsUtf8 sealed → IsUtf8 salt → Fits n r p → IsUtf8 (text_with sealed salt n r p)
unfolding text_with
utf8-text_with sealed salt n r p sealed_text salt_text fits =
    utf8-joined (codes "{\"Creator\":\"vaultmove 1\",\"EncryptedKey\":\"") sealed
    (codes "\",\"FeatureFlags\":[\"GCMIV128\",\"HKDF\",\"DirIV\",\"EMENames\",\"LongNames\",\"Raw64\"],\"ScryptObject\":{\"KeyLen\":32,\"N\":")
    (decimal n) (codes ",\"P\":") (decimal p) (codes ",\"R\":") (decimal r) (codes ",\"Salt\":\"") salt (codes "\"},\"Version\":2}")
    (IsUtf8-are_ascii _ refl) sealed_text (IsUtf8-are_ascii _ refl) (decimal-utf8 n fits.n_fits) (IsUtf8-are_ascii _ refl) (decimal-utf8 p fits.p_fits)
    (IsUtf8-are_ascii _ refl) (decimal-utf8 r fits.r_fits) (IsUtf8-are_ascii _ refl) salt_text (IsUtf8-are_ascii _ refl)

-- base64 reads back
decoded-encoded : (m : List ℕ) → IsBytes m → decoded_of standard (encode_of standard m) ≡ Some m
decoded-encoded m bytes = decoded_of-ok standard _ _ (decode_of-encode_of standard m refl bytes)

fields_of-conf_data : (sealed_text salt_text sealed salt : List ℕ) (n r p : ℕ) → decoded_of standard sealed_text ≡ Some sealed → decoded_of standard salt_text ≡ Some salt
    → fields_of (conf_data sealed_text (scrypt_data salt_text n r p))
    ≡ Ok (record {
      version = 2;
      flags = codes "GCMIV128" ∷ codes "HKDF" ∷ codes "DirIV" ∷ codes "EMENames" ∷ codes "LongNames" ∷ codes "Raw64" ∷ [];
      sealed = sealed;
      scrypt = record { salt = salt; n = n; r = r; p = p; key_len = 32 };
    })
fields_of-conf_data sealed_text salt_text sealed salt n r p is_sealed is_salt = rw (is_sealed, is_salt) refl

-- the numbers of a cost are small
cost_fits : (cost : Cost) → IsCost cost → Fits cost.n cost.r cost.p
cost_fits cost is =
    let n : cost.n ≤ cost.n * cost.r = le-mul_of_pos_right cost.n is.some_block in
    let r : cost.r ≤ cost.r * cost.p = le-mul_of_pos_right cost.r is.some_part in
    record {
      n_fits = omega (arith, n, is.table_fits);
      r_fits = omega (arith, r, is.parts_fit);
      p_fits = omega (arith, is.few_parts);
    }

-- an answer, from the fields
reads_on : (bytes : List ℕ) (fields : Fields) (answer : ReadConf) → fields_in bytes ≡ Ok fields → Checks fields answer → ReadsAs bytes answer
reads_on bytes fields answer found checks =
    let P : Result Fields GoConfFault → Type 0 = λ r. MatchResult r (λ f. Checks f answer) (λ fault. answer ≡ Err fault) in
    subst P (sym found) checks

object_on : (bytes : List ℕ) (d : Data) → json_object bytes ≡ Some d → fields_in bytes ≡ fields_of d
unfolding fields_in
object_on bytes d found = rw found refl

pub conf_reads_back : IsPlain → (conf : GoConf) → IsCost conf.cost → length conf.sealed ≡ 64 → IsBytes conf.sealed → IsBytes conf.salt → ReadsAs (conf_text conf) (Ok conf)
conf_reads_back is_plain conf cost size sealed_bytes salt_bytes =
    let sealed : List ℕ = encode_of standard conf.sealed in
    let salt : List ℕ = encode_of standard conf.salt in
    let fits = cost_fits conf.cost cost in
    let reads = read-text_with sealed salt conf.cost.n conf.cost.r conf.cost.p fits (is_plain conf.sealed sealed_bytes) (is_plain conf.salt salt_bytes) in
    let utf8 = utf8-text_with sealed salt conf.cost.n conf.cost.r conf.cost.p (base64-utf8 conf.sealed) (base64-utf8 conf.salt) fits in
    let object = object_in (conf_text conf) _ utf8 reads in
    let fields = fields_of-conf_data sealed salt conf.sealed conf.salt conf.cost.n conf.cost.r conf.cost.p (decoded-encoded conf.sealed sealed_bytes) (decoded-encoded conf.salt salt_bytes) in
    reads_on (conf_text conf) _ (Ok conf) (object_on (conf_text conf) _ object ∙ fields) (all_passed _ refl refl cost size refl)

-- base64 of some bytes is of so many characters
abbrev pub HasSize : Type 0
HasSize = (bytes : List ℕ) → length (encode_of standard bytes) ≡ (length bytes + 2) / 3 * 4

-- the text is short
short_with : (sealed salt : List ℕ) (n r p : ℕ) → length sealed ≡ 88 → length salt ≡ 44 → Fits n r p → length (text_with sealed salt n r p) ≤ 65536
unfolding text_with
short_with sealed salt n r p sealed_size salt_size fits =
    let n_size : length (decimal n) ≤ 20 = length-decimal-le 20 n (omega arith) (omega (arith, fits.n_fits)) fits.n_fits in
    let r_size : length (decimal r) ≤ 20 = length-decimal-le 20 r (omega arith) (omega (arith, fits.r_fits)) fits.r_fits in
    let p_size : length (decimal p) ≤ 20 = length-decimal-le 20 p (omega arith) (omega (arith, fits.p_fits)) fits.p_fits in
    simp length-append (omega (arith, sealed_size, salt_size, n_size, r_size, p_size))

short_text : HasSize → (sealed salt : List ℕ) (n r p : ℕ) → length sealed ≡ 64 → length salt ≡ 32 → Fits n r p
    → length (text_with (encode_of standard sealed) (encode_of standard salt) n r p) ≤ 65536
short_text size sealed salt n r p sealed_size salt_size fits =
    short_with (encode_of standard sealed) (encode_of standard salt) n r p (size sealed ∙ ap (λ k. (k + 2) / 3 * 4) sealed_size) (size salt ∙ ap (λ k. (k + 2) / 3 * 4) salt_size) fits

pub made_returns : HasTags → HasTexts → IsPlain → HasSize → MadeTextReturns
made_returns tags texts is_plain size pass cost drawn is_cost drawn_bytes =
    let key : List ℕ = unlocking_key pass drawn.salt cost in
    let sealed_size : length (sealed_key key drawn.nonce drawn.master) ≡ 64 = length-sealed_key tags texts key drawn.nonce drawn.master drawn_bytes.nonce_size drawn_bytes.master_size in
    record {
      short = short_text size (sealed_key key drawn.nonce drawn.master) drawn.salt cost.n cost.r cost.p sealed_size drawn_bytes.salt_size (cost_fits cost is_cost);
      read =
          conf_reads_back is_plain (made_conf pass cost drawn) is_cost sealed_size
          (bytes-sealed_key texts key drawn.nonce drawn.master drawn_bytes.nonce_bytes drawn_bytes.master_bytes) drawn_bytes.salt_bytes;
      unlocked = record {
        master = drawn.master;
        seals = ap (λ nonce. sealed_key key nonce drawn.master) (nonce_first key drawn.nonce drawn.master drawn_bytes.nonce_size);
        gives = refl;
      };
    }
