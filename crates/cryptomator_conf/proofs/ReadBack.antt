-- The texts of new files read as the files.
use Rattle.std.proofs.Common.{◌≡◌, ℕ, ◌^◌, ◌*◌, ◌<◌, ◌≤◌, List, [], ◌++◌, length, codes, decimal, Option, Some, Result, Ok, Err, MatchResult, option_and_then, inl, refl, sym, ap, subst, ◌∙◌, arith, lit<, lit≤, append-nil}
use Rattle.std.specs.Str.{IsUtf8}
use Rattle.std.proofs.lemmas.Str.{IsUtf8-append, IsUtf8-from_ascii}
use Rattle.std.proofs.lemmas.Fmt.{IsAscii-decimal}
use Rattle.std.proofs.Math.Nat.{le-mul_of_pos_right}
use Rattle.json.specs.Lex.{tokens}
use Rattle.json.specs.Token.{Token}
use Rattle.json.specs.Json as json
use Rattle.json.specs.Tree.{json_tokens, depth, HasNumbers}
use Rattle.json.proofs.Printed.Decimals.{IsNumber-decimal}
use Rattle.json.proofs.Printed.Tokens.{tokens-print}
use Rattle.json.proofs.Printed.Trees.{ArePrintable-json_tokens, value-json_tokens}
use Rattle.json.proofs.Printed.Utf8.{IsUtf8-are_ascii}
use Rattle.base64.specs.Engines.{standard, url_safe_no_pad}
use Rattle.base64.specs.GeneralPurpose.{IsBytes}
use Rattle.base64.proofs.EngineFacts.{IsAscii-encode_of, decode_of-encode_of}
use Rattle.base64.proofs.Streams.{decoded_of-ok}
use Rattle.serde_json.specs.Data.{Data}
use Rattle.serde_json.specs.Read.{of_json, read, max_depth}
use Rattle.serde_json.specs.Written.{compact_text, outline}
use Rattle.serde_json.proofs.Numbers.{number_of-decimal}
use Rattle.serde_json.proofs.Texts.{print-outline}
use Rattle.json_fields.specs.declared.base64_text.Alphabet.{Alphabet}
use Rattle.json_fields.specs.declared.base64_text.Alphabet.TheVariants.{Standard, UrlSafe}
use Rattle.json_fields.specs.Base64.{encoded_by, decoded_by}
use Rattle.json_fields.specs.Json.{json_object}
use Rattle.json_fields.proofs.Objects.{object_in}
use Rattle.kdf_suite.specs.ScryptCost.{Cost, IsCost}
use Rattle.cryptomator_conf.specs.declared.conf.MasterFile.{MasterFile}
use Rattle.cryptomator_conf.specs.declared.fault.CmConfFault.{CmConfFault}
use Rattle.cryptomator_conf.specs.Master.{MasterFields, Checks, ReadsMaster, master_fields_of, master_fields_in}
use Rattle.cryptomator_conf.specs.Text.{master_text}
use Rattle.cryptomator_conf.proofs.Value.{master_data}
use Rattle.cryptomator_conf.proofs.Written.{IsPlain, compact_text-master_data}

-- what is written for a value reads as the value
pub reads-written : (d : Data) → HasNumbers (outline d) → depth (outline d) ≤ max_depth → of_json (outline d) ≡ Some d → read (compact_text d) ≡ Some d
reads-written d numbers shallow back =
    let j : json.Json = outline d in
    let value_of : List Token → Option Data = λ ts. option_and_then of_json (option_and_then (λ p. json.if_last p.0 p.1) (json.value max_depth ts)) in
    let lexed : tokens (compact_text d) ≡ json_tokens j ++ [] =
    ap tokens (sym (print-outline d)) ∙ tokens-print (json_tokens j) (ArePrintable-json_tokens j numbers) ∙ sym (append-nil (json_tokens j)) in
    ap value_of lexed
    ∙ ap (λ o. option_and_then of_json (option_and_then (λ p. json.if_last p.0 p.1) o)) (value-json_tokens j max_depth [] shallow)
    ∙ back

-- base64 reads back
pub decoded-encoded : (alphabet : Alphabet) (m : List ℕ) → IsBytes m → decoded_by alphabet (encoded_by alphabet m) ≡ Some m
decoded-encoded Standard m bytes = decoded_of-ok standard _ _ (decode_of-encode_of standard m refl bytes)
decoded-encoded UrlSafe m bytes = decoded_of-ok url_safe_no_pad _ _ (decode_of-encode_of url_safe_no_pad m refl bytes)

base64-utf8 : (m : List ℕ) → IsUtf8 (encoded_by Standard m)
base64-utf8 m = IsUtf8-from_ascii _ (IsAscii-encode_of standard m)

-- scrypt's numbers fit 64 bits
pub record Fits (n r : ℕ) : Type 0 where
  pub n_fits : n < 2 ^ 64
  pub r_fits : r < 2 ^ 64

pub cost_fits : (cost : Cost) → IsCost cost → Fits cost.n cost.r
cost_fits cost is =
    let n : cost.n ≤ cost.n * cost.r = le-mul_of_pos_right cost.n is.some_block in
    let r : cost.r ≤ cost.r * cost.p = le-mul_of_pos_right cost.r is.some_part in
    record { n_fits = omega (arith, n, is.table_fits); r_fits = omega (arith, r, is.parts_fit) }

-- the value of `masterkey.cryptomator`
read-master : (file : MasterFile) (tag : List ℕ) → IsPlain → Fits file.cost.n file.cost.r → IsBytes file.hmac → IsBytes file.primary → IsBytes file.salt → IsBytes tag
    → read (master_text file tag) ≡ Some (master_data (encoded_by Standard file.hmac) (encoded_by Standard file.primary) file.cost.r file.cost.n (encoded_by Standard file.salt) (encoded_by Standard tag))
read-master file tag plain fits hmac primary salt bytes =
    let d : Data = master_data (encoded_by Standard file.hmac) (encoded_by Standard file.primary) file.cost.r file.cost.n (encoded_by Standard file.salt) (encoded_by Standard tag) in
    ap read (sym (compact_text-master_data file tag plain hmac primary salt bytes))
    ∙ reads-written d
    (tt, (tt, (IsNumber-decimal file.cost.r fits.r_fits, (IsNumber-decimal file.cost.n fits.n_fits, (tt, (IsNumber-decimal 999 (lit< tt), (tt, tt)))))))
    (omega arith)
    (rw (number_of-decimal file.cost.r fits.r_fits, number_of-decimal file.cost.n fits.n_fits, number_of-decimal 999 (lit< tt)) refl)

utf8-joined : (a hmac b primary c r d n e salt f tag g : List ℕ) → IsUtf8 a → IsUtf8 hmac → IsUtf8 b → IsUtf8 primary → IsUtf8 c → IsUtf8 r → IsUtf8 d → IsUtf8 n → IsUtf8 e
    → IsUtf8 salt → IsUtf8 f → IsUtf8 tag → IsUtf8 g → IsUtf8 (a ++ hmac ++ b ++ primary ++ c ++ r ++ d ++ n ++ e ++ salt ++ f ++ tag ++ g)
utf8-joined a hmac b primary c r d n e salt f tag g ha hh hb hp hc hr hd hn he hs hf ht hg =
    IsUtf8-append _ g (IsUtf8-append _ tag (IsUtf8-append _ f (IsUtf8-append _ salt (IsUtf8-append _ e (IsUtf8-append _ n (IsUtf8-append _ d (IsUtf8-append _ r (IsUtf8-append _ c
    (IsUtf8-append _ primary (IsUtf8-append _ b (IsUtf8-append a hmac ha hh) hb) hp) hc) hr) hd) hn) he) hs) hf) ht) hg

utf8-master : (file : MasterFile) (tag : List ℕ) → Fits file.cost.n file.cost.r → IsUtf8 (master_text file tag)
unfolding master_text
utf8-master file tag fits =
    utf8-joined (codes "{\"hmacMasterKey\":\"") (encoded_by Standard file.hmac) (codes "\",\"primaryMasterKey\":\"") (encoded_by Standard file.primary) (codes "\",\"scryptBlockSize\":")
    (decimal file.cost.r) (codes ",\"scryptCostParam\":") (decimal file.cost.n) (codes ",\"scryptSalt\":\"") (encoded_by Standard file.salt) (codes "\",\"version\":999,\"versionMac\":\"")
    (encoded_by Standard tag) (codes "\"}")
    (IsUtf8-are_ascii _ refl) (base64-utf8 file.hmac) (IsUtf8-are_ascii _ refl) (base64-utf8 file.primary) (IsUtf8-are_ascii _ refl) (IsUtf8-from_ascii _ (IsAscii-decimal file.cost.r fits.r_fits)) (IsUtf8-are_ascii _ refl)
    (IsUtf8-from_ascii _ (IsAscii-decimal file.cost.n fits.n_fits)) (IsUtf8-are_ascii _ refl) (base64-utf8 file.salt) (IsUtf8-are_ascii _ refl) (base64-utf8 tag) (IsUtf8-are_ascii _ refl)

fields-master : (hmac_text primary_text salt_text tag_text hmac primary salt : List ℕ) (n r : ℕ) → decoded_by Standard hmac_text ≡ Some hmac → decoded_by Standard primary_text ≡ Some primary
    → decoded_by Standard salt_text ≡ Some salt → length hmac ≡ 40 → length primary ≡ 40
    → master_fields_of (master_data hmac_text primary_text r n salt_text tag_text) ≡ Ok (record { salt = salt; n = n; r = r; primary = primary; hmac = hmac })
fields-master hmac_text primary_text salt_text tag_text hmac primary salt n r is_hmac is_primary is_salt hmac_size primary_size =
    rw (is_salt, is_primary, is_hmac, primary_size, hmac_size) refl

reads_on : (bytes : List ℕ) (d : Data) (fields : MasterFields) (answer : Result MasterFile CmConfFault) → json_object bytes ≡ Some d → master_fields_of d ≡ Ok fields → Checks fields answer
    → ReadsMaster bytes answer
unfolding master_fields_in
reads_on bytes d fields answer found fields_found checks =
    let P : Result MasterFields CmConfFault → Type 0 = λ r. MatchResult r (λ f. Checks f answer) (λ fault. answer ≡ Err fault) in
    rw found (subst P (sym fields_found) checks)

-- `masterkey.cryptomator` with one part reads back
pub master_reads_back : (salt primary hmac tag : List ℕ) (n r : ℕ) → IsPlain → IsCost (record { n = n; r = r; p = 1 }) → length primary ≡ 40 → length hmac ≡ 40
    → IsBytes primary → IsBytes hmac → IsBytes salt → IsBytes tag
    → ReadsMaster (master_text (record { salt = salt; cost = record { n = n; r = r; p = 1 }; primary = primary; hmac = hmac }) tag) (Ok (record { salt = salt; cost = record { n = n; r = r; p = 1 }; primary = primary; hmac = hmac }))
master_reads_back salt primary hmac tag n r plain cost primary_size hmac_size primary_bytes hmac_bytes salt_bytes tag_bytes =
    let file : MasterFile = record { salt = salt; cost = record { n = n; r = r; p = 1 }; primary = primary; hmac = hmac } in
    let fits : Fits n r = cost_fits (record { n = n; r = r; p = 1 }) cost in
    let object = object_in (master_text file tag) _ (utf8-master file tag fits) (read-master file tag plain fits hmac_bytes primary_bytes salt_bytes tag_bytes) in
    let fields = fields-master (encoded_by Standard hmac) (encoded_by Standard primary) (encoded_by Standard salt) (encoded_by Standard tag) hmac primary salt n r
    (decoded-encoded Standard hmac hmac_bytes) (decoded-encoded Standard primary primary_bytes) (decoded-encoded Standard salt salt_bytes) hmac_size primary_size in
    reads_on (master_text file tag) _ _ (Ok file) object fields (inl (cost, refl))

-- a cost with one part
pub one_part : (cost : Cost) → IsCost cost → IsCost (record { n = cost.n; r = cost.r; p = 1 })
one_part cost is =
    let blocks : cost.r ≤ cost.r * cost.p = le-mul_of_pos_right cost.r is.some_part in
    record {
      power_of_two = is.power_of_two;
      above_one = is.above_one;
      below_limit = is.below_limit;
      some_block = is.some_block;
      table_fits = is.table_fits;
      some_part = lit≤ tt;
      few_parts = lit≤ tt;
      parts_fit = omega (arith, blocks, is.parts_fit);
    }
