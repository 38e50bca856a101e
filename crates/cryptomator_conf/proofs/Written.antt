-- The text of `masterkey.cryptomator`, as what is written for its value.
use Rattle.std.proofs.Common.{◌≡◌, ℕ, List, ◌++◌, codes, decimal, refl, sym, ◌∙◌, append_assoc}
use Rattle.std.specs.Fmt.{digits}
use Rattle.json.specs.Print.{escape, escape_byte}
use Rattle.base64.specs.GeneralPurpose.{IsBytes}
use Rattle.json_fields.specs.declared.base64_text.Alphabet.TheVariants.{Standard, UrlSafe}
use Rattle.json_fields.specs.Base64.{encoded_by}
use Rattle.serde_json.specs.Written.{compact_text}
use Rattle.cryptomator_conf.specs.declared.conf.Combo.{Combo}
use Rattle.cryptomator_conf.specs.declared.conf.MasterFile.{MasterFile}
use Rattle.cryptomator_conf.specs.Text.{master_text, header_text, payload_text, signed_text}
use Rattle.cryptomator_conf.proofs.Value.{master_data}

-- base64 stands in a JSON string as it is
abbrev pub IsPlain : Type 0
IsPlain = (bytes : List ℕ) → IsBytes bytes → escape (encoded_by Standard bytes) ≡ encoded_by Standard bytes

decimal-999 : decimal 999 ≡ codes "999"
unfolding digits
decimal-999 = refl

-- the parts of the text, as they nest
regrouped : (hmac primary r n salt tag quote a b c d e f g : List ℕ)
    → a ++ ((hmac ++ quote) ++ (b ++ ((primary ++ quote) ++ (c ++ (r ++ (d ++ (n ++ (e ++ ((salt ++ quote) ++ (f ++ ((tag ++ quote) ++ g)))))))))))
    ≡ a ++ hmac ++ (quote ++ b) ++ primary ++ (quote ++ c) ++ r ++ d ++ n ++ e ++ salt ++ (quote ++ f) ++ tag ++ (quote ++ g)
regrouped hmac primary r n salt tag quote a b c d e f g = simp append_assoc refl

pub compact_text-master_data : (file : MasterFile) (tag : List ℕ) → IsPlain → IsBytes file.hmac → IsBytes file.primary → IsBytes file.salt → IsBytes tag
    → compact_text (master_data (encoded_by Standard file.hmac) (encoded_by Standard file.primary) file.cost.r file.cost.n (encoded_by Standard file.salt) (encoded_by Standard tag)) ≡ master_text file tag
unfolding escape_byte master_text
compact_text-master_data file tag plain hmac primary salt bytes =
    rw (plain file.hmac hmac, plain file.primary primary, plain file.salt salt, plain tag bytes, decimal-999)
    (regrouped (encoded_by Standard file.hmac) (encoded_by Standard file.primary) (decimal file.cost.r) (decimal file.cost.n) (encoded_by Standard file.salt) (encoded_by Standard tag) (codes "\"")
    (codes "{\"hmacMasterKey\":\"") (codes ",\"primaryMasterKey\":\"") (codes ",\"scryptBlockSize\":") (codes ",\"scryptCostParam\":") (codes ",\"scryptSalt\":\"")
    (codes ",\"version\":999,\"versionMac\":\"") (codes "}"))

-- the parts of the text, as they are written one by one
row : (hmac primary r n salt tag a b c d e f g : List ℕ)
    → (a ++ (hmac ++ (b ++ (primary ++ (c ++ (r ++ (d ++ (n ++ (e ++ (salt ++ (f ++ tag))))))))))) ++ g
    ≡ a ++ hmac ++ b ++ primary ++ c ++ r ++ d ++ n ++ e ++ salt ++ f ++ tag ++ g
row hmac primary r n salt tag a b c d e f g = simp append_assoc refl

pub text_of_parts : (file : MasterFile) (tag text : List ℕ)
    → text ≡ (codes "{\"hmacMasterKey\":\"" ++ (encoded_by Standard file.hmac ++ (codes "\",\"primaryMasterKey\":\"" ++ (encoded_by Standard file.primary
    ++ (codes "\",\"scryptBlockSize\":" ++ (decimal file.cost.r ++ (codes ",\"scryptCostParam\":" ++ (decimal file.cost.n
    ++ (codes ",\"scryptSalt\":\"" ++ (encoded_by Standard file.salt ++ (codes "\",\"version\":999,\"versionMac\":\"" ++ encoded_by Standard tag))))))))))) ++ codes "\"}"
    → text ≡ master_text file tag
unfolding master_text
text_of_parts file tag text written =
    written
    ∙ row (encoded_by Standard file.hmac) (encoded_by Standard file.primary) (decimal file.cost.r) (decimal file.cost.n) (encoded_by Standard file.salt) (encoded_by Standard tag)
    (codes "{\"hmacMasterKey\":\"") (codes "\",\"primaryMasterKey\":\"") (codes "\",\"scryptBlockSize\":") (codes ",\"scryptCostParam\":") (codes ",\"scryptSalt\":\"")
    (codes "\",\"version\":999,\"versionMac\":\"") (codes "\"}")

-- what is signed, as its parts are written one by one
pub signed_in_parts : (combo : Combo) (id : List ℕ)
    → encoded_by UrlSafe header_text ++ (codes "." ++ encoded_by UrlSafe (payload_text combo id)) ≡ signed_text combo id
unfolding signed_text
signed_in_parts combo id = sym (append_assoc (encoded_by UrlSafe header_text) (codes ".") (encoded_by UrlSafe (payload_text combo id)))
