-- The texts of new files are short.
use Rattle.std.proofs.Common.{◌≡◌, ℕ, zero, suc, ◌+◌, ◌*◌, ◌/◌, ◌^◌, ◌<◌, ◌≤◌, List, [], ◌∷◌, ◌++◌, length, codes, decimal, refl, ap, ◌∙◌, arith, length-append}
use Rattle.std.proofs.lemmas.Fmt.{length-decimal-le}
use Rattle.json_fields.specs.declared.base64_text.Alphabet.TheVariants.{Standard, UrlSafe}
use Rattle.json_fields.specs.Base64.{encoded_by}
use Rattle.kdf_suite.specs.Hmac.{hmac_sha256}
use Rattle.uuid.specs.Text.{by_index}
use Rattle.cryptomator_conf.specs.declared.conf.Alg.TheVariants.{Hs256}
use Rattle.cryptomator_conf.specs.declared.conf.CmDraw.{CmDraw}
use Rattle.cryptomator_conf.specs.declared.conf.Combo.{Combo}
use Rattle.cryptomator_conf.specs.declared.conf.Combo.TheVariants.{SivGcm, SivCtrMac}
use Rattle.cryptomator_conf.specs.declared.conf.MasterFile.{MasterFile}
use Rattle.vault_values.specs.Id.{id_of}
use Rattle.cryptomator_conf.specs.Signature.{signature_of}
use Rattle.cryptomator_conf.specs.Text.{keys_of, header_text, master_text, payload_text, signed_text, vault_text}

-- base64 of some bytes is of so many characters, with padding and without
abbrev pub HasSize : Type 0
HasSize = (bytes : List ℕ) → length (encoded_by Standard bytes) ≡ (length bytes + 2) / 3 * 4

abbrev pub HasUrlSize : Type 0
HasUrlSize = (bytes : List ℕ) → length (encoded_by UrlSafe bytes) ≡ (4 * length bytes + 2) / 3

short_parts : (hmac primary r n salt tag : List ℕ) → length hmac ≡ 56 → length primary ≡ 56 → length r ≤ 20 → length n ≤ 20 → length salt ≡ 12 → length tag ≡ 44
    → length (codes "{\"hmacMasterKey\":\"" ++ hmac ++ codes "\",\"primaryMasterKey\":\"" ++ primary ++ codes "\",\"scryptBlockSize\":" ++ r
    ++ codes ",\"scryptCostParam\":" ++ n ++ codes ",\"scryptSalt\":\"" ++ salt ++ codes "\",\"version\":999,\"versionMac\":\"" ++ tag ++ codes "\"}") ≤ 65536
short_parts hmac primary r n salt tag one two three four five six = simp length-append (omega (arith, one, two, three, four, five, six))

pub short_master : HasSize → (file : MasterFile) (tag : List ℕ) → length file.hmac ≡ 40 → length file.primary ≡ 40 → length file.salt ≡ 8 → length tag ≡ 32
    → file.cost.n < 2 ^ 64 → file.cost.r < 2 ^ 64 → length (master_text file tag) ≤ 65536
unfolding master_text
short_master size file tag hmac primary salt tag_size n_fits r_fits =
    let n_size : length (decimal file.cost.n) ≤ 20 = length-decimal-le 20 file.cost.n (omega arith) (omega (arith, n_fits)) n_fits in
    let r_size : length (decimal file.cost.r) ≤ 20 = length-decimal-le 20 file.cost.r (omega arith) (omega (arith, r_fits)) r_fits in
    short_parts (encoded_by Standard file.hmac) (encoded_by Standard file.primary) (decimal file.cost.r) (decimal file.cost.n) (encoded_by Standard file.salt) (encoded_by Standard tag)
    (size file.hmac ∙ ap (λ k. (k + 2) / 3 * 4) hmac) (size file.primary ∙ ap (λ k. (k + 2) / 3 * 4) primary) r_size n_size
    (size file.salt ∙ ap (λ k. (k + 2) / 3 * 4) salt) (size tag ∙ ap (λ k. (k + 2) / 3 * 4) tag_size)

length-by_index : (n : ℕ) (f : ℕ → ℕ) → length (by_index n f) ≡ n
unfolding by_index
length-by_index zero f = refl
length-by_index (suc n) f = let e : length (by_index n f) ≡ n = length-by_index n f in omega (arith, e, length-append (by_index n f) (f n ∷ []))

length-id : (drawn : List ℕ) → length (id_of drawn) ≡ 36
unfolding id_of
length-id drawn = length-by_index 36 _

length-payload : (combo : Combo) (id : List ℕ) → length (payload_text combo id) ≤ 100 + length id
unfolding payload_text
length-payload SivGcm id = simp length-append (omega arith)
length-payload SivCtrMac id = simp length-append (omega arith)

url_few : HasUrlSize → (bytes : List ℕ) → length (encoded_by UrlSafe bytes) ≤ 2 * length bytes + 1
url_few size bytes = omega (arith, size bytes)

short_three : (head body tail : List ℕ) → length head ≤ 1000 → length body ≤ 1000 → length tail ≤ 1000 → length (head ++ codes "." ++ body ++ codes "." ++ tail) ≤ 65536
short_three head body tail one two three = simp length-append (omega (arith, one, two, three))

pub short_vault : HasUrlSize → ((key text : List ℕ) → length (hmac_sha256 key text) ≡ 32) → (combo : Combo) (drawn : CmDraw) → length (vault_text combo drawn) ≤ 65536
unfolding vault_text signed_text
short_vault size tags combo drawn =
    let id : List ℕ = id_of drawn.jti in
    let signature : List ℕ = signature_of Hs256 (keys_of drawn) (signed_text combo id) in
    let head : length (encoded_by UrlSafe header_text) ≤ 2 * length header_text + 1 = url_few size header_text in
    let head_size : length header_text ≡ 71 = refl in
    let body : length (encoded_by UrlSafe (payload_text combo id)) ≤ 2 * length (payload_text combo id) + 1 = url_few size (payload_text combo id) in
    let body_size : length (payload_text combo id) ≤ 100 + length id = length-payload combo id in
    let id_size : length id ≡ 36 = length-id drawn.jti in
    let tail : length (encoded_by UrlSafe signature) ≤ 2 * length signature + 1 = url_few size signature in
    let tail_size : length signature ≡ 32 = tags (drawn.enc ++ drawn.mac) (signed_text combo id) in
    short_three (encoded_by UrlSafe header_text) (encoded_by UrlSafe (payload_text combo id)) (encoded_by UrlSafe signature)
    (omega (arith, head, head_size)) (omega (arith, body, body_size, id_size)) (omega (arith, tail, tail_size))
