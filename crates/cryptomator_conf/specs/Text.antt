-- The texts of new configuration files, and of one with another passphrase: compact JSON with its keys in byte order, and no newline.
use Rattle.std.specs.Prelude.{◌≡◌, ℕ, List, ◌∷◌, [], ◌++◌, codes, decimal}
use Rattle.aes_lanes.specs.Cipher.{aes256}
use Rattle.json_fields.specs.declared.base64_text.Alphabet.TheVariants.{Standard, UrlSafe}
use Rattle.json_fields.specs.Base64.{encoded_by}
use Rattle.kdf_suite.specs.Hmac.{hmac_sha256}
use Rattle.kdf_suite.specs.ScryptCost.{Cost}
use Rattle.key_wrap.specs.Wrap.{wrapped}
use Rattle.cryptomator_conf.specs.declared.conf.Alg.TheVariants.{Hs256}
use Rattle.cryptomator_conf.specs.declared.conf.CmDraw.{CmDraw}
use Rattle.cryptomator_conf.specs.declared.conf.Combo.{Combo}
use Rattle.cryptomator_conf.specs.declared.conf.MasterFile.{MasterFile}
use Rattle.vault_values.specs.declared.keys.CmKeys.{CmKeys}
use Rattle.cryptomator_conf.specs.Combo.{combo_name}
use Rattle.vault_values.specs.Id.{id_of}
use Rattle.cryptomator_conf.specs.Keys.{AreKeys, Unlocks, wrapping_key}
use Rattle.cryptomator_conf.specs.Signature.{signature_of}

-- the drawn keys
abbrev pub keys_of : CmDraw → CmKeys
keys_of drawn = record { enc = drawn.enc; mac = drawn.mac }

-- the tag of a version, of four bytes with the highest first, under the MAC key
abbrev pub version_mac : List ℕ → List ℕ → List ℕ
version_mac mac version = hmac_sha256 mac version

-- 999, in four bytes
abbrev pub version_bytes : List ℕ
version_bytes = 0 ∷ 0 ∷ 3 ∷ 231 ∷ []

-- what a `masterkey.cryptomator` with this salt says: the keys, wrapped under the passphrase's key
abbrev pub master_of : List ℕ → Cost → List ℕ → CmKeys → MasterFile
master_of pass cost salt keys =
    let one_part : Cost = record { n = cost.n; r = cost.r; p = 1 } in
    let key : List ℕ = wrapping_key pass salt one_part in
    record {
      salt = salt;
      cost = one_part;
      primary = wrapped (aes256 key) keys.enc;
      hmac = wrapped (aes256 key) keys.mac;
    }

-- what a new one says: the drawn keys
abbrev pub made_master : List ℕ → Cost → CmDraw → MasterFile
made_master pass cost drawn = master_of pass cost drawn.salt (keys_of drawn)

-- its text, with the tag of its version
unfoldable pub master_text : MasterFile → List ℕ → List ℕ
master_text file tag =
    codes "{\"hmacMasterKey\":\"" ++ encoded_by Standard file.hmac
    ++ codes "\",\"primaryMasterKey\":\"" ++ encoded_by Standard file.primary
    ++ codes "\",\"scryptBlockSize\":" ++ decimal file.cost.r
    ++ codes ",\"scryptCostParam\":" ++ decimal file.cost.n
    ++ codes ",\"scryptSalt\":\"" ++ encoded_by Standard file.salt
    ++ codes "\",\"version\":999,\"versionMac\":\"" ++ encoded_by Standard tag ++ codes "\"}"

-- the text for another passphrase, with the salt that was drawn: that of the two keys that the old passphrase opens
pub record Rewraps (file : MasterFile) (pass new_pass : List ℕ) (cost : Cost) (salt text : List ℕ) : Type 0 where
  pub keys : CmKeys
  pub are : AreKeys keys
  pub held : Unlocks file pass keys
  pub written : text ≡ master_text (master_of new_pass cost salt keys) (version_mac keys.mac version_bytes)

-- the two objects of a new `vault.cryptomator`
abbrev pub header_text : List ℕ
header_text = codes "{\"alg\":\"HS256\",\"kid\":\"masterkeyfile:masterkey.cryptomator\",\"typ\":\"JWT\"}"

unfoldable pub payload_text : Combo → List ℕ → List ℕ
payload_text combo id =
    codes "{\"cipherCombo\":\"" ++ combo_name combo
    ++ codes "\",\"format\":8,\"jti\":\"" ++ id ++ codes "\",\"shorteningThreshold\":220}"

-- what is signed
unfoldable pub signed_text : Combo → List ℕ → List ℕ
signed_text combo id = encoded_by UrlSafe header_text ++ codes "." ++ encoded_by UrlSafe (payload_text combo id)

-- the text of a new `vault.cryptomator` with these ciphers
unfoldable pub vault_text : Combo → CmDraw → List ℕ
vault_text combo drawn =
    let signed : List ℕ = signed_text combo (id_of drawn.jti) in
    signed ++ codes "." ++ encoded_by UrlSafe (signature_of Hs256 (keys_of drawn) signed)
