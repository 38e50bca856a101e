-- The text of a configuration, as what is written for a JSON value, and read back.
use Rattle.std.proofs.Common.{◌≡◌, ℕ, List, ◌++◌, codes, decimal, refl, ◌∙◌, append_assoc}
use Rattle.std.specs.Fmt.{digits}
use Rattle.json.specs.Print.{escape, escape_byte}
use Rattle.base64.specs.Engines.{standard}
use Rattle.base64.specs.GeneralPurpose.{encode_of, IsBytes}
use Rattle.serde_json.specs.Written.{compact_text}
use Rattle.gocrypt_conf.specs.Text.{text_with}
use Rattle.gocrypt_conf.proofs.Value.{conf_data, scrypt_data}

decimal-2 : decimal 2 ≡ codes "2"
unfolding digits
decimal-2 = refl

decimal-32 : decimal 32 ≡ codes "32"
unfolding digits
decimal-32 = refl

-- the parts of the text, as they nest
regrouped : (sealed salt n r p quote a b c d e f g : List ℕ)
    → a ++ ((sealed ++ quote) ++ (b ++ ((n ++ (c ++ (p ++ (d ++ (r ++ (e ++ ((salt ++ quote) ++ f))))))) ++ g)))
    ≡ a ++ sealed ++ (quote ++ b) ++ n ++ c ++ p ++ d ++ r ++ e ++ salt ++ (quote ++ (f ++ g))
regrouped sealed salt n r p quote a b c d e f g = simp append_assoc refl

pub compact_text-conf_data : (sealed salt : List ℕ) (n r p : ℕ) → escape sealed ≡ sealed → escape salt ≡ salt
    → compact_text (conf_data sealed (scrypt_data salt n r p)) ≡ text_with sealed salt n r p
unfolding escape_byte text_with
compact_text-conf_data sealed salt n r p plain_sealed plain_salt =
    rw (plain_sealed, plain_salt, decimal-2, decimal-32)
    (regrouped sealed salt (decimal n) (decimal r) (decimal p) (codes "\"") (codes "{\"Creator\":\"vaultmove 1\",\"EncryptedKey\":\"")
    (codes ",\"FeatureFlags\":[\"GCMIV128\",\"HKDF\",\"DirIV\",\"EMENames\",\"LongNames\",\"Raw64\"],\"ScryptObject\":{\"KeyLen\":32,\"N\":")
    (codes ",\"P\":") (codes ",\"R\":") (codes ",\"Salt\":\"") (codes "}") (codes ",\"Version\":2}"))

-- base64 stands in a JSON string as it is
abbrev pub IsPlain : Type 0
IsPlain = (bytes : List ℕ) → IsBytes bytes → escape (encode_of standard bytes) ≡ encode_of standard bytes

-- the parts of the text, as they are written one by one
row : (sealed salt n r p a b c d e f : List ℕ)
    → a ++ (sealed ++ (b ++ (n ++ (c ++ (p ++ (d ++ (r ++ (e ++ (salt ++ f))))))))) ≡ a ++ sealed ++ b ++ n ++ c ++ p ++ d ++ r ++ e ++ salt ++ f
row sealed salt n r p a b c d e f = simp append_assoc refl

pub text_of_parts : (text sealed salt : List ℕ) (n r p : ℕ)
    → text ≡ codes "{\"Creator\":\"vaultmove 1\",\"EncryptedKey\":\""
    ++ (sealed ++ (codes "\",\"FeatureFlags\":[\"GCMIV128\",\"HKDF\",\"DirIV\",\"EMENames\",\"LongNames\",\"Raw64\"],\"ScryptObject\":{\"KeyLen\":32,\"N\":"
    ++ (decimal n ++ (codes ",\"P\":" ++ (decimal p ++ (codes ",\"R\":" ++ (decimal r ++ (codes ",\"Salt\":\"" ++ (salt ++ codes "\"},\"Version\":2}")))))))))
    → text ≡ text_with sealed salt n r p
unfolding text_with
text_of_parts text sealed salt n r p written =
    written
    ∙ row sealed salt (decimal n) (decimal r) (decimal p) (codes "{\"Creator\":\"vaultmove 1\",\"EncryptedKey\":\"")
    (codes "\",\"FeatureFlags\":[\"GCMIV128\",\"HKDF\",\"DirIV\",\"EMENames\",\"LongNames\",\"Raw64\"],\"ScryptObject\":{\"KeyLen\":32,\"N\":")
    (codes ",\"P\":") (codes ",\"R\":") (codes ",\"Salt\":\"") (codes "\"},\"Version\":2}")
