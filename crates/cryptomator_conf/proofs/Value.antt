-- The JSON values of configurations that are written.
use Rattle.std.specs.Prelude.{ℕ, List, codes}
use Rattle.serde_json.specs.Data.{Data, number, unsigned, string, object, member, no_members}
use Rattle.cryptomator_conf.specs.declared.conf.Combo.{Combo}
use Rattle.cryptomator_conf.specs.Combo.{combo_name}

-- the value of `masterkey.cryptomator`, of the base64 of the wrapped keys, of the salt and of the tag
abbrev pub master_data : List ℕ → List ℕ → ℕ → ℕ → List ℕ → List ℕ → Data
master_data hmac primary r n salt tag =
    object (member (codes "hmacMasterKey") (string hmac)
    (member (codes "primaryMasterKey") (string primary)
    (member (codes "scryptBlockSize") (number (unsigned r))
    (member (codes "scryptCostParam") (number (unsigned n))
    (member (codes "scryptSalt") (string salt)
    (member (codes "version") (number (unsigned 999))
    (member (codes "versionMac") (string tag) no_members)))))))

-- the values of the token's two objects
abbrev pub header_data : Data
header_data =
    object (member (codes "alg") (string (codes "HS256"))
    (member (codes "kid") (string (codes "masterkeyfile:masterkey.cryptomator"))
    (member (codes "typ") (string (codes "JWT")) no_members)))

abbrev pub payload_data : Combo → List ℕ → Data
payload_data combo id =
    object (member (codes "cipherCombo") (string (combo_name combo))
    (member (codes "format") (number (unsigned 8))
    (member (codes "jti") (string id)
    (member (codes "shorteningThreshold") (number (unsigned 220)) no_members))))
