-- The JSON value of a configuration that is written.
use Rattle.std.specs.Prelude.{ℕ, List, codes}
use Rattle.serde_json.specs.Data.{Data, number, unsigned, string, array, object, item, no_items, member, no_members}

-- the flags, in order
abbrev pub flag_data : Data
flag_data =
    array (item (string (codes "GCMIV128")) (item (string (codes "HKDF")) (item (string (codes "DirIV"))
    (item (string (codes "EMENames")) (item (string (codes "LongNames")) (item (string (codes "Raw64")) no_items))))))

-- the value of `ScryptObject`, of the base64 of the salt
abbrev pub scrypt_data : List ℕ → ℕ → ℕ → ℕ → Data
scrypt_data salt n r p =
    object (member (codes "KeyLen") (number (unsigned 32))
    (member (codes "N") (number (unsigned n))
    (member (codes "P") (number (unsigned p))
    (member (codes "R") (number (unsigned r))
    (member (codes "Salt") (string salt) no_members)))))

-- the value of the whole, of the base64 of the sealed key and the value of `ScryptObject`
abbrev pub conf_data : List ℕ → Data → Data
conf_data sealed scrypt =
    object (member (codes "Creator") (string (codes "vaultmove 1"))
    (member (codes "EncryptedKey") (string sealed)
    (member (codes "FeatureFlags") flag_data
    (member (codes "ScryptObject") scrypt
    (member (codes "Version") (number (unsigned 2)) no_members)))))
