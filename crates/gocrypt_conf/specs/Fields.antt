-- The fields of a configuration that are read, and the first that is missing or of another form.
use Rattle.std.specs.Prelude.{ℕ, List, codes, Result, Ok, Err}
use Rattle.serde_json.specs.Data.{Data}
use Rattle.gocrypt_conf.specs.declared.fault.GoConfFault.{GoConfFault}
use Rattle.gocrypt_conf.specs.declared.fault.GoConfFault.TheVariants.{NotJson, Field}
use Rattle.json_fields.specs.declared.base64_text.Alphabet.TheVariants.{Standard}
use Rattle.json_fields.specs.Fields.{need, field}
use Rattle.json_fields.specs.Json.{json_object, number_at, texts_at, bytes_at, object_at}

-- the fields of `ScryptObject`
pub record ScryptFields : Type 0 where
  pub salt : List ℕ
  pub n : ℕ
  pub r : ℕ
  pub p : ℕ
  pub key_len : ℕ

-- the fields of a configuration
pub record Fields : Type 0 where
  pub version : ℕ
  pub flags : List (List ℕ)
  pub sealed : List ℕ
  pub scrypt : ScryptFields

abbrev pub scrypt_fields_of : Data → Result ScryptFields GoConfFault
scrypt_fields_of d =
    field Field (bytes_at Standard) (codes "Salt") d (λ salt.
    field Field number_at (codes "N") d (λ n.
    field Field number_at (codes "R") d (λ r.
    field Field number_at (codes "P") d (λ p.
    field Field number_at (codes "KeyLen") d (λ key_len.
    Ok (record { salt = salt; n = n; r = r; p = p; key_len = key_len }))))))

abbrev pub with_scrypt : ℕ → List (List ℕ) → List ℕ → Result ScryptFields GoConfFault → Result Fields GoConfFault
with_scrypt version flags sealed (Ok scrypt) =
    Ok (record { version = version; flags = flags; sealed = sealed; scrypt = scrypt })
with_scrypt version flags sealed (Err fault) = Err fault

abbrev pub fields_of : Data → Result Fields GoConfFault
fields_of d =
    field Field number_at (codes "Version") d (λ version.
    field Field texts_at (codes "FeatureFlags") d (λ flags.
    field Field (bytes_at Standard) (codes "EncryptedKey") d (λ sealed.
    field Field object_at (codes "ScryptObject") d (λ scrypt.
    with_scrypt version flags sealed (scrypt_fields_of scrypt)))))

-- the fields in the bytes of a file
unfoldable pub fields_in : List ℕ → Result Fields GoConfFault
fields_in bytes = need NotJson (json_object bytes) fields_of
