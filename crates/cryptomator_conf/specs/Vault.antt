-- `vault.cryptomator`: its fields and tests, where the first one that fails is the answer.
use Rattle.std.specs.Prelude.{◌==◌, ◌&&◌, ℕ, Bool, true, false, List, codes, nat_le, if◌then◌else◌, Option, Some, None, Result, Ok, Err}
use Rattle.std.specs.Str.{bytes_eq}
use Rattle.json_fields.specs.Fields.{need, field}
use Rattle.json_fields.specs.Json.{number_at, text_at}
use Rattle.cryptomator_conf.specs.declared.conf.Alg.{Alg}
use Rattle.cryptomator_conf.specs.declared.conf.Alg.TheVariants.{Hs256, Hs384, Hs512}
use Rattle.cryptomator_conf.specs.declared.conf.Combo.{Combo}
use Rattle.cryptomator_conf.specs.declared.conf.VaultFile.{VaultFile}
use Rattle.cryptomator_conf.specs.declared.fault.CmConfFault.{CmConfFault}
use Rattle.cryptomator_conf.specs.declared.fault.CmConfFault.TheVariants as fault
use Rattle.cryptomator_conf.specs.Combo.{combo_of}
use Rattle.cryptomator_conf.specs.Jwt.{Jwt, jwt_in}

-- the hash of a signature by its name (RFC 7518, section 3.1)
abbrev pub alg_of : List ℕ → Option Alg
alg_of name =
    if bytes_eq name (codes "HS256") then Some Hs256
    else (if bytes_eq name (codes "HS384") then Some Hs384
    else (if bytes_eq name (codes "HS512") then Some Hs512 else None))

pub record VaultFields : Type 0 where
  pub alg : List ℕ
  pub kid : List ℕ
  pub format : ℕ
  pub combo : List ℕ
  pub threshold : ℕ

abbrev pub vault_fields_of : Jwt → Result VaultFields CmConfFault
vault_fields_of jwt =
    field fault.Field text_at (codes "alg") jwt.header (λ alg.
    field fault.Field text_at (codes "kid") jwt.header (λ kid.
    field fault.Field number_at (codes "format") jwt.payload (λ format.
    field fault.Field text_at (codes "cipherCombo") jwt.payload (λ combo.
    field fault.Field number_at (codes "shorteningThreshold") jwt.payload (λ threshold.
    Ok (record { alg = alg; kid = kid; format = format; combo = combo; threshold = threshold }))))))

-- what the tests leave of the fields
pub record Settings : Type 0 where
  pub alg : Alg
  pub combo : Combo
  pub threshold : ℕ

-- what follows where a test is true, and else a fault
abbrev pub must : {A : Type 0} → CmConfFault → Bool → Result A CmConfFault → Result A CmConfFault
must fault true next = next
must fault false next = Err fault

-- the tests of the fields, in order
abbrev pub settings_of : VaultFields → Result Settings CmConfFault
settings_of fields =
    need (fault.Alg fields.alg) (alg_of fields.alg) (λ alg.
    must (fault.Kid fields.kid) (bytes_eq fields.kid (codes "masterkeyfile:masterkey.cryptomator"))
    (must (fault.Format fields.format) (fields.format == 8)
    (need (fault.Combo fields.combo) (combo_of fields.combo) (λ combo.
    must (fault.Threshold fields.threshold) (nat_le 36 fields.threshold && nat_le fields.threshold 1000)
    (Ok (record { alg = alg; combo = combo; threshold = fields.threshold }))))))

-- what follows of what was read
abbrev pub after : {A B : Type 0} → (A → Result B CmConfFault) → Result A CmConfFault → Result B CmConfFault
after next (Ok value) = next value
after next (Err fault) = Err fault

abbrev pub vault_of : Jwt → Settings → Result VaultFile CmConfFault
vault_of jwt settings = Ok (record {
  alg = settings.alg;
  combo = settings.combo;
  threshold = settings.threshold;
  signed = jwt.signed;
  signature = jwt.signature;
})

-- the answer to the bytes of a file
unfoldable pub vault_in : List ℕ → Result VaultFile CmConfFault
vault_in bytes =
    need fault.NotJwt (jwt_in bytes) (λ jwt. after (vault_of jwt) (after settings_of (vault_fields_of jwt)))
