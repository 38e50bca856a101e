-- `masterkey.cryptomator`: its fields and tests, where the first one that fails is the answer.
use Rattle.std.specs.Prelude.{◌≡◌, ◌⊎◌, ◌==◌, ℕ, List, length, codes, if◌then◌else◌, Option, Some, None, option_and_then, Result, Ok, Err, MatchResult}
use Rattle.serde_json.specs.Data.{Data}
use Rattle.json_fields.specs.declared.base64_text.Alphabet.TheVariants.{Standard}
use Rattle.json_fields.specs.Fields.{need, field}
use Rattle.json_fields.specs.Json.{json_object, number_at, bytes_at}
use Rattle.kdf_suite.specs.ScryptCost.{Cost, IsCost}
use Rattle.cryptomator_conf.specs.declared.conf.MasterFile.{MasterFile}
use Rattle.cryptomator_conf.specs.declared.fault.CmConfFault.{CmConfFault}
use Rattle.cryptomator_conf.specs.declared.fault.CmConfFault.TheVariants as fault

pub record MasterFields : Type 0 where
  pub salt : List ℕ
  pub n : ℕ
  pub r : ℕ
  pub primary : List ℕ
  pub hmac : List ℕ

-- the bytes, where they are forty
abbrev pub forty : List ℕ → Option (List ℕ)
forty bytes = if length bytes == 40 then Some bytes else None

-- the wrapped key at a name
abbrev pub wrapped_at : List ℕ → Data → Option (List ℕ)
wrapped_at name d = option_and_then forty (bytes_at Standard name d)

abbrev pub master_fields_of : Data → Result MasterFields CmConfFault
master_fields_of d =
    field fault.Field (bytes_at Standard) (codes "scryptSalt") d (λ salt.
    field fault.Field number_at (codes "scryptCostParam") d (λ n.
    field fault.Field number_at (codes "scryptBlockSize") d (λ r.
    field fault.Field wrapped_at (codes "primaryMasterKey") d (λ primary.
    field fault.Field wrapped_at (codes "hmacMasterKey") d (λ hmac.
    Ok (record { salt = salt; n = n; r = r; primary = primary; hmac = hmac }))))))

-- the fields in the bytes of a file
unfoldable pub master_fields_in : List ℕ → Result MasterFields CmConfFault
master_fields_in bytes = need fault.NotJson (json_object bytes) master_fields_of

-- scrypt's cost, with one part
abbrev pub cost_of : MasterFields → Cost
cost_of fields = record { n = fields.n; r = fields.r; p = 1 }

abbrev pub file_of : MasterFields → MasterFile
file_of fields =
    record { salt = fields.salt; cost = cost_of fields; primary = fields.primary; hmac = fields.hmac }

-- the test of the fields: their numbers are a cost
abbrev pub Checks : MasterFields → Result MasterFile CmConfFault → Type 0
Checks fields answer =
    (IsCost (cost_of fields) × (answer ≡ Ok (file_of fields))) ⊎ (¬ IsCost (cost_of fields) × (answer ≡ Err fault.Cost))

-- the answer to the bytes of a file
abbrev pub ReadsMaster : List ℕ → Result MasterFile CmConfFault → Type 0
ReadsMaster bytes answer =
    MatchResult (master_fields_in bytes) (λ fields. Checks fields answer) (λ fault. answer ≡ Err fault)
