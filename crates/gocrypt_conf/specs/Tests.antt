-- The tests of a configuration: the first one that fails is the answer.
use Rattle.std.specs.Prelude.{◌≡◌, ◌⊎◌, ℕ, List, [], ◌∷◌, length, codes, not, find, Option, Some, None, Result, Ok, Err, MatchResult}
use Rattle.std.specs.Option.{option_or}
use Rattle.std.specs.List.{list_any}
use Rattle.std.specs.Str.{bytes_eq}
use Rattle.kdf_suite.specs.ScryptCost.{Cost, IsCost}
use Rattle.gocrypt_conf.specs.declared.conf.GoConf.{GoConf}
use Rattle.gocrypt_conf.specs.declared.fault.GoConfFault.{GoConfFault}
use Rattle.gocrypt_conf.specs.declared.fault.GoConfFault.TheVariants as fault
use Rattle.gocrypt_conf.specs.Fields.{Fields, fields_in}

abbrev pub ReadConf : Type 0
ReadConf = Result GoConf GoConfFault

-- the flags that must all be there, and no others
abbrev pub known_flags : List (List ℕ)
known_flags =
    codes "GCMIV128" ∷ codes "HKDF" ∷ codes "DirIV" ∷ codes "EMENames" ∷ codes "LongNames" ∷ codes "Raw64" ∷ []

-- the first of some texts that isn't among others
abbrev pub first_outside : List (List ℕ) → List (List ℕ) → Option (List ℕ)
first_outside others texts = find (λ text. not (list_any (λ other. bytes_eq other text) others)) texts

-- the flag that is refused: the first that isn't known, else the first known one that isn't there
abbrev pub wrong_flag : List (List ℕ) → Option (List ℕ)
wrong_flag flags = option_or (first_outside known_flags flags) (first_outside flags known_flags)

-- what follows where the fact holds, and else the answer is the fault
abbrev pub Must : Type 0 → GoConfFault → ReadConf → Type 0 → Type 0
Must fact fault answer next = (fact × next) ⊎ (¬ fact × (answer ≡ Err fault))

-- what follows where no flag is refused, and else the answer is that flag
abbrev pub NoWrongFlag : Option (List ℕ) → ReadConf → Type 0 → Type 0
NoWrongFlag None answer next = next
NoWrongFlag (Some flag) answer next = answer ≡ Err (fault.Flag flag)

abbrev pub cost_of : Fields → Cost
cost_of fields = record { n = fields.scrypt.n; r = fields.scrypt.r; p = fields.scrypt.p }

-- the tests of the fields, in order: the version, the flags, the cost, the lengths
unfoldable pub Checks : Fields → ReadConf → Type 0
Checks fields answer =
    Must (fields.version ≡ 2) (fault.Version fields.version) answer
    (NoWrongFlag (wrong_flag fields.flags) answer
    (Must (IsCost (cost_of fields)) fault.Cost answer
    (Must (length fields.sealed ≡ 64) (fault.Length (codes "EncryptedKey")) answer
    (Must (fields.scrypt.key_len ≡ 32) (fault.Length (codes "KeyLen")) answer
    (answer ≡ Ok (record { salt = fields.scrypt.salt; cost = cost_of fields; sealed = fields.sealed }))))))

-- the answer to the bytes of a file
abbrev pub ReadsAs : List ℕ → ReadConf → Type 0
ReadsAs bytes answer =
    MatchResult (fields_in bytes) (λ fields. Checks fields answer) (λ fault. answer ≡ Err fault)
