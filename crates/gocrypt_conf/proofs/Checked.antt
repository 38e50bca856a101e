-- Each answer of the tests of the fields.
use Rattle.std.proofs.Common.{◌≡◌, ◌≢◌, ◌⊎◌, ℕ, List, length, codes, Option, Some, None, Ok, Err, inl, inr, refl, sym, ap, ◌∙◌, subst}
use Rattle.std.specs.Option.{option_or}
use Rattle.kdf_suite.specs.ScryptCost.{IsCost}
use Rattle.gocrypt_conf.specs.declared.fault.GoConfFault.{GoConfFault}
use Rattle.gocrypt_conf.specs.declared.fault.GoConfFault.TheVariants as fault
use Rattle.gocrypt_conf.specs.Fields.{Fields}
use Rattle.gocrypt_conf.specs.Tests.{ReadConf, Checks, first_outside, known_flags, wrong_flag, NoWrongFlag, cost_of}

-- a fault that was made, or memory was refused
pub named : (made named_fault : GoConfFault) (f : Fields) → (made ≡ fault.NoMemory) ⊎ (made ≡ named_fault) → Checks f (Err named_fault)
    → (made ≡ fault.NoMemory) ⊎ Checks f (Err made)
named made named_fault f (inl none) checks = inl none
named made named_fault f (inr is) checks = inr (subst (λ g. Checks f (Err g)) (sym is) checks)

-- what follows where no flag is wrong
passed : (found : _) (answer : ReadConf) (next : Type 0) → found ≡ None → next → NoWrongFlag found answer next
passed found answer next none then = subst (λ f. NoWrongFlag f answer next) (sym none) then

-- the answer where a flag is wrong
stopped : (found : _) (flag : List ℕ) (next : Type 0) → found ≡ Some flag → NoWrongFlag found (Err (fault.Flag flag)) next
stopped found flag next some = subst (λ f. NoWrongFlag f (Err (fault.Flag flag)) next) (sym some) refl

pub wrong_version : (f : Fields) → f.version ≢ 2 → Checks f (Err (fault.Version f.version))
unfolding Checks
wrong_version f other = inr (other, refl)

-- which flag is refused
pub unknown_refused : (flags : List (List ℕ)) (flag : List ℕ) → Some flag ≡ first_outside known_flags flags → wrong_flag flags ≡ Some flag
unknown_refused flags flag unknown = ap (λ first. option_or first (first_outside flags known_flags)) (sym unknown)

pub missing_refused : (flags : List (List ℕ)) (found : Option (List ℕ)) → None ≡ first_outside known_flags flags → found ≡ first_outside flags known_flags
    → wrong_flag flags ≡ found
missing_refused flags found known missing = ap (λ first. option_or first (first_outside flags known_flags)) (sym known) ∙ sym missing

pub flag_refused : (f : Fields) (flag : List ℕ) → f.version ≡ 2 → wrong_flag f.flags ≡ Some flag → Checks f (Err (fault.Flag flag))
unfolding Checks
flag_refused f flag version some = inl (version, stopped _ flag _ some)

pub no_cost : (f : Fields) → f.version ≡ 2 → wrong_flag f.flags ≡ None → ¬ IsCost (cost_of f) → Checks f (Err fault.Cost)
unfolding Checks
no_cost f version flags none = inl (version, passed _ _ _ flags (inr (none, refl)))

pub wrong_sealed : (f : Fields) → f.version ≡ 2 → wrong_flag f.flags ≡ None → IsCost (cost_of f) → length f.sealed ≢ 64
    → Checks f (Err (fault.Length (codes "EncryptedKey")))
unfolding Checks
wrong_sealed f version flags cost other = inl (version, passed _ _ _ flags (inl (cost, inr (other, refl))))

pub wrong_key_len : (f : Fields) → f.version ≡ 2 → wrong_flag f.flags ≡ None → IsCost (cost_of f) → length f.sealed ≡ 64 → f.scrypt.key_len ≢ 32
    → Checks f (Err (fault.Length (codes "KeyLen")))
unfolding Checks
wrong_key_len f version flags cost sealed other = inl (version, passed _ _ _ flags (inl (cost, inl (sealed, inr (other, refl)))))

pub all_passed : (f : Fields) → f.version ≡ 2 → wrong_flag f.flags ≡ None → IsCost (cost_of f) → length f.sealed ≡ 64 → f.scrypt.key_len ≡ 32
    → Checks f (Ok (record { salt = f.scrypt.salt; cost = cost_of f; sealed = f.sealed }))
unfolding Checks
all_passed f version flags cost sealed key_len = inl (version, passed _ _ _ flags (inl (cost, inl (sealed, inl (key_len, refl)))))
