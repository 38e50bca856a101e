-- What a reader answers, by what its decoder gave.
use Rattle.std.proofs.Common.{◌≡◌, ◌≢◌, ◌∙◌, ℕ, zero, suc, ◌<◌, List, take, Result, Ok, Err, IfOk, IfErr, inl, inr, refl, sym, subst, arith}
use Rattle.chunk_files.specs.Reading.{Ending, Wanting, Faulty, Reading, chunk_before}
use Rattle.chunk_files.specs.Decoding.{Decoding}
use Rattle.folder_spec.specs.Path.{Path}
use Rattle.vault_read.specs.Contents.{GivesBytes, Gives, IsReaderFault, Passes, Stops, still}
use Rattle.vault_read.specs.Reading.{AnswersGiven, GivesOf}
use Rattle.vault_faults.specs.declared.fault.Limit.TheVariants.{Length}
use Rattle.vault_faults.specs.declared.fault.CatFault.{CatFault}
use Rattle.vault_faults.specs.declared.fault.CatFault.TheVariants.{Damaged, Failed, Limit, NoMemory}
use Rattle.vault_read.specs.declared.reader.Given.{Given}
use Rattle.vault_read.specs.declared.reader.Given.TheVariants.{Bytes, End, Damage, PastLimit}

gives_some : (n : ℕ) (buffer : List ℕ) (before after : Reading) → 0 < n → Passes before (chunk_before (take n buffer) after) → GivesBytes n buffer before after
gives_some zero buffer before after some passes = absurd (omega (arith, some))
gives_some (suc n) buffer before after some passes = passes

stops_passing : (ending : Ending) (before after : Reading) → Stops ending before after → Passes before after
stops_passing ending before after stops = subst (Passes before) (sym stops.1) stops.0

module _ (at : Path) (bytes out : List ℕ) (d d2 : Decoding) where
  answer_as : (result other : Result ℕ CatFault) → result ≡ other → Gives at other out (still d bytes) (still d2 bytes) → Gives at result out (still d bytes) (still d2 bytes)
  answer_as result other is h = subst (λ (x : Result ℕ CatFault). Gives at x out (still d bytes) (still d2 bytes)) (sym is) h

  pub answered_gives : (given : Given) (result : Result ℕ CatFault) → AnswersGiven at given result → ((n : ℕ) → given ≡ Bytes n → 0 < n)
      → GivesOf bytes (Ok given) out d d2 → Gives at result out (still d bytes) (still d2 bytes)
  answered_gives (Bytes n) result told some gives = answer_as result (Ok n) told (gives_some n out (still d bytes) (still d2 bytes) (some n refl) gives)
  answered_gives End result told some gives = answer_as result (Ok 0) told gives
  answered_gives (Damage fault) result told some gives = elim told [
    | inl is ↦ answer_as result (Err (Damaged at fault)) is (refl, gives)
    | inr is ↦ answer_as result (Err NoMemory) is (stops_passing (Faulty fault) (still d bytes) (still d2 bytes) gives)
  ]
  answered_gives PastLimit result told some gives = elim told [
    | inl is ↦ answer_as result (Err (Limit (Length at))) is (refl, gives)
    | inr is ↦ answer_as result (Err NoMemory) is (stops_passing Wanting (still d bytes) (still d2 bytes) gives)
  ]

pub answered_ok : (at : Path) (P : ℕ → Type 0) (given : Given) (result : Result ℕ CatFault) → AnswersGiven at given result → ((n : ℕ) → given ≡ Bytes n → P n) → P 0 → IfOk result P
answered_ok at P (Bytes n) result told some none = subst (λ (x : Result ℕ CatFault). IfOk x P) (sym told) (some n refl)
answered_ok at P End result told some none = subst (λ (x : Result ℕ CatFault). IfOk x P) (sym told) none
answered_ok at P (Damage fault) result told some none = elim told [
  | inl is ↦ subst (λ (x : Result ℕ CatFault). IfOk x P) (sym is) tt
  | inr is ↦ subst (λ (x : Result ℕ CatFault). IfOk x P) (sym is) tt
]
answered_ok at P PastLimit result told some none = elim told [
  | inl is ↦ subst (λ (x : Result ℕ CatFault). IfOk x P) (sym is) tt
  | inr is ↦ subst (λ (x : Result ℕ CatFault). IfOk x P) (sym is) tt
]

pub answered_fault : (at : Path) (given : Given) (result : Result ℕ CatFault) → AnswersGiven at given result → IfErr result (IsReaderFault at)
answered_fault at (Bytes n) result told = subst (λ (x : Result ℕ CatFault). IfErr x (IsReaderFault at)) (sym told) tt
answered_fault at End result told = subst (λ (x : Result ℕ CatFault). IfErr x (IsReaderFault at)) (sym told) tt
answered_fault at (Damage fault) result told = elim told [
  | inl is ↦ subst (λ (x : Result ℕ CatFault). IfErr x (IsReaderFault at)) (sym is) refl
  | inr is ↦ subst (λ (x : Result ℕ CatFault). IfErr x (IsReaderFault at)) (sym is) tt
]
answered_fault at PastLimit result told = elim told [
  | inl is ↦ subst (λ (x : Result ℕ CatFault). IfErr x (IsReaderFault at)) (sym is) refl
  | inr is ↦ subst (λ (x : Result ℕ CatFault). IfErr x (IsReaderFault at)) (sym is) tt
]

-- the folder didn't fail
pub answered_well : (at : Path) (given : Given) (result : Result ℕ CatFault) → AnswersGiven at given result → result ≢ Err Failed
answered_well at (Bytes n) result told failed = let never : Ok n ≡ Err Failed = sym told ∙ failed in cc never
answered_well at End result told failed = let never : Ok 0 ≡ Err Failed = sym told ∙ failed in cc never
answered_well at (Damage fault) result told failed = elim told [
  | inl is ↦ let never : Err (Damaged at fault) ≡ Err Failed = sym is ∙ failed in cc never
  | inr is ↦ let never : Err NoMemory ≡ Err Failed = sym is ∙ failed in cc never
]
answered_well at PastLimit result told failed = elim told [
  | inl is ↦ let never : Err (Limit (Length at)) ≡ Err Failed = sym is ∙ failed in cc never
  | inr is ↦ let never : Err NoMemory ≡ Err Failed = sym is ∙ failed in cc never
]
