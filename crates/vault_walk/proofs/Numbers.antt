-- Numbers tell findings apart, and are in order.
use Rattle.std.proofs.Common.{◌≡◌, inl, inr, ℕ, ◌<◌, cond, nat_eq, refl, sym, ap, ◌∙◌}
use Rattle.std.proofs.lemmas.Bool.{cases_order}
use Rattle.std.specs.Cmp.{nat_cmp_is}
use Rattle.std.specs.Ordering.{nat_cmp}
use Rattle.std.specs.declared.cmp.Ordering.TheVariants.{Less, Equal, Greater}
use Rattle.vault_spec.specs.Findings.{number_of}
use Rattle.vault_spec.specs.declared.Finding.{Finding}
use Rattle.vault_spec.specs.declared.Finding.TheVariants as is

-- the finding of a number
abbrev pub numbered : ℕ → Finding
numbered n =
    cond (nat_eq n 1) is.BadStoredName (cond (nat_eq n 2) is.NoDirKey (cond (nat_eq n 3) is.LongNameLost (cond (nat_eq n 4) is.OrphanLongName
    (cond (nat_eq n 5) is.DirIdTwice (cond (nat_eq n 6) is.NoFolder (cond (nat_eq n 7) is.OrphanFolder (cond (nat_eq n 8) is.SymlinkFound
    (cond (nat_eq n 9) is.WrongKind (cond (nat_eq n 10) is.ExtraEntry (cond (nat_eq n 11) is.TwoKinds (cond (nat_eq n 12) is.HeaderDamaged
    (cond (nat_eq n 13) is.ChunkDamaged is.EmptyOrphan))))))))))))

pub by_number : (finding : Finding) → numbered (number_of finding) ≡ finding
by_number is.BadStoredName = refl
by_number is.NoDirKey = refl
by_number is.LongNameLost = refl
by_number is.OrphanLongName = refl
by_number is.DirIdTwice = refl
by_number is.NoFolder = refl
by_number is.OrphanFolder = refl
by_number is.SymlinkFound = refl
by_number is.WrongKind = refl
by_number is.ExtraEntry = refl
by_number is.TwoKinds = refl
by_number is.HeaderDamaged = refl
by_number is.ChunkDamaged = refl
by_number is.EmptyOrphan = refl

pub one_number : (x y : Finding) → number_of x ≡ number_of y → x ≡ y
one_number x y e = sym (by_number x) ∙ ap numbered e ∙ by_number y

pub number_less : (x y : ℕ) → nat_cmp x y ≡ Less → x < y
number_less x y e = elim (cases_order x y) as (λ _. x < y) [
  | inl same ↦ absurd (let clash : Equal ≡ Less = nat_cmp_is x y Equal same ∙ e in cc)
  | inr (inl less) ↦ less
  | inr (inr more) ↦ absurd (let clash : Greater ≡ Less = nat_cmp_is x y Greater more ∙ e in cc)
]

pub number_same : (x y : ℕ) → nat_cmp x y ≡ Equal → x ≡ y
number_same x y e = elim (cases_order x y) as (λ _. x ≡ y) [
  | inl same ↦ same
  | inr (inl less) ↦ absurd (let clash : Less ≡ Equal = nat_cmp_is x y Less less ∙ e in cc)
  | inr (inr more) ↦ absurd (let clash : Greater ≡ Equal = nat_cmp_is x y Greater more ∙ e in cc)
]
