-- That each entry of a clean vault is accounted for.
use Rattle.std.proofs.Common.{◌≡◌, ◌≢◌, ◌⊎◌, ℕ, Bool, true, false, List, refl, sym, inl, inr, if◌then◌else◌}
use Rattle.folder_spec.specs.Path.{Part, Path, child}
use Rattle.folder_spec.specs.View.{Found, NoEntry, Folder, FileOf, Special, View}
use Rattle.vault_names.specs.Cryptomator.{is_cm_long_name}
use Rattle.vault_names.specs.Gocryptfs.{is_long_name}
use Rattle.vault_spec.specs.Cryptomator.{lost_by}
use Rattle.vault_spec.specs.Findings.{Belongs, IsClean, IsEntryOf, IsUnnamed}
use Rattle.vault_spec.specs.Format.{Format, Directory}
use Rattle.vault_spec.specs.Reached.{IsReached}
use Rattle.vault_spec.specs.Vault.{Vault, Gocryptfs, Cryptomator, format_of}
use Rattle.vault_spec.specs.declared.Finding.{Finding}
use Rattle.vault_spec.specs.declared.Finding.TheVariants as is

abbrev pub IsOneOf : Finding → Finding → Finding → Finding → Type 0
IsOneOf one two three finding = (finding ≡ one) ⊎ ((finding ≡ two) ⊎ (finding ≡ three))

-- an entry of no name has one of these findings
abbrev pub OfNoName : Finding → Type 0
OfNoName finding = IsOneOf is.BadStoredName is.LongNameLost is.WrongKind finding

go_kinds : (b : Bool) → OfNoName (if b then is.LongNameLost else is.BadStoredName)
go_kinds true = inr (inl refl)
go_kinds false = inl refl

cm_lost : (there : Found) → OfNoName (lost_by there)
cm_lost Folder = inr (inl refl)
cm_lost NoEntry = inr (inr refl)
cm_lost (FileOf bytes) = inr (inr refl)
cm_lost Special = inr (inr refl)

cm_kinds : (b : Bool) (there : Found) → OfNoName (if b then lost_by there else is.BadStoredName)
cm_kinds true there = cm_lost there
cm_kinds false there = inl refl

kinds : (vault : Vault) (entry : Part) (there : Found) → OfNoName ((format_of vault).unnamed entry there)
kinds (Gocryptfs keys) entry there = go_kinds (is_long_name entry)
kinds (Cryptomator cm) entry there = cm_kinds (is_cm_long_name entry) there

refuted : (f : Format) (v : View) (at : Path) (unnamed : Finding) → IsClean f v → ((finding : Finding) → finding ≡ unnamed → IsUnnamed f v finding at) → OfNoName unnamed → ⊥
refuted f v at unnamed clean found (inl bad) = clean is.BadStoredName at refl (found is.BadStoredName (sym bad))
refuted f v at unnamed clean found (inr (inl lost)) = clean is.LongNameLost at refl (found is.LongNameLost (sym lost))
refuted f v at unnamed clean found (inr (inr kind)) = clean is.WrongKind at refl (inl (found is.WrongKind (sym kind)))

pub accounted : (vault : Vault) (v : View) (dir : Directory) (entry : Part) → IsClean (format_of vault) v → IsReached (format_of vault) v dir
    → v (child dir.folder entry) ≢ NoEntry → ¬ Belongs (format_of vault) v dir entry → ¬ ((name : List ℕ) → ¬ IsEntryOf (format_of vault) v dir entry name)
accounted vault v dir entry clean reached there stray none =
    refuted (format_of vault) v (child dir.folder entry) ((format_of vault).unnamed entry (v (child dir.folder entry))) clean
    (λ finding is_so. record { dir = dir; entry = entry; reached = reached; place = refl; there = there; stray = stray; unnamed = none; is = is_so })
    (kinds vault entry (v (child dir.folder entry)))
