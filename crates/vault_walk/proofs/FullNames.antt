-- Names of long-name files.
use Rattle.std.proofs.Common.{◌≡◌, ◌∷◌, [], ℕ, true, false, List, Option, Some, None, Bor, MatchOption, is_some, nat_eq, codes, refl, sym, ap, ◌∙◌}
use Rattle.std.specs.List.{ends_with}
use Rattle.std.specs.Str.Pattern.{FindsTextSuffix, StripsSuffix}
use Rattle.std.proofs.lemmas.Bool.{and_parts}
use Rattle.std.proofs.lemmas.List.{append_cancel_right}
use Rattle.std.proofs.lemmas.Str.Pattern.{ends_text}
use Rattle.folder_spec.specs.Path.{Part}
use Rattle.folder_spec.specs.View.{View}
use Rattle.vault_spec.specs.Findings.{IsFullTextOf}
use Rattle.vault_spec.specs.Format.{Directory}
use Rattle.vault_spec.specs.Gocryptfs.{full_name}
use Rattle.vault_spec.specs.RootFiles.{has_ending}
use Rattle.vault_spec.specs.Vault.{Vault, Gocryptfs, Cryptomator, format_of}
use Rattle.vault_read.specs.Opened.{kind_of}
use Rattle.vault_read.specs.declared.vault.VaultKind.{VaultKind}
use Rattle.vault_read.specs.declared.vault.VaultKind.TheVariants as kind
use Rattle.vault_walk.specs.Names.{is_full_by}

-- what ends so is stripped of it
stripped : (n s : List ℕ) (r : Option (Bor (List ℕ))) → MatchOption r (FindsTextSuffix n s None) (λ x. StripsSuffix (FindsTextSuffix n) s x.now) → ends_with nat_eq s n ≡ true → is_some r ≡ true
stripped n s (Some x) cases ends = refl
stripped n s None cases ends = let clash : false ≡ true = ends_text false n s cases ∙ ends in cc clash

pub entry_stripped : (vault : VaultKind) (s : List ℕ) (r : Option (Bor (List ℕ)))
    → MatchOption r (FindsTextSuffix (codes ".name") s None) (λ x. StripsSuffix (FindsTextSuffix (codes ".name")) s x.now) → vault ≡ kind.Gocryptfs → is_full_by vault s ≡ true → is_some r ≡ is_full_by vault s
entry_stripped kind.Gocryptfs s r cases e full = stripped (codes ".name") s r cases (and_parts _ (has_ending (codes ".name") s) full).1 ∙ sym full
entry_stripped kind.Cryptomator s r cases e full = cc

-- a long-name file has one entry
pub one_entry : (vault : Vault) → kind_of vault ≡ kind.Gocryptfs → (v : View) (dir : Directory) (file entry : Part) → file ≡ full_name entry
    → (other : Part) → IsFullTextOf (format_of vault) v dir file other → other ≡ entry
one_entry (Gocryptfs keys) e v dir file entry is other right =
    let beside : full_name other ∷ [] ≡ file ∷ [] = right.beside in
    append_cancel_right other entry (codes ".name") (first beside ∙ is)
  where
    first : {a b : Part} → a ∷ [] ≡ b ∷ [] → a ≡ b
    first e = cc
one_entry (Cryptomator cm) e v dir file entry is other right = cc

pub is_full_is : (vault : Vault) (name : Part) → is_full_by (kind_of vault) name ≡ (format_of vault).is_full name
is_full_is (Gocryptfs keys) name = refl
is_full_is (Cryptomator cm) name = refl

pub full_beside : (vault : Vault) → kind_of vault ≡ kind.Gocryptfs → (file entry : Part) → file ≡ full_name entry → (format_of vault).full_at entry ≡ file ∷ []
full_beside (Gocryptfs keys) e file entry is = ap (λ p. p ∷ []) (sym is)
full_beside (Cryptomator cm) e file entry is = cc
