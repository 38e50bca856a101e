-- A clean vault's root is a folder.
use Rattle.std.proofs.Common.{◌≡◌, ◌⊎◌, inl, inr, ℕ, zero, suc, ◌+◌, Bool, true, false, List, [], ◌∷◌, ◌++◌, Option, Some, None, Ok, Err, if◌then◌else◌, refl, sym, ap, ◌∙◌, length, length-append, arith}
use Rattle.folder_spec.specs.Path.{Path, Part, child}
use Rattle.folder_spec.specs.View.{Found, NoEntry, Folder, FileOf, Special, View}
use Rattle.folder_spec.proofs.Paths.{base_or_child}
use Rattle.vault_spec.specs.Alike.{HasFolders}
use Rattle.vault_spec.specs.Findings.{IsClean}
use Rattle.vault_spec.specs.Format.{Format, Directory, is_folder}
use Rattle.vault_spec.specs.Standing.{Dir, directory_with}
use Rattle.vault_spec.specs.declared.Finding.TheVariants as is
use Rattle.vault_spec.specs.declared.Lack.TheVariants.{NoFolder}

none_long : (p : Path) → length p ≡ 0 → p ≡ []
none_long [] e = refl
none_long (x ∷ p) e = absurd (let some : suc (length p) ≡ 0 = e in omega (arith, some))

-- a folder stands above each folder
above_folder : (v : View) → HasFolders v → (n : ℕ) (p : Path) → length p ≡ n → v p ≡ Folder → v [] ≡ Folder
above_folder v folders zero p size here = ap v (sym (none_long p size)) ∙ here
above_folder v folders (suc n) p size here = by_form (base_or_child p) (above_folder v folders n)
  where
    by_form : (p ≡ []) ⊎ ((q : Path) × (a : Part) × (p ≡ child q a)) → ((q : Path) → length q ≡ n → v q ≡ Folder → v [] ≡ Folder) → v [] ≡ Folder
    by_form (inl base) up = ap v (sym base) ∙ here
    by_form (inr below) up =
        let sizes : length (below.0 ++ below.1 ∷ []) ≡ length below.0 + 1 = length-append below.0 (below.1 ∷ []) in
        let whole : length p ≡ length (below.0 ++ below.1 ∷ []) = ap (λ (q : Path). length q) below.2 in
        up below.0 (omega (arith, sizes, whole, size)) (folders below.0 below.1 (λ none. let clash : Folder ≡ NoEntry = sym here ∙ ap v below.2 ∙ none in cc))

folder_is : (x : Found) → is_folder x ≡ true → x ≡ Folder
folder_is NoEntry e = cc
folder_is Folder e = refl
folder_is (FileOf bytes) e = cc
folder_is Special e = cc

pub root_there : (f : Format) (v : View) → HasFolders v → IsClean f v → v [] ≡ Folder
root_there f v folders clean = by_key (f.root_key v) refl
  where
    dir_of : List ℕ → Directory
    dir_of key = record { folder = f.folder_of [] key; key = key }

    by_folder : (key : List ℕ) (b : Bool) → f.root_key v ≡ Some key → is_folder (v (f.folder_of [] key)) ≡ b → v [] ≡ Folder
    by_folder key true its there = above_folder v folders (length (f.folder_of [] key)) (f.folder_of [] key) refl (folder_is (v (f.folder_of [] key)) there)
    by_folder key false its none =
        let lacks : directory_with f v [] (Some key) ≡ Err NoFolder = ap (λ b. if b then Ok (record { folder = f.folder_of [] key; key = key }) else Err NoFolder) none in
        absurd (clean is.NoFolder [] refl (inl (ap (λ d. Dir [] d) (ap (directory_with f v []) its ∙ lacks))))

    by_key : (k : Option (List ℕ)) → f.root_key v ≡ k → v [] ≡ Folder
    by_key None its = absurd (clean is.NoDirKey [] refl (inl (ap (λ d. Dir [] d) (ap (directory_with f v []) its))))
    by_key (Some key) its = by_folder key (is_folder (v (f.folder_of [] key))) its refl
