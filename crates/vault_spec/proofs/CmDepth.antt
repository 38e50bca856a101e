-- In a clean Cryptomator vault nothing stands below the files in an entry.
use Rattle.std.proofs.Common.{◌≡◌, ◌≢◌, ◌<◌, ◌&&◌, ℕ, Bool, true, false, List, [], ◌∷◌, cond, refl, sym, ap, ◌∙◌, inl, inr, length, append-nil, is_some, arith, bytes_eq}
use Rattle.folder_spec.specs.Path.{Part, Path, child}
use Rattle.folder_spec.specs.View.{NoEntry, Folder, FileOf, View}
use Rattle.folder_spec.specs.Seen.{under}
use Rattle.vault_spec.specs.declared.Finding.TheVariants as is
use Rattle.vault_spec.specs.Alike.{HasFolders}
use Rattle.vault_spec.specs.Cryptomator.{CmVault, cm_format, cm_role, inner_role, is_base32_text, top}
use Rattle.vault_spec.specs.Findings.{IsClean, IsEntryOf}
use Rattle.vault_spec.specs.Format.{Directory, Item, Nothing, FileItem, DirectoryItem, NoItem, Expected, Shelf, ContentFolder, Extra}
use Rattle.vault_spec.specs.Reached.{IsReached}
use Rattle.vault_spec.specs.Standing.{entry_at, item_at}
use Rattle.vault_spec.specs.Vault.{Cryptomator}
use Rattle.vault_spec.proofs.Accounted.{accounted}
use Rattle.vault_spec.proofs.CmFree.{nothing_there, faults}
use Rattle.vault_spec.proofs.FreePlaces.{fault_found}
use Rattle.vault_spec.proofs.GoDepth.{folder_above}

-- of folders of three parts only content folders have a place
by_names : (one two three : Bool) → cond one Expected Extra ≢ Extra → cond one (cond two Shelf Extra) Expected ≢ Extra → cond (one && two) (cond three ContentFolder Extra) Expected ≢ Extra
    → cond (one && two) (cond three ContentFolder Extra) Expected ≡ ContentFolder
by_names true true true first second third = refl
by_names true true false first second third = absurd (third refl)
by_names true false three first second third = absurd (second refl)
by_names false two three first second third = absurd (first refl)

-- a folder with a right name has no folder in it
no_folder_in : (vault : CmVault) (v : View) → IsClean (cm_format vault) v → (dir : Directory) (x y : Part) (name : List ℕ) → IsReached (cm_format vault) v dir → IsEntryOf (cm_format vault) v dir x name
    → v (child dir.folder x) ≡ Folder → v (child (child dir.folder x) y) ≢ Folder
no_folder_in vault v clean dir x y name reached of folder inner = by_item (item_at (cm_format vault) v dir ((cm_format vault).stored dir.key name)) refl
  where
    at : Path
    at = entry_at (cm_format vault) dir name

    long : Bool
    long = is_some ((cm_format vault).stored dir.key name).full

    own : IsEntryOf (cm_format vault) v dir ((cm_format vault).stored dir.key name).name name
    own = record { named = of.named; stores = refl; full = of.full }

    place : at ≡ child dir.folder x
    place = ap (child dir.folder) of.stores

    extra : (item : Item) → item_at (cm_format vault) v dir ((cm_format vault).stored dir.key name) ≡ item → inner_role long item y Folder ≡ Extra → ⊥
    extra item its no_place = clean is.ExtraEntry (child at y) refl (inl (record {
      dir = dir;
      name = name;
      reached = reached;
      of = own;
      entry = y;
      place = refl;
      extra = ap (λ i. inner_role long i y (v (child at y))) its ∙ ap (inner_role long item y) (ap (λ p. v (child p y)) place ∙ inner) ∙ no_place;
    }))

    by_item : (item : Item) → item_at (cm_format vault) v dir ((cm_format vault).stored dir.key name) ≡ item → ⊥
    by_item Nothing its =
        let clash : Folder ≡ NoEntry = sym (ap v (append-nil at ∙ place) ∙ folder) ∙ nothing_there long (under at v) (under at v []) its in cc
    by_item (FileItem rest) its = extra (FileItem rest) its refl
    by_item DirectoryItem its = extra DirectoryItem its refl
    by_item (NoItem finding) its =
        fault_found (cm_format vault) v finding at clean (record { dir = dir; name = name; reached = reached; of = own; place = refl; is = its })
        (faults long (under at v) (under at v []) finding its)

six_parts : (vault : CmVault) (v : View) → HasFolders v → IsClean (cm_format vault) v → (a b c x y z : Part) (rest : Path) → v (a ∷ b ∷ c ∷ x ∷ y ∷ z ∷ rest) ≢ NoEntry → ⊥
six_parts vault v folders clean a b c x y z rest there = clean is.OrphanFolder (a ∷ b ∷ c ∷ []) refl (record {
  loose = record { folder = ap (cm_role (a ∷ b ∷ c ∷ [])) third ∙ content; loose = in_directory };
  entry = x;
  there = λ none. let clash : Folder ≡ NoEntry = sym fourth ∙ none in cc;
  more = λ fixed. let clash : Folder ≡ FileOf fixed.file.0 = sym fourth ∙ fixed.file.1 in cc;
})
  where
    third : v (a ∷ b ∷ c ∷ []) ≡ Folder
    third = folder_above v folders (a ∷ b ∷ c ∷ []) x (y ∷ z ∷ rest) there

    fourth : v (a ∷ b ∷ c ∷ x ∷ []) ≡ Folder
    fourth = folder_above v folders (a ∷ b ∷ c ∷ x ∷ []) y (z ∷ rest) there

    fifth : v (a ∷ b ∷ c ∷ x ∷ y ∷ []) ≡ Folder
    fifth = folder_above v folders (a ∷ b ∷ c ∷ x ∷ y ∷ []) z rest there

    has_place : (p : Path) → v p ≡ Folder → cm_role p Folder ≢ Extra
    has_place p folder extra = clean is.ExtraEntry p refl (inr (ap (cm_role p) folder ∙ extra))

    content : cm_role (a ∷ b ∷ c ∷ []) Folder ≡ ContentFolder
    content =
        by_names (bytes_eq a top) (is_base32_text 2 b) (is_base32_text 30 c)
        (has_place (a ∷ []) (folder_above v folders (a ∷ []) b (c ∷ x ∷ y ∷ z ∷ rest) there))
        (has_place (a ∷ b ∷ []) (folder_above v folders (a ∷ b ∷ []) c (x ∷ y ∷ z ∷ rest) there))
        (has_place (a ∷ b ∷ c ∷ []) third)

    in_directory : (dir : Directory) → IsReached (cm_format vault) v dir → dir.folder ≢ a ∷ b ∷ c ∷ []
    in_directory dir reached same =
        let entry : v (child dir.folder x) ≡ Folder = ap (λ p. v (child p x)) same ∙ fourth in
        accounted (Cryptomator vault) v dir x clean reached
        (λ none. let clash : Folder ≡ NoEntry = sym entry ∙ none in cc)
        (λ belongs. let clash : Folder ≡ FileOf belongs.file.0 = sym entry ∙ belongs.file.1 in cc)
        (λ name of. no_folder_in vault v clean dir x y name reached of entry (ap (λ p. v (child (child p x) y)) same ∙ fifth))

pub cm_too_deep : (vault : CmVault) (v : View) → HasFolders v → IsClean (cm_format vault) v → (at : Path) → 5 < length at → v at ≢ NoEntry → ⊥
cm_too_deep vault v folders clean (a ∷ b ∷ c ∷ x ∷ y ∷ z ∷ rest) long there = six_parts vault v folders clean a b c x y z rest there
cm_too_deep vault v folders clean [] long there = omega (arith, long)
cm_too_deep vault v folders clean (a ∷ []) long there = omega (arith, long)
cm_too_deep vault v folders clean (a ∷ b ∷ []) long there = omega (arith, long)
cm_too_deep vault v folders clean (a ∷ b ∷ c ∷ []) long there = omega (arith, long)
cm_too_deep vault v folders clean (a ∷ b ∷ c ∷ x ∷ []) long there = omega (arith, long)
cm_too_deep vault v folders clean (a ∷ b ∷ c ∷ x ∷ y ∷ []) long there = omega (arith, long)
