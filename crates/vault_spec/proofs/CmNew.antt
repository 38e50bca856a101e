-- A new Cryptomator vault is empty and clean.
use Rattle.std.proofs.Common.{◌≡◌, ◌≢◌, ◌⊎◌, ℕ, ◌||◌, Bool, true, false, List, [], ◌∷◌, Ok, Err, Result, cond, refl, sym, ap, ◌∙◌, inl, inr, subst, None, Option, is_some, take, drop, codes, bytes_eq}
use Rattle.std.proofs.lemmas.Slice.Eq.{bytes_eq-Decides}
use Rattle.folder_spec.specs.Path.{Part, Path, child, below}
use Rattle.folder_spec.specs.View.{Found, NoEntry, Folder, FileOf, Special, View}
use Rattle.folder_spec.specs.Edit.{edited, directory_edit, folder_view}
use Rattle.plain_tree.specs.Names as plain
use Rattle.vault_values.specs.declared.keys.CmKeys.{CmKeys}
use Rattle.vault_names.specs.Cryptomator.{cm_stored, cm_folder_of}
use Rattle.folder_spec.proofs.Edits.{off_edit}
use Rattle.vault_spec.specs.StoredNames.{CmTexts}
use Rattle.vault_spec.specs.declared.Finding.{Finding}
use Rattle.vault_spec.specs.declared.Lack.{Lack}
use Rattle.vault_spec.specs.declared.Lack.TheVariants as lacks
use Rattle.vault_spec.specs.declared.Finding.TheVariants as is
use Rattle.vault_spec.specs.Format.{Directory, Nothing, NoItem, Expected, Shelf, ContentFolder, Extra, is_folder}
use Rattle.vault_spec.specs.Cryptomator.{CmVault, cm_format, top, shelf_named, folder_named, content_folder, is_base32_text, is_configuration, cm_role, file_role, folder_role}
use Rattle.vault_spec.specs.RootFiles.{is_root_file}
use Rattle.vault_spec.specs.Standing.{Dir, item_at}
use Rattle.vault_spec.specs.Reached.{Leads}
use Rattle.vault_spec.specs.Findings.{IsUnnamed, IsDirectoryItem, IsLocked, IsOrphanName, IsOrphanFolder, IsInside, IsClean}
use Rattle.vault_spec.specs.Findings as findings
use Rattle.vault_spec.specs.Alike.{HasNoItem}
use Rattle.vault_spec.specs.Empty.{IsEmptyVault}
use Rattle.vault_spec.proofs.Grafts.{none_stands}
use Rattle.vault_spec.proofs.Places.{brought, brought_there}
use Rattle.vault_spec.proofs.StaysClean.{nothing_at}
use Rattle.vault_spec.proofs.EmptyRoots.{HasEmptyRoot, root_entered, nothing_opens, only_top}
use Rattle.vault_spec.proofs.CmVault.{cm_lawful, no_role_of_nothing}
use Rattle.vault_spec.proofs.CmKeeping.{shelf_text, folder_text}

-- the two files, and then the folders of a base32 text
abbrev pub new_files : List ℕ → List ℕ → View
new_files master vault = folder_view ((codes "masterkey.cryptomator", master) ∷ (codes "vault.cryptomator", vault) ∷ [])

abbrev with_top : View → View
with_top v = edited v (directory_edit (top ∷ []))

abbrev with_shelf : View → List ℕ → View
with_shelf v text = edited (with_top v) (directory_edit (shelf_named text))

abbrev pub new_root : List ℕ → List ℕ → List ℕ → View
new_root master vault text = edited (with_shelf (new_files master vault) text) (directory_edit (folder_named text))

abbrev pub top_of : CmVault → Directory
top_of vault = record { folder = content_folder vault.keys []; key = [] }

part_eq : (a b : Part) → (a ≡ b) ⊎ (bytes_eq a b ≡ false)
part_eq a b = elim (bytes_eq a b) as (λ t. bytes_eq a b ≡ t → (a ≡ b) ⊎ (t ≡ false)) [
  | true ↦ λ e. inl ((bytes_eq-Decides a b).0 e)
  | false ↦ λ e. inr refl
] refl

none_both : (b : Bool) → cond {A = Option Path} b None None ≡ None
none_both true = refl
none_both false = refl

-- what stands outside of `d`
outside : (master vault text : List ℕ) (x : Part) (p : Path) → bytes_eq top x ≡ false → new_root master vault text (x ∷ p) ≡ new_files master vault (x ∷ p)
outside master vault text x p apart =
    off_edit (with_shelf (new_files master vault) text) (directory_edit (folder_named text)) (x ∷ p) (ap (λ b. cond b (below (take 2 text ∷ drop 2 text ∷ []) p) None) apart)
    ∙ off_edit (with_top (new_files master vault)) (directory_edit (shelf_named text)) (x ∷ p) (ap (λ b. cond b (below (take 2 text ∷ []) p) None) apart)
    ∙ off_edit (new_files master vault) (directory_edit (top ∷ [])) (x ∷ p) (ap (λ b. cond b (below [] p) None) apart)

-- in `d`, beside the folder of content folders
in_top : (master vault text : List ℕ) (y : Part) (p : Path) → bytes_eq (take 2 text) y ≡ false → new_root master vault text (top ∷ y ∷ p) ≡ NoEntry
in_top master vault text y p apart =
    off_edit (with_shelf (new_files master vault) text) (directory_edit (folder_named text)) (top ∷ y ∷ p) (ap (λ b. cond b (below (drop 2 text ∷ []) p) None) apart)
    ∙ off_edit (with_top (new_files master vault)) (directory_edit (shelf_named text)) (top ∷ y ∷ p) (ap (λ b. cond b (below [] p) None) apart)
    ∙ brought (new_files master vault) (directory_edit (top ∷ [])) (y ∷ p)

-- and in that, beside the content folder
in_shelf : (master vault text : List ℕ) (z : Part) (p : Path) → bytes_eq (drop 2 text) z ≡ false → new_root master vault text (top ∷ take 2 text ∷ z ∷ p) ≡ NoEntry
in_shelf master vault text z p apart =
    off_edit (with_shelf (new_files master vault) text) (directory_edit (folder_named text)) (top ∷ take 2 text ∷ z ∷ p)
    (ap (λ b. cond (bytes_eq (take 2 text) (take 2 text)) (cond b (below [] p) None) None) apart ∙ none_both (bytes_eq (take 2 text) (take 2 text)))
    ∙ brought (with_top (new_files master vault)) (directory_edit (shelf_named text)) (z ∷ p)

shelf_there : (master vault text : List ℕ) → new_root master vault text (shelf_named text) ≡ Folder
shelf_there master vault text =
    off_edit (with_shelf (new_files master vault) text) (directory_edit (folder_named text)) (shelf_named text) (none_both (bytes_eq (take 2 text) (take 2 text)))
    ∙ brought_there (with_top (new_files master vault)) (directory_edit (shelf_named text))

folder_there : (master vault text : List ℕ) → new_root master vault text (folder_named text) ≡ Folder
folder_there master vault text = brought_there (with_shelf (new_files master vault) text) (directory_edit (folder_named text))

in_folder : (master vault text : List ℕ) (c : Part) → new_root master vault text (child (folder_named text) c) ≡ NoEntry
in_folder master vault text c = brought (with_shelf (new_files master vault) text) (directory_edit (folder_named text)) (c ∷ [])

pub empty_root : (vault : CmVault) → CmTexts vault.keys → (m w : List ℕ) → HasEmptyRoot (cm_format vault) (new_root m w (cm_folder_of vault.keys [])) (top_of vault)
empty_root vault texts m w = record {
  root = ap (λ x. Dir [] (entered x)) (folder_there m w (cm_folder_of vault.keys []));
  empty = λ n. none_stands (cm_format vault) (cm_lawful vault texts) (new_root m w (cm_folder_of vault.keys [])) (top_of vault) n (in_folder m w (cm_folder_of vault.keys []) (cm_stored vault.keys vault.threshold [] n).name);
}
  where
    entered : Found → Result Directory Lack
    entered x = cond (is_folder x) (Ok (top_of vault)) (Err lacks.NoFolder)

-- roles that no path but one has
pub no_content_folder : (master vault text : List ℕ) (at : Path) → cm_role at (new_root master vault text at) ≡ ContentFolder → at ≡ folder_named text
no_content_folder master vault text [] role = cc
no_content_folder master vault text (x ∷ []) role = absurd (root_role (bytes_eq x top) (new_root master vault text (x ∷ [])) role)
  where
    root_role : (b : Bool) (there : Found) → cond b (folder_role true Expected there) (file_role (is_configuration x || is_root_file x) there) ≢ ContentFolder
    root_role true NoEntry e = cc
    root_role true Folder e = cc
    root_role true (FileOf bytes) e = cc
    root_role true Special e = cc
    root_role false NoEntry e = cc
    root_role false Folder e = cc
    root_role false (FileOf bytes) e = file (is_configuration x || is_root_file x) e
      where
        file : (c : Bool) → cond c Expected Extra ≢ ContentFolder
        file true e = cc
        file false e = cc
    root_role false Special e = cc
no_content_folder master vault text (x ∷ y ∷ []) role = absurd (shelf (bytes_eq x top) (is_base32_text 2 y) (new_root master vault text (x ∷ y ∷ [])) role)
  where
    shelf : (b c : Bool) (there : Found) → cond b (folder_role c Shelf there) Expected ≢ ContentFolder
    shelf true c NoEntry e = cc
    shelf true true Folder e = cc
    shelf true false Folder e = cc
    shelf true c (FileOf bytes) e = cc
    shelf true c Special e = cc
    shelf false c there e = cc
no_content_folder master vault text (x ∷ y ∷ z ∷ []) role = by_parts (part_eq top x)
  where
    not_nothing : new_root master vault text (x ∷ y ∷ z ∷ []) ≢ NoEntry
    not_nothing none = let clash : Expected ≡ ContentFolder = sym (no_role_of_nothing (x ∷ y ∷ z ∷ [])) ∙ ap (cm_role (x ∷ y ∷ z ∷ [])) (sym none) ∙ role in cc

    by_last : top ≡ x → take 2 text ≡ y → (drop 2 text ≡ z) ⊎ (bytes_eq (drop 2 text) z ≡ false) → x ∷ y ∷ z ∷ [] ≡ folder_named text
    by_last one two (inl three) = ap (λ a. a ∷ y ∷ z ∷ []) (sym one) ∙ ap (λ a. top ∷ a ∷ z ∷ []) (sym two) ∙ ap (λ a. top ∷ take 2 text ∷ a ∷ []) (sym three)
    by_last one two (inr apart) = absurd (not_nothing (ap (λ a. new_root master vault text (a ∷ y ∷ z ∷ [])) (sym one) ∙ ap (λ a. new_root master vault text (top ∷ a ∷ z ∷ [])) (sym two) ∙ in_shelf master vault text z [] apart))

    by_second : top ≡ x → (take 2 text ≡ y) ⊎ (bytes_eq (take 2 text) y ≡ false) → x ∷ y ∷ z ∷ [] ≡ folder_named text
    by_second one (inl two) = by_last one two (part_eq (drop 2 text) z)
    by_second one (inr apart) = absurd (not_nothing (ap (λ a. new_root master vault text (a ∷ y ∷ z ∷ [])) (sym one) ∙ in_top master vault text y (z ∷ []) apart))

    by_parts : (top ≡ x) ⊎ (bytes_eq top x ≡ false) → x ∷ y ∷ z ∷ [] ≡ folder_named text
    by_parts (inl one) = by_second one (part_eq (take 2 text) y)
    by_parts (inr apart) = absurd (not_nothing (outside master vault text x (y ∷ z ∷ []) apart))
no_content_folder master vault text (x ∷ y ∷ z ∷ u ∷ rest) role = cc

-- each thing there has its place
no_extra : (keys : CmKeys) → CmTexts keys → (master vault : List ℕ) (at : Path) → cm_role at (new_root master vault (cm_folder_of keys []) at) ≢ Extra
no_extra keys texts master vault [] role = cc
no_extra keys texts master vault (x ∷ []) role = by_top (part_eq top x)
  where
    expected_where : new_root master vault (cm_folder_of keys []) (x ∷ []) ≡ NoEntry → ⊥
    expected_where none = let clash : Expected ≡ Extra = sym (no_role_of_nothing (x ∷ [])) ∙ ap (cm_role (x ∷ [])) (sym none) ∙ role in cc

    by_vault : bytes_eq top x ≡ false → bytes_eq (codes "masterkey.cryptomator") x ≡ false → (codes "vault.cryptomator" ≡ x) ⊎ (bytes_eq (codes "vault.cryptomator") x ≡ false) → ⊥
    by_vault apart no_master (inl is_vault) =
        let clash : Expected ≡ Extra = ap (λ y. cm_role (y ∷ []) (FileOf vault)) is_vault
        ∙ ap (cm_role (x ∷ [])) (sym (outside master vault (cm_folder_of keys []) x [] apart ∙ ap (λ y. new_files master vault (y ∷ [])) (sym is_vault))) ∙ role in cc
    by_vault apart no_master (inr no_vault) = expected_where (outside master vault (cm_folder_of keys []) x [] apart
        ∙ ap (λ b. cond b (FileOf master) (cond (bytes_eq (codes "vault.cryptomator") x) (FileOf vault) NoEntry)) no_master ∙ ap (λ b. cond b (FileOf vault) NoEntry) no_vault)

    by_master : bytes_eq top x ≡ false → (codes "masterkey.cryptomator" ≡ x) ⊎ (bytes_eq (codes "masterkey.cryptomator") x ≡ false) → ⊥
    by_master apart (inl is_master) =
        let clash : Expected ≡ Extra = ap (λ y. cm_role (y ∷ []) (FileOf master)) is_master
        ∙ ap (cm_role (x ∷ [])) (sym (outside master vault (cm_folder_of keys []) x [] apart ∙ ap (λ y. new_files master vault (y ∷ [])) (sym is_master))) ∙ role in cc
    by_master apart (inr no_master) = by_vault apart no_master (part_eq (codes "vault.cryptomator") x)

    by_top : (top ≡ x) ⊎ (bytes_eq top x ≡ false) → ⊥
    by_top (inl one) = let clash : Expected ≡ Extra = ap (λ y. cm_role (y ∷ []) (new_root master vault (cm_folder_of keys []) (y ∷ []))) one ∙ role in cc
    by_top (inr apart) = by_master apart (part_eq (codes "masterkey.cryptomator") x)
no_extra keys texts master vault (x ∷ y ∷ []) role = by_top (part_eq top x)
  where
    expected_where : new_root master vault (cm_folder_of keys []) (x ∷ y ∷ []) ≡ NoEntry → ⊥
    expected_where none = let clash : Expected ≡ Extra = sym (no_role_of_nothing (x ∷ y ∷ [])) ∙ ap (cm_role (x ∷ y ∷ [])) (sym none) ∙ role in cc

    shelf_is : cm_role (shelf_named (cm_folder_of keys [])) (new_root master vault (cm_folder_of keys []) (shelf_named (cm_folder_of keys []))) ≡ Shelf
    shelf_is = ap (cm_role (shelf_named (cm_folder_of keys []))) (shelf_there master vault (cm_folder_of keys [])) ∙ ap (λ b. cond b Shelf Extra) (shelf_text keys texts [])

    by_shelf : top ≡ x → (take 2 (cm_folder_of keys []) ≡ y) ⊎ (bytes_eq (take 2 (cm_folder_of keys [])) y ≡ false) → ⊥
    by_shelf one (inl two) =
        let same : shelf_named (cm_folder_of keys []) ≡ x ∷ y ∷ [] = ap (λ a. a ∷ take 2 (cm_folder_of keys []) ∷ []) one ∙ ap (λ a. x ∷ a ∷ []) two in
        let clash : Shelf ≡ Extra = sym shelf_is ∙ ap (λ p. cm_role p (new_root master vault (cm_folder_of keys []) p)) same ∙ role in cc
    by_shelf one (inr apart) = expected_where (ap (λ a. new_root master vault (cm_folder_of keys []) (a ∷ y ∷ [])) (sym one) ∙ in_top master vault (cm_folder_of keys []) y [] apart)

    by_top : (top ≡ x) ⊎ (bytes_eq top x ≡ false) → ⊥
    by_top (inl one) = by_shelf one (part_eq (take 2 (cm_folder_of keys [])) y)
    by_top (inr apart) = expected_where (outside master vault (cm_folder_of keys []) x (y ∷ []) apart)
no_extra keys texts master vault (x ∷ y ∷ z ∷ []) role = by_top (part_eq top x)
  where
    expected_where : new_root master vault (cm_folder_of keys []) (x ∷ y ∷ z ∷ []) ≡ NoEntry → ⊥
    expected_where none = let clash : Expected ≡ Extra = sym (no_role_of_nothing (x ∷ y ∷ z ∷ [])) ∙ ap (cm_role (x ∷ y ∷ z ∷ [])) (sym none) ∙ role in cc

    folder_is : cm_role (folder_named (cm_folder_of keys [])) (new_root master vault (cm_folder_of keys []) (folder_named (cm_folder_of keys []))) ≡ ContentFolder
    folder_is = ap (cm_role (folder_named (cm_folder_of keys []))) (folder_there master vault (cm_folder_of keys []))
        ∙ ap (λ b. cond b (folder_role (is_base32_text 30 (drop 2 (cm_folder_of keys []))) ContentFolder Folder) Expected) (shelf_text keys texts [])
        ∙ ap (λ b. cond b ContentFolder Extra) (folder_text keys texts [])

    by_folder : top ≡ x → take 2 (cm_folder_of keys []) ≡ y → (drop 2 (cm_folder_of keys []) ≡ z) ⊎ (bytes_eq (drop 2 (cm_folder_of keys [])) z ≡ false) → ⊥
    by_folder one two (inl three) =
        let same : folder_named (cm_folder_of keys []) ≡ x ∷ y ∷ z ∷ []
        = ap (λ a. a ∷ take 2 (cm_folder_of keys []) ∷ drop 2 (cm_folder_of keys []) ∷ []) one ∙ ap (λ a. x ∷ a ∷ drop 2 (cm_folder_of keys []) ∷ []) two ∙ ap (λ a. x ∷ y ∷ a ∷ []) three in
        let clash : ContentFolder ≡ Extra = sym folder_is ∙ ap (λ p. cm_role p (new_root master vault (cm_folder_of keys []) p)) same ∙ role in cc
    by_folder one two (inr apart) = expected_where (ap (λ a. new_root master vault (cm_folder_of keys []) (a ∷ y ∷ z ∷ [])) (sym one)
        ∙ ap (λ a. new_root master vault (cm_folder_of keys []) (top ∷ a ∷ z ∷ [])) (sym two) ∙ in_shelf master vault (cm_folder_of keys []) z [] apart)

    by_shelf : top ≡ x → (take 2 (cm_folder_of keys []) ≡ y) ⊎ (bytes_eq (take 2 (cm_folder_of keys [])) y ≡ false) → ⊥
    by_shelf one (inl two) = by_folder one two (part_eq (drop 2 (cm_folder_of keys [])) z)
    by_shelf one (inr apart) = expected_where (ap (λ a. new_root master vault (cm_folder_of keys []) (a ∷ y ∷ z ∷ [])) (sym one) ∙ in_top master vault (cm_folder_of keys []) y (z ∷ []) apart)

    by_top : (top ≡ x) ⊎ (bytes_eq top x ≡ false) → ⊥
    by_top (inl one) = by_shelf one (part_eq (take 2 (cm_folder_of keys [])) y)
    by_top (inr apart) = expected_where (outside master vault (cm_folder_of keys []) x (y ∷ z ∷ []) apart)
no_extra keys texts master vault (x ∷ y ∷ z ∷ u ∷ rest) role = cc

new_clean : (vault : CmVault) (texts : CmTexts vault.keys) → (m w : List ℕ) → IsClean (cm_format vault) (new_root m w (cm_folder_of vault.keys []))
new_clean vault texts m w = clean
  where
    has : HasEmptyRoot (cm_format vault) (new_root m w (cm_folder_of vault.keys [])) (top_of vault)
    has = empty_root vault texts m w

    is_top : (path : plain.Path) (dir : Directory) → Leads (cm_format vault) (new_root m w (cm_folder_of vault.keys [])) path dir → dir ≡ top_of vault
    is_top = only_top (cm_format vault) (new_root m w (cm_folder_of vault.keys [])) (top_of vault) (empty_root vault texts m w)

    nothing_in : (path : plain.Path) (dir : Directory) (x : Part) → Leads (cm_format vault) (new_root m w (cm_folder_of vault.keys [])) path dir
        → new_root m w (cm_folder_of vault.keys []) (child dir.folder x) ≡ NoEntry
    nothing_in path dir x leads = ap (λ (d : Directory). new_root m w (cm_folder_of vault.keys []) (child d.folder x)) (is_top path dir leads) ∙ in_folder m w (cm_folder_of vault.keys []) x

    no_unnamed : (finding : Finding) (at : Path) → ¬ IsUnnamed (cm_format vault) (new_root m w (cm_folder_of vault.keys [])) finding at
    no_unnamed finding at u = u.there (ap (new_root m w (cm_folder_of vault.keys [])) u.place ∙ nothing_in u.reached.0 u.dir u.entry u.reached.1)

    no_fault_item : (finding : Finding) (at : Path) → ¬ findings.IsNoItem (cm_format vault) (new_root m w (cm_folder_of vault.keys [])) finding at
    no_fault_item finding at u =
        let clash : Nothing ≡ NoItem finding = sym (nothing_at (cm_format vault) (cm_lawful vault texts) (new_root m w (cm_folder_of vault.keys [])) u.dir u.name
        (nothing_in u.reached.0 u.dir (cm_stored vault.keys vault.threshold u.dir.key u.name).name u.reached.1)) ∙ u.is in cc

    no_item : (at : Path) (x : Result Directory Lack) → ¬ IsDirectoryItem (cm_format vault) (new_root m w (cm_folder_of vault.keys [])) at x
    no_item at x item = subst HasNoItem item.stands (none_stands (cm_format vault) (cm_lawful vault texts) (new_root m w (cm_folder_of vault.keys [])) item.dir item.name
        (nothing_in item.reached.0 item.dir (cm_stored vault.keys vault.threshold item.dir.key item.name).name item.reached.1))

    no_locked : (lack : Lack) (at : Path) → ¬ IsLocked (cm_format vault) (new_root m w (cm_folder_of vault.keys [])) lack at
    no_locked lack at (inl root) = let clash : Dir [] (Ok (top_of vault)) ≡ Dir at (Err lack) = sym has.root ∙ root in cc
    no_locked lack at (inr item) = no_item at (Err lack) item

    no_orphan : (at : Path) → ¬ IsOrphanName (cm_format vault) (new_root m w (cm_folder_of vault.keys [])) at
    no_orphan at u = let clash : FileOf u.there.0 ≡ NoEntry = sym u.there.1 ∙ ap (new_root m w (cm_folder_of vault.keys [])) u.place ∙ nothing_in u.reached.0 u.dir u.file u.reached.1 in cc

    no_orphan_folder : (at : Path) → ¬ IsOrphanFolder (cm_format vault) (new_root m w (cm_folder_of vault.keys [])) at
    no_orphan_folder at u = u.loose.loose (top_of vault) ([], record { at = []; stands = has.root }) (sym (no_content_folder m w (cm_folder_of vault.keys []) at u.loose.folder))

    no_inside : (at : Path) → ¬ IsInside (cm_format vault) (new_root m w (cm_folder_of vault.keys [])) at
    no_inside at u =
        let nothing : item_at (cm_format vault) (new_root m w (cm_folder_of vault.keys [])) u.dir (cm_stored vault.keys vault.threshold u.dir.key u.name) ≡ Nothing
        = nothing_at (cm_format vault) (cm_lawful vault texts) (new_root m w (cm_folder_of vault.keys [])) u.dir u.name
        (nothing_in u.reached.0 u.dir (cm_stored vault.keys vault.threshold u.dir.key u.name).name u.reached.1) in
        let clash : Expected ≡ Extra = ap (λ i. (cm_format vault).inner_role (is_some (cm_stored vault.keys vault.threshold u.dir.key u.name).full) i u.entry (new_root m w (cm_folder_of vault.keys []) at)) (sym nothing) ∙ u.extra in cc

    clean : IsClean (cm_format vault) (new_root m w (cm_folder_of vault.keys []))
    clean is.BadStoredName at counts found = no_unnamed is.BadStoredName at found
    clean is.NoDirKey at counts found = no_locked lacks.NoDirKey at found
    clean is.LongNameLost at counts found = no_unnamed is.LongNameLost at found
    clean is.OrphanLongName at counts found = no_orphan at found
    clean is.DirIdTwice at counts found = no_item at found.one found.item
    clean is.NoFolder at counts found = no_locked lacks.NoFolder at found
    clean is.OrphanFolder at counts found = no_orphan_folder at found
    clean is.SymlinkFound at counts found = no_fault_item is.SymlinkFound at found
    clean is.WrongKind at counts (inl found) = no_unnamed is.WrongKind at found
    clean is.WrongKind at counts (inr found) = no_fault_item is.WrongKind at found
    clean is.ExtraEntry at counts (inl found) = no_inside at found
    clean is.ExtraEntry at counts (inr found) = no_extra vault.keys texts m w at found
    clean is.TwoKinds at counts found = no_fault_item is.TwoKinds at found
    clean is.HeaderDamaged at counts found = cc
    clean is.ChunkDamaged at counts found = cc
    clean is.EmptyOrphan at counts found = cc

pub new_is_empty : (vault : CmVault) → CmTexts vault.keys → (m w : List ℕ) → IsEmptyVault (cm_format vault) (new_root m w (cm_folder_of vault.keys []))
new_is_empty vault texts m w = record {
  clean = new_clean vault texts m w;
  root = (top_of vault, root_entered (cm_format vault) (new_root m w (cm_folder_of vault.keys [])) (top_of vault) (empty_root vault texts m w));
  others = nothing_opens (cm_format vault) (new_root m w (cm_folder_of vault.keys [])) (top_of vault) (empty_root vault texts m w);
}
