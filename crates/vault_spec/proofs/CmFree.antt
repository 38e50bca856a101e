-- In a clean Cryptomator vault an item's own place is free, but where something is left over.
use Rattle.std.proofs.Common.{◌≡◌, ◌≢◌, ◌⊎◌, ℕ, ◌+◌, ◌*◌, ◌/◌, Bool, true, false, ◌||◌, List, [], cond, refl, sym, ap, ◌∙◌, inl, inr, subst, Option, Some, None, length, codes, arith, bytes_eq, drop}
use Rattle.std.specs.Option.{option_or}
use Rattle.vault_values.specs.Id.{id_of}
use Rattle.vault_values.specs.declared.keys.CmKeys.{CmKeys}
use Rattle.folder_spec.specs.Path.{Part, Path, child}
use Rattle.folder_spec.specs.View.{Found, NoEntry, Folder, FileOf, Special, View}
use Rattle.vault_names.specs.Cryptomator.{cm_text, cm_long_name, cm_entry_of, cm_stored, cm_folder_of}
use Rattle.vault_names.specs.declared.entry.Stored.{Stored}
use Rattle.vault_spec.specs.StoredNames.{CmTexts}
use Rattle.vault_spec.specs.declared.Finding.{Finding}
use Rattle.vault_spec.specs.declared.Finding.TheVariants as is
use Rattle.vault_spec.specs.Format.{Directory, Nothing, NoItem, Expected, Extra, ContentFolder, taken_at}
use Rattle.vault_spec.specs.Cryptomator.{CmVault, cm_format, cm_item_of, cm_role, content_folder, content_file, folder_item, folder_role, has_file, id_file, is_base32_text, shelf_named, symlink_file, taken_entry, taken_folders, taken_unless_folder}
use Rattle.vault_spec.specs.Standing.{entry_at}
use Rattle.vault_spec.specs.Reached.{IsReached}
use Rattle.vault_spec.specs.Findings.{IsClean, IsLoose, IsFixed}
use Rattle.vault_spec.specs.Making.{NewItem, NewDirectory, NewFile, taken}
use Rattle.vault_spec.specs.Tidy.{IsTidyAt, OwnPlacesAreFree}
use Rattle.vault_spec.specs.Vault.{Cryptomator}
use Rattle.vault_spec.proofs.Entries.{differ, IsShortOrLong, entry_is}
use Rattle.vault_spec.proofs.FreePlaces.{OfNoItem, KnowsEntries, entry_free}
use Rattle.vault_spec.proofs.CmVault.{cm_lawful, OfEachCm}
use Rattle.vault_spec.proofs.CmKeeping.{shelf_text, folder_is}

pub nothing_there : (long : Bool) (v : View) (x : Found) → cm_item_of long v x ≡ Nothing → x ≡ NoEntry
nothing_there long v NoEntry is = refl
nothing_there true v (FileOf bytes) is = cc
nothing_there false v (FileOf bytes) is = cc
nothing_there true v Special is = cc
nothing_there false v Special is = cc
nothing_there long v Folder is = by_files long (has_file v content_file) (has_file v id_file) (has_file v symlink_file) is
  where
    by_files : (long content dir symlink : Bool) → folder_item long content dir symlink ≡ Nothing → Folder ≡ NoEntry
    by_files true true false false is = cc
    by_files false true false false is = cc
    by_files true false true false is = cc
    by_files false false true false is = cc
    by_files true false false true is = cc
    by_files false false false true is = cc
    by_files true false false false is = cc
    by_files false false false false is = cc
    by_files true true true symlink is = cc
    by_files false true true symlink is = cc
    by_files true true false true is = cc
    by_files false true false true is = cc
    by_files true false true true is = cc
    by_files false false true true is = cc

pub faults : (long : Bool) (v : View) (x : Found) (finding : Finding) → cm_item_of long v x ≡ NoItem finding → OfNoItem finding
faults long v NoEntry finding is = cc
faults true v (FileOf bytes) finding is = inr (inl cc)
faults false v (FileOf bytes) finding is = cc
faults true v Special finding is = inr (inl cc)
faults false v Special finding is = inl cc
faults long v Folder finding is = by_files long (has_file v content_file) (has_file v id_file) (has_file v symlink_file) is
  where
    by_files : (long content dir symlink : Bool) → folder_item long content dir symlink ≡ NoItem finding → OfNoItem finding
    by_files true true false false is = cc
    by_files false true false false is = inr (inl cc)
    by_files true false true false is = cc
    by_files false false true false is = cc
    by_files true false false true is = inl cc
    by_files false false false true is = inl cc
    by_files true false false false is = inr (inl cc)
    by_files false false false false is = inr (inl cc)
    by_files true true true symlink is = inr (inr cc)
    by_files false true true symlink is = inr (inr cc)
    by_files true true false true is = inr (inr cc)
    by_files false true false true is = inr (inr cc)
    by_files true false true true is = inr (inr cc)
    by_files false false true true is = inr (inr cc)

-- no entry has the name of the file that belongs in a content folder
not_fixed : (keys : CmKeys) → CmTexts keys → (threshold : ℕ) (id name : List ℕ) → (bytes_eq (cm_entry_of threshold (cm_text keys id name)).name (codes "dirid.c9r") || false) ≡ false
not_fixed keys texts threshold id name = by_form (entry_is cm_long_name threshold (cm_text keys id name))
  where
    by_size : (x : List ℕ) → length x ≢ 9 → (bytes_eq x (codes "dirid.c9r") || false) ≡ false
    by_size x apart = ap (λ b. b || false) (differ x (codes "dirid.c9r") (λ same. apart (ap length same)))

    by_form : IsShortOrLong cm_long_name threshold (cm_text keys id name) → (bytes_eq (cm_entry_of threshold (cm_text keys id name)).name (codes "dirid.c9r") || false) ≡ false
    by_form (inl short) = ap (λ (s : Stored). bytes_eq s.name (codes "dirid.c9r") || false) short
        ∙ by_size (cm_text keys id name) (λ nine. let size : 4 * ((length name + 16 + 2) / 3) + 4 ≡ 9 = sym (texts.size id name) ∙ nine in omega (arith, size))
    by_form (inr long) = ap (λ (s : Stored). bytes_eq s.name (codes "dirid.c9r") || false) long
        ∙ by_size (cm_long_name (cm_text keys id name)) (λ nine. let size : ◌≡◌ {A = ℕ} 32 9 = sym (texts.long_size (cm_text keys id name)) ∙ nine in cc)

cm_entries : OfEachCm KnowsEntries
unfolding cm_stored
cm_entries vault texts = record {
  nothing = λ long v is. nothing_there long v (v []) is;
  faults = λ long v finding is. faults long v (v []) finding is;
  not_fixed = λ folder key name is named. not_fixed vault.keys texts vault.threshold key name;
}

-- whether an entry is the file that belongs in a content folder
fixed_or_not : (vault : CmVault) (v : View) (at : Path) (x : Part) → IsFixed (cm_format vault) v at x ⊎ (¬ IsFixed (cm_format vault) v at x)
fixed_or_not vault v at x = by_kind (v (child at x)) refl (bytes_eq x (codes "dirid.c9r")) refl
  where
    by_kind : (there : Found) → v (child at x) ≡ there → (b : Bool) → bytes_eq x (codes "dirid.c9r") ≡ b → IsFixed (cm_format vault) v at x ⊎ (¬ IsFixed (cm_format vault) v at x)
    by_kind (FileOf bytes) is true named = inl (record { file = (bytes, is); name = named })
    by_kind (FileOf bytes) is false named = inr (λ fixed. let clash : true ≡ false = sym fixed.name ∙ named in cc)
    by_kind NoEntry is b named = inr (λ fixed. let clash : FileOf fixed.file.0 ≡ NoEntry = sym fixed.file.1 ∙ is in cc)
    by_kind Folder is b named = inr (λ fixed. let clash : FileOf fixed.file.0 ≡ Folder = sym fixed.file.1 ∙ is in cc)
    by_kind Special is b named = inr (λ fixed. let clash : FileOf fixed.file.0 ≡ Special = sym fixed.file.1 ∙ is in cc)

-- no content folder is there that no directory has, but one that is left over
folder_free : (vault : CmVault) → CmTexts vault.keys → (v : View) (id : List ℕ) → IsClean (cm_format vault) v → IsTidyAt (cm_format vault) v (content_folder vault.keys id)
    → ((other : Directory) → IsReached (cm_format vault) v other → other.folder ≢ content_folder vault.keys id) → v (content_folder vault.keys id) ≡ NoEntry
folder_free vault texts v id clean tidy homed = by_kind (v (content_folder vault.keys id)) refl
  where
    strange : (there : Found) → v (content_folder vault.keys id) ≡ there → folder_role (is_base32_text 30 (drop 2 (cm_folder_of vault.keys id))) ContentFolder there ≡ Extra → ⊥
    strange there seen extra = clean is.ExtraEntry (content_folder vault.keys id) refl (inr (ap (cm_role (content_folder vault.keys id)) seen
        ∙ ap (λ b. cond b (folder_role (is_base32_text 30 (drop 2 (cm_folder_of vault.keys id))) ContentFolder there) Expected) (shelf_text vault.keys texts id) ∙ extra))

    loose : v (content_folder vault.keys id) ≡ Folder → IsLoose (cm_format vault) v (content_folder vault.keys id)
    loose seen = record { folder = ap (cm_role (content_folder vault.keys id)) seen ∙ folder_is vault texts id; loose = homed }

    fixed : v (content_folder vault.keys id) ≡ Folder → (x : Part) → v (child (content_folder vault.keys id) x) ≢ NoEntry → IsFixed (cm_format vault) v (content_folder vault.keys id) x
    fixed seen x there = elim (fixed_or_not vault v (content_folder vault.keys id) x) [
      | inl belongs ↦ belongs
      | inr more ↦ absurd (clean is.OrphanFolder (content_folder vault.keys id) refl (record { loose = loose seen; entry = x; there = there; more = more }))
    ]

    by_kind : (there : Found) → v (content_folder vault.keys id) ≡ there → there ≡ NoEntry
    by_kind NoEntry seen = refl
    by_kind Folder seen = absurd (tidy.folder (record { loose = loose seen; fixed = fixed seen }))
    by_kind (FileOf bytes) seen = absurd (strange (FileOf bytes) seen refl)
    by_kind Special seen = absurd (strange Special seen refl)

-- above it there is a folder or nothing
shelf_untaken : (vault : CmVault) (v : View) (id : List ℕ) → IsClean (cm_format vault) v → taken_unless_folder (shelf_named (cm_folder_of vault.keys id)) (v (shelf_named (cm_folder_of vault.keys id))) ≡ None
shelf_untaken vault v id clean = by_kind (v (shelf_named (cm_folder_of vault.keys id))) refl
  where
    strange : cm_role (shelf_named (cm_folder_of vault.keys id)) (v (shelf_named (cm_folder_of vault.keys id))) ≡ Extra → ⊥
    strange extra = clean is.ExtraEntry (shelf_named (cm_folder_of vault.keys id)) refl (inr extra)

    by_kind : (there : Found) → v (shelf_named (cm_folder_of vault.keys id)) ≡ there → taken_unless_folder (shelf_named (cm_folder_of vault.keys id)) there ≡ None
    by_kind NoEntry seen = refl
    by_kind Folder seen = refl
    by_kind (FileOf bytes) seen = absurd (strange (ap (cm_role (shelf_named (cm_folder_of vault.keys id))) seen))
    by_kind Special seen = absurd (strange (ap (cm_role (shelf_named (cm_folder_of vault.keys id))) seen))

-- what is taken of a place alone is that
taken_there : (p at : Path) (there : Found) → taken_at p there ≡ Some at → (at ≡ p) × (there ≢ NoEntry)
taken_there p at NoEntry is = let never : None ≡ Some at = is in cc never
taken_there p at Folder is = (cc is, λ z. cc z)
taken_there p at (FileOf bytes) is = (cc is, λ z. cc z)
taken_there p at Special is = (cc is, λ z. cc z)

or_none : (o : Option Path) → option_or o None ≡ o
or_none None = refl
or_none (Some p) = refl

pub cm_places_free : (vault : CmVault) → CmTexts vault.keys → OwnPlacesAreFree (cm_format vault)
cm_places_free vault texts v front dir name item drawn at clean leads named none own tidy = by_item item own.homed
  where
    free : v (entry_at (cm_format vault) dir name) ≡ NoEntry
    free = entry_free (Cryptomator vault) (cm_lawful vault texts) (cm_entries vault texts) v dir name clean (front, leads) named none own.named

    untaken : taken_entry v dir (cm_stored vault.keys vault.threshold dir.key name) ≡ None
    untaken = ap (taken_at (entry_at (cm_format vault) dir name)) free

    folders_untaken : ((other : Directory) → IsReached (cm_format vault) v other → other.folder ≢ content_folder vault.keys (id_of drawn)) → taken_folders v (cm_folder_of vault.keys (id_of drawn)) ≢ Some at
    folders_untaken homed is =
        let home : (at ≡ content_folder vault.keys (id_of drawn)) × (v (content_folder vault.keys (id_of drawn)) ≢ NoEntry)
        = taken_there (content_folder vault.keys (id_of drawn)) at (v (content_folder vault.keys (id_of drawn)))
        (sym (or_none (taken_at (content_folder vault.keys (id_of drawn)) (v (content_folder vault.keys (id_of drawn)))))
        ∙ ap (λ o. option_or (taken_at (content_folder vault.keys (id_of drawn)) (v (content_folder vault.keys (id_of drawn)))) o) (sym (shelf_untaken vault v (id_of drawn) clean)) ∙ is) in
        home.1 (folder_free vault texts v (id_of drawn) clean (subst (IsTidyAt (cm_format vault) v) home.0 tidy) homed)

    by_item : (item : NewItem) → (item ≡ NewDirectory → (other : Directory) → IsReached (cm_format vault) v other → other.folder ≢ content_folder vault.keys (id_of drawn))
        → taken (cm_format vault) v dir name item drawn ≢ Some at
    by_item NewDirectory homed = λ is. folders_untaken (homed refl) (sym (ap (λ o. option_or o (taken_folders v (cm_folder_of vault.keys (id_of drawn)))) untaken) ∙ is)
    by_item (NewFile content) homed = λ is. let never : None ≡ Some at = sym untaken ∙ is in cc never
