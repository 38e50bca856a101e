-- A new gocryptfs vault is empty and clean.
use Rattle.std.proofs.Common.{◌≡◌, ◌≢◌, ℕ, Bool, true, false, List, [], ◌∷◌, Ok, Err, Result, cond, refl, sym, ap, ◌∙◌, inl, inr, subst, Some, IsTrue, length, codes, arith, bytes_eq}
use Rattle.std.proofs.lemmas.Slice.Eq.{bytes_eq-Decides}
use Rattle.folder_spec.specs.Path.{Part, Path, child}
use Rattle.folder_spec.specs.View.{NoEntry, FileOf, View}
use Rattle.folder_spec.specs.Edit.{folder_view}
use Rattle.vault_values.specs.declared.keys.GoKeys.{GoKeys}
use Rattle.plain_tree.specs.Names.{is_name}
use Rattle.vault_names.specs.Gocryptfs.{stored}
use Rattle.vault_names.specs.declared.entry.Stored.{Stored}
use Rattle.vault_spec.specs.StoredNames.{GoTexts}
use Rattle.vault_spec.specs.declared.Finding.{Finding}
use Rattle.vault_spec.specs.declared.Lack.{Lack}
use Rattle.vault_spec.specs.declared.Lack.TheVariants as lacks
use Rattle.vault_spec.specs.declared.Finding.TheVariants as is
use Rattle.vault_spec.specs.Format.{Directory, Nothing, NoItem}
use Rattle.vault_spec.specs.Gocryptfs.{key_file, directory_key, go_format, is_full_name}
use Rattle.vault_spec.specs.Standing.{Dir, entry_at, standing_in, directory_with}
use Rattle.vault_spec.specs.Findings.{Belongs, IsUnnamed, IsDirectoryItem, IsLocked, IsOrphanName, IsClean}
use Rattle.vault_spec.specs.Findings as findings
use Rattle.vault_spec.specs.Alike.{HasNoItem}
use Rattle.vault_spec.specs.Empty.{IsEmptyVault}
use Rattle.vault_spec.proofs.Grafts.{none_stands, standing_unnamed}
use Rattle.vault_spec.proofs.StaysClean.{nothing_at}
use Rattle.vault_spec.proofs.EmptyRoots.{HasEmptyRoot, root_entered, nothing_opens, only_top}
use Rattle.vault_spec.proofs.GoNames.{entry_not, entry_not_key}
use Rattle.vault_spec.proofs.GoVault.{go_lawful, key_is}
use Rattle.vault_spec.proofs.Entries.{differ}
use Rattle.vault_spec.proofs.GoAdding.{IsOfText, text_under}

-- the root of a new vault, with a configuration and a key
abbrev pub new_root : List ℕ → List ℕ → View
new_root text key = folder_view ((codes "gocryptfs.conf", text) ∷ (key_file, key) ∷ [])

abbrev pub top_of : List ℕ → Directory
top_of key = record { folder = []; key = key }

not_conf : length (codes "gocryptfs.conf") ≡ 62 → ⊥
not_conf size = let is : length (codes "gocryptfs.conf") ≡ 14 = refl in omega (arith, size, is)

-- no name's entry is there
no_entry : (texts : GoTexts) (keys : GoKeys) (text key : List ℕ) → directory_key key ≡ Some key → (n : List ℕ) → IsTrue (is_name n) → new_root text key (entry_at (go_format keys) (top_of key) n) ≡ NoEntry
no_entry texts keys text key is_key n named =
    let of : IsOfText (stored keys.names key n) = text_under texts keys key n (key_is (Some key) key is_key) named in
    let conf : codes "gocryptfs.conf" ≢ (stored keys.names key n).name
    = λ same. entry_not (codes "gocryptfs.conf") refl not_conf of.text texts of.plain (ap (λ (s : Stored). s.name) (sym of.is) ∙ sym same) in
    let no_key : key_file ≢ (stored keys.names key n).name = λ same. entry_not_key of.text texts of.plain (ap (λ (s : Stored). s.name) (sym of.is) ∙ sym same) in
    ap (λ b. cond b (FileOf text) (cond (bytes_eq key_file (stored keys.names key n).name) (FileOf key) NoEntry)) (differ (codes "gocryptfs.conf") (stored keys.names key n).name conf)
    ∙ ap (λ b. cond b (FileOf key) NoEntry) (differ key_file (stored keys.names key n).name no_key)

pub empty_root : (texts : GoTexts) (keys : GoKeys) (text key : List ℕ) → directory_key key ≡ Some key → HasEmptyRoot (go_format keys) (new_root text key) (top_of key)
empty_root texts keys text key is_key = record {
  root = ap (λ k. Dir [] (directory_with (go_format keys) (new_root text key) [] k)) is_key;
  empty = λ n. by_name n (is_name n) refl;
}
  where
    by_name : (n : List ℕ) (b : Bool) → is_name n ≡ b → HasNoItem (standing_in (go_format keys) (new_root text key) (top_of key) n)
    by_name n false named = subst HasNoItem (sym (standing_unnamed (go_format keys) (new_root text key) (top_of key) n named)) (record {})
    by_name n true named = none_stands (go_format keys) (go_lawful texts keys) (new_root text key) (top_of key) n (no_entry texts keys text key is_key n named)

-- what is there belongs
pub belongs : (keys : GoKeys) (text key : List ℕ) (x : Part) → new_root text key (x ∷ []) ≢ NoEntry → Belongs (go_format keys) (new_root text key) (top_of key) x × (is_full_name x ≡ false)
belongs keys text key x there = by_conf (bytes_eq (codes "gocryptfs.conf") x) refl
  where
    conf_there : Belongs (go_format keys) (new_root text key) (top_of key) (codes "gocryptfs.conf") × (is_full_name (codes "gocryptfs.conf") ≡ false)
    conf_there = (record { file = (text, refl); name = refl }, refl)

    key_there : Belongs (go_format keys) (new_root text key) (top_of key) key_file × (is_full_name key_file ≡ false)
    key_there = (record { file = (key, refl); name = refl }, refl)

    by_key : bytes_eq (codes "gocryptfs.conf") x ≡ false → (b : Bool) → bytes_eq key_file x ≡ b → Belongs (go_format keys) (new_root text key) (top_of key) x × (is_full_name x ≡ false)
    by_key no_conf true e = subst (λ y. Belongs (go_format keys) (new_root text key) (top_of key) y × (is_full_name y ≡ false)) ((bytes_eq-Decides key_file x).0 e) key_there
    by_key no_conf false e = absurd (there (ap (λ b. cond b (FileOf text) (cond (bytes_eq key_file x) (FileOf key) NoEntry)) no_conf ∙ ap (λ b. cond b (FileOf key) NoEntry) e))

    by_conf : (b : Bool) → bytes_eq (codes "gocryptfs.conf") x ≡ b → Belongs (go_format keys) (new_root text key) (top_of key) x × (is_full_name x ≡ false)
    by_conf true e = subst (λ y. Belongs (go_format keys) (new_root text key) (top_of key) y × (is_full_name y ≡ false)) ((bytes_eq-Decides (codes "gocryptfs.conf") x).0 e) conf_there
    by_conf false e = by_key e (bytes_eq key_file x) refl

new_clean : (texts : GoTexts) (keys : GoKeys) (text key : List ℕ) → directory_key key ≡ Some key → IsClean (go_format keys) (new_root text key)
new_clean texts keys text key is_key = clean
  where
    has : HasEmptyRoot (go_format keys) (new_root text key) (top_of key)
    has = empty_root texts keys text key is_key

    no_unnamed : (finding : Finding) (at : Path) → ¬ IsUnnamed (go_format keys) (new_root text key) finding at
    no_unnamed finding at u =
        let top : u.dir ≡ top_of key = only_top (go_format keys) (new_root text key) (top_of key) has u.reached.0 u.dir u.reached.1 in
        let place : at ≡ u.entry ∷ [] = u.place ∙ ap (λ (d : Directory). child d.folder u.entry) top in
        u.stray (subst (λ d. Belongs (go_format keys) (new_root text key) d u.entry) (sym top)
        (belongs keys text key u.entry (λ none. u.there (ap (new_root text key) place ∙ none))).0)

    no_fault_item : (finding : Finding) (at : Path) → ¬ findings.IsNoItem (go_format keys) (new_root text key) finding at
    no_fault_item finding at u =
        let top : u.dir ≡ top_of key = only_top (go_format keys) (new_root text key) (top_of key) has u.reached.0 u.dir u.reached.1 in
        let free : new_root text key (entry_at (go_format keys) u.dir u.name) ≡ NoEntry
        = ap (λ d. new_root text key (entry_at (go_format keys) d u.name)) top ∙ no_entry texts keys text key is_key u.name u.of.named in
        let clash : Nothing ≡ NoItem finding = sym (nothing_at (go_format keys) (go_lawful texts keys) (new_root text key) u.dir u.name free) ∙ u.is in cc

    no_item : (at : Path) (x : Result Directory Lack) → ¬ IsDirectoryItem (go_format keys) (new_root text key) at x
    no_item at x item =
        let top : item.dir ≡ top_of key = only_top (go_format keys) (new_root text key) (top_of key) has item.reached.0 item.dir item.reached.1 in
        subst HasNoItem (ap (λ d. standing_in (go_format keys) (new_root text key) d item.name) (sym top) ∙ item.stands) (has.empty item.name)

    no_locked : (lack : Lack) (at : Path) → ¬ IsLocked (go_format keys) (new_root text key) lack at
    no_locked lack at (inl root) = let clash : Dir [] (Ok (top_of key)) ≡ Dir at (Err lack) = sym has.root ∙ root in cc
    no_locked lack at (inr item) = no_item at (Err lack) item

    no_orphan : (at : Path) → ¬ IsOrphanName (go_format keys) (new_root text key) at
    no_orphan at u =
        let top : u.dir ≡ top_of key = only_top (go_format keys) (new_root text key) (top_of key) has u.reached.0 u.dir u.reached.1 in
        let place : at ≡ u.file ∷ [] = u.place ∙ ap (λ (d : Directory). child d.folder u.file) top in
        let there : new_root text key (u.file ∷ []) ≢ NoEntry = λ none. let clash : FileOf u.there.0 ≡ NoEntry = sym u.there.1 ∙ ap (new_root text key) place ∙ none in cc in
        let clash : true ≡ false = sym u.full ∙ (belongs keys text key u.file there).1 in cc

    clean : IsClean (go_format keys) (new_root text key)
    clean is.BadStoredName at counts found = no_unnamed is.BadStoredName at found
    clean is.NoDirKey at counts found = no_locked lacks.NoDirKey at found
    clean is.LongNameLost at counts found = no_unnamed is.LongNameLost at found
    clean is.OrphanLongName at counts found = no_orphan at found
    clean is.DirIdTwice at counts found = no_item at found.one found.item
    clean is.NoFolder at counts found = no_locked lacks.NoFolder at found
    clean is.OrphanFolder at counts found = let role : found.loose.folder ≡ found.loose.folder = refl in cc
    clean is.SymlinkFound at counts found = no_fault_item is.SymlinkFound at found
    clean is.WrongKind at counts (inl found) = no_unnamed is.WrongKind at found
    clean is.WrongKind at counts (inr found) = no_fault_item is.WrongKind at found
    clean is.ExtraEntry at counts (inl found) = cc
    clean is.ExtraEntry at counts (inr found) = cc
    clean is.TwoKinds at counts found = no_fault_item is.TwoKinds at found
    clean is.HeaderDamaged at counts found = cc
    clean is.ChunkDamaged at counts found = cc
    clean is.EmptyOrphan at counts found = cc

pub new_is_empty : GoTexts → (keys : GoKeys) (text key : List ℕ) → directory_key key ≡ Some key → IsEmptyVault (go_format keys) (new_root text key)
new_is_empty texts keys text key is_key = record {
  clean = new_clean texts keys text key is_key;
  root = (top_of key, root_entered (go_format keys) (new_root text key) (top_of key) (empty_root texts keys text key is_key));
  others = nothing_opens (go_format keys) (new_root text key) (top_of key) (empty_root texts keys text key is_key);
}
