-- Cryptomator's format knows its strays.
use Rattle.std.proofs.Common.{◌≡◌, ◌≢◌, ◌⊎◌, ◌&&◌, ◌||◌, ℕ, Bool, true, false, List, [], ◌∷◌, ◌++◌, cond, refl, sym, ap, ◌∙◌, inl, inr, IsTrue, take, drop, bytes_eq}
use Rattle.std.proofs.lemmas.Slice.Eq.{bytes_eq-Decides}
use Rattle.folder_spec.specs.Path.{Part, Path}
use Rattle.folder_spec.specs.Seen.{ShowsFile}
use Rattle.folder_spec.specs.View.{Found, Folder, FileOf, View}
use Rattle.vault_names.specs.Cryptomator.{cm_folder_of}
use Rattle.vault_spec.specs.StoredNames.{CmTexts}
use Rattle.vault_spec.specs.Format.{Item, Nothing, FileItem, DirectoryItem, NoItem, Expected, Shelf, ContentFolder, Extra, is_file}
use Rattle.vault_spec.specs.Cryptomator.{CmVault, cm_format, cm_item, cm_item_of, cm_role, content_file, content_folder, file_role, folder_item, folder_role, full_file, has_file, id_file, inner_role, is_base32_text, is_configuration, symlink_file, top}
use Rattle.vault_spec.specs.Moving.{StraysGoAlone}
use Rattle.vault_spec.specs.RootFiles.{is_root_file}
use Rattle.vault_spec.proofs.StrayLaws.{KnowsStrays}
use Rattle.vault_spec.proofs.StraysAlone.{strays_alone}
use Rattle.vault_spec.proofs.CmVault.{is_mark, item_by_kind, item_by_marks, content_size, cm_lawful, OfEachCm}
use Rattle.vault_spec.proofs.CmKeeping.{shelf_text, shelf_role, folder_is}

-- a mark that is a file belongs in the folder
id_belongs : (long contents symlink : Bool) (bytes : List ℕ) → inner_role long (folder_item long contents true symlink) id_file (FileOf bytes) ≡ Expected
id_belongs true false false bytes = refl
id_belongs false false false bytes = refl
id_belongs true true symlink bytes = refl
id_belongs false true symlink bytes = refl
id_belongs true false true bytes = refl
id_belongs false false true bytes = refl

content_belongs : (long dir symlink : Bool) (bytes : List ℕ) → inner_role long (folder_item long true dir symlink) content_file (FileOf bytes) ≡ Expected
content_belongs true false false bytes = refl
content_belongs false false false bytes = refl
content_belongs true true symlink bytes = refl
content_belongs false true symlink bytes = refl
content_belongs true false true bytes = refl
content_belongs false false true bytes = refl

symlink_belongs : (long contents dir : Bool) (bytes : List ℕ) → inner_role long (folder_item long contents dir true) symlink_file (FileOf bytes) ≡ Expected
symlink_belongs true false false bytes = refl
symlink_belongs false false false bytes = refl
symlink_belongs true true true bytes = refl
symlink_belongs false true true bytes = refl
symlink_belongs true true false bytes = refl
symlink_belongs false true false bytes = refl
symlink_belongs true false true bytes = refl
symlink_belongs false false true bytes = refl

-- which mark it is
mark_is : (m : Part) (a b c : Bool) → bytes_eq m id_file ≡ a → bytes_eq m content_file ≡ b → bytes_eq m symlink_file ≡ c → (a || b || c) ≡ true → (m ≡ id_file) ⊎ ((m ≡ content_file) ⊎ (m ≡ symlink_file))
mark_is m true b c one two three is = inl ((bytes_eq-Decides m id_file).0 one)
mark_is m false true c one two three is = inr (inl ((bytes_eq-Decides m content_file).0 two))
mark_is m false false true one two three is = inr (inr ((bytes_eq-Decides m symlink_file).0 three))
mark_is m false false false one two three is = cc

mark_belongs : (long : Bool) (v : View) (m : Part) → v [] ≡ Folder → IsTrue (is_mark m) → ShowsFile v (m ∷ []) → inner_role long (cm_item long v) m (v (m ∷ [])) ≡ Expected
mark_belongs long v m there mark file =
    by_mark (mark_is m (bytes_eq m id_file) (bytes_eq m content_file) (bytes_eq m symlink_file) refl refl refl mark)
  where
    item : cm_item long v ≡ folder_item long (has_file v content_file) (has_file v id_file) (has_file v symlink_file)
    item = ap (cm_item_of long v) there

    role : inner_role long (cm_item long v) m (v (m ∷ [])) ≡ inner_role long (folder_item long (has_file v content_file) (has_file v id_file) (has_file v symlink_file)) m (FileOf file.0)
    role = ap (λ i. inner_role long i m (v (m ∷ []))) item
        ∙ ap (inner_role long (folder_item long (has_file v content_file) (has_file v id_file) (has_file v symlink_file)) m) file.1

    has : (x : Part) → m ≡ x → has_file v x ≡ true
    has x same = ap (has_file v) (sym same) ∙ ap is_file file.1

    by_mark : (m ≡ id_file) ⊎ ((m ≡ content_file) ⊎ (m ≡ symlink_file)) → inner_role long (cm_item long v) m (v (m ∷ [])) ≡ Expected
    by_mark (inl id) = role
        ∙ ap (λ b. inner_role long (folder_item long (has_file v content_file) b (has_file v symlink_file)) m (FileOf file.0)) (has id_file id)
        ∙ ap (λ x. inner_role long (folder_item long (has_file v content_file) true (has_file v symlink_file)) x (FileOf file.0)) id
        ∙ id_belongs long (has_file v content_file) (has_file v symlink_file) file.0
    by_mark (inr (inl content)) = role
        ∙ ap (λ b. inner_role long (folder_item long b (has_file v id_file) (has_file v symlink_file)) m (FileOf file.0)) (has content_file content)
        ∙ ap (λ x. inner_role long (folder_item long true (has_file v id_file) (has_file v symlink_file)) x (FileOf file.0)) content
        ∙ content_belongs long (has_file v id_file) (has_file v symlink_file) file.0
    by_mark (inr (inr symlink)) = role
        ∙ ap (λ b. inner_role long (folder_item long (has_file v content_file) (has_file v id_file) b) m (FileOf file.0)) (has symlink_file symlink)
        ∙ ap (λ x. inner_role long (folder_item long (has_file v content_file) (has_file v id_file) true) x (FileOf file.0)) symlink
        ∙ symlink_belongs long (has_file v content_file) (has_file v id_file) file.0

-- and so does a long name's file
full_belongs : (item : Item) (bytes : List ℕ) → inner_role true item full_file (FileOf bytes) ≡ Expected
full_belongs Nothing bytes = refl
full_belongs (FileItem rest) bytes = refl
full_belongs DirectoryItem bytes = refl
full_belongs (NoItem finding) bytes = refl

-- no folder is in one of entries
never_in_entries : (p q r : Part) (x y z a : Part) (rest : Path) → p ∷ q ∷ r ∷ [] ≢ x ∷ y ∷ z ∷ a ∷ rest
never_in_entries p q r x y z a rest same = cc

-- the folders above a content folder have their places
above_role : (vault : CmVault) → CmTexts vault.keys → (id : List ℕ) (p rest : Path) → content_folder vault.keys id ≡ p ++ rest → cm_role p Folder ≢ Extra
above_role vault texts id [] rest above extra = cc
above_role vault texts id (a ∷ []) rest above extra =
    let first : a ≡ top = cc in
    let clash : Expected ≡ Extra = sym (ap (λ x. cm_role (x ∷ []) Folder) first) ∙ extra in cc
above_role vault texts id (a ∷ b ∷ []) rest above extra =
    let first : a ≡ top = cc in
    let second : b ≡ take 2 (cm_folder_of vault.keys id) = cc in
    let shelf : cm_role (a ∷ b ∷ []) Folder ≡ Shelf = ap (λ x. cm_role (x ∷ b ∷ []) Folder) first ∙ ap (λ x. cm_role (top ∷ x ∷ []) Folder) second
    ∙ ap (λ t. cond t Shelf Extra) (shelf_text vault.keys texts id) in
    let clash : Shelf ≡ Extra = sym shelf ∙ extra in cc
above_role vault texts id (a ∷ b ∷ c ∷ []) rest above extra =
    let first : a ≡ top = cc in
    let second : b ≡ take 2 (cm_folder_of vault.keys id) = cc in
    let third : c ≡ drop 2 (cm_folder_of vault.keys id) = cc in
    let role : cm_role (a ∷ b ∷ c ∷ []) Folder ≡ ContentFolder
    = ap (λ x. cm_role (x ∷ b ∷ c ∷ []) Folder) first ∙ ap (λ x. cm_role (top ∷ x ∷ c ∷ []) Folder) second ∙ ap (λ x. cm_role (top ∷ take 2 (cm_folder_of vault.keys id) ∷ x ∷ []) Folder) third
    ∙ folder_is vault texts id in
    let clash : ContentFolder ≡ Extra = sym role ∙ extra in cc
above_role vault texts id (a ∷ b ∷ c ∷ e ∷ p) rest above extra = cc

-- and none of them is a content folder
above_content : (vault : CmVault) (id : List ℕ) (p rest : Path) → content_folder vault.keys id ≡ p ++ rest → cm_role p Folder ≡ ContentFolder → p ≡ content_folder vault.keys id
above_content vault id [] rest above is = cc
above_content vault id (a ∷ []) rest above is =
    let first : a ≡ top = cc in
    let clash : Expected ≡ ContentFolder = sym (ap (λ x. cm_role (x ∷ []) Folder) first) ∙ is in cc
above_content vault id (a ∷ b ∷ []) rest above is =
    let first : a ≡ top = cc in
    absurd (shelf_role b Folder (ap (λ x. cm_role (x ∷ b ∷ []) Folder) (sym first) ∙ is))
above_content vault id (a ∷ b ∷ c ∷ []) [] above is = sym above
above_content vault id (a ∷ b ∷ c ∷ []) (e ∷ rest) above is = cc
above_content vault id (a ∷ b ∷ c ∷ e ∷ p) rest above is = cc

-- nothing below what has no place has a role, nor below a content folder
top_below : (x a : Part) (rest : Path) (there : Found) (b : Bool) → bytes_eq x top ≡ b
    → (cond b Expected (file_role (is_configuration x || is_root_file x) Folder) ≡ Extra) ⊎ (cond b Expected (file_role (is_configuration x || is_root_file x) Folder) ≡ ContentFolder) → cm_role (x ∷ a ∷ rest) there ≡ Expected
top_below x a rest there true is (inl role) = cc
top_below x a rest there true is (inr role) = cc
top_below x a [] there false is role = ap (λ t. cond t (folder_role (is_base32_text 2 a) Shelf there) Expected) is
top_below x a (c ∷ []) there false is role = ap (λ t. cond (t && is_base32_text 2 a) (folder_role (is_base32_text 30 c) ContentFolder there) Expected) is
top_below x a (c ∷ e ∷ rest) there false is role = refl

shelf_below : (x y a : Part) (rest : Path) (there : Found) (b c : Bool) → bytes_eq x top ≡ b → is_base32_text 2 y ≡ c
    → (cond b (cond c Shelf Extra) Expected ≡ Extra) ⊎ (cond b (cond c Shelf Extra) Expected ≡ ContentFolder) → cm_role (x ∷ y ∷ a ∷ rest) there ≡ Expected
shelf_below x y a rest there false c is named (inl role) = cc
shelf_below x y a rest there false c is named (inr role) = cc
shelf_below x y a rest there true true is named (inl role) = cc
shelf_below x y a rest there true true is named (inr role) = cc
shelf_below x y a [] there true false is named role =
    ap (λ t. cond (t && is_base32_text 2 y) (folder_role (is_base32_text 30 a) ContentFolder there) Expected) is
    ∙ ap (λ t. cond t (folder_role (is_base32_text 30 a) ContentFolder there) Expected) named
shelf_below x y a (e ∷ rest) there true false is named role = refl

below_role : (p : Path) (a : Part) (rest : Path) (there : Found) → (cm_role p Folder ≡ Extra) ⊎ (cm_role p Folder ≡ ContentFolder) → cm_role (p ++ a ∷ rest) there ≡ Expected
below_role [] a rest there (inl role) = cc
below_role [] a rest there (inr role) = cc
below_role (x ∷ []) a rest there role = top_below x a rest there (bytes_eq x top) refl role
below_role (x ∷ y ∷ []) a rest there role = shelf_below x y a rest there (bytes_eq x top) (is_base32_text 2 y) refl refl role
below_role (x ∷ y ∷ z ∷ []) a rest there role = refl
below_role (x ∷ y ∷ z ∷ e ∷ p) a rest there role = refl

cm_strays : OfEachCm KnowsStrays
unfolding cm_lawful
cm_strays vault texts = record {
  layout = inr (record {
    apart = λ at place key other a rest. never_in_entries top (take 2 (cm_folder_of vault.keys key)) (drop 2 (cm_folder_of vault.keys key))
        top (take 2 (cm_folder_of vault.keys other)) (drop 2 (cm_folder_of vault.keys other)) a rest;
    root = λ v w. refl;
  });
  item_by_files = λ long v w there marks. item_by_marks long v w (v []) marks ∙ item_by_kind long w (v []) (w []) there;
  content_place = λ long v rest item. by_size rest (content_size long v (v []) rest item);
  entry_not_full = λ key name is named. refl;
  full_is_full = λ key name file is named long same. cc;
  mark_belongs = λ long v m there mark file extra. let clash : Expected ≡ Extra = sym (mark_belongs long v m there mark file) ∙ extra in cc;
  full_belongs = λ item a file bytes place extra.
      let same : full_file ≡ file = cc in
      let clash : Expected ≡ Extra = sym (full_belongs item bytes) ∙ ap (λ x. inner_role true item x (FileOf bytes)) same ∙ extra in cc;
  role_in_no_item = λ long finding x there. refl;
  root_role = λ there. refl;
  entry_role = λ at key a rest there. refl;
  folder_role = λ at key p rest above extra. above_role vault texts key p rest above extra;
  folder_content = λ at key p rest above is. above_content vault key p rest above is;
  below_role = below_role;
}
  where
    by_size : (rest : Path) → (rest ≡ []) ⊎ (rest ≡ content_file ∷ []) → (rest ≡ []) ⊎ ((m : Part) × IsTrue (is_mark m) × (rest ≡ m ∷ []))
    by_size rest (inl none) = inl none
    by_size rest (inr content) = inr (content_file, refl, content)

pub cm_strays_alone : (vault : CmVault) → CmTexts vault.keys → StraysGoAlone (cm_format vault)
cm_strays_alone vault texts = strays_alone (cm_format vault) (cm_lawful vault texts) (cm_strays vault texts)
