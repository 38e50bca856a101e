-- A Cryptomator vault is tidy when it is new, and items that are made in it leave nothing over.
use Rattle.std.proofs.Common.{◌≡◌, ◌⊎◌, ℕ, Bool, true, false, List, [], ◌∷◌, ◌++◌, Ok, sym, ap, ◌∙◌, inl, inr, Some, None, IsTrue, take}
use Rattle.folder_spec.specs.Path.{Part, Path, child}
use Rattle.folder_spec.specs.View.{Found, NoEntry, Folder, FileOf, Special, View}
use Rattle.folder_spec.specs.Edit.{Edit, edited, directory_edit, view_after}
use Rattle.plain_tree.specs.Names as plain
use Rattle.plain_tree.specs.Names.{is_name}
use Rattle.vault_names.specs.Cryptomator.{cm_stored, cm_folder_of}
use Rattle.vault_spec.specs.StoredNames.{CmTexts}
use Rattle.vault_spec.specs.Format.{Directory, Expected, ContentFolder}
use Rattle.vault_spec.specs.Cryptomator.{CmVault, cm_format, cm_role, directory_id, shelf_named, content_folder, taken_entry, folder_where_free}
use Rattle.vault_spec.specs.Standing.{Dir, entry_at, root_of, standing_in}
use Rattle.vault_spec.specs.Reached.{Leads, IsReached}
use Rattle.vault_spec.specs.Findings.{IsIdleName, IsIdleFolder}
use Rattle.vault_spec.specs.Alike.{IsOrderly}
use Rattle.vault_spec.specs.Tidy.{IsTidy, NewItemsStayTidy, StaysTidy}
use Rattle.vault_spec.proofs.Steps.{along}
use Rattle.vault_spec.proofs.Grafts.{reached_right}
use Rattle.vault_spec.proofs.Places.{IsNew, new_after_side, still_leads, brought_there}
use Rattle.vault_spec.proofs.CmVault.{cm_lawful}
use Rattle.vault_spec.proofs.CmAdding.{entry_spares, new_file_at, directory_at, its_item, its_full, its_id, directory_stands, folder_side, folder_ready, by_shelf, new_at, folder_free, new_after_shelf}
use Rattle.vault_spec.proofs.CmKeeping.{shelf_role, cm_keeps}
use Rattle.vault_spec.proofs.CmNew.{new_root, top_of, empty_root, no_content_folder}
use Rattle.vault_spec.proofs.Tidying.{IsAt, tidy_after}

-- no entry of Cryptomator is a long-name file
no_name : (vault : CmVault) (w : View) (at : Path) → ¬ IsIdleName (cm_format vault) w at
no_name vault w at idle = let clash : ◌≡◌ {A = Bool} false true = idle.full in cc

-- nor is it a content folder
entry_role : (vault : CmVault) (texts : CmTexts vault.keys) (v : View) (front : plain.Path) (dir : Directory) (x : Part) (there : Found) → Leads (cm_format vault) v front dir → cm_role (child dir.folder x) there ≡ Expected
entry_role vault texts v front dir x there leads = ap (λ p. cm_role (child p x) there) (reached_right (cm_format vault) (cm_lawful vault texts) v front dir leads).form

no_entry_folder : (vault : CmVault) (texts : CmTexts vault.keys) (v w : View) (front : plain.Path) (dir : Directory) (x : Part) (at : Path) → Leads (cm_format vault) v front dir
    → at ≡ child dir.folder x → ¬ IsIdleFolder (cm_format vault) w at
no_entry_folder vault texts v w front dir x at leads here idle =
    let clash : Expected ≡ ContentFolder = sym (entry_role vault texts v front dir x (w at) leads) ∙ ap (λ p. cm_role p (w at)) (sym here) ∙ idle.loose.folder in cc

new_file_tidy : (vault : CmVault) (texts : CmTexts vault.keys) → (v : View) (front : plain.Path) (dir : Directory) (name bytes : List ℕ)
    → IsOrderly (cm_format vault) v → Leads (cm_format vault) v front dir → IsTrue (is_name name)
    → taken_entry v dir (cm_stored vault.keys vault.threshold dir.key name) ≡ None
    → StaysTidy (cm_format vault) v (view_after v ((cm_format vault).new_file v dir (cm_stored vault.keys vault.threshold dir.key name) bytes))
new_file_tidy vault texts v front dir name bytes orderly leads named none =
    tidy_after (cm_format vault) (cm_lawful vault texts) v ((cm_format vault).new_file v dir (cm_stored vault.keys vault.threshold dir.key name) bytes)
    ((cm_keeps vault texts).file v front dir name bytes orderly leads named none) (λ at here. no_name vault w at) no_folder
  where
    w : View
    w = view_after v ((cm_format vault).new_file v dir (cm_stored vault.keys vault.threshold dir.key name) bytes)

    no_folder : (at : Path) → IsAt ((cm_format vault).new_file v dir (cm_stored vault.keys vault.threshold dir.key name) bytes) at → ¬ IsIdleFolder (cm_format vault) w at
    no_folder at (inl here) = no_entry_folder vault texts v w front dir (cm_stored vault.keys vault.threshold dir.key name).name at leads
        (here ∙ new_file_at (entry_at (cm_format vault) dir name) (cm_stored vault.keys vault.threshold dir.key name).full bytes)
    no_folder at (inr none) = absurd none

at_two : {A : Type 0} (one two : Edit) (q : Path) → IsAt (one ∷ two ∷ []) q → A ⊎ ((q ≡ one.at) ⊎ (q ≡ two.at))
at_two one two q (inl here) = inr (inl here)
at_two one two q (inr (inl here)) = inr (inr here)
at_two one two q (inr (inr none)) = absurd none

-- the edits of a directory are at the folder of content folders, at the content folder and at the entry
its_places : (shelf : Path) (there : Found) (folder entry : Edit) (q : Path) → IsAt ((folder_where_free shelf there ++ folder ∷ []) ++ entry ∷ []) q → (q ≡ shelf) ⊎ ((q ≡ folder.at) ⊎ (q ≡ entry.at))
its_places shelf NoEntry folder entry q (inl here) = inl here
its_places shelf NoEntry folder entry q (inr here) = at_two folder entry q here
its_places shelf Folder folder entry q here = at_two folder entry q here
its_places shelf (FileOf bytes) folder entry q here = at_two folder entry q here
its_places shelf Special folder entry q here = at_two folder entry q here

-- after them the content folder is reached
abbrev HasReached : CmVault → List ℕ → View → List Edit → Type 0
HasReached vault id v edits = IsReached (cm_format vault) (view_after v edits) (record { folder = content_folder vault.keys id; key = id })

reached_after_shelf : (vault : CmVault) (texts : CmTexts vault.keys) (w : View) (front : plain.Path) (dir : Directory) (name id : List ℕ)
    → IsNew (cm_format vault) w front dir name (directory_at vault dir name id) → directory_id id ≡ Some id
    → w (shelf_named (cm_folder_of vault.keys id)) ≡ Folder → w (content_folder vault.keys id) ≡ NoEntry
    → HasReached vault id w (directory_edit (content_folder vault.keys id) ∷ directory_at vault dir name id ∷ [])
reached_after_shelf vault texts w front dir name id new is_id shelf free = (
  front ++ name ∷ [],
  record { at = entry_at (cm_format vault) dir name; stands = along (cm_format vault) u (root_of (cm_format vault) u) dir leads.at front name leads.stands ∙ stands },
)
  where
    u : View
    u = edited (edited w (directory_edit (content_folder vault.keys id))) (directory_at vault dir name id)

    new_then : IsNew (cm_format vault) (edited w (directory_edit (content_folder vault.keys id))) front dir name (directory_at vault dir name id)
    new_then = new_after_side (cm_format vault) (cm_lawful vault texts) w (directory_edit (content_folder vault.keys id)) front dir name (directory_at vault dir name id)
        (folder_side vault texts w id new.rooted shelf free) new

    leads : Leads (cm_format vault) u front dir
    leads = still_leads (cm_format vault) (cm_lawful vault texts) (edited w (directory_edit (content_folder vault.keys id))) (directory_at vault dir name id) new_then.rooted new_then.free
        (entry_spares vault texts (edited w (directory_edit (content_folder vault.keys id))) front dir name (directory_at vault dir name id) new_then) front dir new_then.leads

    stands : standing_in (cm_format vault) u dir name ≡ Dir (entry_at (cm_format vault) dir name) (Ok (record { folder = content_folder vault.keys id; key = id }))
    stands = directory_stands vault (edited w (directory_edit (content_folder vault.keys id))) front dir name id (directory_at vault dir name id) new_then is_id (folder_ready vault w id)
        (its_full vault (edited w (directory_edit (content_folder vault.keys id))) dir name id)
        (its_item (cm_stored vault.keys vault.threshold dir.key name).full id) (its_id (cm_stored vault.keys vault.threshold dir.key name).full id)

reached_then : (vault : CmVault) (texts : CmTexts vault.keys) (v : View) (front : plain.Path) (dir : Directory) (name id : List ℕ)
    → IsOrderly (cm_format vault) v → Leads (cm_format vault) v front dir → IsTrue (is_name name) → directory_id id ≡ Some id
    → (cm_format vault).taken_for_directory v dir (cm_stored vault.keys vault.threshold dir.key name) id ≡ None
    → HasReached vault id v ((cm_format vault).new_directory v dir (cm_stored vault.keys vault.threshold dir.key name) id)
reached_then vault texts v front dir name id orderly leads named is_id none =
    by_shelf vault v dir name id (HasReached vault id v) none (reached_after_shelf vault texts v front dir name id new is_id)
    (λ free. reached_after_shelf vault texts (edited v (directory_edit (shelf_named (cm_folder_of vault.keys id)))) front dir name id (new_after_shelf vault texts v front dir name id new free) is_id
    (brought_there v (directory_edit (shelf_named (cm_folder_of vault.keys id)))) (folder_free vault v id))
  where
    new : IsNew (cm_format vault) v front dir name (directory_at vault dir name id)
    new = new_at vault texts v front dir name id orderly.folders leads named none

new_directory_tidy : (vault : CmVault) (texts : CmTexts vault.keys) → (v : View) (front : plain.Path) (dir : Directory) (name id : List ℕ)
    → IsOrderly (cm_format vault) v → Leads (cm_format vault) v front dir → IsTrue (is_name name) → directory_id id ≡ Some id
    → (cm_format vault).taken_for_directory v dir (cm_stored vault.keys vault.threshold dir.key name) id ≡ None
    → StaysTidy (cm_format vault) v (view_after v ((cm_format vault).new_directory v dir (cm_stored vault.keys vault.threshold dir.key name) id))
new_directory_tidy vault texts v front dir name id orderly leads named is_id none =
    tidy_after (cm_format vault) (cm_lawful vault texts) v ((cm_format vault).new_directory v dir (cm_stored vault.keys vault.threshold dir.key name) id)
    ((cm_keeps vault texts).directory v front dir name id orderly leads named is_id none) (λ at here. no_name vault w at) no_folder
  where
    w : View
    w = view_after v ((cm_format vault).new_directory v dir (cm_stored vault.keys vault.threshold dir.key name) id)

    no_folder : (at : Path) → IsAt ((cm_format vault).new_directory v dir (cm_stored vault.keys vault.threshold dir.key name) id) at → ¬ IsIdleFolder (cm_format vault) w at
    no_folder at here idle =
        elim (its_places (shelf_named (cm_folder_of vault.keys id)) (v (shelf_named (cm_folder_of vault.keys id))) (directory_edit (content_folder vault.keys id)) (directory_at vault dir name id) at here) [
          | inl shelf ↦ shelf_role (take 2 (cm_folder_of vault.keys id)) (w at) (ap (λ p. cm_role p (w at)) (sym shelf) ∙ idle.loose.folder)
          | inr (inl folder) ↦ idle.loose.loose (record { folder = content_folder vault.keys id; key = id }) (reached_then vault texts v front dir name id orderly leads named is_id none) (sym folder)
          | inr (inr entry) ↦ no_entry_folder vault texts v w front dir (cm_stored vault.keys vault.threshold dir.key name).name at leads entry idle
        ]

pub cm_items_tidy : (vault : CmVault) → CmTexts vault.keys → NewItemsStayTidy (cm_format vault)
cm_items_tidy vault texts = record { file = new_file_tidy vault texts; directory = new_directory_tidy vault texts }

-- in a new vault the one content folder is the root's
pub cm_new_tidy : (vault : CmVault) → CmTexts vault.keys → (m w : List ℕ) → IsTidy (cm_format vault) (new_root m w (cm_folder_of vault.keys []))
cm_new_tidy vault texts m w at = record {
  name = no_name vault (new_root m w (cm_folder_of vault.keys [])) at;
  folder = λ idle. idle.loose.loose (top_of vault) ([], record { at = []; stands = (empty_root vault texts m w).root })
      (sym (no_content_folder m w (cm_folder_of vault.keys []) at idle.loose.folder));
}
