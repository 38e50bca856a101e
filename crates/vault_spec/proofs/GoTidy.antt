-- A gocryptfs vault is tidy when it is new, and items that are made in it leave nothing over.
use Rattle.std.proofs.Common.{◌≡◌, ◌≢◌, ◌⊎◌, ℕ, true, false, List, [], ◌∷◌, ◌++◌, refl, sym, ap, ◌∙◌, inl, inr, Some, None, Option, codes}
use Rattle.std.proofs.lemmas.List.{append_cancel_right}
use Rattle.folder_spec.specs.Path.{Path, child}
use Rattle.folder_spec.specs.View.{Found, NoEntry, Folder, FileOf, Special, View}
use Rattle.folder_spec.specs.Edit.{Edit, file_edit, folder_edit, view_after}
use Rattle.vault_values.specs.declared.keys.GoKeys.{GoKeys}
use Rattle.plain_tree.specs.Names as plain
use Rattle.vault_names.specs.Gocryptfs.{stored}
use Rattle.vault_spec.specs.StoredNames.{GoTexts}
use Rattle.vault_spec.specs.Format.{Directory, Expected, ContentFolder}
use Rattle.vault_spec.specs.Gocryptfs.{key_file, full_name, is_full_name, directory_key, go_format, full_edits, full_edits_at}
use Rattle.vault_spec.specs.Standing.{entry_at}
use Rattle.vault_spec.specs.Findings.{IsIdleName, IsIdleFolder}
use Rattle.vault_spec.specs.Tidy.{IsTidy, NewItemsStayTidy, StaysTidy}
use Rattle.vault_spec.proofs.PathEnds.{child-both}
use Rattle.vault_spec.proofs.Places.{IsNew}
use Rattle.vault_spec.proofs.StaysClean.{KeepEach}
use Rattle.vault_spec.proofs.EmptyRoots.{only_top}
use Rattle.vault_spec.proofs.GoVault.{go_lawful}
use Rattle.vault_spec.proofs.GoAdding.{full_place, is_new}
use Rattle.vault_spec.proofs.GoKeeping.{name_not_full, go_keeps}
use Rattle.vault_spec.proofs.GoNew.{new_root, top_of, empty_root, belongs}
use Rattle.vault_spec.proofs.Tidying.{IsAt, text_there, tidy_after, last_there}

at_one : (e : Edit) (q : Path) → IsAt (e ∷ []) q → q ≡ e.at
at_one e q (inl here) = here
at_one e q (inr none) = absurd none

-- the edits are at the long-name file's place and at the entry's
its_places : (at : Path) (there : Found) (full : Option (List ℕ)) (e : Edit) (q : Path) → IsAt (full_edits_at at there full ++ e ∷ []) q → (q ≡ at) ⊎ (q ≡ e.at)
its_places at there None e q here = inr (at_one e q here)
its_places at NoEntry (Some text) e q (inl here) = inl here
its_places at NoEntry (Some text) e q (inr here) = inr (at_one e q here)
its_places at (FileOf bytes) (Some text) e q here = inr (at_one e q here)
its_places at Folder (Some text) e q here = inr (at_one e q here)
its_places at Special (Some text) e q here = inr (at_one e q here)

-- no folder of gocryptfs is one of content
no_folder : (keys : GoKeys) (w : View) (at : Path) → ¬ IsIdleFolder (go_format keys) w at
no_folder keys w at idle = let clash : Expected ≡ ContentFolder = idle.loose.folder in cc

-- after the edits of an item the long-name file has its entry
new_tidy : (texts : GoTexts) (keys : GoKeys) (v : View) (front : plain.Path) (dir : Directory) (name : List ℕ) (e : Edit)
    → IsNew (go_format keys) v front dir name e → e.made [] ≢ NoEntry → KeepEach (go_format keys) (go_lawful texts keys) v (full_edits v dir (stored keys.names dir.key name) ++ e ∷ [])
    → StaysTidy (go_format keys) v (view_after v (full_edits v dir (stored keys.names dir.key name) ++ e ∷ []))
new_tidy texts keys v front dir name e new there keep =
    tidy_after (go_format keys) (go_lawful texts keys) v (full_edits v dir (stored keys.names dir.key name) ++ e ∷ []) keep no_name (λ at here. no_folder keys w at)
  where
    w : View
    w = view_after v (full_edits v dir (stored keys.names dir.key name) ++ e ∷ [])

    no_name : (at : Path) → IsAt (full_edits v dir (stored keys.names dir.key name) ++ e ∷ []) at → ¬ IsIdleName (go_format keys) w at
    no_name at here idle = elim (its_places (full_place dir (stored keys.names dir.key name)) (v (full_place dir (stored keys.names dir.key name))) (stored keys.names dir.key name).full e at here) [
      | inl beside ↦
          let both : (idle.dir.folder ≡ dir.folder) × (idle.file ≡ full_name (stored keys.names dir.key name).name)
          = child-both idle.dir.folder dir.folder idle.file (full_name (stored keys.names dir.key name).name) (sym idle.place ∙ beside) in
          let files : full_name idle.entry ≡ idle.file = cc in
          let entries : idle.entry ≡ (stored keys.names dir.key name).name = append_cancel_right idle.entry (stored keys.names dir.key name).name (codes ".name") (files ∙ both.1) in
          there (sym (last_there v (full_edits v dir (stored keys.names dir.key name)) e) ∙ ap w (sym new.place)
          ∙ ap (λ p. w (child p (stored keys.names dir.key name).name)) (sym both.0) ∙ ap (λ x. w (child idle.dir.folder x)) (sym entries) ∙ idle.alone)
      | inr at_entry ↦
          let both : (idle.dir.folder ≡ dir.folder) × (idle.file ≡ (stored keys.names dir.key name).name)
          = child-both idle.dir.folder dir.folder idle.file (stored keys.names dir.key name).name (sym idle.place ∙ at_entry ∙ sym new.place) in
          let clash : true ≡ false = sym idle.full ∙ ap is_full_name both.1 ∙ name_not_full texts keys v front dir name e new in cc
    ]

pub go_items_tidy : GoTexts → (keys : GoKeys) → NewItemsStayTidy (go_format keys)
go_items_tidy texts keys = record {
  file = λ v front dir name bytes orderly leads named none.
      new_tidy texts keys v front dir name (file_edit (entry_at (go_format keys) dir name) bytes)
      (is_new texts keys v front dir name (file_edit (entry_at (go_format keys) dir name) bytes) orderly.folders leads named refl none) (λ z. cc)
      ((go_keeps texts keys).file v front dir name bytes orderly leads named none);
  directory = λ v front dir name key orderly leads named is_key none.
      new_tidy texts keys v front dir name (folder_edit (entry_at (go_format keys) dir name) ((key_file, key) ∷ []))
      (is_new texts keys v front dir name (folder_edit (entry_at (go_format keys) dir name) ((key_file, key) ∷ [])) orderly.folders leads named refl none) (λ z. cc)
      ((go_keeps texts keys).directory v front dir name key orderly leads named is_key none);
}

-- in a new vault no file is a long name's
pub go_new_tidy : GoTexts → (keys : GoKeys) (text key : List ℕ) → directory_key key ≡ Some key → IsTidy (go_format keys) (new_root text key)
go_new_tidy texts keys text key is_key at = record { name = no_name at; folder = no_folder keys (new_root text key) at }
  where
    no_name : (at : Path) → ¬ IsIdleName (go_format keys) (new_root text key) at
    no_name at u =
        let top : u.dir ≡ top_of key = only_top (go_format keys) (new_root text key) (top_of key) (empty_root texts keys text key is_key) u.reached.0 u.dir u.reached.1 in
        let there : new_root text key (u.file ∷ []) ≢ NoEntry
        = λ none. text_there (go_format keys) (new_root text key) u.dir u.file u.entry u.right (ap (λ (d : Directory). new_root text key (child d.folder u.file)) top ∙ none) in
        let clash : true ≡ false = sym u.full ∙ (belongs keys text key u.file there).1 in cc
