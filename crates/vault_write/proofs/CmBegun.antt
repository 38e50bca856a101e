-- A directory of Cryptomator is begun: what its edits are, that they make it, and where its parts come to stand.
use Rattle.std.specs.Option.{option_or}
use Rattle.std.proofs.Common.{true, false, Bool, ◌≡◌, ◌≢◌, ℕ, List, [], ◌∷◌, ◌++◌, length, take, drop, Option, Some, None, refl, sym, ap, ◌∙◌, subst, cond, IsTrue, append_assoc}
use Rattle.folder_spec.specs.Path.{Part, Path, below, child, parent}
use Rattle.folder_spec.proofs.Paths.{below-both, parent-child}
use Rattle.folder_spec.specs.State.{IsSound}
use Rattle.folder_spec.specs.Edit.{directory_edit, edits_under, folder_edit}
use Rattle.folder_spec.specs.Event.{Told}
use Rattle.folder_spec.specs.Seen.{seen, under}
use Rattle.folder_spec.specs.View.{Found, NoEntry, Folder}
use Rattle.vault_values.specs.Id.{id_of}
use Rattle.plain_tree.specs.Names as plain
use Rattle.plain_tree.specs.Names.{is_name}
use Rattle.vault_names.specs.Cryptomator.{cm_folder_of}
use Rattle.vault_read.specs.Laws.{KeepsVaults}
use Rattle.vault_spec.specs.Cryptomator.{CmVault, cm_format, top, id_file, directory_id, shelf_named, folder_named, full_files, folder_where_free, taken_unless_folder, taken_folders}
use Rattle.vault_spec.specs.Format.{taken_at}
use Rattle.vault_spec.specs.Making.{NewDirectory, full_texts}
use Rattle.vault_spec.specs.Standing.{entry_at}
use Rattle.vault_spec.specs.Vault.{Cryptomator}
use Rattle.work_folder.specs.Entering.{IsReady}
use Rattle.vault_write.specs.Editing.{shelf_edits, cm_making, CmPlaces}
use Rattle.vault_write.specs.Slots.{IsSlot, placing}
use Rattle.vault_write.proofs.Begun.{FoldersStand, directory_begun, folder_there, entry_comes, free_in_folder, folders_seen}
use Rattle.vault_write.proofs.Folders.{led_of_key, above_there, off_free}
use Rattle.vault_write.proofs.Found.{Enters}
use Rattle.vault_write.proofs.ItemMade.{IsBegun}

-- the edits, by whether the folder above is wanted
edits_are : (root shelf home at : Path) (there : Found) (wants : Bool) (entries : List (Part × List ℕ)) → there ≡ cond wants NoEntry Folder
    → edits_under root ((folder_where_free shelf there ++ directory_edit home ∷ []) ++ folder_edit at entries ∷ [])
    ≡ (shelf_edits wants (root ++ shelf) ++ directory_edit (root ++ home) ∷ []) ++ folder_edit (root ++ at) entries ∷ []
edits_are root shelf home at there true entries is = ap (λ x. edits_under root ((folder_where_free shelf x ++ directory_edit home ∷ []) ++ folder_edit at entries ∷ [])) is
edits_are root shelf home at there false entries is = ap (λ x. edits_under root ((folder_where_free shelf x ++ directory_edit home ∷ []) ++ folder_edit at entries ∷ [])) is

-- a folder that stands is no place that is taken, nor is a free one
shelf_untaken : (at : Path) (there : Found) (wants : Bool) → there ≡ cond wants NoEntry Folder → taken_unless_folder at there ≡ None
shelf_untaken at there true is = ap (taken_unless_folder at) is
shelf_untaken at there false is = ap (taken_unless_folder at) is

-- the folder above a content folder
pub shelf_above : (root : Path) (text : List ℕ) → parent (root ++ folder_named text) ≡ root ++ shelf_named text
shelf_above root text = ap parent (sym (append_assoc root (shelf_named text) (drop 2 text ∷ []))) ∙ parent-child (root ++ shelf_named text) (drop 2 text)

-- an entry has four parts, and the folders have fewer
entry_no_shelf : (one other : List ℕ) (n : Part) → child (folder_named one) n ≢ shelf_named other
entry_no_shelf one other n same = let clash : top ∷ take 2 one ∷ drop 2 one ∷ n ∷ [] ≡ top ∷ take 2 other ∷ [] = same in cc

entry_no_folder : (one other : List ℕ) (n : Part) → child (folder_named one) n ≢ folder_named other
entry_no_folder one other n same = let clash : top ∷ take 2 one ∷ drop 2 one ∷ n ∷ [] ≡ top ∷ take 2 other ∷ drop 2 other ∷ [] = same in cc

module _ (enters : Enters) (cm : CmVault) (root work : Path) (front : plain.Path) (name id : List ℕ) (a : Told) (at side : Path) (full : Option (List ℕ)) (shelf home : Path) (wants : Bool) (sound : IsSound a.state)
    (slot : IsSlot (record { root = root; vault = Cryptomator cm }) (cm_format cm) front name (under root (seen a.state)) at side full)
    (home_is : home ≡ root ++ folder_named (cm_folder_of cm.keys id)) (shelf_is : shelf ≡ parent home)
    (home_free : seen a.state home ≡ NoEntry) (shelf_by : seen a.state shelf ≡ cond wants NoEntry Folder)
    (apart : below work root ≡ None) (beside : below root work ≡ None) where
  shelf_there : shelf ≡ root ++ shelf_named (cm_folder_of cm.keys id)
  shelf_there = shelf_is ∙ ap parent home_is ∙ shelf_above root (cm_folder_of cm.keys id)

  -- what stands there behind the root
  no_home : under root (seen a.state) (folder_named (cm_folder_of cm.keys id)) ≡ NoEntry
  no_home = ap (seen a.state) (sym home_is) ∙ home_free

  shelf_shown : under root (seen a.state) (shelf_named (cm_folder_of cm.keys id)) ≡ cond wants NoEntry Folder
  shelf_shown = ap (seen a.state) (sym shelf_there) ∙ shelf_by

  free : (cm_format cm).taken_for_directory (under root (seen a.state)) slot.dir ((cm_format cm).stored slot.dir.key name) id ≡ None
  free =
      ap (λ x. option_or (taken_at (entry_at (cm_format cm) slot.dir name) x) (taken_folders (under root (seen a.state)) (cm_folder_of cm.keys id))) slot.free
      ∙ ap (λ x. option_or (taken_at (folder_named (cm_folder_of cm.keys id)) x)
      (taken_unless_folder (shelf_named (cm_folder_of cm.keys id)) (under root (seen a.state) (shelf_named (cm_folder_of cm.keys id))))) no_home
      ∙ shelf_untaken (shelf_named (cm_folder_of cm.keys id)) (under root (seen a.state) (shelf_named (cm_folder_of cm.keys id))) wants shelf_shown

  are : (shelf_edits wants shelf ++ directory_edit home ∷ []) ++ folder_edit at (full_files full ++ (id_file, id) ∷ []) ∷ []
      ≡ edits_under root ((cm_format cm).new_directory (under root (seen a.state)) slot.dir ((cm_format cm).stored slot.dir.key name) id)
  are =
      ap (λ q. (shelf_edits wants q ++ directory_edit home ∷ []) ++ folder_edit at (full_files full ++ (id_file, id) ∷ []) ∷ []) shelf_there
      ∙ ap (λ q. (shelf_edits wants (root ++ shelf_named (cm_folder_of cm.keys id)) ++ directory_edit q ∷ []) ++ folder_edit at (full_files full ++ (id_file, id) ∷ []) ∷ []) home_is
      ∙ ap (λ q. (shelf_edits wants (root ++ shelf_named (cm_folder_of cm.keys id)) ++ directory_edit (root ++ folder_named (cm_folder_of cm.keys id)) ∷ []) ++ folder_edit q (full_files full ++ (id_file, id) ∷ []) ∷ []) slot.at_is
      ∙ ap (λ o. (shelf_edits wants (root ++ shelf_named (cm_folder_of cm.keys id)) ++ directory_edit (root ++ folder_named (cm_folder_of cm.keys id)) ∷ [])
      ++ folder_edit (root ++ entry_at (cm_format cm) slot.dir name) (full_files o ++ (id_file, id) ∷ []) ∷ []) slot.full_is
      ∙ sym (edits_are root (shelf_named (cm_folder_of cm.keys id)) (folder_named (cm_folder_of cm.keys id)) (entry_at (cm_format cm) slot.dir name)
      (under root (seen a.state) (shelf_named (cm_folder_of cm.keys id))) wants (full_files ((cm_format cm).stored slot.dir.key name).full ++ (id_file, id) ∷ []) shelf_shown)

  pub cm_begun : (laws : KeepsVaults (cm_format cm)) → IsTrue (is_name name) → (drawn : List ℕ) → id ≡ id_of drawn → directory_id (id_of drawn) ≡ Some (id_of drawn) → length drawn ≡ 16
      → IsBegun (placing (record { root = root; vault = Cryptomator cm }) work front name NewDirectory) drawn (cm_making wants shelf home at full id) a
  cm_begun laws named drawn is is_key sixteen =
      directory_begun enters (record { root = root; vault = Cryptomator cm }) laws work front name drawn named (cm_making wants shelf home at full id) refl a sound at side full slot apart beside is_key
      (subst (λ x. (cm_format cm).taken_for_directory (under root (seen a.state)) slot.dir ((cm_format cm).stored slot.dir.key name) x ≡ None) is free)
      (are ∙ ap (λ x. edits_under root ((cm_format cm).new_directory (under root (seen a.state)) slot.dir ((cm_format cm).stored slot.dir.key name) x)) is)
      sixteen (ap (λ x. full_texts full ++ x ∷ []) is)

  -- ---- where its parts come to stand

  module _ (folders : FoldersStand) (ready : IsReady (seen a.state) work) where
    stands : under root (seen a.state) slot.dir.folder ≡ Folder
    stands = folder_there enters folders (record { root = root; vault = Cryptomator cm }) work front name (seen a.state) at side full ready apart beside slot

    -- the folder that holds the entry is that of its id
    form : slot.dir.folder ≡ folder_named (cm_folder_of cm.keys slot.dir.key)
    form = (led_of_key (cm_format cm) (under root (seen a.state)) front slot.dir ((enters (cm_format cm) (under root (seen a.state)) front slot.dir).0 slot.entered)).1

    top_there : seen a.state (root ++ top ∷ []) ≡ Folder
    top_there = above_there (under root (seen a.state)) (folders_seen root a.state sound) (take 2 (cm_folder_of cm.keys slot.dir.key) ∷ drop 2 (cm_folder_of cm.keys slot.dir.key) ∷ []) (top ∷ [])
        (ap (under root (seen a.state)) (sym form) ∙ stands)

    -- the entry isn't below a free place that it isn't
    apart_from_entry : (free : Path) → under root (seen a.state) free ≡ NoEntry → child slot.dir.folder ((cm_format cm).stored slot.dir.key name).name ≢ free → below (root ++ free) at ≡ None
    apart_from_entry free none other =
        ap (below (root ++ free)) slot.at_is ∙ below-both root free (entry_at (cm_format cm) slot.dir name)
        ∙ off_free (under root (seen a.state)) (folders_seen root a.state sound) slot.dir.folder ((cm_format cm).stored slot.dir.key name).name free stands none other

    pub cm_places : CmPlaces (seen a.state) work wants shelf home at
    cm_places = record {
      entry = entry_comes enters folders (record { root = root; vault = Cryptomator cm }) work front name (seen a.state) at side full ready apart beside slot;
      folders = record {
        shelf_comes = λ is. free_in_folder root (top ∷ []) shelf (take 2 (cm_folder_of cm.keys id)) (seen a.state) shelf_there (shelf_by ∙ ap (λ b. cond b NoEntry Folder) is) top_there;
        shelf_there = λ is. shelf_by ∙ ap (λ b. cond b NoEntry Folder) is;
        home_free = home_free;
        inside = (
          drop 2 (cm_folder_of cm.keys id),
          home_is ∙ sym (append_assoc root (shelf_named (cm_folder_of cm.keys id)) (drop 2 (cm_folder_of cm.keys id) ∷ []))
              ∙ ap (λ p. child p (drop 2 (cm_folder_of cm.keys id))) (sym shelf_there),
        );
      };
      shelf_apart = λ is. ap (λ q. below q at) shelf_there ∙ apart_from_entry (shelf_named (cm_folder_of cm.keys id)) (shelf_shown ∙ ap (λ b. cond b NoEntry Folder) is)
          (λ same. entry_no_shelf (cm_folder_of cm.keys slot.dir.key) (cm_folder_of cm.keys id) ((cm_format cm).stored slot.dir.key name).name
          (ap (λ p. child p ((cm_format cm).stored slot.dir.key name).name) (sym form) ∙ same));
      home_apart = ap (λ q. below q at) home_is ∙ apart_from_entry (folder_named (cm_folder_of cm.keys id)) no_home
          (λ same. entry_no_folder (cm_folder_of cm.keys slot.dir.key) (cm_folder_of cm.keys id) ((cm_format cm).stored slot.dir.key name).name
          (ap (λ p. child p ((cm_format cm).stored slot.dir.key name).name) (sym form) ∙ same));
    }
