-- A directory of gocryptfs is begun: what its edits are, and that they make it.
use Rattle.std.proofs.Common.{arith, true, false, Bool, ◌≡◌, ℕ, List, [], ◌∷◌, ◌++◌, length, Option, Some, None, refl, sym, ap, ◌∙◌, bytes_eq, codes, ◌+◌, length-append, IsTrue}
use Rattle.folder_spec.specs.Path.{Part, Path, below, child}
use Rattle.folder_spec.proofs.Paths.{below-both, below-sibling}
use Rattle.std.proofs.lemmas.Slice.Eq.{bytes_eq-Decides}
use Rattle.work_folder.specs.Entering.{IsReady}
use Rattle.folder_spec.specs.State.{IsSound}
use Rattle.folder_spec.specs.Edit.{edits_under, folder_edit}
use Rattle.folder_spec.specs.Event.{Told}
use Rattle.folder_spec.specs.Seen.{seen, under}
use Rattle.folder_spec.specs.View.{Found, NoEntry, Folder, FileOf, Special, View}
use Rattle.vault_values.specs.declared.keys.GoKeys.{GoKeys}
use Rattle.plain_tree.specs.Names as plain
use Rattle.plain_tree.specs.Names.{is_name}
use Rattle.vault_read.specs.Laws.{KeepsVaults}
use Rattle.vault_spec.specs.Gocryptfs.{key_file, full_name, directory_key, go_format, full_edits, full_edits_at, taken_unless}
use Rattle.vault_spec.specs.Making.{NewDirectory, edits}
use Rattle.vault_spec.specs.Standing.{entry_at}
use Rattle.vault_spec.specs.Vault.{Gocryptfs}
use Rattle.vault_write.specs.Editing.{side_edits, go_making, GoPlaces}
use Rattle.vault_write.specs.Slots.{IsSlot, wants_text, placing}
use Rattle.vault_write.proofs.Found.{Enters, go_free, side_at}
use Rattle.vault_write.proofs.Begun.{FoldersStand, all_are, directory_begun, may_come_in, entry_comes}
use Rattle.vault_write.proofs.ItemMade.{IsBegun}

-- the edits of a long name, by what is stored of it and by what stands at its file
pub sides_are : (root side : Path) (full : Option (List ℕ)) (there : Found) → side_edits (wants_text there full) (root ++ side) full ≡ edits_under root (full_edits_at side there full)
sides_are root side None there = refl
sides_are root side (Some text) NoEntry = refl
sides_are root side (Some text) (FileOf bytes) = refl
sides_are root side (Some text) Folder = refl
sides_are root side (Some text) Special = refl

pub sides_under : (keys : GoKeys) (root : Path) (front : plain.Path) (name : List ℕ) (v : View) (at side : Path) (full : Option (List ℕ))
    → (slot : IsSlot (record { root = root; vault = Gocryptfs keys }) (go_format keys) front name (under root v) at side full) (wants : Bool) → wants ≡ wants_text (v side) full
    → side_edits wants side full ≡ edits_under root (full_edits (under root v) slot.dir ((go_format keys).stored slot.dir.key name))
sides_under keys root front name v at side full slot wants is =
    ap (λ b. side_edits b side full) is
    ∙ ap (λ o. side_edits (wants_text (v side) o) side o) slot.full_is
    ∙ ap (λ q. side_edits (wants_text (v q) ((go_format keys).stored slot.dir.key name).full) q ((go_format keys).stored slot.dir.key name).full) slot.side_is
    ∙ sides_are root (side_at keys root front name v at side full slot) ((go_format keys).stored slot.dir.key name).full (under root v (side_at keys root front name v at side full slot))

module _ (enters : Enters) (keys : GoKeys) (laws : KeepsVaults (go_format keys)) (root work : Path) (front : plain.Path) (name key : List ℕ) (named : IsTrue (is_name name)) (is_key : directory_key key ≡ Some key) (sixteen : length key ≡ 16)
    (a : Told) (at side : Path) (full : Option (List ℕ)) (wants : Bool) (sound : IsSound a.state)
    (slot : IsSlot (record { root = root; vault = Gocryptfs keys }) (go_format keys) front name (under root (seen a.state)) at side full)
    (wants_is : wants ≡ wants_text (seen a.state side) full) (side_free : taken_unless side (seen a.state side) full ≡ None)
    (apart : below work root ≡ None) (beside : below root work ≡ None) where
  are : side_edits wants side full ++ folder_edit at ((key_file, key) ∷ []) ∷ [] ≡ edits_under root (edits (go_format keys) (under root (seen a.state)) slot.dir name NewDirectory key)
  are = all_are root (side_edits wants side full) (full_edits (under root (seen a.state)) slot.dir ((go_format keys).stored slot.dir.key name))
      (folder_edit at ((key_file, key) ∷ [])) (folder_edit (entry_at (go_format keys) slot.dir name) ((key_file, key) ∷ []))
      (sides_under keys root front name (seen a.state) at side full slot wants wants_is) (ap (λ q. folder_edit q ((key_file, key) ∷ [])) slot.at_is)

  pub go_begun : IsBegun (placing (record { root = root; vault = Gocryptfs keys }) work front name NewDirectory) key (go_making wants side at full key) a
  go_begun = directory_begun enters (record { root = root; vault = Gocryptfs keys }) laws work front name key named (go_making wants side at full key) refl a sound at side full slot apart beside
      is_key (go_free keys root front name (seen a.state) at side full slot side_free) are sixteen refl

-- ---- where its parts come to stand

not_its_text : (n : Part) → bytes_eq (full_name n) n ≡ false
not_its_text n = by_eq (bytes_eq (full_name n) n) refl
  where
    longer : full_name n ≡ n → ⊥
    longer same =
        let sizes : length n + 5 ≡ length n = sym (length-append n (codes ".name")) ∙ ap length same in
        omega (arith, sizes)

    by_eq : (b : Bool) → bytes_eq (full_name n) n ≡ b → b ≡ false
    by_eq false e = refl
    by_eq true e = absurd (longer ((bytes_eq-Decides (full_name n) n).0 e))

wanted_free : (x : Found) (full : Option (List ℕ)) → wants_text x full ≡ true → x ≡ NoEntry
wanted_free x None e = cc
wanted_free NoEntry (Some text) e = refl
wanted_free Folder (Some text) e = cc
wanted_free (FileOf bytes) (Some text) e = cc
wanted_free Special (Some text) e = cc

pub go_places : Enters → FoldersStand → (keys : GoKeys) (root work : Path) (front : plain.Path) (name : List ℕ) (v : View) (at side : Path) (full : Option (List ℕ)) (wants : Bool) → IsReady v work
    → below work root ≡ None → below root work ≡ None → IsSlot (record { root = root; vault = Gocryptfs keys }) (go_format keys) front name (under root v) at side full → wants ≡ wants_text (v side) full
    → GoPlaces v work wants side at
go_places enters folders keys root work front name v at side full wants ready apart beside slot wants_is = record {
  entry = entry_comes enters folders (record { root = root; vault = Gocryptfs keys }) work front name v at side full ready apart beside slot;
  side_comes = λ is_wanted. may_come_in enters folders (record { root = root; vault = Gocryptfs keys }) work front name v at side full ready apart beside slot
      side (full_name ((go_format keys).stored slot.dir.key name).name) slot.side_is (wanted_free (v side) full (sym wants_is ∙ is_wanted));
  others = λ is_wanted. ap (λ q. below q at) slot.side_is
      ∙ ap (below (root ++ child slot.dir.folder (full_name ((go_format keys).stored slot.dir.key name).name))) slot.at_is
      ∙ below-both root (child slot.dir.folder (full_name ((go_format keys).stored slot.dir.key name).name)) (entry_at (go_format keys) slot.dir name)
      ∙ below-sibling slot.dir.folder (full_name ((go_format keys).stored slot.dir.key name).name) ((go_format keys).stored slot.dir.key name).name
      (not_its_text ((go_format keys).stored slot.dir.key name).name);
}
