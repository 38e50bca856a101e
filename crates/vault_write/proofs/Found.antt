-- Where an item is to stand, by the directory that is entered; and why it is refused there.
use Rattle.std.specs.Option.{option_map, option_or}
use Rattle.std.proofs.Common.{cond, true, false, bytes_eq, ◌≡◌, ◌≢◌, ◌⊎◌, ◌↔◌, ℕ, Bool, List, [], ◌∷◌, ◌++◌, Option, Some, None, Ok, Err, refl, sym, ap, ◌∙◌, inl, inr, subst, append_assoc}
use Rattle.folder_spec.specs.Path.{Path, child}
use Rattle.folder_spec.specs.Event.{Told}
use Rattle.folder_spec.specs.Seen.{IfSeen, IsSeen, under}
use Rattle.folder_spec.specs.View.{Found, NoEntry, Folder, FileOf, Special, View}
use Rattle.plain_tree.specs.Names as plain
use Rattle.vault_read.specs.Finding.{IsDirPlace, Refuses}
use Rattle.vault_faults.specs.declared.fault.FindFault.{FindFault}
use Rattle.vault_faults.specs.declared.fault.FindFault.TheVariants as finds
use Rattle.item_making.specs.Faults.{of_find}
use Rattle.vault_spec.specs.Opened.{OpenedVault}
use Rattle.vault_read.specs.Opened.{kind_of}
use Rattle.vault_read.specs.declared.vault.VaultKind.TheVariants as kind
use Rattle.vault_read.specs.declared.finding.DirPlace.{DirPlace}
use Rattle.vault_spec.specs.Find.{enter}
use Rattle.vault_spec.specs.Format.{Format, Directory, taken_at}
use Rattle.vault_values.specs.Id.{id_of}
use Rattle.vault_values.specs.declared.keys.GoKeys.{GoKeys}
use Rattle.vault_names.specs.Cryptomator.{cm_folder_of}
use Rattle.vault_spec.specs.Cryptomator.{cm_format, taken_folders}
use Rattle.vault_spec.specs.Gocryptfs.{full_name, go_format, go_taken, taken_unless}
use Rattle.vault_spec.specs.Making.{NewItem, NewDirectory, NewFile, Allows, taken}
use Rattle.vault_spec.specs.Reached.{Leads}
use Rattle.vault_spec.specs.Standing.{entry_at}
use Rattle.vault_spec.specs.Vault.{Vault, Gocryptfs, Cryptomator, format_of}
use Rattle.item_making.specs.declared.fault.PutFault.{PutFault}
use Rattle.item_making.specs.declared.fault.PutFault.TheVariants as puts
use Rattle.item_making.specs.Ending.{Ending}
use Rattle.item_making.specs.Making.{Placing}
use Rattle.vault_write.specs.Refusing.{Answers, MayDraw}
use Rattle.vault_write.specs.Slots.{IsSlot, IsTakenAt, IsSideTaken, RefusesItem, placing}

abbrev pub Enters : Type 0
Enters = (f : Format) (v : View) (path : plain.Path) (dir : Directory) → (enter f v path ≡ Ok dir) ↔ Leads f v path dir

-- the directory isn't entered
pub find_refused : (vault : OpenedVault) (front : plain.Path) (t : Option Told) (fault : FindFault)
    → IfSeen t (λ v. Refuses vault.root (enter (format_of vault.vault) (under vault.root v) front) fault)
    → (name : List ℕ) (item : NewItem) → RefusesItem vault front name item [] t (of_find fault)
find_refused vault front t (finds.NotFound path) refuses name item work ending v s = (refuses v s, refl)
find_refused vault front t (finds.WrongKind path) refuses name item work ending v s = (refuses v s, refl)
find_refused vault front t (finds.NoDirKey at) refuses name item work ending v s = (refuses v s, refl)
find_refused vault front t (finds.NoFolder at) refuses name item work ending v s = (refuses v s, refl)
find_refused vault front t finds.Failed refuses name item work ending v s = tt
find_refused vault front t finds.NoMemory refuses name item work ending v s = tt

-- the name isn't allowed
pub not_allowed : Enters → (vault : OpenedVault) (front : plain.Path) (name : List ℕ) (path : plain.Path) (place : DirPlace) (t : Option Told) (item : NewItem) (fault : PutFault) → path ≡ front ++ name ∷ []
    → IfSeen t (λ v. IsDirPlace vault.root (format_of vault.vault) (under vault.root v) front place)
    → (fault ≡ puts.NoMemory) ⊎ ((fault ≡ puts.NotAllowed path) × (¬ Allows (format_of vault.vault) name)) → RefusesItem vault front name item [] t fault
not_allowed enters vault front name path place t item fault is found (inl memory) work ending v is_seen =
    subst (λ x. Answers (placing vault work front name item) [] ending (under vault.root v) (Err x)) (sym memory) tt
not_allowed enters vault front name path place t item fault is found (inr both) work ending v is_seen =
    subst (λ x. Answers (placing vault work front name item) [] ending (under vault.root v) (Err x)) (sym both.0)
    (is, record { dir = (found v is_seen).dir; entered = (enters (format_of vault.vault) (under vault.root v) front (found v is_seen).dir).1 (record { at = (found v is_seen).at; stands = (found v is_seen).stands }); forbidden = both.1 }, refl)

-- the places, by the directory
place_behind : (root folder place_folder : Path) (x : List ℕ) → place_folder ≡ root ++ folder → child place_folder x ≡ root ++ child folder x
place_behind root folder place_folder x is = ap (λ p. child p x) is ∙ append_assoc root folder (x ∷ [])

module _ (enters : Enters) (vault : OpenedVault) (front : plain.Path) (name : List ℕ) (place : DirPlace) (u : View) (found : IsDirPlace vault.root (format_of vault.vault) u front place)
    (at side : Path) (full : Option (List ℕ)) (allowed : Allows (format_of vault.vault) name)
    (at_is : at ≡ child place.folder ((format_of vault.vault).stored place.key name).name) (side_is : side ≡ child place.folder (full_name ((format_of vault.vault).stored place.key name).name))
    (full_is : full ≡ ((format_of vault.vault).stored place.key name).full) where
  entry_is : at ≡ vault.root ++ entry_at (format_of vault.vault) found.dir name
  entry_is = at_is ∙ ap (λ k. child place.folder ((format_of vault.vault).stored k name).name) found.key_is
      ∙ place_behind vault.root found.dir.folder place.folder ((format_of vault.vault).stored found.dir.key name).name found.folder_is

  enters_there : enter (format_of vault.vault) u front ≡ Ok found.dir
  enters_there = (enters (format_of vault.vault) u front found.dir).1 (record { at = found.at; stands = found.stands })

  pub is_slot : u (entry_at (format_of vault.vault) found.dir name) ≡ NoEntry → IsSlot vault (format_of vault.vault) front name u at side full
  is_slot free = record {
    dir = found.dir;
    entered = enters_there;
    allowed = allowed;
    at_is = entry_is;
    side_is = side_is ∙ ap (λ k. child place.folder (full_name ((format_of vault.vault).stored k name).name)) found.key_is
        ∙ place_behind vault.root found.dir.folder place.folder (full_name ((format_of vault.vault).stored found.dir.key name).name) found.folder_is;
    full_is = full_is ∙ ap (λ k. ((format_of vault.vault).stored k name).full) found.key_is;
    free = free;
  }

-- an entry that is there is taken
pub taken_there : (at : Path) (x : Found) → x ≢ NoEntry → taken_at at x ≡ Some at
taken_there at NoEntry there = absurd (there refl)
taken_there at Folder there = refl
taken_there at (FileOf bytes) there = refl
taken_there at Special there = refl

pub entry_taken : (vault : Vault) (u : View) (dir : Directory) (name : List ℕ) (item : NewItem) (drawn : List ℕ) → u (entry_at (format_of vault) dir name) ≢ NoEntry
    → taken (format_of vault) u dir name item drawn ≡ Some (entry_at (format_of vault) dir name)
entry_taken (Gocryptfs keys) u dir name NewDirectory drawn there = ap (λ o. option_or o (taken_unless (child dir.folder (full_name ((go_format keys).stored dir.key name).name)) (u (child dir.folder (full_name ((go_format keys).stored dir.key name).name))) ((go_format keys).stored dir.key name).full)) (taken_there (entry_at (go_format keys) dir name) (u (entry_at (go_format keys) dir name)) there)
entry_taken (Gocryptfs keys) u dir name (NewFile content) drawn there = ap (λ o. option_or o (taken_unless (child dir.folder (full_name ((go_format keys).stored dir.key name).name)) (u (child dir.folder (full_name ((go_format keys).stored dir.key name).name))) ((go_format keys).stored dir.key name).full)) (taken_there (entry_at (go_format keys) dir name) (u (entry_at (go_format keys) dir name)) there)
entry_taken (Cryptomator cm) u dir name NewDirectory drawn there = ap (λ o. option_or o (taken_folders u (cm_folder_of cm.keys (id_of drawn)))) (taken_there (entry_at (cm_format cm) dir name) (u (entry_at (cm_format cm) dir name)) there)
entry_taken (Cryptomator cm) u dir name (NewFile content) drawn there = taken_there (entry_at (cm_format cm) dir name) (u (entry_at (cm_format cm) dir name)) there

-- a place is taken, where the folder and memory serve
pub or_taken : (p : Placing) (drawn : List ℕ) (ending : Ending) (u : View) (fault : PutFault) (at : Path) (Taken : Type 0) → (Taken → Answers p drawn ending u (Err (puts.Taken at)))
    → (fault ≡ puts.Failed) ⊎ ((fault ≡ puts.NoMemory) ⊎ ((fault ≡ puts.Taken at) × Taken)) → Answers p drawn ending u (Err fault)
or_taken p drawn ending u fault at Taken answers (inl failed) = subst (λ x. Answers p drawn ending u (Err x)) (sym failed) tt
or_taken p drawn ending u fault at Taken answers (inr (inl memory)) = subst (λ x. Answers p drawn ending u (Err x)) (sym memory) tt
or_taken p drawn ending u fault at Taken answers (inr (inr (is, taken))) = subst (λ x. Answers p drawn ending u (Err x)) (sym is) (answers taken)

-- ---- its tests are passed that need no drawn byte

pub cm_draws : (root : Path) (vault : Vault) → kind_of vault ≡ kind.Cryptomator → (work : Path) (front : plain.Path) (name : List ℕ) (item : NewItem) (t : Option Told) (at side : Path) (full : Option (List ℕ))
    → IfSeen t (λ v. IsSlot (record { root = root; vault = vault }) (format_of vault) front name (under root v) at side full)
    → IfSeen t (λ v. MayDraw (placing (record { root = root; vault = vault }) work front name item) (under root v))
cm_draws root (Cryptomator cm) is work front name item t at side full slot v s = record {
  dir = (slot v s).dir;
  there = record { entered = (slot v s).entered; allowed = (slot v s).allowed };
  free = ap (taken_at (entry_at (cm_format cm) (slot v s).dir name)) (slot v s).free;
}
cm_draws root (Gocryptfs keys) is work front name item t at side full slot v s = let clash : kind.Gocryptfs ≡ kind.Cryptomator = is in cc

-- ---- whether or not the folder tells its state

module _ (enters : Enters) (vault : OpenedVault) (front : plain.Path) (name : List ℕ) (place : DirPlace) (t : Option Told)
    (found : IfSeen t (λ v. IsDirPlace vault.root (format_of vault.vault) (under vault.root v) front place))
    (at side : Path) (full : Option (List ℕ)) (allowed : Allows (format_of vault.vault) name)
    (at_is : at ≡ child place.folder ((format_of vault.vault).stored place.key name).name) (side_is : side ≡ child place.folder (full_name ((format_of vault.vault).stored place.key name).name))
    (full_is : full ≡ ((format_of vault.vault).stored place.key name).full) where
  entry_at_is : (v : View) → (s : IsSeen t v) → at ≡ vault.root ++ entry_at (format_of vault.vault) (found v s).dir name
  entry_at_is v s = entry_is enters vault front name place (under vault.root v) (found v s) at side full allowed at_is side_is full_is

  pub slot_found : IfSeen t (λ v. v at ≡ NoEntry) → IfSeen t (λ v. IsSlot vault (format_of vault.vault) front name (under vault.root v) at side full)
  slot_found free v s = is_slot enters vault front name place (under vault.root v) (found v s) at side full allowed at_is side_is full_is (ap v (sym (entry_at_is v s)) ∙ free v s)

  pub slot_taken : (item : NewItem) (fault : PutFault) → IsTakenAt at t fault → RefusesItem vault front name item [] t fault
  slot_taken item fault is_taken work ending v s =
      or_taken (placing vault work front name item) [] ending (under vault.root v) fault at (IfSeen t (λ v. v at ≢ NoEntry)) (λ there. (
        entry_at (format_of vault.vault) (found v s).dir name,
        entry_at_is v s,
        record {
          dir = (found v s).dir;
          there = record { entered = enters_there enters vault front name place (under vault.root v) (found v s) at side full allowed at_is side_is full_is; allowed = allowed };
          is = entry_taken vault.vault (under vault.root v) (found v s).dir name item [] (λ none. there v s (ap v (entry_at_is v s) ∙ none));
        },
        inl refl,
      )) is_taken

-- ---- a long name's file, in gocryptfs

-- whichever path it has
taken_elsewhere : (one other : Path) (there : Found) (full : Option (List ℕ)) → taken_unless other there full ≡ option_map (λ _. other) (taken_unless one there full)
taken_elsewhere one other there None = refl
taken_elsewhere one other NoEntry (Some text) = refl
taken_elsewhere one other (FileOf bytes) (Some text) = by_text (bytes_eq bytes text)
  where
    by_text : (b : Bool) → cond b None (Some other) ≡ option_map (λ _. other) (cond b None (Some one))
    by_text true = refl
    by_text false = refl
taken_elsewhere one other Folder (Some text) = refl
taken_elsewhere one other Special (Some text) = refl

module _ (keys : GoKeys) (root : Path) (front : plain.Path) (name : List ℕ) (v : View) (at side : Path) (full : Option (List ℕ))
    (slot : IsSlot (record { root = root; vault = Gocryptfs keys }) (go_format keys) front name (under root v) at side full) where
  abbrev pub side_at : Path
  side_at = child slot.dir.folder (full_name ((go_format keys).stored slot.dir.key name).name)

  -- what is taken, by what stands there
  go_taken_by : (taken : Option Path) → taken_unless side (v side) full ≡ taken → go_taken (under root v) slot.dir ((go_format keys).stored slot.dir.key name) ≡ option_map (λ _. side_at) taken
  go_taken_by taken is =
      ap (λ x. option_or (taken_at (entry_at (go_format keys) slot.dir name) x) (taken_unless side_at (under root v side_at) ((go_format keys).stored slot.dir.key name).full)) slot.free
      ∙ taken_elsewhere side side_at (under root v side_at) ((go_format keys).stored slot.dir.key name).full
      ∙ ap (option_map (λ _. side_at)) (ap (λ o. taken_unless side (under root v side_at) o) (sym slot.full_is) ∙ ap (λ q. taken_unless side (v q) full) (sym slot.side_is) ∙ is)

  pub go_free : taken_unless side (v side) full ≡ None → go_taken (under root v) slot.dir ((go_format keys).stored slot.dir.key name) ≡ None
  go_free = go_taken_by None

  pub go_side : taken_unless side (v side) full ≡ Some side → go_taken (under root v) slot.dir ((go_format keys).stored slot.dir.key name) ≡ Some side_at
  go_side = go_taken_by (Some side)

pub go_draws : (root : Path) (vault : Vault) → kind_of vault ≡ kind.Gocryptfs → (work : Path) (front : plain.Path) (name : List ℕ) (item : NewItem) (t : Option Told) (at side : Path) (full : Option (List ℕ))
    → IfSeen t (λ v. IsSlot (record { root = root; vault = vault }) (format_of vault) front name (under root v) at side full) → IfSeen t (λ v. taken_unless side (v side) full ≡ None)
    → IfSeen t (λ v. MayDraw (placing (record { root = root; vault = vault }) work front name item) (under root v))
go_draws root (Gocryptfs keys) is work front name item t at side full slot side_free v s = record {
  dir = (slot v s).dir;
  there = record { entered = (slot v s).entered; allowed = (slot v s).allowed };
  free = go_free keys root front name v at side full (slot v s) (side_free v s);
}
go_draws root (Cryptomator cm) is work front name item t at side full slot side_free v s = let clash : kind.Cryptomator ≡ kind.Gocryptfs = is in cc

go_item_taken : (keys : GoKeys) (u : View) (dir : Directory) (name : List ℕ) (item : NewItem) (place : Path) → go_taken u dir ((go_format keys).stored dir.key name) ≡ Some place
    → taken (go_format keys) u dir name item [] ≡ Some place
go_item_taken keys u dir name NewDirectory place e = e
go_item_taken keys u dir name (NewFile content) place e = e

module _ (keys : GoKeys) (root : Path) (front : plain.Path) (name : List ℕ) (t : Option Told) (at side : Path) (full : Option (List ℕ))
    (slot : IfSeen t (λ v. IsSlot (record { root = root; vault = Gocryptfs keys }) (go_format keys) front name (under root v) at side full)) where
  go_side_refused : (item : NewItem) (fault : PutFault) → IsSideTaken side full t fault → RefusesItem (record { root = root; vault = Gocryptfs keys }) front name item [] t fault
  go_side_refused item fault is_taken work ending v s =
      or_taken (placing (record { root = root; vault = Gocryptfs keys }) work front name item) [] ending (under root v) fault side (IfSeen t (λ v. taken_unless side (v side) full ≡ Some side)) (λ there. (
        side_at keys root front name v at side full (slot v s),
        (slot v s).side_is,
        record {
          dir = (slot v s).dir;
          there = record { entered = (slot v s).entered; allowed = (slot v s).allowed };
          is = go_item_taken keys (under root v) (slot v s).dir name item (side_at keys root front name v at side full (slot v s)) (go_side keys root front name v at side full (slot v s) (there v s));
        },
        inl refl,
      )) is_taken

pub side_refused : (root : Path) (vault : Vault) → kind_of vault ≡ kind.Gocryptfs → (front : plain.Path) (name : List ℕ) (t : Option Told) (at side : Path) (full : Option (List ℕ))
    → IfSeen t (λ v. IsSlot (record { root = root; vault = vault }) (format_of vault) front name (under root v) at side full) → (item : NewItem) (fault : PutFault)
    → IsSideTaken side full t fault → RefusesItem (record { root = root; vault = vault }) front name item [] t fault
side_refused root (Gocryptfs keys) is front name t at side full slot item fault taken = go_side_refused keys root front name t at side full slot item fault taken
side_refused root (Cryptomator cm) is front name t at side full slot item fault taken = let clash : kind.Cryptomator ≡ kind.Gocryptfs = is in cc
