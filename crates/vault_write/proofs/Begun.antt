-- An item is begun, whatever the format: what is to be known of its edits.
use Rattle.std.specs.Prelude.{Contains}
use Rattle.std.proofs.Common.{arith, Bool, cond, nat_lt, length, ◌≡◌, zero, suc, false, ℕ, List, [], ◌∷◌, ◌++◌, Option, Some, None, refl, sym, ap, ◌∙◌, subst, IsTrue, append_assoc}
use Rattle.folder_spec.specs.Path.{Part, Path, below, child, parent}
use Rattle.folder_spec.specs.State.{State, present, IsSound}
use Rattle.folder_spec.specs.Edit.{Edit, edit_under, edits_under}
use Rattle.folder_spec.specs.Event.{Told}
use Rattle.folder_spec.specs.Region.{at_or_below}
use Rattle.folder_spec.specs.Seen.{seen, under, ShowsFree}
use Rattle.folder_spec.specs.View.{NoEntry, Folder, View, found}
use Rattle.folder_spec.proofs.Paths.{parent-child}
use Rattle.folder_spec.proofs.Tables.{present_is_table}
use Rattle.plain_tree.specs.Names as plain
use Rattle.plain_tree.specs.Names.{is_name}
use Rattle.vault_read.specs.Laws.{KeepsVaults}
use Rattle.vault_spec.specs.Opened.{OpenedVault}
use Rattle.vault_spec.specs.Alike.{HasFolders}
use Rattle.vault_spec.specs.Format as format
use Rattle.vault_spec.specs.Making.{NewDirectory, edits, files, full_texts}
use Rattle.vault_spec.specs.Reached.{Leads}
use Rattle.vault_spec.specs.Vault.{format_of}
use Rattle.work_folder.specs.Entering.{IsReady}
use Rattle.vault_write.specs.Editing.{HasBegun, MayBePut}
use Rattle.item_making.specs.Making.{Placing, Making, making_in}
use Rattle.item_making.specs.Placing.{MayMake}
use Rattle.vault_write.specs.Slots.{IsSlot, placing}
use Rattle.vault_write.proofs.Edited.{begun}
use Rattle.vault_write.proofs.Found.{Enters}
use Rattle.vault_write.proofs.ItemMade.{IsBegun, at_itself}
use Rattle.vault_write.proofs.Stages.{root_below}

pub all_below : (root : Path) (list : List Edit) (e : Edit) → Contains (edits_under root list) e → IsTrue (at_or_below root e.at)
all_below root [] e (k, lt, is) = absurd (omega (arith, lt))
all_below root (x ∷ list) e (zero, lt, is) = subst (λ (y : Edit). IsTrue (at_or_below root y.at)) is (at_itself root x.at)
all_below root (x ∷ list) e (suc k, lt, is) = all_below root list e (k, omega (arith, lt), is)

-- a call may begin where its item is begun and the stage is ready
pub has_begun : (p : Placing) (drawn : List ℕ) (m : Making) (t : Option Told) → m.replaces ≡ false → MayMake t p.work p.vault.root → ((a : Told) → t ≡ Some a → IsSound a.state)
    → ((a : Told) → t ≡ Some a → IsBegun p drawn m a) → HasBegun p.work p.vault.root m t
has_begun p drawn m None new may sound begun_at = tt
has_begun p drawn m (Some a) new may sound begun_at =
    begun p.work p.vault.root m a (sound a refl) (may.ready (seen a.state) refl) may.apart may.beside
    (λ e among. all_below p.vault.root (begun_at a refl).edits e (subst (λ es. Contains es e) (begun_at a refl).are among)) new

-- a view that is seen has its folders, also at a root
pub folders_seen : (root : Path) (s : State) → IsSound s → HasFolders (under root (seen s))
folders_seen root s sound p a there =
    ap (found (λ n. (s.nodes n).now)) ((sound.tables (present s) (present_is_table s)).parents (root ++ p) a
    (λ none. there (ap (seen s) (sym (append_assoc root p (a ∷ []))) ∙ ap (found (λ n. (s.nodes n).now)) none)))

abbrev making_of : List Edit → List (List ℕ) → Bool → Making
making_of some_edits some_files replaces = record { edits = some_edits; files = some_files; replaces = replaces }

pub same_making : (some other : Making) → some.edits ≡ other.edits → some.files ≡ other.files → some.replaces ≡ other.replaces → some ≡ other
same_making some other one two three =
    ap (λ (e : List Edit). making_of e some.files some.replaces) one ∙ ap (λ (f : List (List ℕ)). making_of other.edits f some.replaces) two ∙ ap (λ (r : Bool). making_of other.edits other.files r) three

-- edits below a root, with one more at last
edits_under-append : (root : Path) (some more : List Edit) → edits_under root (some ++ more) ≡ edits_under root some ++ edits_under root more
edits_under-append root [] more = refl
edits_under-append root (x ∷ some) more = ap (λ es. edit_under root x ∷ es) (edits_under-append root some more)

pub all_are : (root : Path) (firsts before : List Edit) (e at_last : Edit) → firsts ≡ edits_under root before → e ≡ edit_under root at_last → firsts ++ e ∷ [] ≡ edits_under root (before ++ at_last ∷ [])
all_are root firsts before e at_last are is = ap (λ es. es ++ e ∷ []) are ∙ ap (λ x. edits_under root before ++ x ∷ []) is ∙ sym (edits_under-append root before (at_last ∷ []))

-- a new directory in an opened vault, by the laws of its format
module _ (enters : Enters) (vault : OpenedVault) (laws : KeepsVaults (format_of vault.vault)) (work : Path) (front : plain.Path) (name drawn : List ℕ) (named : IsTrue (is_name name))
    (m : Making) (new : m.replaces ≡ false) (a : Told) (sound : IsSound a.state) (at side : Path) (full : Option (List ℕ))
    (slot : IsSlot vault (format_of vault.vault) front name (under vault.root (seen a.state)) at side full) (apart : below work vault.root ≡ None) (beside : below vault.root work ≡ None)
    (is_key : (format_of vault.vault).key_in ((format_of vault.vault).new_key drawn) ≡ Some ((format_of vault.vault).new_key drawn))
    (free : (format_of vault.vault).taken_for_directory (under vault.root (seen a.state)) slot.dir ((format_of vault.vault).stored slot.dir.key name) ((format_of vault.vault).new_key drawn) ≡ None)
    (are : m.edits ≡ edits_under vault.root (edits (format_of vault.vault) (under vault.root (seen a.state)) slot.dir name NewDirectory drawn))
    (sixteen : length drawn ≡ 16) (are_files : m.files ≡ full_texts full ++ (format_of vault.vault).new_key drawn ∷ []) where
  leads : Leads (format_of vault.vault) (under vault.root (seen a.state)) front slot.dir
  leads = (enters (format_of vault.vault) (under vault.root (seen a.state)) front slot.dir).0 slot.entered

  files_are : m.files ≡ files (format_of vault.vault) slot.dir name NewDirectory drawn
  files_are = are_files ∙ ap (λ o. full_texts o ++ (format_of vault.vault).new_key drawn ∷ []) slot.full_is
      ∙ sym (ap (λ b. full_texts ((format_of vault.vault).stored slot.dir.key name).full ++ cond b [] ((format_of vault.vault).new_key drawn) ∷ []) (not_less (length drawn) sixteen))
    where
      not_less : (n : ℕ) → n ≡ 16 → nat_lt n 16 ≡ false
      not_less n is = ap (λ k. nat_lt k 16) is

  pub directory_begun : IsBegun (placing vault work front name NewDirectory) drawn m a
  directory_begun = record {
    edits = edits (format_of vault.vault) (under vault.root (seen a.state)) slot.dir name NewDirectory drawn;
    making = ap (making_in (placing vault work front name NewDirectory) (under vault.root (seen a.state)) drawn) slot.entered
        ∙ same_making _ m (sym are) (sym files_are) (sym new);
    are = are;
    item = λ good. record {
      alone = laws.alone.directory (under vault.root (seen a.state)) front slot.dir name ((format_of vault.vault).new_key drawn) good.orderly leads named is_key free;
      clean = laws.clean.directory (under vault.root (seen a.state)) front slot.dir name ((format_of vault.vault).new_key drawn) good.orderly good.clean leads named is_key free;
      tidy = laws.tidy.directory (under vault.root (seen a.state)) front slot.dir name ((format_of vault.vault).new_key drawn) good.orderly leads named is_key free;
      vault = laws.stay.directory (under vault.root (seen a.state)) front slot.dir name ((format_of vault.vault).new_key drawn) good.orderly leads named is_key free;
    };
    last = laws.last.directory (under vault.root (seen a.state)) front slot.dir name ((format_of vault.vault).new_key drawn) (folders_seen vault.root a.state sound) leads named is_key free;
    alone = λ orderly. laws.alone.directory (under vault.root (seen a.state)) front slot.dir name ((format_of vault.vault).new_key drawn) orderly leads named is_key free;
    taken = record { dir = slot.dir; there = record { entered = slot.entered; allowed = slot.allowed }; is = free };
    apart = apart;
    beside = beside;
  }

-- ---- where its entry comes to stand

abbrev pub FoldersStand : Type 0
FoldersStand = (f : format.Format) (v : View) (path : plain.Path) (dir : format.Directory) → Leads f v path dir → v dir.folder ≡ Folder

-- a free place in a folder that stands
pub free_in_folder : (root folder place : Path) (n : Part) (v : View) → place ≡ root ++ child folder n → v place ≡ NoEntry → v (root ++ folder) ≡ Folder → ShowsFree v place
free_in_folder root folder place n v is free there =
    (free, ap v (ap parent (is ∙ sym (append_assoc root folder (n ∷ []))) ∙ parent-child (root ++ folder) n) ∙ there)

module _ (enters : Enters) (folders : FoldersStand) (vault : OpenedVault) (work : Path) (front : plain.Path) (name : List ℕ) (v : View) (at side : Path) (full : Option (List ℕ)) (ready : IsReady v work)
    (apart : below work vault.root ≡ None) (beside : below vault.root work ≡ None) (slot : IsSlot vault (format_of vault.vault) front name (under vault.root v) at side full) where
  pub folder_there : v (vault.root ++ slot.dir.folder) ≡ Folder
  folder_there = folders (format_of vault.vault) (under vault.root v) front slot.dir ((enters (format_of vault.vault) (under vault.root v) front slot.dir).0 slot.entered)

  -- what is free in its folder may come there
  pub may_come_in : (place : Path) (n : Part) → place ≡ vault.root ++ child slot.dir.folder n → v place ≡ NoEntry → MayBePut v work place
  may_come_in place n is free = record {
    ready = ready;
    free = free_in_folder vault.root slot.dir.folder place n v is free folder_there;
    apart = root_below work vault.root place apart beside (subst (λ q. IsTrue (at_or_below vault.root q)) (sym is) (at_itself vault.root (child slot.dir.folder n)));
  }

  pub entry_comes : MayBePut v work at
  entry_comes = may_come_in at ((format_of vault.vault).stored slot.dir.key name).name slot.at_is (ap v slot.at_is ∙ slot.free)
