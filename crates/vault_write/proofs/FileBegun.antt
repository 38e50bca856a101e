-- A file is begun: what its edits are, and that they make it where its content comes whole.
use Rattle.std.proofs.Common.{false, Bool, ◌≡◌, ℕ, List, [], ◌∷◌, ◌++◌, Option, Some, None, refl, sym, ap, ◌∙◌, subst, IsTrue}
use Rattle.chunk_files.specs.Encrypt.{IsEncrypted, encrypt}
use Rattle.chunk_files.specs.FileOf.{FilesAreWhatTheyGive, EncryptedFilesAreFiles, Gives}
use Rattle.chunk_files.specs.Keys.{Keys}
use Rattle.chunk_files.specs.Contents.{readable}
use Rattle.folder_spec.specs.Path.{Path, below, child}
use Rattle.folder_spec.specs.State.{IsSound}
use Rattle.folder_spec.specs.Edit.{Edit, edit_under, edits_under, file_edit, view_after}
use Rattle.folder_spec.specs.Event.{Told}
use Rattle.folder_spec.specs.Seen.{IfSeen, seen, under}
use Rattle.folder_spec.proofs.Seen.{seen_of}
use Rattle.vault_values.specs.declared.keys.GoKeys.{GoKeys}
use Rattle.plain_tree.specs.Names as plain
use Rattle.plain_tree.specs.Names.{is_name}
use Rattle.vault_read.specs.Laws.{KeepsVaults}
use Rattle.vault_spec.specs.Opened.{OpenedVault}
use Rattle.vault_read.specs.Opened.{kind_of}
use Rattle.vault_read.specs.declared.vault.VaultKind.TheVariants as kind
use Rattle.vault_spec.specs.Adding.{ComesAlone, StaysClean}
use Rattle.vault_spec.specs.Staying.{StaysVault}
use Rattle.vault_spec.specs.Tidy.{StaysTidy}
use Rattle.vault_spec.specs.Alike.{IsOrderly}
use Rattle.vault_spec.specs.Anywhere.{ComesAtLast}
use Rattle.vault_spec.specs.Cryptomator.{CmVault, cm_format, new_file_edit}
use Rattle.vault_spec.specs.Format.{taken_at}
use Rattle.vault_spec.specs.Gocryptfs.{go_format, full_edits, taken_unless}
use Rattle.vault_spec.specs.Making.{NewFile, full_texts}
use Rattle.vault_spec.specs.Opens.{Opened, Content, opened_by, opened_file}
use Rattle.vault_spec.specs.Reached.{Leads}
use Rattle.vault_spec.specs.Standing.{entry_at}
use Rattle.vault_spec.specs.Vault.{Vault, Gocryptfs, Cryptomator, format_of}
use Rattle.vault_write.specs.Editing.{GoPlaces, side_edits}
use Rattle.vault_write.specs.Filing.{entry_edit}
use Rattle.item_making.specs.Making.{Placing, Making, format, making_in, new_item, path_of}
use Rattle.item_making.specs.Placing.{MayMake, making_at}
use Rattle.vault_write.specs.Refusing.{HasTaken}
use Rattle.vault_write.specs.Showing.{MakesAlone}
use Rattle.vault_write.specs.Slots.{IsSlot, placing, wants_text}
use Rattle.item_making.specs.Trees.{opens_as}
use Rattle.vault_write.proofs.Begun.{FoldersStand, all_are, entry_comes, folders_seen, same_making}
use Rattle.vault_write.proofs.Found.{Enters, go_free}
use Rattle.vault_write.proofs.GoBegun.{go_places, sides_under}
use Rattle.vault_write.proofs.ItemMade.{IsBegun}

-- these edits, the item itself by the last one
abbrev pub file_making : List Edit → Edit → List (List ℕ) → Making
file_making firsts e some_files = record { edits = firsts ++ e ∷ []; files = some_files; replaces = false }

-- The last of its edits brings something that opens so, and all before leaves what opens.
pub record IsFiled (p : Placing) (opens : Opened) (drawn : List ℕ) (firsts : List Edit) (e : Edit) (some_files : List (List ℕ)) (a : Told) : Type 0 where
  pub before : List Edit
  pub at_last : Edit
  pub making : making_at p (new_item p drawn) a.state ≡ file_making firsts e some_files
  pub are : firsts ≡ edits_under p.vault.root before
  pub last_is : e ≡ edit_under p.vault.root at_last
  pub item : MakesAlone p opens (before ++ at_last ∷ []) a.state
  pub last : ComesAtLast (format p) (under p.vault.root (seen a.state)) (under p.vault.root (seen a.state)) (before ++ at_last ∷ []) (path_of p) opens
  pub alone : IsOrderly (format p) (under p.vault.root (seen a.state)) → ComesAlone (format p) (under p.vault.root (seen a.state)) (under p.vault.root (seen a.state)) (before ++ at_last ∷ []) (path_of p) opens
  pub taken : HasTaken p drawn (under p.vault.root (seen a.state)) None
  pub apart : below p.work p.vault.root ≡ None
  pub beside : below p.vault.root p.work ≡ None

-- where it opens as the item, the item is begun
pub is_begun : (p : Placing) (opens : Opened) (drawn : List ℕ) (firsts : List Edit) (e : Edit) (some_files : List (List ℕ)) (a : Told) → opens ≡ opens_as p.item → IsFiled p opens drawn firsts e some_files a
    → IsBegun p drawn (file_making firsts e some_files) a
is_begun p opens drawn firsts e some_files a same k = record {
  edits = k.before ++ k.at_last ∷ [];
  making = k.making;
  are = all_are p.vault.root firsts k.before e k.at_last k.are k.last_is;
  item = subst (λ x. MakesAlone p x (k.before ++ k.at_last ∷ []) a.state) same k.item;
  last = subst (λ x. ComesAtLast (format p) (under p.vault.root (seen a.state)) (under p.vault.root (seen a.state)) (k.before ++ k.at_last ∷ []) (path_of p) x) same k.last;
  alone = λ orderly. subst (λ x. ComesAlone (format p) (under p.vault.root (seen a.state)) (under p.vault.root (seen a.state)) (k.before ++ k.at_last ∷ []) (path_of p) x) same (k.alone orderly);
  taken = k.taken;
  apart = k.apart;
  beside = k.beside;
}

-- what is encrypted under just the bytes that it draws opens as its content
pub opens_whole : FilesAreWhatTheyGive → EncryptedFilesAreFiles → (keys : Keys) (drawn content : List ℕ) → IsEncrypted keys drawn content (encrypt keys drawn content)
    → opened_file keys (Some (encrypt keys drawn content)) ≡ Content content
opens_whole gives are keys drawn content encrypted =
    let k : Gives keys (encrypt keys drawn content) content = (gives keys (encrypt keys drawn content) content).0 (are keys drawn content (encrypt keys drawn content) encrypted) in
    ap (λ e. opened_by (readable keys (encrypt keys drawn content)).chunks e) k.whole ∙ ap Content (sym k.joined)

-- ---- in an opened vault, by the laws of its format

module _ (enters : Enters) (vault : OpenedVault) (laws : KeepsVaults (format_of vault.vault)) (work : Path) (front : plain.Path) (name content drawn : List ℕ) (named : IsTrue (is_name name))
    (a : Told) (sound : IsSound a.state) (at side : Path) (full : Option (List ℕ)) (slot : IsSlot vault (format_of vault.vault) front name (under vault.root (seen a.state)) at side full)
    (apart : below work vault.root ≡ None) (beside : below vault.root work ≡ None) where
  abbrev bytes : List ℕ
  bytes = encrypt (format_of vault.vault).content drawn content

  leads : Leads (format_of vault.vault) (under vault.root (seen a.state)) front slot.dir
  leads = (enters (format_of vault.vault) (under vault.root (seen a.state)) front slot.dir).0 slot.entered

  pub filed : (firsts before : List Edit) (e at_last : Edit)
      → (format_of vault.vault).taken_for_file (under vault.root (seen a.state)) slot.dir ((format_of vault.vault).stored slot.dir.key name) ≡ None
      → (format_of vault.vault).new_file (under vault.root (seen a.state)) slot.dir ((format_of vault.vault).stored slot.dir.key name) bytes ≡ before ++ at_last ∷ []
      → firsts ≡ edits_under vault.root before → e ≡ edit_under vault.root at_last
      → IsFiled (placing vault work front name (NewFile content)) (opened_file (format_of vault.vault).content (Some bytes)) drawn firsts e (full_texts full ++ bytes ∷ []) a
  filed firsts before e at_last free makes are last_is = record {
    before = before;
    at_last = at_last;
    making = ap (making_in (placing vault work front name (NewFile content)) (under vault.root (seen a.state)) drawn) slot.entered
        ∙ same_making _ _ (ap (edits_under vault.root) makes ∙ sym (all_are vault.root firsts before e at_last are last_is)) (ap (λ o. full_texts o ++ bytes ∷ []) (sym slot.full_is)) refl;
    are = are;
    last_is = last_is;
    item = λ good. record {
      alone = subst (λ es. ComesAlone (format_of vault.vault) (under vault.root (seen a.state)) (under vault.root (seen a.state)) es (front ++ name ∷ []) (opened_file (format_of vault.vault).content (Some bytes))) makes
          (laws.alone.file (under vault.root (seen a.state)) front slot.dir name bytes good.orderly leads named free);
      clean = subst (λ es. StaysClean (format_of vault.vault) (under vault.root (seen a.state)) es) makes (laws.clean.file (under vault.root (seen a.state)) front slot.dir name bytes good.orderly good.clean leads named free);
      tidy = subst (λ es. StaysTidy (format_of vault.vault) (under vault.root (seen a.state)) (view_after (under vault.root (seen a.state)) es)) makes
          (laws.tidy.file (under vault.root (seen a.state)) front slot.dir name bytes good.orderly leads named free);
      vault = subst (λ es. StaysVault (format_of vault.vault) (under vault.root (seen a.state)) (under vault.root (seen a.state)) es) makes
          (laws.stay.file (under vault.root (seen a.state)) front slot.dir name bytes good.orderly leads named free);
    };
    last = subst (λ es. ComesAtLast (format_of vault.vault) (under vault.root (seen a.state)) (under vault.root (seen a.state)) es (front ++ name ∷ []) (opened_file (format_of vault.vault).content (Some bytes))) makes
        (laws.last.file (under vault.root (seen a.state)) front slot.dir name bytes (folders_seen vault.root a.state sound) leads named free);
    alone = λ orderly. subst (λ es. ComesAlone (format_of vault.vault) (under vault.root (seen a.state)) (under vault.root (seen a.state)) es (front ++ name ∷ []) (opened_file (format_of vault.vault).content (Some bytes))) makes
        (laws.alone.file (under vault.root (seen a.state)) front slot.dir name bytes orderly leads named free);
    taken = record { dir = slot.dir; there = record { entered = slot.entered; allowed = slot.allowed }; is = free };
    apart = apart;
    beside = beside;
  }

-- ---- in gocryptfs

pub go_filed : Enters → (keys : GoKeys) → KeepsVaults (go_format keys) → (root work : Path) (front : plain.Path) (name content drawn : List ℕ) → IsTrue (is_name name) → (a : Told) → IsSound a.state
    → (at side : Path) (full : Option (List ℕ)) (wants : Bool) → IsSlot (record { root = root; vault = Gocryptfs keys }) (go_format keys) front name (under root (seen a.state)) at side full
    → wants ≡ wants_text (seen a.state side) full → taken_unless side (seen a.state side) full ≡ None → below work root ≡ None → below root work ≡ None
    → IsFiled (placing (record { root = root; vault = Gocryptfs keys }) work front name (NewFile content)) (opened_file (go_format keys).content (Some (encrypt (go_format keys).content drawn content))) drawn
    (side_edits wants side full) (entry_edit at None (encrypt (go_format keys).content drawn content)) (full_texts full ++ encrypt (go_format keys).content drawn content ∷ []) a
go_filed enters keys laws root work front name content drawn named a sound at side full wants slot wants_is side_free apart beside =
    filed enters (record { root = root; vault = Gocryptfs keys }) laws work front name content drawn named a sound at side full slot apart beside
    (side_edits wants side full) (full_edits (under root (seen a.state)) slot.dir ((go_format keys).stored slot.dir.key name))
    (entry_edit at None (encrypt (go_format keys).content drawn content)) (file_edit (child slot.dir.folder ((go_format keys).stored slot.dir.key name).name) (encrypt (go_format keys).content drawn content))
    (go_free keys root front name (seen a.state) at side full slot side_free) refl (sides_under keys root front name (seen a.state) at side full slot wants wants_is)
    (ap (λ q. entry_edit q None (encrypt (go_format keys).content drawn content)) slot.at_is)

-- ---- in Cryptomator

cm_entry_under : (root at : Path) (full : Option (List ℕ)) (file : List ℕ) → entry_edit (root ++ at) full file ≡ edit_under root (new_file_edit at full file)
cm_entry_under root at None file = refl
cm_entry_under root at (Some text) file = refl

pub cm_filed : Enters → (cm : CmVault) → KeepsVaults (cm_format cm) → (root work : Path) (front : plain.Path) (name content drawn : List ℕ) → IsTrue (is_name name) → (a : Told) → IsSound a.state
    → (at side : Path) (full : Option (List ℕ)) → IsSlot (record { root = root; vault = Cryptomator cm }) (cm_format cm) front name (under root (seen a.state)) at side full
    → below work root ≡ None → below root work ≡ None
    → IsFiled (placing (record { root = root; vault = Cryptomator cm }) work front name (NewFile content)) (opened_file (cm_format cm).content (Some (encrypt (cm_format cm).content drawn content))) drawn
    [] (entry_edit at full (encrypt (cm_format cm).content drawn content)) (full_texts full ++ encrypt (cm_format cm).content drawn content ∷ []) a
cm_filed enters cm laws root work front name content drawn named a sound at side full slot apart beside =
    filed enters (record { root = root; vault = Cryptomator cm }) laws work front name content drawn named a sound at side full slot apart beside
    [] [] (entry_edit at full (encrypt (cm_format cm).content drawn content))
    (new_file_edit (child slot.dir.folder ((cm_format cm).stored slot.dir.key name).name) ((cm_format cm).stored slot.dir.key name).full (encrypt (cm_format cm).content drawn content))
    (ap (λ x. taken_at (entry_at (cm_format cm) slot.dir name) x) slot.free) refl refl
    (ap (λ q. entry_edit q full (encrypt (cm_format cm).content drawn content)) slot.at_is
    ∙ ap (λ o. entry_edit (root ++ entry_at (cm_format cm) slot.dir name) o (encrypt (cm_format cm).content drawn content)) slot.full_is
    ∙ cm_entry_under root (entry_at (cm_format cm) slot.dir name) ((cm_format cm).stored slot.dir.key name).full (encrypt (cm_format cm).content drawn content))

-- ---- by the kind of the vault

abbrev pub IsFiledIn : OpenedVault → Path → plain.Path → List ℕ → List ℕ → List ℕ → List Edit → Path → Option (List ℕ) → Option (List ℕ) → Told → Type 0
IsFiledIn vault work front name content drawn firsts at inside full a =
    IsFiled (placing vault work front name (NewFile content)) (opened_file (format_of vault.vault).content (Some (encrypt (format_of vault.vault).content drawn content))) drawn
    firsts (entry_edit at inside (encrypt (format_of vault.vault).content drawn content)) (full_texts full ++ encrypt (format_of vault.vault).content drawn content ∷ []) a

abbrev pub SlotAt : Path → Vault → plain.Path → List ℕ → Option Told → Path → Path → Option (List ℕ) → Type 0
SlotAt root vault front name t at side full = IfSeen t (λ v. IsSlot (record { root = root; vault = vault }) (format_of vault) front name (under root v) at side full)

no_go : kind.Cryptomator ≡ kind.Gocryptfs → ⊥
no_go is = cc

no_cm : kind.Gocryptfs ≡ kind.Cryptomator → ⊥
no_cm is = cc

pub filed_in_go : Enters → (root : Path) (vault : Vault) → kind_of vault ≡ kind.Gocryptfs → KeepsVaults (format_of vault) → (work : Path) (front : plain.Path) (name : List ℕ) → IsTrue (is_name name) → (t : Option Told)
    → ((a : Told) → t ≡ Some a → IsSound a.state) → MayMake t work root → (at side : Path) (full : Option (List ℕ)) (wants : Bool) → SlotAt root vault front name t at side full
    → IfSeen t (λ v. (wants ≡ wants_text (v side) full) × (taken_unless side (v side) full ≡ None))
    → (content drawn : List ℕ) (a : Told) → t ≡ Some a → IsFiledIn (record { root = root; vault = vault }) work front name content drawn (side_edits wants side full) at None full a
filed_in_go enters root (Gocryptfs keys) is laws work front name named t sound may at side full wants slot side_is content drawn a told =
    go_filed enters keys laws root work front name content drawn named a (sound a told) at side full wants (slot (seen a.state) (seen_of t a told)) (side_is (seen a.state) (seen_of t a told)).0
    (side_is (seen a.state) (seen_of t a told)).1 may.apart may.beside
filed_in_go enters root (Cryptomator cm) is laws work front name named t sound may at side full wants slot side_is content drawn a told = absurd (no_go is)

pub filed_in_cm : Enters → (root : Path) (vault : Vault) → kind_of vault ≡ kind.Cryptomator → KeepsVaults (format_of vault) → (work : Path) (front : plain.Path) (name : List ℕ) → IsTrue (is_name name) → (t : Option Told)
    → ((a : Told) → t ≡ Some a → IsSound a.state) → MayMake t work root → (at side : Path) (full : Option (List ℕ)) → SlotAt root vault front name t at side full
    → (content drawn : List ℕ) (a : Told) → t ≡ Some a → IsFiledIn (record { root = root; vault = vault }) work front name content drawn [] at full full a
filed_in_cm enters root (Cryptomator cm) is laws work front name named t sound may at side full slot content drawn a told =
    cm_filed enters cm laws root work front name content drawn named a (sound a told) at side full (slot (seen a.state) (seen_of t a told)) may.apart may.beside
filed_in_cm enters root (Gocryptfs keys) is laws work front name named t sound may at side full slot content drawn a told = absurd (no_cm is)

-- where its parts come to stand
pub file_places : Enters → FoldersStand → (root : Path) (vault : Vault) → kind_of vault ≡ kind.Gocryptfs → (work : Path) (front : plain.Path) (name : List ℕ) (t : Option Told) → MayMake t work root
    → (at side : Path) (full : Option (List ℕ)) (wants : Bool) → SlotAt root vault front name t at side full
    → IfSeen t (λ v. (wants ≡ wants_text (v side) full) × (taken_unless side (v side) full ≡ None)) → IfSeen t (λ v. GoPlaces v work wants side at)
file_places enters folders root (Gocryptfs keys) is work front name t may at side full wants slot side_is v seen_so =
    go_places enters folders keys root work front name v at side full wants (may.ready v seen_so) may.apart may.beside (slot v seen_so) (side_is v seen_so).0
file_places enters folders root (Cryptomator cm) is work front name t may at side full wants slot side_is v seen_so = absurd (no_go is)

pub cm_file_places : Enters → FoldersStand → (vault : OpenedVault) (work : Path) (front : plain.Path) (name : List ℕ) (t : Option Told) → MayMake t work vault.root
    → (at side : Path) (full : Option (List ℕ)) → SlotAt vault.root vault.vault front name t at side full → IfSeen t (λ v. GoPlaces v work false side at)
cm_file_places enters folders vault work front name t may at side full slot v seen_so = record {
  entry = entry_comes enters folders vault work front name v at side full (may.ready v seen_so) may.apart may.beside (slot v seen_so);
  side_comes = λ clash. cc clash;
  others = λ clash. cc clash;
}
