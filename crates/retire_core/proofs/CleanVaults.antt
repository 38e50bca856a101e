-- A clean vault has only files and directories below its root.
use Rattle.std.proofs.Common.{◌≡◌, ◌≢◌, ◌⊎◌, ℕ, Bool, true, false, cond, ◌&&◌, ◌||◌, List, [], ◌∷◌, ◌++◌, Ok, Err, Result, Option, Some, None, refl, sym, ap, ◌∙◌, inl, inr, subst, append-nil, append_assoc, bytes_eq, is_some}
use Rattle.folder_spec.specs.Path.{Part, Path, child}
use Rattle.folder_spec.specs.Seen.{under, ShowsFile}
use Rattle.folder_spec.specs.View.{FileOf, Folder, Found, NoEntry, Special, View}
use Rattle.vault_values.specs.declared.keys.GoKeys.{GoKeys}
use Rattle.plain_tree.specs.Names as plain
use Rattle.plain_tree.specs.Names.{is_name}
use Rattle.vault_spec.specs.Alike.{HasFolders, IsOrderly}
use Rattle.vault_spec.specs.Cryptomator.{CmVault, cm_item_of, content_file, file_role, full_file, folder_item, has_file, id_file, is_base32_text, symlink_file, top}
use Rattle.vault_spec.specs.Findings.{Belongs, IsClean, IsEntryOf, IsLocked}
use Rattle.vault_spec.specs.Format.{ContentFolder, Directory, DirectoryItem, Extra, FileItem, Format, Item, NoItem, is_folder, key_of}
use Rattle.vault_spec.specs.Gocryptfs.{go_item}
use Rattle.vault_spec.specs.Reached.{IsReached, Leads}
use Rattle.vault_spec.specs.Standing.{Absent, Dir, File, Standing, Strange, directory_with, entry_at, holds_full, item_at, standing, standing_from, standing_in, standing_of}
use Rattle.vault_spec.specs.Vault.{Cryptomator, Gocryptfs, Vault, format_of}
use Rattle.vault_spec.specs.declared.Finding.{Finding}
use Rattle.vault_spec.specs.declared.Finding.TheVariants as is
use Rattle.vault_spec.specs.declared.Lack.{Lack}
use Rattle.vault_spec.specs.declared.Lack.TheVariants as lacks

-- each entry of a reached directory is accounted for
abbrev pub AreAccounted : Type 0
AreAccounted = (vault : Vault) (v : View) (dir : Directory) (entry : Part) → IsClean (format_of vault) v → IsReached (format_of vault) v dir
    → v (child dir.folder entry) ≢ NoEntry → ¬ Belongs (format_of vault) v dir entry → ¬ ((name : List ℕ) → ¬ IsEntryOf (format_of vault) v dir entry name)

no_folder : {bytes : List ℕ} → Folder ≡ FileOf bytes → ⊥
no_folder e = cc e

no_special : {bytes : List ℕ} → Special ≡ FileOf bytes → ⊥
no_special e = cc e

apart : Folder ≡ Special → ⊥
apart e = cc e

none_special : Special ≡ NoEntry → ⊥
none_special e = cc e

none_folder : Folder ≡ NoEntry → ⊥
none_folder e = cc e

-- what stands has a folder at each path before it
pub folder_before : (v : View) → HasFolders v → (p : Path) (a : Part) (more : Path) → v (p ++ a ∷ more) ≢ NoEntry → v p ≡ Folder
folder_before v folders p a [] there = folders p a there
folder_before v folders p a (b ∷ more) there =
    folders p a (λ none. none_folder (sym (folder_before v folders (child p a) b more (subst (λ q. v q ≢ NoEntry) (sym (append_assoc p (a ∷ []) (b ∷ more))) there)) ∙ none))

-- ---- a directory in a reached one is reached

along : (f : Format) (v : View) (here : Standing) (dir : Directory) (at : Path) (front : plain.Path) (name : List ℕ)
    → standing_from f v here front ≡ Dir at (Ok dir) → standing_from f v here (front ++ name ∷ []) ≡ standing_in f v dir name
along f v here dir at [] name h = subst (λ s. standing_from f v s (name ∷ []) ≡ standing_in f v dir name) (sym h) refl
along f v (Dir a (Ok d)) dir at (n ∷ front) name h = along f v (standing_in f v d n) dir at front name h
along f v (Dir a (Err e)) dir at (n ∷ front) name h = cc
along f v (File a) dir at (n ∷ front) name h = cc
along f v (Strange a) dir at (n ∷ front) name h = cc
along f v Absent dir at (n ∷ front) name h = cc

standing_named : (f : Format) (v : View) (dir : Directory) (name : List ℕ) → is_name name ≡ true
    → standing_in f v dir name ≡ standing_of f v (entry_at f dir name) (holds_full f v dir (f.stored dir.key name)) (item_at f v dir (f.stored dir.key name))
unfolding standing_in
standing_named f v dir name is =
    ap (λ b. cond b (standing_of f v (entry_at f dir name) (holds_full f v dir (f.stored dir.key name)) (item_at f v dir (f.stored dir.key name))) Absent) is

-- the folder of a directory that is entered
folder_of : (f : Format) (v : View) (at : Path) (key : Option (List ℕ)) (d : Directory) → directory_with f v at key ≡ Ok d → d.folder ≡ f.folder_of at d.key
folder_of f v at None d e = cc
folder_of f v at (Some key) d e = by_there (is_folder (v (f.folder_of at key))) e
  where
    by_there : (b : Bool) → cond b (Ok (record { folder = f.folder_of at key; key = key })) (Err lacks.NoFolder) ≡ Ok d → d.folder ≡ f.folder_of at d.key
    by_there true e = let same : record { folder = f.folder_of at key; key = key } ≡ d = cc in subst (λ (x : Directory). x.folder ≡ f.folder_of at x.key) same refl
    by_there false e = cc

-- ---- the entries of a clean vault

-- an entry that is no item has one of these findings
abbrev OfItem : Finding → Type 0
OfItem finding = (finding ≡ is.SymlinkFound) ⊎ ((finding ≡ is.WrongKind) ⊎ (finding ≡ is.TwoKinds))

module _ (accounted : AreAccounted) (vault : Vault) (v : View) (clean : IsClean (format_of vault) v) where
  abbrev f : Format
  f = format_of vault

  -- an entry with a right name is that of the name
  own_entry : (dir : Directory) (entry : Part) (name : List ℕ) → IsEntryOf f v dir entry name → IsEntryOf f v dir (f.stored dir.key name).name name
  own_entry dir entry name of = record { named = of.named; stores = refl; full = of.full }

  -- its item is none of these
  no_item : (dir : Directory) (entry : Part) (name : List ℕ) (finding : Finding) → IsReached f v dir → IsEntryOf f v dir entry name
      → OfItem finding → item_at f v dir (f.stored dir.key name) ≡ NoItem finding → ⊥
  no_item dir entry name finding reached of (inl symlink) item =
      clean is.SymlinkFound (entry_at f dir name) refl (record { dir = dir; name = name; reached = reached; of = own_entry dir entry name of; place = refl; is = item ∙ ap NoItem symlink })
  no_item dir entry name finding reached of (inr (inl wrong)) item =
      clean is.WrongKind (entry_at f dir name) refl (inr (record { dir = dir; name = name; reached = reached; of = own_entry dir entry name of; place = refl; is = item ∙ ap NoItem wrong }))
  no_item dir entry name finding reached of (inr (inr two)) item =
      clean is.TwoKinds (entry_at f dir name) refl (record { dir = dir; name = name; reached = reached; of = own_entry dir entry name of; place = refl; is = item ∙ ap NoItem two })

  -- what stands there, by its item
  entry_found : (dir : Directory) (entry : Part) (name : List ℕ) → IsEntryOf f v dir entry name → under (child dir.folder (f.stored dir.key name).name) v [] ≡ v (child dir.folder entry)
  entry_found dir entry name of = ap v (append-nil (child dir.folder (f.stored dir.key name).name)) ∙ ap (λ a. v (child dir.folder a)) of.stores

  -- an entry that is no file is accounted for by its name
  named : (dir : Directory) (entry : Part) → IsReached f v dir → v (child dir.folder entry) ≢ NoEntry → ¬ ShowsFile v (child dir.folder entry) → ¬ ((name : List ℕ) → ¬ IsEntryOf f v dir entry name)
  named dir entry reached there no_file = accounted vault v dir entry clean reached there (λ belongs. no_file belongs.file)

  not_folder_file : (p : Path) → v p ≡ Folder → ¬ ShowsFile v p
  not_folder_file p is file = no_folder (sym is ∙ file.1)

  not_special_file : (p : Path) → v p ≡ Special → ¬ ShowsFile v p
  not_special_file p is file = no_special (sym is ∙ file.1)

  -- a directory there is reached
  directory_reached : (dir : Directory) (entry : Part) (name : List ℕ) → IsReached f v dir → IsEntryOf f v dir entry name → item_at f v dir (f.stored dir.key name) ≡ DirectoryItem
      → ((d : Directory) → IsReached f v d → d.folder ≡ f.folder_of (entry_at f dir name) d.key → ⊥) → ⊥
  directory_reached dir entry name reached of item none = by_directory (directory_with f v at (key_of f (under at v))) refl
    where
      at : Path
      at = entry_at f dir name

      stands : standing_in f v dir name ≡ Dir at (directory_with f v at (key_of f (under at v)))
      stands = standing_named f v dir name of.named ∙ ap (λ held. standing_of f v at held (item_at f v dir (f.stored dir.key name))) of.full ∙ ap (standing_of f v at true) item

      locked : (lack : Lack) → directory_with f v at (key_of f (under at v)) ≡ Err lack → IsLocked f v lack at
      locked lack e = inr (record { dir = dir; name = name; reached = reached; stands = stands ∙ ap (Dir at) e })

      by_directory : (x : Result Directory Lack) → directory_with f v at (key_of f (under at v)) ≡ x → ⊥
      by_directory (Err lacks.NoDirKey) e = clean is.NoDirKey at refl (locked lacks.NoDirKey e)
      by_directory (Err lacks.NoFolder) e = clean is.NoFolder at refl (locked lacks.NoFolder e)
      by_directory (Ok d) e =
          let leads : Leads f v reached.0 dir = reached.1 in
          none d (
            reached.0 ++ name ∷ [],
            record { at = at; stands = along f v (standing f v []) dir leads.at reached.0 name leads.stands ∙ stands ∙ ap (Dir at) e },
          ) (folder_of f v at (key_of f (under at v)) d e)

-- ---- gocryptfs: each folder is that of a directory

module _ (accounted : AreAccounted) (keys : GoKeys) (v : View) (clean : IsClean (format_of (Gocryptfs keys)) v) (orderly : IsOrderly (format_of (Gocryptfs keys)) v) where
  abbrev go : Format
  go = format_of (Gocryptfs keys)

  -- not so that no directory with this folder is reached
  abbrev IsEnteredAt : Path → Type 0
  IsEnteredAt q = ((d : Directory) → IsReached go v d → d.folder ≡ q → ⊥) → ⊥

  go_special : (q : Path) (a : Part) → IsEnteredAt q → v (child q a) ≡ Special → ⊥
  go_special q a entered odd = entered (λ d reached at.
      let there : v (child d.folder a) ≡ Special = ap (λ p. v (child p a)) at ∙ odd in
      named accounted (Gocryptfs keys) v clean d a reached (λ none. none_special (sym there ∙ none)) (not_special_file accounted (Gocryptfs keys) v clean (child d.folder a) there) (λ name of.
      no_item accounted (Gocryptfs keys) v clean d a name is.SymlinkFound reached of (inl refl) (ap go_item (entry_found accounted (Gocryptfs keys) v clean d a name of ∙ there))))

  go_folder : (q : Path) (a : Part) → IsEnteredAt q → v (child q a) ≡ Folder → IsEnteredAt (child q a)
  go_folder q a entered is none = entered (λ d reached at.
      let there : v (child d.folder a) ≡ Folder = ap (λ p. v (child p a)) at ∙ is in
      named accounted (Gocryptfs keys) v clean d a reached (λ gone. none_folder (sym there ∙ gone)) (not_folder_file accounted (Gocryptfs keys) v clean (child d.folder a) there) (λ name of.
      directory_reached accounted (Gocryptfs keys) v clean d a name reached of (ap go_item (entry_found accounted (Gocryptfs keys) v clean d a name of ∙ there)) (λ x reached_there its.
      none x reached_there (its ∙ ap (child d.folder) of.stores ∙ ap (λ p. child p a) at))))

  go_behind : (q rest : Path) → v q ≡ Folder → IsEnteredAt q → v (q ++ rest) ≡ Special → ⊥
  go_behind q [] here entered is = apart (sym here ∙ ap v (sym (append-nil q)) ∙ is)
  go_behind q (a ∷ []) here entered is = go_special q a entered is
  go_behind q (a ∷ b ∷ rest) here entered is =
      let behind : v (child q a ++ b ∷ rest) ≡ Special = ap v (append_assoc q (a ∷ []) (b ∷ rest)) ∙ is in
      let folder : v (child q a) ≡ Folder = folder_before v orderly.folders (child q a) b rest (λ none. none_special (sym behind ∙ none)) in
      go_behind (child q a) (b ∷ rest) folder (go_folder q a entered folder) behind

  go_no_special : (p : Path) → v p ≢ Special
  go_no_special p is = go_behind [] p orderly.root_there (λ none. none orderly.top ([], record { at = []; stands = orderly.root }) root_folder) is
    where
      of_root : directory_with go v [] (go.root_key v) ≡ Ok orderly.top → orderly.top.folder ≡ []
      of_root e = folder_of go v [] (go.root_key v) orderly.top e

      root_folder : orderly.top.folder ≡ []
      root_folder = of_root (one (orderly.root))
        where
          one : {x y : Result Directory Lack} → Dir [] x ≡ Dir [] y → x ≡ y
          one e = cc e

-- ---- Cryptomator: its paths by their depth

-- an entry is no item
record IsNoSuch (item : Item) : Type 0 where
  finding : Finding
  which : OfItem finding
  is : item ≡ NoItem finding

-- a folder's item is a directory, a long file, or none
data FolderItem (item : Item) : Type 0 where
  IsDirectory : item ≡ DirectoryItem → FolderItem item
  IsLongFile : item ≡ FileItem (content_file ∷ []) → FolderItem item
  IsNone : (finding : Finding) → OfItem finding → item ≡ NoItem finding → FolderItem item

folder_items : (long content id symlink : Bool) → FolderItem (folder_item long content id symlink)
folder_items true true false false = IsLongFile refl
folder_items false true false false = IsNone is.WrongKind (inr (inl refl)) refl
folder_items true false true false = IsDirectory refl
folder_items false false true false = IsDirectory refl
folder_items true false false true = IsNone is.SymlinkFound (inl refl) refl
folder_items false false false true = IsNone is.SymlinkFound (inl refl) refl
folder_items true false false false = IsNone is.WrongKind (inr (inl refl)) refl
folder_items false false false false = IsNone is.WrongKind (inr (inl refl)) refl
folder_items true true true symlink = IsNone is.TwoKinds (inr (inr refl)) refl
folder_items false true true symlink = IsNone is.TwoKinds (inr (inr refl)) refl
folder_items true true false true = IsNone is.TwoKinds (inr (inr refl)) refl
folder_items false true false true = IsNone is.TwoKinds (inr (inr refl)) refl
folder_items true false true true = IsNone is.TwoKinds (inr (inr refl)) refl
folder_items false false true true = IsNone is.TwoKinds (inr (inr refl)) refl

-- an entry that is neither file nor folder is no item
special_items : (long : Bool) (u : View) → IsNoSuch (cm_item_of long u Special)
special_items true u = record { finding = is.WrongKind; which = inr (inl refl); is = refl }
special_items false u = record { finding = is.SymlinkFound; which = inl refl; is = refl }

-- a path is odd where neither a file nor nothing stands
data IsOddOrFolder (x : Found) : Type 0 where
  IsFolder : x ≡ Folder → IsOddOrFolder x
  IsSpecial : x ≡ Special → IsOddOrFolder x

odd_there : {x : Found} → IsOddOrFolder x → x ≢ NoEntry
odd_there (IsFolder is) none = none_folder (sym is ∙ none)
odd_there (IsSpecial is) none = none_special (sym is ∙ none)

odd_no_file : {x : Found} {bytes : List ℕ} → IsOddOrFolder x → x ≡ FileOf bytes → ⊥
odd_no_file (IsFolder is) file = no_folder (sym is ∙ file)
odd_no_file (IsSpecial is) file = no_special (sym is ∙ file)

module _ (accounted : AreAccounted) (cm : CmVault) (v : View) (clean : IsClean (format_of (Cryptomator cm)) v) (orderly : IsOrderly (format_of (Cryptomator cm)) v) where
  abbrev cf : Format
  cf = format_of (Cryptomator cm)

  no_extra : (p : Path) → cf.role p (v p) ≡ Extra → ⊥
  no_extra p extra = clean is.ExtraEntry p refl (inr extra)

  before : (p : Path) (a : Part) (more : Path) → v (p ++ a ∷ more) ≢ NoEntry → v p ≡ Folder
  before = folder_before v orderly.folders

  -- at the root, only `d` is a folder
  at_root : (a : Part) (x : Found) → v (a ∷ []) ≡ x → IsOddOrFolder x → (x ≡ Folder) × (bytes_eq a top ≡ true)
  at_root a x there odd = by_name (bytes_eq a top) refl odd
    where
      by_name : (b : Bool) → bytes_eq a top ≡ b → IsOddOrFolder x → (x ≡ Folder) × (bytes_eq a top ≡ true)
      by_name true e (IsFolder is) = (is, e)
      by_name true e (IsSpecial is) = absurd (no_extra (a ∷ []) (ap (cf.role (a ∷ [])) (there ∙ is) ∙ rw e refl))
      by_name false e (IsFolder is) = absurd (no_extra (a ∷ []) (ap (cf.role (a ∷ [])) (there ∙ is) ∙ rw e refl))
      by_name false e (IsSpecial is) = absurd (no_extra (a ∷ []) (ap (cf.role (a ∷ [])) (there ∙ is) ∙ rw e refl))

  -- in `d`, only folders of two characters stand
  in_top : (a b : Part) (x : Found) → v (a ∷ b ∷ []) ≡ x → IsOddOrFolder x → (x ≡ Folder) × (bytes_eq a top ≡ true) × (is_base32_text 2 b ≡ true)
  in_top a b x there odd = by_name (is_base32_text 2 b) refl odd
    where
      up : bytes_eq a top ≡ true
      up = (at_root a Folder (before (a ∷ []) b [] (λ none. odd_there odd (sym there ∙ none))) (IsFolder refl)).1

      by_name : (c : Bool) → is_base32_text 2 b ≡ c → IsOddOrFolder x → (x ≡ Folder) × (bytes_eq a top ≡ true) × (is_base32_text 2 b ≡ true)
      by_name true e (IsFolder is) = (is, up, e)
      by_name true e (IsSpecial is) = absurd (no_extra (a ∷ b ∷ []) (ap (cf.role (a ∷ b ∷ [])) (there ∙ is) ∙ rw up refl))
      by_name false e (IsFolder is) = absurd (no_extra (a ∷ b ∷ []) (ap (cf.role (a ∷ b ∷ [])) (there ∙ is) ∙ rw up rw e refl))
      by_name false e (IsSpecial is) = absurd (no_extra (a ∷ b ∷ []) (ap (cf.role (a ∷ b ∷ [])) (there ∙ is) ∙ rw up refl))

  -- and in those, only content folders
  in_shelf : (a b c : Part) (x : Found) → v (a ∷ b ∷ c ∷ []) ≡ x → IsOddOrFolder x → (x ≡ Folder) × (cf.role (a ∷ b ∷ c ∷ []) (v (a ∷ b ∷ c ∷ [])) ≡ ContentFolder)
  in_shelf a b c x there odd = by_name (is_base32_text 30 c) refl odd
    where
      shelf : (Folder ≡ Folder) × (bytes_eq a top ≡ true) × (is_base32_text 2 b ≡ true)
      shelf = in_top a b Folder (before (a ∷ b ∷ []) c [] (λ none. odd_there odd (sym there ∙ none))) (IsFolder refl)

      by_name : (d : Bool) → is_base32_text 30 c ≡ d → IsOddOrFolder x → (x ≡ Folder) × (cf.role (a ∷ b ∷ c ∷ []) (v (a ∷ b ∷ c ∷ [])) ≡ ContentFolder)
      by_name true e (IsFolder is) = (is, ap (cf.role (a ∷ b ∷ c ∷ [])) (there ∙ is) ∙ rw (shelf.1, shelf.2) rw e refl)
      by_name true e (IsSpecial is) = absurd (no_extra (a ∷ b ∷ c ∷ []) (ap (cf.role (a ∷ b ∷ c ∷ [])) (there ∙ is) ∙ rw (shelf.1, shelf.2) refl))
      by_name false e (IsFolder is) = absurd (no_extra (a ∷ b ∷ c ∷ []) (ap (cf.role (a ∷ b ∷ c ∷ [])) (there ∙ is) ∙ rw (shelf.1, shelf.2) rw e refl))
      by_name false e (IsSpecial is) = absurd (no_extra (a ∷ b ∷ c ∷ []) (ap (cf.role (a ∷ b ∷ c ∷ [])) (there ∙ is) ∙ rw (shelf.1, shelf.2) refl))

  -- a content folder with anything but files is that of a directory
  content_reached : (a b c e : Part) → IsOddOrFolder (v (a ∷ b ∷ c ∷ e ∷ [])) → ((d : Directory) → IsReached cf v d → d.folder ≡ a ∷ b ∷ c ∷ [] → ⊥) → ⊥
  content_reached a b c e odd none = clean is.OrphanFolder (a ∷ b ∷ c ∷ []) refl (record {
    loose = record {
      folder = (in_shelf a b c Folder (before (a ∷ b ∷ c ∷ []) e [] (odd_there odd)) (IsFolder refl)).1;
      loose = none;
    };
    entry = e;
    there = odd_there odd;
    more = λ fixed. odd_no_file odd fixed.file.1;
  })

  -- a folder there, by its name and its item
  entry_item : (dir : Directory) (e : Part) → IsReached cf v dir → v (child dir.folder e) ≡ Folder
      → ((name : List ℕ) → IsEntryOf cf v dir e name → FolderItem (item_at cf v dir (cf.stored dir.key name)) → ⊥) → ⊥
  entry_item dir e reached there none =
      named accounted (Cryptomator cm) v clean dir e reached (λ gone. none_folder (sym there ∙ gone)) (not_folder_file accounted (Cryptomator cm) v clean (child dir.folder e) there) (λ name of.
      let long : Bool = is_some (cf.stored dir.key name).full in
      let u : View = under (child dir.folder (cf.stored dir.key name).name) v in
      none name of (subst FolderItem (ap (cm_item_of long u) (sym (entry_found accounted (Cryptomator cm) v clean dir e name of ∙ there)))
      (folder_items long (has_file u content_file) (has_file u id_file) (has_file u symlink_file))))

  -- no entry of a directory is neither file nor folder
  in_content : (a b c e : Part) → v (a ∷ b ∷ c ∷ e ∷ []) ≡ Special → ⊥
  in_content a b c e is = content_reached a b c e (IsSpecial is) (λ d reached at.
      let there : v (child d.folder e) ≡ Special = ap (λ p. v (child p e)) at ∙ is in
      named accounted (Cryptomator cm) v clean d e reached (λ none. none_special (sym there ∙ none)) (not_special_file accounted (Cryptomator cm) v clean (child d.folder e) there) (λ name of.
      let long : Bool = is_some (cf.stored d.key name).full in
      let u : View = under (child d.folder (cf.stored d.key name).name) v in
      let none : IsNoSuch (cm_item_of long u Special) = special_items long u in
      no_item accounted (Cryptomator cm) v clean d e name none.finding reached of none.which (ap (cm_item_of long u) (entry_found accounted (Cryptomator cm) v clean d e name of ∙ there) ∙ none.is)))

  -- in an item's own folder only files stand
  inside : (a b c e x : Part) → IsOddOrFolder (v (a ∷ b ∷ c ∷ e ∷ x ∷ [])) → ⊥
  inside a b c e x odd =
      let folder : v (a ∷ b ∷ c ∷ e ∷ []) ≡ Folder = before (a ∷ b ∷ c ∷ e ∷ []) x [] (odd_there odd) in
      content_reached a b c e (IsFolder folder) (λ d reached at.
      let there : v (child d.folder e) ≡ Folder = ap (λ p. v (child p e)) at ∙ folder in
      entry_item d e reached there (λ name of item. by_item d name reached of at item))
    where
      extra : (d : Directory) (name : List ℕ) → IsReached cf v d → IsEntryOf cf v d e name → d.folder ≡ a ∷ b ∷ c ∷ []
          → cf.inner_role (is_some (cf.stored d.key name).full) (item_at cf v d (cf.stored d.key name)) x (v (a ∷ b ∷ c ∷ e ∷ x ∷ [])) ≡ Extra → ⊥
      extra d name reached of at is_extra = clean is.ExtraEntry (a ∷ b ∷ c ∷ e ∷ x ∷ []) refl (inl (record {
        dir = d;
        name = name;
        reached = reached;
        of = own_entry accounted (Cryptomator cm) v clean d e name of;
        entry = x;
        place = sym (ap (λ p. child p x) (ap (child d.folder) of.stores ∙ ap (λ p. child p e) at));
        extra = is_extra;
      }))

      role_of : (belongs : Bool) {y : Found} → IsOddOrFolder y → file_role belongs y ≡ Extra
      role_of belongs (IsFolder is) = ap (file_role belongs) is
      role_of belongs (IsSpecial is) = ap (file_role belongs) is

      by_item : (d : Directory) (name : List ℕ) → IsReached cf v d → IsEntryOf cf v d e name → d.folder ≡ a ∷ b ∷ c ∷ []
          → FolderItem (item_at cf v d (cf.stored d.key name)) → ⊥
      by_item d name reached of at (IsDirectory is) =
          let long : Bool = is_some (cf.stored d.key name).full in
          extra d name reached of at (ap (λ i. cf.inner_role long i x (v (a ∷ b ∷ c ∷ e ∷ x ∷ []))) is ∙ role_of (bytes_eq x id_file || (long && bytes_eq x full_file)) odd)
      by_item d name reached of at (IsLongFile is) =
          let long : Bool = is_some (cf.stored d.key name).full in
          extra d name reached of at (ap (λ i. cf.inner_role long i x (v (a ∷ b ∷ c ∷ e ∷ x ∷ []))) is ∙ role_of (long && (bytes_eq x content_file || bytes_eq x full_file)) odd)
      by_item d name reached of at (IsNone finding which is) = no_item accounted (Cryptomator cm) v clean d e name finding reached of which is

  cm_no_special : (p : Path) → v p ≢ Special
  cm_no_special [] is = apart (sym orderly.root_there ∙ is)
  cm_no_special (a ∷ []) is = apart (sym (at_root a Special is (IsSpecial refl)).0)
  cm_no_special (a ∷ b ∷ []) is = apart (sym (in_top a b Special is (IsSpecial refl)).0)
  cm_no_special (a ∷ b ∷ c ∷ []) is = apart (sym (in_shelf a b c Special is (IsSpecial refl)).0)
  cm_no_special (a ∷ b ∷ c ∷ e ∷ []) is = in_content a b c e is
  cm_no_special (a ∷ b ∷ c ∷ e ∷ x ∷ []) is = inside a b c e x (IsSpecial is)
  cm_no_special (a ∷ b ∷ c ∷ e ∷ x ∷ y ∷ more) is =
      inside a b c e x (IsFolder (before (a ∷ b ∷ c ∷ e ∷ x ∷ []) y more (λ none. none_special (sym is ∙ none))))

-- ---- both

pub no_special_below : AreAccounted → (vault : Vault) (v : View) → IsClean (format_of vault) v → IsOrderly (format_of vault) v → (p : Path) → v p ≢ Special
no_special_below accounted (Gocryptfs keys) v clean orderly = go_no_special accounted keys v clean orderly
no_special_below accounted (Cryptomator cm) v clean orderly = cm_no_special accounted cm v clean orderly
