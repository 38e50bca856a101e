-- A new item of Cryptomator is made: a file by its entry, and a directory after its folders.
use Rattle.std.proofs.Common.{◌≡◌, ◌≢◌, ℕ, ◌+◌, true, List, [], ◌∷◌, ◌++◌, Ok, Err, cond, refl, sym, ap, ◌∙◌, subst, Some, None, Option, IsTrue, is_some, length, take, drop, length-append, append_assoc}
use Rattle.std.specs.Option.{option_or, option_and_then}
use Rattle.std.proofs.lemmas.Slice.Eq.{bytes_eq-Decides}
use Rattle.folder_spec.specs.Path.{Part, Path, child}
use Rattle.folder_spec.specs.View.{Found, NoEntry, Folder, FileOf, Special, View}
use Rattle.folder_spec.specs.Seen.{under}
use Rattle.folder_spec.specs.Edit.{Edit, edited, file_edit, file_view, directory_edit, directory_view, folder_edit, folder_view}
use Rattle.plain_tree.specs.Names as plain
use Rattle.plain_tree.specs.Names.{is_name}
use Rattle.vault_names.specs.Cryptomator.{cm_stored, cm_folder_of}
use Rattle.vault_names.specs.declared.entry.Stored.{Stored}
use Rattle.vault_spec.specs.StoredNames.{CmTexts}
use Rattle.vault_spec.specs.declared.Lack.TheVariants.{NoFolder}
use Rattle.vault_spec.specs.Format.{Directory, DirectoryItem, file_bytes, is_folder, taken_at, key_of}
use Rattle.vault_spec.specs.Cryptomator.{CmVault, cm_format, top, id_file, content_file, full_file, directory_id, shelf_named, folder_named, content_folder, cm_item, full_files, new_file_edit, folder_where_free, taken_unless_folder, taken_folders, taken_entry}
use Rattle.vault_spec.specs.Standing.{File, Dir, entry_at, is_file_of, holds, holds_full, standing_of, standing_in, directory_with}
use Rattle.vault_spec.specs.Opens.{Opened, opened_at, opened_file}
use Rattle.vault_spec.specs.Opens as opens
use Rattle.vault_spec.specs.Reached.{Leads}
use Rattle.vault_spec.specs.Alike.{HasFolders, IsLeaf}
use Rattle.vault_spec.proofs.Lawful.{SparesConfiguration}
use Rattle.vault_spec.proofs.Grafts.{reached_right, nothing_below, edited_adds, edited_entry, none_stands}
use Rattle.vault_spec.proofs.PathEnds.{child-both}
use Rattle.vault_spec.proofs.Places.{SparesAll, IsNoEntry, IsRooted, leads_from_root, IsSide, brought, brought_there, arrived, IsNew, new_after_side, Arrives, file_folders, folder_folders}
use Rattle.vault_spec.proofs.MadeItems.{HasOwnFolder, IsMade, MakesItems}
use Rattle.vault_spec.proofs.CmVault.{cm_lawful, OfEachCm}

-- the folder of a reached directory has three parts, and an entry in it four
pub three_parts : (vault : CmVault) (texts : CmTexts vault.keys) (v : View) (path : plain.Path) (dir : Directory) → Leads (cm_format vault) v path dir → length dir.folder ≡ 3
three_parts vault texts v path dir leads = ap length (reached_right (cm_format vault) (cm_lawful vault texts) v path dir leads).form

pub one_more : (p : Path) (a : Part) → length (child p a) ≡ length p + 1
one_more p a = length-append p (a ∷ [])

-- a place of two, three or four parts spares what is there
cm_spares : (vault : CmVault) (texts : CmTexts vault.keys) (v : View) (at : Path) → length at ≢ 1 → length at ≢ 5 → SparesAll (cm_format vault) (cm_lawful vault texts) v at
unfolding cm_lawful
cm_spares vault texts v at not_one not_five = record {
  root = λ m is same. not_one (ap length (sym same));
  entries = λ path dir name leads named there. record {
    marks = λ m is same. not_five (ap length (sym same) ∙ one_more (entry_at (cm_format vault) dir name) m ∙ ap (λ n. n + 1) (one_more dir.folder (cm_stored vault.keys vault.threshold dir.key name).name)
        ∙ ap (λ n. n + 1 + 1) (three_parts vault texts v path dir leads));
    full = λ long same. not_five (ap length (sym same) ∙ length-append dir.folder ((cm_stored vault.keys vault.threshold dir.key name).name ∷ full_file ∷ [])
        ∙ ap (λ n. n + 2) (three_parts vault texts v path dir leads));
  };
}

-- and is no entry, where it doesn't have four
cm_no_entry : (vault : CmVault) (texts : CmTexts vault.keys) (v : View) (at : Path) → length at ≢ 4 → IsNoEntry (cm_format vault) v at
cm_no_entry vault texts v at not_four path dir name leads named same =
    not_four (ap length (sym same) ∙ one_more dir.folder (cm_stored vault.keys vault.threshold dir.key name).name ∙ ap (λ n. n + 1) (three_parts vault texts v path dir leads))

-- an entry has four parts
pub four_parts : (vault : CmVault) (texts : CmTexts vault.keys) (v : View) (front : plain.Path) (dir : Directory) (name : List ℕ) (e : Edit) → IsNew (cm_format vault) v front dir name e → length e.at ≡ 4
four_parts vault texts v front dir name e new =
    ap length (sym new.place) ∙ one_more dir.folder (cm_stored vault.keys vault.threshold dir.key name).name ∙ ap (λ n. n + 1) (three_parts vault texts v front dir new.leads)

pub entry_spares : (vault : CmVault) (texts : CmTexts vault.keys) (v : View) (front : plain.Path) (dir : Directory) (name : List ℕ) (e : Edit) → IsNew (cm_format vault) v front dir name e
    → SparesAll (cm_format vault) (cm_lawful vault texts) v e.at
entry_spares vault texts v front dir name e new =
    cm_spares vault texts v e.at (λ one. apart_from_four 1 (λ z. cc) one) (λ five. apart_from_four 5 (λ z. cc) five)
  where
    apart_from_four : (n : ℕ) → n ≢ 4 → length e.at ≡ n → ⊥
    apart_from_four n apart is = apart (sym is ∙ four_parts vault texts v front dir name e new)

-- a long name's text comes with its entry
pub text_comes : (vault : CmVault) (u : View) (dir : Directory) (name : List ℕ) (e : Edit) → entry_at (cm_format vault) dir name ≡ e.at
    → (full : Option (List ℕ)) → (cm_stored vault.keys vault.threshold dir.key name).full ≡ full → ((text : List ℕ) → full ≡ Some text → e.made (full_file ∷ []) ≡ FileOf text)
    → holds_full (cm_format vault) (edited u e) dir (cm_stored vault.keys vault.threshold dir.key name) ≡ true
text_comes vault u dir name e place None is brings = ap (holds (edited u e) (dir.folder ++ (cm_format vault).full_at (cm_stored vault.keys vault.threshold dir.key name).name)) is
text_comes vault u dir name e place (Some text) is brings =
    ap (holds (edited u e) (dir.folder ++ (cm_format vault).full_at (cm_stored vault.keys vault.threshold dir.key name).name)) is
    ∙ ap (λ x. is_file_of text (file_bytes x)) (ap (edited u e) at_full ∙ brought u e (full_file ∷ []) ∙ brings text refl)
    ∙ (bytes_eq-Decides text text).1 refl
  where
    at_full : dir.folder ++ (cm_stored vault.keys vault.threshold dir.key name).name ∷ full_file ∷ [] ≡ e.at ++ full_file ∷ []
    at_full = sym (append_assoc dir.folder ((cm_stored vault.keys vault.threshold dir.key name).name ∷ []) (full_file ∷ [])) ∙ ap (λ p. p ++ full_file ∷ []) place

-- a file stands by what its edit brings: itself, or a folder with its name and content
file_held : (vault : CmVault) (u : View) (dir : Directory) (name bytes : List ℕ) (full : Option (List ℕ)) → (cm_stored vault.keys vault.threshold dir.key name).full ≡ full
    → holds_full (cm_format vault) (edited u (new_file_edit (entry_at (cm_format vault) dir name) full bytes)) dir (cm_stored vault.keys vault.threshold dir.key name) ≡ true
file_held vault u dir name bytes None is = text_comes vault u dir name (file_edit (entry_at (cm_format vault) dir name) bytes) refl None is (λ text none. cc)
file_held vault u dir name bytes (Some text) is =
    text_comes vault u dir name (folder_edit (entry_at (cm_format vault) dir name) ((full_file, text) ∷ (content_file, bytes) ∷ [])) refl (Some text) is (λ other same. ap FileOf cc)

file_stands : (vault : CmVault) (u : View) (dir : Directory) (name bytes : List ℕ) → IsTrue (is_name name) → (cm_stored vault.keys vault.threshold dir.key name).full ≡ None
    → standing_in (cm_format vault) (edited u (file_edit (entry_at (cm_format vault) dir name) bytes)) dir name ≡ File (entry_at (cm_format vault) dir name ++ [])
file_stands vault u dir name bytes named is =
    arrived (cm_format vault) u dir name (file_edit (entry_at (cm_format vault) dir name) bytes) named refl (file_held vault u dir name bytes None is)
    ∙ ap (λ o. standing_of (cm_format vault) (edited u (file_edit (entry_at (cm_format vault) dir name) bytes)) (entry_at (cm_format vault) dir name) true (cm_item (is_some o) (file_view bytes))) is

long_file_stands : (vault : CmVault) (u : View) (dir : Directory) (name bytes text : List ℕ) → IsTrue (is_name name) → (cm_stored vault.keys vault.threshold dir.key name).full ≡ Some text
    → standing_in (cm_format vault) (edited u (folder_edit (entry_at (cm_format vault) dir name) ((full_file, text) ∷ (content_file, bytes) ∷ []))) dir name
    ≡ File (entry_at (cm_format vault) dir name ++ content_file ∷ [])
long_file_stands vault u dir name bytes text named is =
    arrived (cm_format vault) u dir name (folder_edit (entry_at (cm_format vault) dir name) ((full_file, text) ∷ (content_file, bytes) ∷ [])) named refl (file_held vault u dir name bytes (Some text) is)
    ∙ ap (λ o. standing_of (cm_format vault) (edited u (folder_edit (entry_at (cm_format vault) dir name) ((full_file, text) ∷ (content_file, bytes) ∷ []))) (entry_at (cm_format vault) dir name) true
    (cm_item (is_some o) (folder_view ((full_file, text) ∷ (content_file, bytes) ∷ [])))) is

pub file_arrives : (vault : CmVault) (u : View) (dir : Directory) (name bytes : List ℕ) (full : Option (List ℕ)) → IsTrue (is_name name) → (cm_stored vault.keys vault.threshold dir.key name).full ≡ full
    → Arrives (cm_format vault) u dir name (new_file_edit (entry_at (cm_format vault) dir name) full bytes) (opened_file (cm_format vault).content (Some bytes))
file_arrives vault u dir name bytes None named is = record {
  full = file_held vault u dir name bytes None is;
  leaf = subst (IsLeaf (cm_format vault) (edited u (file_edit (entry_at (cm_format vault) dir name) bytes))) (sym (file_stands vault u dir name bytes named is)) (record {});
  opens = ap (opened_at (cm_format vault) (edited u (file_edit (entry_at (cm_format vault) dir name) bytes))) (file_stands vault u dir name bytes named is)
      ∙ ap (λ x. opened_file (cm_format vault).content (file_bytes x)) (brought u (file_edit (entry_at (cm_format vault) dir name) bytes) []);
}
file_arrives vault u dir name bytes (Some text) named is = record {
  full = file_held vault u dir name bytes (Some text) is;
  leaf = subst (IsLeaf (cm_format vault) (edited u (folder_edit (entry_at (cm_format vault) dir name) ((full_file, text) ∷ (content_file, bytes) ∷ []))))
      (sym (long_file_stands vault u dir name bytes text named is)) (record {});
  opens = ap (opened_at (cm_format vault) (edited u (folder_edit (entry_at (cm_format vault) dir name) ((full_file, text) ∷ (content_file, bytes) ∷ [])))) (long_file_stands vault u dir name bytes text named is)
      ∙ ap (λ x. opened_file (cm_format vault).content (file_bytes x)) (brought u (folder_edit (entry_at (cm_format vault) dir name) ((full_file, text) ∷ (content_file, bytes) ∷ [])) (content_file ∷ []));
}

pub entry_free : (v : View) (dir : Directory) (s : Stored) (rest : Option Path) → option_or (taken_entry v dir s) rest ≡ None → (v (child dir.folder s.name) ≡ NoEntry) × (rest ≡ None)
entry_free v dir s rest none = by_entry (v (child dir.folder s.name)) refl none
  where
    by_entry : (x : Found) → v (child dir.folder s.name) ≡ x → option_or (taken_at (child dir.folder s.name) x) rest ≡ None → (v (child dir.folder s.name) ≡ NoEntry) × (rest ≡ None)
    by_entry NoEntry is none = (is, none)
    by_entry Folder is none = cc
    by_entry (FileOf bytes) is none = cc
    by_entry Special is none = cc

pub free_at : (v : View) (at : Path) → taken_at at (v at) ≡ None → v at ≡ NoEntry
free_at v at none = by_kind (v at) refl none
  where
    by_kind : (x : Found) → v at ≡ x → taken_at at x ≡ None → v at ≡ NoEntry
    by_kind NoEntry is none = is
    by_kind Folder is none = cc
    by_kind (FileOf bytes) is none = cc
    by_kind Special is none = cc

pub new_file_at : (at : Path) (full : Option (List ℕ)) (bytes : List ℕ) → (new_file_edit at full bytes).at ≡ at
new_file_at at None bytes = refl
new_file_at at (Some text) bytes = refl

pub new_file_comes : (vault : CmVault) (texts : CmTexts vault.keys) (v : View) (front : plain.Path) (dir : Directory) (name bytes : List ℕ)
    → HasFolders v → Leads (cm_format vault) v front dir → IsTrue (is_name name) → taken_entry v dir (cm_stored vault.keys vault.threshold dir.key name) ≡ None
    → IsNew (cm_format vault) v front dir name (new_file_edit (entry_at (cm_format vault) dir name) (cm_stored vault.keys vault.threshold dir.key name).full bytes)
new_file_comes vault texts v front dir name bytes folders leads named none = record {
  rooted = leads_from_root (cm_format vault) (cm_lawful vault texts) v folders front dir leads;
  leads = leads;
  named = named;
  place = sym (new_file_at (entry_at (cm_format vault) dir name) (cm_stored vault.keys vault.threshold dir.key name).full bytes);
  free = free_at v (entry_at (cm_format vault) dir name) none;
}

new_file_folders : (at : Path) (full : Option (List ℕ)) (bytes : List ℕ) → HasFolders (new_file_edit at full bytes).made
new_file_folders at None bytes = file_folders bytes
new_file_folders at (Some text) bytes = folder_folders ((full_file, text) ∷ (content_file, bytes) ∷ [])

-- no configuration has as many parts as an entry
entry_spares_configuration : (vault : CmVault) (texts : CmTexts vault.keys) (v : View) (front : plain.Path) (dir : Directory) (name : List ℕ) (e : Edit)
    → IsNew (cm_format vault) v front dir name e → SparesConfiguration e.at
entry_spares_configuration vault texts v front dir name e new = record { gocryptfs = λ same. not_one (ap length same); master = λ same. not_one (ap length same); vault = λ same. not_one (ap length same) }
  where
    not_one : 1 ≡ length e.at → ⊥
    not_one one = let four : length e.at ≡ 4 = four_parts vault texts v front dir name e new in let clash : ◌≡◌ {A = ℕ} 1 4 = one ∙ four in cc

file_own : (vault : CmVault) (first u : View) (dir : Directory) (name bytes : List ℕ) (full : Option (List ℕ)) → IsTrue (is_name name) → (cm_stored vault.keys vault.threshold dir.key name).full ≡ full
    → HasOwnFolder (cm_format vault) first (standing_in (cm_format vault) (edited u (new_file_edit (entry_at (cm_format vault) dir name) full bytes)) dir name)
file_own vault first u dir name bytes None named is =
    subst (HasOwnFolder (cm_format vault) first) (sym (file_stands vault u dir name bytes named is)) (record {})
file_own vault first u dir name bytes (Some text) named is =
    subst (HasOwnFolder (cm_format vault) first) (sym (long_file_stands vault u dir name bytes text named is)) (record {})

-- a new file is made by its entry
file_made : (vault : CmVault) (texts : CmTexts vault.keys) (v : View) (front : plain.Path) (dir : Directory) (name bytes : List ℕ)
    → HasFolders v → Leads (cm_format vault) v front dir → IsTrue (is_name name) → taken_entry v dir (cm_stored vault.keys vault.threshold dir.key name) ≡ None
    → IsMade (cm_format vault) (cm_lawful vault texts) v v front dir name (opened_file (cm_format vault).content (Some bytes)) ((cm_format vault).new_file v dir (cm_stored vault.keys vault.threshold dir.key name) bytes)
file_made vault texts v front dir name bytes folders leads named none = record {
  new = new;
  spares = entry_spares vault texts v front dir name (new_file_edit (entry_at (cm_format vault) dir name) (cm_stored vault.keys vault.threshold dir.key name).full bytes) new;
  arrives = file_arrives vault v dir name bytes (cm_stored vault.keys vault.threshold dir.key name).full named refl;
  made = new_file_folders (entry_at (cm_format vault) dir name) (cm_stored vault.keys vault.threshold dir.key name).full bytes;
  own = file_own vault v v dir name bytes (cm_stored vault.keys vault.threshold dir.key name).full named refl;
  no_configuration = entry_spares_configuration vault texts v front dir name (new_file_edit (entry_at (cm_format vault) dir name) (cm_stored vault.keys vault.threshold dir.key name).full bytes) new;
}
  where
    new : IsNew (cm_format vault) v front dir name (new_file_edit (entry_at (cm_format vault) dir name) (cm_stored vault.keys vault.threshold dir.key name).full bytes)
    new = new_file_comes vault texts v front dir name bytes folders leads named none

-- the folder that an id's directory is entered in stands empty
pub record HasEmptyFolder (u : View) (folder : Path) : Type 0 where
  pub there : u folder ≡ Folder
  pub empty : (n : Part) → u (child folder n) ≡ NoEntry

-- a directory stands by the folder that its edit brings with its id
pub directory_stands : (vault : CmVault) (u : View) (front : plain.Path) (dir : Directory) (name id : List ℕ) (e : Edit) → IsNew (cm_format vault) u front dir name e
    → directory_id id ≡ Some id → HasEmptyFolder u (content_folder vault.keys id)
    → holds_full (cm_format vault) (edited u e) dir (cm_stored vault.keys vault.threshold dir.key name) ≡ true
    → cm_item (is_some (cm_stored vault.keys vault.threshold dir.key name).full) e.made ≡ DirectoryItem → e.made (id_file ∷ []) ≡ FileOf id
    → standing_in (cm_format vault) (edited u e) dir name ≡ Dir e.at (Ok (record { folder = content_folder vault.keys id; key = id }))
directory_stands vault u front dir name id e new is_id ready held item brings =
    arrived (cm_format vault) u dir name e new.named (sym new.place) held
    ∙ ap (standing_of (cm_format vault) (edited u e) e.at true) item
    ∙ ap (λ k. Dir e.at (directory_with (cm_format vault) (edited u e) e.at k)) key_there
    ∙ ap (λ x. Dir e.at (cond (is_folder x) (Ok (record { folder = content_folder vault.keys id; key = id })) (Err NoFolder))) folder_there
  where
    folder_there : edited u e (content_folder vault.keys id) ≡ Folder
    folder_there = edited_adds u e new.rooted.folders (ap u (sym new.place) ∙ new.free) (content_folder vault.keys id)
        (λ none. let there : u (content_folder vault.keys id) ≡ Folder = ready.there in cc) ∙ ready.there

    key_there : key_of (cm_format vault) (under e.at (edited u e)) ≡ Some id
    key_there = ap (λ x. option_and_then directory_id (file_bytes x)) (brought u e (id_file ∷ []) ∙ brings) ∙ is_id

-- nothing stands in its folder
pub folder_bare : (vault : CmVault) (u : View) (front : plain.Path) (dir : Directory) (name id : List ℕ) (e : Edit) → IsNew (cm_format vault) u front dir name e
    → HasEmptyFolder u (content_folder vault.keys id) → dir.folder ≢ content_folder vault.keys id → (n : Part) → edited u e (child (content_folder vault.keys id) n) ≡ NoEntry
folder_bare vault u front dir name id e new ready apart n =
    edited_entry u e new.rooted.folders (ap u (sym new.place) ∙ new.free) (content_folder vault.keys id) n
    (λ none. let there : u (content_folder vault.keys id) ≡ Folder = ready.there in cc) entry_apart ∙ ready.empty n
  where
    entry_apart : child (content_folder vault.keys id) n ≢ e.at
    entry_apart same =
        let both : (content_folder vault.keys id ≡ dir.folder) × (n ≡ (cm_stored vault.keys vault.threshold dir.key name).name)
        = child-both (content_folder vault.keys id) dir.folder n (cm_stored vault.keys vault.threshold dir.key name).name (same ∙ sym new.place) in
        apart (sym both.0)

-- so it arrives
pub directory_arrives : (vault : CmVault) (texts : CmTexts vault.keys) (u : View) (front : plain.Path) (dir : Directory) (name id : List ℕ) (e : Edit) → IsNew (cm_format vault) u front dir name e
    → directory_id id ≡ Some id → HasEmptyFolder u (content_folder vault.keys id) → dir.folder ≢ content_folder vault.keys id
    → holds_full (cm_format vault) (edited u e) dir (cm_stored vault.keys vault.threshold dir.key name) ≡ true
    → cm_item (is_some (cm_stored vault.keys vault.threshold dir.key name).full) e.made ≡ DirectoryItem → e.made (id_file ∷ []) ≡ FileOf id
    → Arrives (cm_format vault) u dir name e opens.Directory
directory_arrives vault texts u front dir name id e new is_id ready apart held item brings = record {
  full = held;
  leaf = subst (IsLeaf (cm_format vault) (edited u e)) (sym (directory_stands vault u front dir name id e new is_id ready held item brings)) (λ n.
      none_stands (cm_format vault) (cm_lawful vault texts) (edited u e) (record { folder = content_folder vault.keys id; key = id }) n
      (folder_bare vault u front dir name id e new ready apart (cm_stored vault.keys vault.threshold id n).name));
  opens = ap (opened_at (cm_format vault) (edited u e)) (directory_stands vault u front dir name id e new is_id ready held item brings);
}

-- the edit that brings a directory's entry
abbrev pub directory_at : CmVault → Directory → List ℕ → List ℕ → Edit
directory_at vault dir name id =
    folder_edit (entry_at (cm_format vault) dir name) (full_files (cm_stored vault.keys vault.threshold dir.key name).full ++ (id_file, id) ∷ [])

pub its_item : (full : Option (List ℕ)) (id : List ℕ) → cm_item (is_some full) (folder_view (full_files full ++ (id_file, id) ∷ [])) ≡ DirectoryItem
its_item None id = refl
its_item (Some text) id = refl

pub its_id : (full : Option (List ℕ)) (id : List ℕ) → folder_view (full_files full ++ (id_file, id) ∷ []) (id_file ∷ []) ≡ FileOf id
its_id None id = refl
its_id (Some text) id = refl

pub its_text : (full : Option (List ℕ)) (id text : List ℕ) → full ≡ Some text → folder_view (full_files full ++ (id_file, id) ∷ []) (full_file ∷ []) ≡ FileOf text
its_text None id text is = cc
its_text (Some other) id text is = ap FileOf cc

-- nothing stands in a folder that is alone
directory_alone : (p : Path) (a : Part) → directory_view (child p a) ≡ NoEntry
directory_alone [] a = refl
directory_alone (b ∷ p) a = refl

-- the content folder, where the folder of content folders is there
pub folder_side : (vault : CmVault) (texts : CmTexts vault.keys) (w : View) (id : List ℕ) → IsRooted (cm_format vault) w
    → w (shelf_named (cm_folder_of vault.keys id)) ≡ Folder → w (content_folder vault.keys id) ≡ NoEntry
    → IsSide (cm_format vault) (cm_lawful vault texts) w (directory_edit (content_folder vault.keys id))
folder_side vault texts w id rooted shelf free = record {
  rooted = rooted;
  free = free;
  spares = cm_spares vault texts w (content_folder vault.keys id) (λ z. cc) (λ z. cc);
  no_entry = cm_no_entry vault texts w (content_folder vault.keys id) (λ z. cc);
  up = shelf_named (cm_folder_of vault.keys id);
  last = drop 2 (cm_folder_of vault.keys id);
  place = refl;
  up_there = shelf;
  alone = directory_alone;
  no_configuration = record { gocryptfs = λ same. cc; master = λ same. cc; vault = λ same. cc };
}

pub folder_ready : (vault : CmVault) (w : View) (id : List ℕ) → HasEmptyFolder (edited w (directory_edit (content_folder vault.keys id))) (content_folder vault.keys id)
folder_ready vault w id = record {
  there = brought_there w (directory_edit (content_folder vault.keys id));
  empty = λ n. brought w (directory_edit (content_folder vault.keys id)) (n ∷ []);
}

-- it is no directory's that is reached
pub folder_apart : (vault : CmVault) (texts : CmTexts vault.keys) (w : View) (front : plain.Path) (dir : Directory) (id : List ℕ) → Leads (cm_format vault) w front dir
    → w (content_folder vault.keys id) ≡ NoEntry → dir.folder ≢ content_folder vault.keys id
folder_apart vault texts w front dir id leads free same =
    let there : w dir.folder ≡ Folder = (reached_right (cm_format vault) (cm_lawful vault texts) w front dir leads).there in
    let clash : Folder ≡ NoEntry = sym there ∙ ap w same ∙ free in
    cc

-- the long name of a directory comes with its entry
pub its_full : (vault : CmVault) (u : View) (dir : Directory) (name id : List ℕ) → holds_full (cm_format vault) (edited u (directory_at vault dir name id)) dir (cm_stored vault.keys vault.threshold dir.key name) ≡ true
its_full vault u dir name id = text_comes vault u dir name (directory_at vault dir name id) refl (cm_stored vault.keys vault.threshold dir.key name).full refl
    (its_text (cm_stored vault.keys vault.threshold dir.key name).full id)

-- once the content folder is there, the entry arrives
pub arrives_then : (vault : CmVault) (texts : CmTexts vault.keys) (u : View) (front : plain.Path) (dir : Directory) (name id : List ℕ) → IsNew (cm_format vault) u front dir name (directory_at vault dir name id)
    → directory_id id ≡ Some id → HasEmptyFolder u (content_folder vault.keys id) → dir.folder ≢ content_folder vault.keys id
    → Arrives (cm_format vault) u dir name (directory_at vault dir name id) opens.Directory
arrives_then vault texts u front dir name id new is_id ready apart =
    directory_arrives vault texts u front dir name id (directory_at vault dir name id) new is_id ready apart (its_full vault u dir name id)
    (its_item (cm_stored vault.keys vault.threshold dir.key name).full id) (its_id (cm_stored vault.keys vault.threshold dir.key name).full id)

-- its folder is no other's of a view that hasn't it
directory_own : (vault : CmVault) (texts : CmTexts vault.keys) (first u : View) (front : plain.Path) (dir : Directory) (name id : List ℕ) → IsNew (cm_format vault) u front dir name (directory_at vault dir name id)
    → directory_id id ≡ Some id → HasEmptyFolder u (content_folder vault.keys id) → first (content_folder vault.keys id) ≡ NoEntry
    → HasOwnFolder (cm_format vault) first (standing_in (cm_format vault) (edited u (directory_at vault dir name id)) dir name)
directory_own vault texts first u front dir name id new is_id ready free =
    subst (HasOwnFolder (cm_format vault) first)
    (sym (directory_stands vault u front dir name id (directory_at vault dir name id) new is_id ready (its_full vault u dir name id)
    (its_item (cm_stored vault.keys vault.threshold dir.key name).full id) (its_id (cm_stored vault.keys vault.threshold dir.key name).full id))) own
  where
    own : (path : plain.Path) (other : Directory) → Leads (cm_format vault) first path other → content_folder vault.keys id ≢ other.folder
    own path other leads same = folder_apart vault texts first path other id leads free (sym same)

-- once the folder of content folders is there, the content folder is made, and then the entry
after_shelf : (vault : CmVault) (texts : CmTexts vault.keys) (first w : View) (front : plain.Path) (dir : Directory) (name id : List ℕ)
    → IsNew (cm_format vault) w front dir name (directory_at vault dir name id) → directory_id id ≡ Some id
    → w (shelf_named (cm_folder_of vault.keys id)) ≡ Folder → w (content_folder vault.keys id) ≡ NoEntry → first (content_folder vault.keys id) ≡ NoEntry
    → IsMade (cm_format vault) (cm_lawful vault texts) first w front dir name opens.Directory (directory_edit (content_folder vault.keys id) ∷ directory_at vault dir name id ∷ [])
after_shelf vault texts first w front dir name id new is_id shelf free free_first = (
  folder_side vault texts w id new.rooted shelf free,
  record {
    new = new_then;
    spares = entry_spares vault texts (edited w (directory_edit (content_folder vault.keys id))) front dir name (directory_at vault dir name id) new_then;
    arrives = arrives_then vault texts (edited w (directory_edit (content_folder vault.keys id))) front dir name id new_then is_id (folder_ready vault w id) (folder_apart vault texts w front dir id new.leads free);
    made = folder_folders (full_files (cm_stored vault.keys vault.threshold dir.key name).full ++ (id_file, id) ∷ []);
    own = directory_own vault texts first (edited w (directory_edit (content_folder vault.keys id))) front dir name id new_then is_id (folder_ready vault w id) free_first;
    no_configuration = entry_spares_configuration vault texts (edited w (directory_edit (content_folder vault.keys id))) front dir name (directory_at vault dir name id) new_then;
  },
)
  where
    new_then : IsNew (cm_format vault) (edited w (directory_edit (content_folder vault.keys id))) front dir name (directory_at vault dir name id)
    new_then = new_after_side (cm_format vault) (cm_lawful vault texts) w (directory_edit (content_folder vault.keys id)) front dir name (directory_at vault dir name id)
        (folder_side vault texts w id new.rooted shelf free) new

-- a folder of content folders may stand there already
folders_free : (v : View) (text : List ℕ) → taken_folders v text ≡ None → (v (folder_named text) ≡ NoEntry) × (taken_unless_folder (shelf_named text) (v (shelf_named text)) ≡ None)
folders_free v text none = by_folder (v (folder_named text)) refl none
  where
    by_folder : (x : Found) → v (folder_named text) ≡ x → option_or (taken_at (folder_named text) x) (taken_unless_folder (shelf_named text) (v (shelf_named text))) ≡ None
        → (v (folder_named text) ≡ NoEntry) × (taken_unless_folder (shelf_named text) (v (shelf_named text)) ≡ None)
    by_folder NoEntry is none = (is, none)
    by_folder Folder is none = cc
    by_folder (FileOf bytes) is none = cc
    by_folder Special is none = cc

-- the folder of content folders, where nothing stands
pub shelf_side : (vault : CmVault) (texts : CmTexts vault.keys) (v : View) (front : plain.Path) (dir : Directory) (id : List ℕ) → IsRooted (cm_format vault) v → Leads (cm_format vault) v front dir
    → v (shelf_named (cm_folder_of vault.keys id)) ≡ NoEntry
    → IsSide (cm_format vault) (cm_lawful vault texts) v (directory_edit (shelf_named (cm_folder_of vault.keys id)))
shelf_side vault texts v front dir id rooted leads free = record {
  rooted = rooted;
  free = free;
  spares = cm_spares vault texts v (shelf_named (cm_folder_of vault.keys id)) (λ z. cc) (λ z. cc);
  no_entry = cm_no_entry vault texts v (shelf_named (cm_folder_of vault.keys id)) (λ z. cc);
  up = top ∷ [];
  last = take 2 (cm_folder_of vault.keys id);
  place = refl;
  up_there = up_there;
  alone = directory_alone;
  no_configuration = record { gocryptfs = λ same. cc; master = λ same. cc; vault = λ same. cc };
}
  where
    up_there : v (top ∷ []) ≡ Folder
    up_there =
        let there : v dir.folder ≡ Folder = (reached_right (cm_format vault) (cm_lawful vault texts) v front dir leads).there in
        let form : dir.folder ≡ content_folder vault.keys dir.key = (reached_right (cm_format vault) (cm_lawful vault texts) v front dir leads).form in
        let folder : v (content_folder vault.keys dir.key) ≡ Folder = ap v (sym form) ∙ there in
        let shelf : v (shelf_named (cm_folder_of vault.keys dir.key)) ≡ Folder
        = rooted.folders (shelf_named (cm_folder_of vault.keys dir.key)) (drop 2 (cm_folder_of vault.keys dir.key)) (λ z. let clash : Folder ≡ NoEntry = sym folder ∙ z in cc) in
        rooted.folders (top ∷ []) (take 2 (cm_folder_of vault.keys dir.key)) (λ z. let clash : Folder ≡ NoEntry = sym shelf ∙ z in cc)

-- the edits of a new directory, by whether the folder of content folders is there or comes first
pub by_shelf : (vault : CmVault) (v : View) (dir : Directory) (name id : List ℕ) (Holds : List Edit → Type 0)
    → (cm_format vault).taken_for_directory v dir (cm_stored vault.keys vault.threshold dir.key name) id ≡ None
    → (v (shelf_named (cm_folder_of vault.keys id)) ≡ Folder → v (content_folder vault.keys id) ≡ NoEntry
    → Holds (directory_edit (content_folder vault.keys id) ∷ directory_at vault dir name id ∷ []))
    → (v (shelf_named (cm_folder_of vault.keys id)) ≡ NoEntry
    → Holds (directory_edit (shelf_named (cm_folder_of vault.keys id)) ∷ directory_edit (content_folder vault.keys id) ∷ directory_at vault dir name id ∷ []))
    → Holds ((cm_format vault).new_directory v dir (cm_stored vault.keys vault.threshold dir.key name) id)
by_shelf vault v dir name id Holds none there first =
    by_kind (v (shelf_named (cm_folder_of vault.keys id))) refl (folders_free v (cm_folder_of vault.keys id) rest_free).1
  where
    rest_free : taken_folders v (cm_folder_of vault.keys id) ≡ None
    rest_free = (entry_free v dir (cm_stored vault.keys vault.threshold dir.key name) (taken_folders v (cm_folder_of vault.keys id)) none).1

    by_kind : (x : Found) → v (shelf_named (cm_folder_of vault.keys id)) ≡ x → taken_unless_folder (shelf_named (cm_folder_of vault.keys id)) x ≡ None
        → Holds ((folder_where_free (shelf_named (cm_folder_of vault.keys id)) x ++ directory_edit (content_folder vault.keys id) ∷ []) ++ directory_at vault dir name id ∷ [])
    by_kind Folder is none = there is (folders_free v (cm_folder_of vault.keys id) rest_free).0
    by_kind NoEntry is none = first is
    by_kind (FileOf bytes) is none = cc
    by_kind Special is none = cc

pub new_at : (vault : CmVault) (texts : CmTexts vault.keys) (v : View) (front : plain.Path) (dir : Directory) (name id : List ℕ) → HasFolders v → Leads (cm_format vault) v front dir → IsTrue (is_name name)
    → (cm_format vault).taken_for_directory v dir (cm_stored vault.keys vault.threshold dir.key name) id ≡ None → IsNew (cm_format vault) v front dir name (directory_at vault dir name id)
new_at vault texts v front dir name id folders leads named none = record {
  rooted = leads_from_root (cm_format vault) (cm_lawful vault texts) v folders front dir leads;
  leads = leads;
  named = named;
  place = refl;
  free = (entry_free v dir (cm_stored vault.keys vault.threshold dir.key name) (taken_folders v (cm_folder_of vault.keys id)) none).0;
}

-- nothing stands in a folder that comes
pub folder_free : (vault : CmVault) (v : View) (id : List ℕ) → edited v (directory_edit (shelf_named (cm_folder_of vault.keys id))) (content_folder vault.keys id) ≡ NoEntry
folder_free vault v id = brought v (directory_edit (shelf_named (cm_folder_of vault.keys id))) (drop 2 (cm_folder_of vault.keys id) ∷ [])

pub new_after_shelf : (vault : CmVault) (texts : CmTexts vault.keys) (v : View) (front : plain.Path) (dir : Directory) (name id : List ℕ) → IsNew (cm_format vault) v front dir name (directory_at vault dir name id)
    → v (shelf_named (cm_folder_of vault.keys id)) ≡ NoEntry → IsNew (cm_format vault) (edited v (directory_edit (shelf_named (cm_folder_of vault.keys id)))) front dir name (directory_at vault dir name id)
new_after_shelf vault texts v front dir name id new free =
    new_after_side (cm_format vault) (cm_lawful vault texts) v (directory_edit (shelf_named (cm_folder_of vault.keys id)))
    front dir name (directory_at vault dir name id) (shelf_side vault texts v front dir id new.rooted new.leads free) new

-- a new directory is made after its folders
directory_made : (vault : CmVault) (texts : CmTexts vault.keys) (v : View) (front : plain.Path) (dir : Directory) (name id : List ℕ)
    → HasFolders v → Leads (cm_format vault) v front dir → IsTrue (is_name name) → directory_id id ≡ Some id
    → (cm_format vault).taken_for_directory v dir (cm_stored vault.keys vault.threshold dir.key name) id ≡ None
    → IsMade (cm_format vault) (cm_lawful vault texts) v v front dir name opens.Directory ((cm_format vault).new_directory v dir (cm_stored vault.keys vault.threshold dir.key name) id)
directory_made vault texts v front dir name id folders leads named is_id none =
    by_shelf vault v dir name id (IsMade (cm_format vault) (cm_lawful vault texts) v v front dir name opens.Directory) none
    (λ shelf free. after_shelf vault texts v v front dir name id new is_id shelf free free)
    (λ free. (
      shelf_side vault texts v front dir id new.rooted leads free,
      after_shelf vault texts v (edited v (directory_edit (shelf_named (cm_folder_of vault.keys id)))) front dir name id
          (new_after_shelf vault texts v front dir name id new free) is_id (brought_there v (directory_edit (shelf_named (cm_folder_of vault.keys id)))) (folder_free vault v id)
          (nothing_below v folders (shelf_named (cm_folder_of vault.keys id)) (drop 2 (cm_folder_of vault.keys id) ∷ []) free),
    ))
  where
    new : IsNew (cm_format vault) v front dir name (directory_at vault dir name id)
    new = new_at vault texts v front dir name id folders leads named none

pub cm_makes : OfEachCm MakesItems
cm_makes vault texts = record { file = file_made vault texts; directory = directory_made vault texts }
