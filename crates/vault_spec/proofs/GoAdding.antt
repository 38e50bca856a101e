-- A new item of gocryptfs is made by its long-name file, where there is to be one, and then its entry.
use Rattle.std.proofs.Common.{◌≡◌, ◌≢◌, ℕ, Bool, true, false, List, [], ◌∷◌, ◌++◌, Ok, Err, cond, refl, sym, ap, ◌∙◌, inl, inr, subst, Some, None, Option, IsTrue, is_some, codes, append-nil, bytes_eq, length, length-append, ◌+◌}
use Rattle.std.specs.Option.{option_or, option_and_then}
use Rattle.std.specs.List.{list_all}
use Rattle.std.proofs.lemmas.List.{append_cancel_right}
use Rattle.std.proofs.lemmas.Slice.Eq.{bytes_eq-Decides}
use Rattle.folder_spec.specs.Path.{Part, Path, child}
use Rattle.folder_spec.specs.View.{Found, NoEntry, Folder, FileOf, Special, View}
use Rattle.folder_spec.specs.Seen.{under}
use Rattle.folder_spec.specs.Edit.{Edit, edited, file_edit, file_view, folder_edit, folder_view}
use Rattle.vault_values.specs.declared.keys.GoKeys.{GoKeys}
use Rattle.json_fields.specs.Base64.{is_base64url}
use Rattle.plain_tree.specs.Names as plain
use Rattle.plain_tree.specs.Names.{is_name}
use Rattle.vault_names.specs.Gocryptfs.{go_text, long_name, entry_of, stored}
use Rattle.vault_names.specs.declared.entry.Stored.{Stored}
use Rattle.vault_spec.specs.StoredNames.{GoTexts}
use Rattle.vault_spec.specs.declared.Lack.TheVariants.{NoFolder}
use Rattle.vault_spec.specs.Format.{Directory, file_bytes, is_folder, taken_at, key_of}
use Rattle.vault_spec.specs.Gocryptfs.{key_file, full_name, directory_key, go_item, go_format, full_edits, full_edits_at, taken_unless, go_taken}
use Rattle.vault_spec.specs.Standing.{File, Dir, entry_at, is_file_of, holds, holds_full, standing_of, standing_in, directory_with}
use Rattle.vault_spec.specs.Opens.{Opened, opened_at, opened_file}
use Rattle.vault_spec.specs.Opens as opens
use Rattle.vault_spec.specs.Reached.{Leads}
use Rattle.vault_spec.specs.Alike.{HasNoItem, HasFolders, IsLeaf}
use Rattle.vault_spec.proofs.ByteKeys.{none_given}
use Rattle.vault_spec.proofs.Grafts.{reached_right, edited_adds, none_stands, standing_unnamed}
use Rattle.vault_spec.proofs.PathEnds.{child-both}
use Rattle.vault_spec.proofs.Lawful.{SparesConfiguration}
use Rattle.vault_spec.proofs.Places.{IsSide, brought, brought_there, arrived, IsNew, new_after_side, Arrives, SparesAll, leads_from_root, file_alone, file_folders, folder_folders}
use Rattle.vault_spec.proofs.MadeItems.{HasOwnFolder, IsLast, IsMade, MakesItems}
use Rattle.vault_spec.proofs.Entries.{differ, long_entry, IsShortOrLong, entry_is}
use Rattle.vault_spec.proofs.GoNames.{entry_not_key, entry_not_full, full_not_key}
use Rattle.vault_spec.proofs.GoVault.{go_lawful, is_go_key, key_is, text_plain, entry_spares_configuration}

-- a place in a reached folder spares what is there, where its name is neither a key file's nor that of the long-name file of what is there
go_spares : (texts : GoTexts) (keys : GoKeys) (v : View) (dir : Directory) (x : Part) → key_file ≢ x
    → ((path : plain.Path) (other : Directory) (name : List ℕ) → Leads (go_format keys) v path other → is_name name ≡ true → v (entry_at (go_format keys) other name) ≢ NoEntry
    → is_some (stored keys.names other.key name).full ≡ true → other.folder ≡ dir.folder → full_name (stored keys.names other.key name).name ≢ x)
    → SparesAll (go_format keys) (go_lawful texts keys) v (child dir.folder x)
unfolding go_lawful
go_spares texts keys v dir x not_key not_full = record {
  root = λ m is same. no_mark [] m is same;
  entries = λ path other name leads named there. record {
    marks = λ m is same. no_mark (entry_at (go_format keys) other name) m is same;
    full = λ long same.
        let both : (other.folder ≡ dir.folder) × (full_name (stored keys.names other.key name).name ≡ x)
        = child-both other.folder dir.folder (full_name (stored keys.names other.key name).name) x same in
        not_full path other name leads named there long both.0 both.1;
  };
}
  where
    no_mark : (up : Path) (m : Part) → bytes_eq m key_file ≡ true → child up m ≡ child dir.folder x → ⊥
    no_mark up m is same =
        let both : (up ≡ dir.folder) × (m ≡ x) = child-both up dir.folder m x same in
        not_key (sym ((bytes_eq-Decides m key_file).0 is) ∙ both.1)

-- what is stored of a name in a directory is of a text without dots
pub record IsOfText (s : Stored) : Type 0 where
  pub text : List ℕ
  pub plain : IsTrue (list_all is_base64url text)
  pub is : s ≡ entry_of text

pub text_under : (texts : GoTexts) (keys : GoKeys) (key name : List ℕ) → is_go_key key ≡ true → IsTrue (is_name name) → IsOfText (stored keys.names key name)
unfolding stored
text_under texts keys key name is named = record {
  text = go_text keys.names key name;
  plain = text_plain texts keys key name is named;
  is = refl;
}

pub of_text : (texts : GoTexts) (keys : GoKeys) (v : View) (path : plain.Path) (dir : Directory) (name : List ℕ) → Leads (go_format keys) v path dir → IsTrue (is_name name)
    → IsOfText (stored keys.names dir.key name)
unfolding go_lawful
of_text texts keys v path dir name leads named = text_under texts keys dir.key name (reached_right (go_format keys) (go_lawful texts keys) v path dir leads).is_key named

name_not_key : GoTexts → (s : Stored) → IsOfText s → key_file ≢ s.name
name_not_key texts s of same = entry_not_key of.text texts of.plain (ap (λ (t : Stored). t.name) (sym of.is) ∙ sym same)

-- the name of a long entry
pub long_is : (s : Stored) → IsOfText s → is_some s.full ≡ true → (text : List ℕ) × (s ≡ long_entry long_name text)
long_is s of long = by_form (entry_is long_name 255 of.text)
  where
    by_form : IsShortOrLong long_name 255 of.text → (text : List ℕ) × (s ≡ long_entry long_name text)
    by_form (inl short) = let none : is_some s.full ≡ false = ap (λ (t : Stored). is_some t.full) (of.is ∙ short) in cc
    by_form (inr is_long) = (of.text, of.is ∙ is_long)

pub name_not_full : GoTexts → (s other : Stored) → IsOfText s → IsOfText other → is_some other.full ≡ true → full_name other.name ≢ s.name
name_not_full texts s other of of_other long same =
    let is_long : (text : List ℕ) × (other ≡ long_entry long_name text) = long_is other of_other long in
    entry_not_full of.text is_long.0 texts of.plain
    (ap (λ (t : Stored). t.name) (sym of.is) ∙ sym same ∙ ap (λ (t : Stored). full_name t.name) is_long.1)

-- the place of an item's entry spares what is there
pub entry_spares : (texts : GoTexts) (keys : GoKeys) (u : View) (front : plain.Path) (dir : Directory) (name : List ℕ) (e : Edit) → IsNew (go_format keys) u front dir name e
    → SparesAll (go_format keys) (go_lawful texts keys) u e.at
entry_spares texts keys u front dir name e new =
    subst (SparesAll (go_format keys) (go_lawful texts keys) u) new.place
    (go_spares texts keys u dir (stored keys.names dir.key name).name (name_not_key texts (stored keys.names dir.key name) its_text) not_full)
  where
    its_text : IsOfText (stored keys.names dir.key name)
    its_text = of_text texts keys u front dir name new.leads new.named

    not_full : (path : plain.Path) (other : Directory) (n : List ℕ) → Leads (go_format keys) u path other → is_name n ≡ true → u (entry_at (go_format keys) other n) ≢ NoEntry
        → is_some (stored keys.names other.key n).full ≡ true → other.folder ≡ dir.folder → full_name (stored keys.names other.key n).name ≢ (stored keys.names dir.key name).name
    not_full path other n leads named there long folders =
        name_not_full texts (stored keys.names dir.key name) (stored keys.names other.key n) its_text (of_text texts keys u path other n leads named) long

-- the long-name file of an entry is no configuration
full_spares : GoTexts → (s : Stored) → IsOfText s → is_some s.full ≡ true → (at : Path) → SparesConfiguration (child at (full_name s.name))
full_spares texts s of long at = record {
  gocryptfs = λ same. not_short (codes "gocryptfs.conf") (λ size. cc) same;
  master = λ same. not_short (codes "masterkey.cryptomator") (λ size. cc) same;
  vault = λ same. not_short (codes "vault.cryptomator") (λ size. cc) same;
}
  where
    is_long : (text : List ℕ) × (s ≡ long_entry long_name text)
    is_long = long_is s of long

    size : length (full_name s.name) ≡ 67
    size = ap (λ (t : Stored). length (full_name t.name)) is_long.1 ∙ length-append (long_name is_long.0) (codes ".name") ∙ ap (λ n. n + 5) (texts.long_size is_long.0)

    not_short : (x : Part) → length x ≢ 67 → x ∷ [] ≢ child at (full_name s.name)
    not_short x short same = short (ap length (child-both [] at x (full_name s.name) same).1 ∙ size)

-- the place of an entry, and that of its long-name file
abbrev pub full_place : Directory → Stored → Path
full_place dir s = child dir.folder (full_name s.name)

-- the item arrives wherever its long-name file holds its text
abbrev pub ArrivesAnywhere : GoKeys → Directory → List ℕ → Edit → Opened → Type 0
ArrivesAnywhere keys dir name e item =
    (u : View) → holds_full (go_format keys) (edited u e) dir (stored keys.names dir.key name) ≡ true → Arrives (go_format keys) u dir name e item

-- a long-name file that holds its text does so once the entry comes
pub still_held : (keys : GoKeys) (v : View) (front : plain.Path) (dir : Directory) (name : List ℕ) (e : Edit) → IsNew (go_format keys) v front dir name e
    → holds_full (go_format keys) v dir (stored keys.names dir.key name) ≡ true → holds_full (go_format keys) (edited v e) dir (stored keys.names dir.key name) ≡ true
still_held keys v front dir name e new held = by_full (stored keys.names dir.key name).full held
  where
    by_full : (full : Option (List ℕ)) → holds v (full_place dir (stored keys.names dir.key name)) full ≡ true → holds (edited v e) (full_place dir (stored keys.names dir.key name)) full ≡ true
    by_full None held = refl
    by_full (Some text) held =
        ap (λ x. is_file_of text (file_bytes x)) (edited_adds v e new.rooted.folders (ap v (sym new.place) ∙ new.free) (full_place dir (stored keys.names dir.key name))
        (λ none. let no_file : is_file_of text (file_bytes NoEntry) ≡ true = ap (λ x. is_file_of text (file_bytes x)) (sym none) ∙ held in cc)) ∙ held

-- a file that is put there holds it
pub now_held : (keys : GoKeys) (v : View) (dir : Directory) (name text : List ℕ) (first : Edit) → (stored keys.names dir.key name).full ≡ Some text
    → first.at ≡ full_place dir (stored keys.names dir.key name) → first.made ≡ file_view text → holds_full (go_format keys) (edited v first) dir (stored keys.names dir.key name) ≡ true
now_held keys v dir name text first is place brings =
    ap (holds (edited v first) (full_place dir (stored keys.names dir.key name))) is
    ∙ ap (λ x. is_file_of text (file_bytes x)) (ap (edited v first) (sym place) ∙ brought_there v first ∙ ap (λ (m : View). m []) brings)
    ∙ (bytes_eq-Decides text text).1 refl

-- its text comes beside the entry, and tells nothing of what is there
pub full_side : (texts : GoTexts) (keys : GoKeys) (v : View) (front : plain.Path) (dir : Directory) (name : List ℕ) (e : Edit) (text : List ℕ)
    → IsNew (go_format keys) v front dir name e → (stored keys.names dir.key name).full ≡ Some text → v (full_place dir (stored keys.names dir.key name)) ≡ NoEntry
    → IsSide (go_format keys) (go_lawful texts keys) v (file_edit (full_place dir (stored keys.names dir.key name)) text)
full_side texts keys v front dir name e text new is full_free = record {
  rooted = new.rooted;
  free = full_free;
  spares = go_spares texts keys v dir (full_name (stored keys.names dir.key name).name) not_key not_full;
  no_entry = no_entry;
  up = dir.folder;
  last = full_name (stored keys.names dir.key name).name;
  place = refl;
  up_there = (reached_right (go_format keys) (go_lawful texts keys) v front dir new.leads).there;
  alone = file_alone text;
  no_configuration = full_spares texts (stored keys.names dir.key name) its_text long dir.folder;
}
  where
    its_text : IsOfText (stored keys.names dir.key name)
    its_text = of_text texts keys v front dir name new.leads new.named

    long : is_some (stored keys.names dir.key name).full ≡ true
    long = ap is_some is

    not_key : key_file ≢ full_name (stored keys.names dir.key name).name
    not_key same =
        let is_long : (t : List ℕ) × (stored keys.names dir.key name ≡ long_entry long_name t) = long_is (stored keys.names dir.key name) its_text long in
        full_not_key is_long.0 texts (ap (λ (s : Stored). full_name s.name) (sym is_long.1) ∙ sym same)

    not_full : (path : plain.Path) (other : Directory) (n : List ℕ) → Leads (go_format keys) v path other → is_name n ≡ true → v (entry_at (go_format keys) other n) ≢ NoEntry
        → is_some (stored keys.names other.key n).full ≡ true → other.folder ≡ dir.folder → full_name (stored keys.names other.key n).name ≢ full_name (stored keys.names dir.key name).name
    not_full path other n leads named there _ folders same =
        let names : (stored keys.names other.key n).name ≡ (stored keys.names dir.key name).name
        = append_cancel_right (stored keys.names other.key n).name (stored keys.names dir.key name).name (codes ".name") same in
        there (ap v (ap (λ p. child p (stored keys.names other.key n).name) folders ∙ ap (child dir.folder) names) ∙ new.free)

    no_entry : (path : plain.Path) (other : Directory) (n : List ℕ) → Leads (go_format keys) v path other → is_name n ≡ true
        → entry_at (go_format keys) other n ≢ full_place dir (stored keys.names dir.key name)
    no_entry path other n leads named same =
        let both : (other.folder ≡ dir.folder) × ((stored keys.names other.key n).name ≡ full_name (stored keys.names dir.key name).name)
        = child-both other.folder dir.folder (stored keys.names other.key n).name (full_name (stored keys.names dir.key name).name) same in
        name_not_full texts (stored keys.names other.key n) (stored keys.names dir.key name) (of_text texts keys v path other n leads named) its_text long (sym both.1)

-- where no place is taken, the entry is free, and beside it is nothing or the text
go_free : (v : View) (dir : Directory) (s : Stored) → go_taken v dir s ≡ None
    → (v (child dir.folder s.name) ≡ NoEntry) × (taken_unless (full_place dir s) (v (full_place dir s)) s.full ≡ None)
go_free v dir s none = by_entry (v (child dir.folder s.name)) refl none
  where
    by_entry : (x : Found) → v (child dir.folder s.name) ≡ x → option_or (taken_at (child dir.folder s.name) x) (taken_unless (full_place dir s) (v (full_place dir s)) s.full) ≡ None
        → (v (child dir.folder s.name) ≡ NoEntry) × (taken_unless (full_place dir s) (v (full_place dir s)) s.full ≡ None)
    by_entry NoEntry is none = (is, none)
    by_entry Folder is none = cc
    by_entry (FileOf bytes) is none = cc
    by_entry Special is none = cc

-- the edits of a new item, by whether the long-name file is there or comes first
pub by_edits : (keys : GoKeys) (v : View) (dir : Directory) (name : List ℕ) (e : Edit) (Holds : List Edit → Type 0) → go_taken v dir (stored keys.names dir.key name) ≡ None
    → (holds_full (go_format keys) v dir (stored keys.names dir.key name) ≡ true → Holds (e ∷ []))
    → ((text : List ℕ) → (stored keys.names dir.key name).full ≡ Some text → v (full_place dir (stored keys.names dir.key name)) ≡ NoEntry
    → Holds (file_edit (full_place dir (stored keys.names dir.key name)) text ∷ e ∷ []))
    → Holds (full_edits v dir (stored keys.names dir.key name) ++ e ∷ [])
by_edits keys v dir name e Holds none at_once in_turn =
    by_full (stored keys.names dir.key name).full refl (v (full_place dir (stored keys.names dir.key name))) refl (go_free v dir (stored keys.names dir.key name) none).1
  where
    by_full : (full : Option (List ℕ)) → (stored keys.names dir.key name).full ≡ full → (x : Found) → v (full_place dir (stored keys.names dir.key name)) ≡ x
        → taken_unless (full_place dir (stored keys.names dir.key name)) x full ≡ None → Holds (full_edits_at (full_place dir (stored keys.names dir.key name)) x full ++ e ∷ [])
    by_full None is x there none = at_once (ap (holds v (full_place dir (stored keys.names dir.key name))) is)
    by_full (Some text) is NoEntry there none = in_turn text is there
    by_full (Some text) is (FileOf bytes) there none =
        at_once (ap (holds v (full_place dir (stored keys.names dir.key name))) is ∙ ap (λ y. is_file_of text (file_bytes y)) there
        ∙ none_given (bytes_eq bytes text) (full_place dir (stored keys.names dir.key name)) none)
    by_full (Some text) is Folder there none = cc
    by_full (Some text) is Special there none = cc

pub is_new : (texts : GoTexts) (keys : GoKeys) (v : View) (front : plain.Path) (dir : Directory) (name : List ℕ) (e : Edit) → HasFolders v → Leads (go_format keys) v front dir → IsTrue (is_name name)
    → entry_at (go_format keys) dir name ≡ e.at → go_taken v dir (stored keys.names dir.key name) ≡ None → IsNew (go_format keys) v front dir name e
is_new texts keys v front dir name e folders leads named place none = record {
  rooted = leads_from_root (go_format keys) (go_lawful texts keys) v folders front dir leads;
  leads = leads;
  named = named;
  place = place;
  free = (go_free v dir (stored keys.names dir.key name) none).0;
}

-- what its last edit brings, wherever its long-name file holds its text
record ComesAnywhere (keys : GoKeys) (first : View) (dir : Directory) (name : List ℕ) (item : Opened) (e : Edit) : Type 0 where
  place : entry_at (go_format keys) dir name ≡ e.at
  made : HasFolders e.made
  arrives : ArrivesAnywhere keys dir name e item
  own : (u : View) → holds_full (go_format keys) (edited u e) dir (stored keys.names dir.key name) ≡ true → HasOwnFolder (go_format keys) first (standing_in (go_format keys) (edited u e) dir name)

comes_at_end : (texts : GoTexts) (keys : GoKeys) (first u : View) (front : plain.Path) (dir : Directory) (name : List ℕ) (item : Opened) (e : Edit)
    → IsNew (go_format keys) u front dir name e → ComesAnywhere keys first dir name item e → holds_full (go_format keys) u dir (stored keys.names dir.key name) ≡ true
    → IsLast (go_format keys) (go_lawful texts keys) first u front dir name item e
comes_at_end texts keys first u front dir name item e new comes held = record {
  new = new;
  spares = entry_spares texts keys u front dir name e new;
  arrives = comes.arrives u (still_held keys u front dir name e new held);
  made = comes.made;
  own = comes.own u (still_held keys u front dir name e new held);
  no_configuration = subst SparesConfiguration new.place
      (ap_stored (entry_spares_configuration texts dir.folder its_text.text its_text.plain));
}
  where
    its_text : IsOfText (stored keys.names dir.key name)
    its_text = of_text texts keys u front dir name new.leads new.named

    ap_stored : SparesConfiguration (child dir.folder (entry_of its_text.text).name) → SparesConfiguration (entry_at (go_format keys) dir name)
    ap_stored = subst (λ (s : Stored). SparesConfiguration (child dir.folder s.name)) (sym its_text.is)

-- an item is made by its entry, or by its long name's text and then its entry
new_made : (texts : GoTexts) (keys : GoKeys) (v : View) (front : plain.Path) (dir : Directory) (name : List ℕ) (item : Opened) (e : Edit)
    → HasFolders v → Leads (go_format keys) v front dir → IsTrue (is_name name) → ComesAnywhere keys v dir name item e → go_taken v dir (stored keys.names dir.key name) ≡ None
    → IsMade (go_format keys) (go_lawful texts keys) v v front dir name item (full_edits v dir (stored keys.names dir.key name) ++ e ∷ [])
new_made texts keys v front dir name item e folders leads named comes none =
    by_edits keys v dir name e (IsMade (go_format keys) (go_lawful texts keys) v v front dir name item) none
    (comes_at_end texts keys v v front dir name item e new comes)
    (λ text is free. (
      full_side texts keys v front dir name e text new is free,
      comes_at_end texts keys v (edited v (file_edit (full_place dir (stored keys.names dir.key name)) text)) front dir name item e
          (new_after_side (go_format keys) (go_lawful texts keys) v (file_edit (full_place dir (stored keys.names dir.key name)) text) front dir name e (full_side texts keys v front dir name e text new is free) new)
          comes (now_held keys v dir name text (file_edit (full_place dir (stored keys.names dir.key name)) text) is refl refl),
    ))
  where
    new : IsNew (go_format keys) v front dir name e
    new = is_new texts keys v front dir name e folders leads named comes.place none

-- a file arrives
pub file_stands : (keys : GoKeys) (u : View) (dir : Directory) (name bytes : List ℕ) (e : Edit) → IsTrue (is_name name) → e.at ≡ entry_at (go_format keys) dir name → e.made ≡ file_view bytes
    → holds_full (go_format keys) (edited u e) dir (stored keys.names dir.key name) ≡ true → standing_in (go_format keys) (edited u e) dir name ≡ File (e.at ++ [])
file_stands keys u dir name bytes e named place made held =
    arrived (go_format keys) u dir name e named place held ∙ ap (λ (m : View). standing_of (go_format keys) (edited u e) e.at true (go_item (m []))) made

pub file_arrives : (keys : GoKeys) (u : View) (dir : Directory) (name bytes : List ℕ) (e : Edit) → IsTrue (is_name name) → e.at ≡ entry_at (go_format keys) dir name → e.made ≡ file_view bytes
    → holds_full (go_format keys) (edited u e) dir (stored keys.names dir.key name) ≡ true
    → Arrives (go_format keys) u dir name e (opened_file (go_format keys).content (Some bytes))
file_arrives keys u dir name bytes e named place made held = record {
  full = held;
  leaf = subst (IsLeaf (go_format keys) (edited u e)) (sym (file_stands keys u dir name bytes e named place made held)) (record {});
  opens = ap (opened_at (go_format keys) (edited u e)) (file_stands keys u dir name bytes e named place made held)
      ∙ ap (λ x. opened_file (go_format keys).content (file_bytes x)) (brought u e [] ∙ ap (λ (m : View). m []) made);
}

-- a directory with its key arrives
pub brought_here : (u : View) (e : Edit) (key : List ℕ) → e.made ≡ folder_view ((key_file, key) ∷ []) → (rest : Path) → edited u e (e.at ++ rest) ≡ folder_view ((key_file, key) ∷ []) rest
brought_here u e key made rest = brought u e rest ∙ ap (λ (m : View). m rest) made

pub directory_stands : (keys : GoKeys) (u : View) (dir : Directory) (name key : List ℕ) (e : Edit) → IsTrue (is_name name) → e.at ≡ entry_at (go_format keys) dir name
    → e.made ≡ folder_view ((key_file, key) ∷ []) → directory_key key ≡ Some key
    → holds_full (go_format keys) (edited u e) dir (stored keys.names dir.key name) ≡ true
    → standing_in (go_format keys) (edited u e) dir name ≡ Dir e.at (Ok (record { folder = e.at; key = key }))
directory_stands keys u dir name key e named place made is_key held =
    arrived (go_format keys) u dir name e named place held
    ∙ ap (λ (m : View). standing_of (go_format keys) (edited u e) e.at true (go_item (m []))) made
    ∙ ap (λ k. Dir e.at (directory_with (go_format keys) (edited u e) e.at k)) key_there
    ∙ ap (λ x. Dir e.at (cond (is_folder x) (Ok (record { folder = e.at; key = key })) (Err NoFolder))) folder_there
  where
    key_there : key_of (go_format keys) (under e.at (edited u e)) ≡ Some key
    key_there =
        ap (λ x. option_and_then directory_key (file_bytes x)) (brought_here u e key made (key_file ∷ []))
        ∙ ap (λ b. option_and_then directory_key (file_bytes (cond b (FileOf key) NoEntry))) ((bytes_eq-Decides key_file key_file).1 refl) ∙ is_key

    folder_there : edited u e e.at ≡ Folder
    folder_there = ap (edited u e) (sym (append-nil e.at)) ∙ brought_here u e key made []

-- no name's entry is there
pub no_entries : (texts : GoTexts) (keys : GoKeys) (u : View) (key : List ℕ) (e : Edit) → e.made ≡ folder_view ((key_file, key) ∷ []) → directory_key key ≡ Some key
    → (n : List ℕ) → IsTrue (is_name n) → edited u e (entry_at (go_format keys) (record { folder = e.at; key = key }) n) ≡ NoEntry
no_entries texts keys u key e made is_key n named =
    brought_here u e key made ((stored keys.names key n).name ∷ [])
    ∙ ap (λ b. cond b (FileOf key) NoEntry) (differ key_file (stored keys.names key n).name
    (name_not_key texts (stored keys.names key n) (text_under texts keys key n (key_is (Some key) key is_key) named)))

pub directory_arrives : (texts : GoTexts) (keys : GoKeys) (u : View) (dir : Directory) (name key : List ℕ) (e : Edit) → IsTrue (is_name name) → e.at ≡ entry_at (go_format keys) dir name
    → e.made ≡ folder_view ((key_file, key) ∷ []) → directory_key key ≡ Some key
    → holds_full (go_format keys) (edited u e) dir (stored keys.names dir.key name) ≡ true
    → Arrives (go_format keys) u dir name e opens.Directory
directory_arrives texts keys u dir name key e named place made is_key held = record {
  full = held;
  leaf = subst (IsLeaf (go_format keys) (edited u e)) (sym (directory_stands keys u dir name key e named place made is_key held)) empty;
  opens = ap (opened_at (go_format keys) (edited u e)) (directory_stands keys u dir name key e named place made is_key held);
}
  where
    empty : (n : List ℕ) → HasNoItem (standing_in (go_format keys) (edited u e) (record { folder = e.at; key = key }) n)
    empty n = by_name (is_name n) refl
      where
        by_name : (b : Bool) → is_name n ≡ b → HasNoItem (standing_in (go_format keys) (edited u e) (record { folder = e.at; key = key }) n)
        by_name false is = subst HasNoItem (sym (standing_unnamed (go_format keys) (edited u e) (record { folder = e.at; key = key }) n is)) (record {})
        by_name true is = none_stands (go_format keys) (go_lawful texts keys) (edited u e) (record { folder = e.at; key = key }) n (no_entries texts keys u key e made is_key n is)

-- a new file is made so, and so is a new directory
file_made : (texts : GoTexts) (keys : GoKeys) (v : View) (front : plain.Path) (dir : Directory) (name bytes : List ℕ)
    → HasFolders v → Leads (go_format keys) v front dir → IsTrue (is_name name) → go_taken v dir (stored keys.names dir.key name) ≡ None
    → IsMade (go_format keys) (go_lawful texts keys) v v front dir name (opened_file (go_format keys).content (Some bytes)) ((go_format keys).new_file v dir (stored keys.names dir.key name) bytes)
file_made texts keys v front dir name bytes folders leads named none =
    new_made texts keys v front dir name (opened_file (go_format keys).content (Some bytes)) (file_edit (entry_at (go_format keys) dir name) bytes) folders leads named (record {
      place = refl;
      made = file_folders bytes;
      arrives = λ u held. file_arrives keys u dir name bytes (file_edit (entry_at (go_format keys) dir name) bytes) named refl refl held;
      own = λ u held. subst (HasOwnFolder (go_format keys) v) (sym (file_stands keys u dir name bytes (file_edit (entry_at (go_format keys) dir name) bytes) named refl refl held)) (record {});
    }) none

directory_made : (texts : GoTexts) (keys : GoKeys) (v : View) (front : plain.Path) (dir : Directory) (name key : List ℕ)
    → HasFolders v → Leads (go_format keys) v front dir → IsTrue (is_name name) → directory_key key ≡ Some key → go_taken v dir (stored keys.names dir.key name) ≡ None
    → IsMade (go_format keys) (go_lawful texts keys) v v front dir name opens.Directory ((go_format keys).new_directory v dir (stored keys.names dir.key name) key)
directory_made texts keys v front dir name key folders leads named is_key none =
    new_made texts keys v front dir name opens.Directory (folder_edit (entry_at (go_format keys) dir name) ((key_file, key) ∷ [])) folders leads named (record {
      place = refl;
      made = folder_folders ((key_file, key) ∷ []);
      arrives = λ u held. directory_arrives texts keys u dir name key (folder_edit (entry_at (go_format keys) dir name) ((key_file, key) ∷ [])) named refl refl is_key held;
      own = λ u held. subst (HasOwnFolder (go_format keys) v) (sym (directory_stands keys u dir name key (folder_edit (entry_at (go_format keys) dir name) ((key_file, key) ∷ [])) named refl refl is_key held)) own;
    }) none
  where
    own : (path : plain.Path) (other : Directory) → Leads (go_format keys) v path other → entry_at (go_format keys) dir name ≢ other.folder
    own path other leads_too same =
        let there : v other.folder ≡ Folder = (reached_right (go_format keys) (go_lawful texts keys) v path other leads_too).there in
        let clash : Folder ≡ NoEntry = sym there ∙ ap v (sym same) ∙ (go_free v dir (stored keys.names dir.key name) none).0 in
        cc

pub go_makes : (texts : GoTexts) (keys : GoKeys) → MakesItems (go_format keys) (go_lawful texts keys)
go_makes texts keys = record { file = file_made texts keys; directory = directory_made texts keys }
