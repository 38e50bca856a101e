-- A clean vault stays clean where something comes to stand at a free place, from a few facts on that.
use Rattle.std.proofs.Common.{◌≡◌, ◌≢◌, ◌⊎◌, ℕ, Bool, true, false, List, [], ◌∷◌, ◌++◌, Ok, Err, Result, refl, sym, ap, ◌∙◌, inl, inr, subst, append-nil, Some, None, Option, IsTrue, is_some}
use Rattle.folder_spec.specs.Path.{Part, Path, child}
use Rattle.folder_spec.specs.View.{Found, NoEntry, Folder, FileOf, View}
use Rattle.folder_spec.specs.Seen.{under, ShowsFile}
use Rattle.folder_spec.specs.Edit.{Edit, edited}
use Rattle.folder_spec.proofs.Edits.{off_edit}
use Rattle.folder_spec.proofs.Paths.{begins_or_not, child_begins}
use Rattle.plain_tree.specs.Names as plain
use Rattle.plain_tree.specs.Names.{is_name}
use Rattle.vault_spec.specs.declared.Finding.{Finding}
use Rattle.vault_spec.specs.declared.Lack.{Lack}
use Rattle.vault_spec.specs.declared.Lack.TheVariants as lacks
use Rattle.vault_spec.specs.declared.Finding.TheVariants as is
use Rattle.vault_spec.specs.Format.{Format, Directory, Item, Nothing, NoItem, Expected, ContentFolder, Extra, file_bytes, key_of}
use Rattle.vault_spec.specs.Standing.{Dir, root_of, directory_with, entry_at, is_file_of, holds, holds_full, item_at, standing_in}
use Rattle.vault_spec.specs.Reached.{Leads}
use Rattle.vault_spec.specs.Findings.{IsEntryOf, Belongs, IsUnnamed, IsDirectoryItem, IsLocked, IsFullTextOf, IsOrphanName, IsTwice, IsFixed, IsOrphanFolder, IsInside, IsExtra, IsFinding, IsClean}
use Rattle.vault_spec.specs.Findings as findings
use Rattle.vault_spec.specs.Alike.{HasNoItem, IsOrderly}
use Rattle.vault_spec.specs.Adding.{StaysClean, NewItemsStayClean}
use Rattle.vault_spec.proofs.Lawful.{IsLawful}
use Rattle.vault_spec.proofs.Grafts.{reached_right, nothing_below, edited_adds, none_stands, EntryStays, entry_stays, IsEntered, is_entered}
use Rattle.vault_spec.proofs.Places.{SparesAll, none_or_there}
use Rattle.vault_spec.proofs.Clean.{StandsAs, stands_as}

-- a directory whose folder holds nothing but what belongs there
pub record IsBare (f : Format) (w : View) (dir : Directory) : Type 0 where
  pub entries : (name : List ℕ) → is_name name ≡ true → w (entry_at f dir name) ≡ NoEntry
  pub others : (x : Part) → w (child dir.folder x) ≢ NoEntry → Belongs f w dir x × (f.is_full x ≡ false)

-- What comes to stand in a folder of entries belongs there, with a right text where it is a long-name file, or is the entry of a name.
pub record IsSideFile (f : Format) (w : View) (dir : Directory) (x : Part) : Type 0 where
  pub belongs : Belongs f w dir x
  pub right : f.is_full x ≡ true → (entry : Part) × IsFullTextOf f w dir x entry

pub record IsNewEntry (f : Format) (w : View) (dir : Directory) (x : Part) : Type 0 where
  pub name : List ℕ
  pub of : IsEntryOf f w dir x name
  pub not_full : f.is_full x ≡ false

-- an entry that is an item, and holds nothing that has no place in it
pub record IsWhole (f : Format) (w : View) (dir : Directory) (name : List ℕ) : Type 0 where
  pub is_item : (finding : Finding) → item_at f w dir (f.stored dir.key name) ≢ NoItem finding
  pub inside : (x : Part) → f.inner_role (is_some (f.stored dir.key name).full) (item_at f w dir (f.stored dir.key name)) x (w (child (entry_at f dir name) x)) ≢ Extra

-- no directory that stands in a reached one has this folder
abbrev pub IsApart : Format → View → Path → Type 0
IsApart f v folder = (path : plain.Path) (dir : Directory) (name : List ℕ) (at : Path) (d : Directory) → Leads f v path dir → standing_in f v dir name ≡ Dir at (Ok d) → folder ≢ d.folder

-- What an edit brings outside of the folders of entries has its place, and so has what it brings beside an entry.
pub record HasPlace (f : Format) (v : View) (e : Edit) : Type 0 where
  pub inner : (path : plain.Path) (dir : Directory) (name : List ℕ) (x : Part) → Leads f v path dir → child (entry_at f dir name) x ≡ e.at
      → (long : Bool) (item : Item) (there : Found) → f.inner_role long item x there ≢ Extra
  pub role : (rest : Path) → f.role (e.at ++ rest) (edited v e (e.at ++ rest)) ≢ Extra
  pub empty : (rest : Path) (x : Part) → f.role (e.at ++ rest) (edited v e (e.at ++ rest)) ≡ ContentFolder → edited v e (child (e.at ++ rest) x) ≡ NoEntry
  pub alone : (rest : Path) → f.role (e.at ++ rest) (edited v e (e.at ++ rest)) ≡ ContentFolder → rest ≡ []
  pub folder : (at : Path) (x : Part) → f.role at (v at) ≡ ContentFolder → child at x ≡ e.at → (path : plain.Path) × (dir : Directory) × Leads f v path dir × (dir.folder ≡ at)

-- What has to be known of an edit at a free place of an orderly vault.
pub record KeepsClean (f : Format) (lawful : IsLawful f) (v : View) (e : Edit) : Type 0 where
  pub orderly : IsOrderly f v
  pub free : v e.at ≡ NoEntry
  pub spares : SparesAll f lawful v e.at
  pub root : root_of f v ≡ root_of f (edited v e)
  pub on : (path : plain.Path) (dir : Directory) → Leads f v path dir → Leads f (edited v e) path dir
  pub back : (path : plain.Path) (dir : Directory) → Leads f (edited v e) path dir → Leads f v path dir ⊎ IsBare f (edited v e) dir
  pub placed : (path : plain.Path) (dir : Directory) (x : Part) → Leads f v path dir → child dir.folder x ≡ e.at → IsSideFile f (edited v e) dir x ⊎ IsNewEntry f (edited v e) dir x
  pub whole : (path : plain.Path) (dir : Directory) (name : List ℕ) → Leads f v path dir → is_name name ≡ true → entry_at f dir name ≡ e.at
      → holds_full f (edited v e) dir (f.stored dir.key name) ≡ true → IsWhole f (edited v e) dir name
  pub unlocked : (path : plain.Path) (dir : Directory) (name : List ℕ) (at : Path) (lack : Lack) → Leads f v path dir → standing_in f (edited v e) dir name ≢ Dir at (Err lack)
  pub stands : (path : plain.Path) (dir : Directory) (name : List ℕ) (at : Path) (d : Directory) → Leads f v path dir → standing_in f (edited v e) dir name ≡ Dir at (Ok d)
      → (standing_in f v dir name ≡ Dir at (Ok d)) ⊎ ((at ≡ e.at) × IsApart f v d.folder)
  pub has : HasPlace f v e

-- what is there was there, or is at the place or below it
pub was : (v : View) (e : Edit) (q : Path) → edited v e q ≢ NoEntry → (v q ≢ NoEntry) ⊎ ((rest : Path) × (q ≡ e.at ++ rest))
was v e q there = elim (begins_or_not e.at q) [
  | inl k ↦ inr k
  | inr none ↦ inl (λ z. there (off_edit v e q none ∙ z))
]

-- below what is there, what is there was there or is at the place
pub was_below : (f : Format) (lawful : IsLawful f) (v : View) (e : Edit) → KeepsClean f lawful v e → (up : Path) (x : Part) → v up ≢ NoEntry → edited v e (child up x) ≢ NoEntry
    → (v (child up x) ≢ NoEntry) ⊎ (child up x ≡ e.at)
was_below f lawful v e keeps up x above there = elim (was v e (child up x) there) [
  | inl old ↦ inl old
  | inr new ↦ elim (child_begins e.at up x new.0 new.1) [
    | inl same ↦ inr same
    | inr k ↦ absurd (above (ap v k.1 ∙ nothing_below v keeps.orderly.folders e.at k.0 keeps.free))
  ]
]

pub stays : (f : Format) (lawful : IsLawful f) (v : View) (e : Edit) → KeepsClean f lawful v e → (q : Path) → v q ≢ NoEntry → edited v e q ≡ v q
stays f lawful v e keeps = edited_adds v e keeps.orderly.folders keeps.free

pub folder_stands : (f : Format) (lawful : IsLawful f) (v : View) (path : plain.Path) (dir : Directory) → Leads f v path dir → v dir.folder ≢ NoEntry
folder_stands f lawful v path dir leads none = let there : v dir.folder ≡ Folder = (reached_right f lawful v path dir leads).there in cc

-- files stay, and with them what belongs and what is an entry of a name
file_on : (f : Format) (lawful : IsLawful f) (v : View) (e : Edit) → KeepsClean f lawful v e → (q : Path) → ShowsFile v q → ShowsFile (edited v e) q
file_on f lawful v e keeps q file = (file.0, stays f lawful v e keeps q (λ none. let clash : FileOf file.0 ≡ NoEntry = sym file.1 ∙ none in cc) ∙ file.1)

belongs_on : (f : Format) (lawful : IsLawful f) (v : View) (e : Edit) → KeepsClean f lawful v e → (dir : Directory) (x : Part) → Belongs f v dir x → Belongs f (edited v e) dir x
belongs_on f lawful v e keeps dir x b = record { file = file_on f lawful v e keeps (child dir.folder x) b.file; name = b.name }

holds_on : (f : Format) (lawful : IsLawful f) (v : View) (e : Edit) → KeepsClean f lawful v e → (at : Path) (full : Option (List ℕ)) → holds v at full ≡ true → holds (edited v e) at full ≡ true
holds_on f lawful v e keeps at None held = refl
holds_on f lawful v e keeps at (Some text) held =
    ap (λ x. is_file_of text (file_bytes x)) (stays f lawful v e keeps at
    (λ none. let no_file : is_file_of text (file_bytes NoEntry) ≡ true = ap (λ x. is_file_of text (file_bytes x)) (sym none) ∙ held in cc)) ∙ held

entry_on : (f : Format) (lawful : IsLawful f) (v : View) (e : Edit) → KeepsClean f lawful v e → (dir : Directory) (x : Part) (name : List ℕ) → IsEntryOf f v dir x name → IsEntryOf f (edited v e) dir x name
entry_on f lawful v e keeps dir x name of = record {
  named = of.named;
  stores = of.stores;
  full = holds_on f lawful v e keeps (dir.folder ++ f.full_at (f.stored dir.key name).name) (f.stored dir.key name).full of.full;
}

text_on : (f : Format) (lawful : IsLawful f) (v : View) (e : Edit) → KeepsClean f lawful v e → (dir : Directory) (file entry : Part) → IsFullTextOf f v dir file entry → IsFullTextOf f (edited v e) dir file entry
text_on f lawful v e keeps dir file entry text = record {
  name = text.name;
  of = entry_on f lawful v e keeps dir entry text.name text.of;
  long = text.long;
  beside = text.beside;
}

-- an entry of no name was one
unnamed_back : (f : Format) (lawful : IsLawful f) (v : View) (e : Edit) → KeepsClean f lawful v e → (finding : Finding) (at : Path) → IsUnnamed f (edited v e) finding at → IsUnnamed f v finding at
unnamed_back f lawful v e keeps finding at u = elim (keeps.back u.reached.0 u.dir u.reached.1) [
  | inr bare ↦ absurd (u.stray (bare.others u.entry (λ none. u.there (ap (edited v e) u.place ∙ none))).0)
  | inl leads ↦ elim (was_below f lawful v e keeps u.dir.folder u.entry (folder_stands f lawful v u.reached.0 u.dir leads) (λ none. u.there (ap (edited v e) u.place ∙ none))) [
    | inl old ↦ record {
      dir = u.dir;
      entry = u.entry;
      reached = (u.reached.0, leads);
      place = u.place;
      there = λ none. old (ap v (sym u.place) ∙ none);
      stray = λ b. u.stray (belongs_on f lawful v e keeps u.dir u.entry b);
      unnamed = λ name of. u.unnamed name (entry_on f lawful v e keeps u.dir u.entry name of);
      is = u.is ∙ ap (f.unnamed u.entry) (stays f lawful v e keeps at (λ none. old (ap v (sym u.place) ∙ none)));
    }
    | inr here ↦ elim (keeps.placed u.reached.0 u.dir u.entry leads here) [
      | inl side ↦ absurd (u.stray side.belongs)
      | inr new ↦ absurd (u.unnamed new.name new.of)
    ]
  ]
]

-- where nothing stands at an entry there is no item
pub nothing_at : (f : Format) → IsLawful f → (w : View) (dir : Directory) (name : List ℕ) → w (entry_at f dir name) ≡ NoEntry → item_at f w dir (f.stored dir.key name) ≡ Nothing
nothing_at f lawful w dir name none = lawful.none (is_some (f.stored dir.key name).full) (under (entry_at f dir name) w) (ap w (append-nil (entry_at f dir name)) ∙ none)

-- an entry that was there is as it was
entry_was : (f : Format) (lawful : IsLawful f) (v : View) (e : Edit) → KeepsClean f lawful v e → (path : plain.Path) (dir : Directory) (name : List ℕ) → Leads f v path dir → IsTrue (is_name name)
    → v (entry_at f dir name) ≢ NoEntry → EntryStays f v (edited v e) dir (f.stored dir.key name)
entry_was f lawful v e keeps path dir name leads named old =
    entry_stays f lawful v e path dir name keeps.orderly.folders keeps.free leads old (keeps.spares.entries path dir name leads named old)

-- what was no item was none
no_item_back : (f : Format) (lawful : IsLawful f) (v : View) (e : Edit) → KeepsClean f lawful v e → (finding : Finding) (at : Path) → findings.IsNoItem f (edited v e) finding at → findings.IsNoItem f v finding at
no_item_back f lawful v e keeps finding at u = elim (none_or_there (edited v e (entry_at f u.dir u.name))) [
  | inl none ↦ let clash : Nothing ≡ NoItem finding = sym (nothing_at f lawful (edited v e) u.dir u.name none) ∙ u.is in cc
  | inr there ↦ elim (keeps.back u.reached.0 u.dir u.reached.1) [
    | inr bare ↦ absurd (there (bare.entries u.name u.of.named))
    | inl leads ↦ elim (was_below f lawful v e keeps u.dir.folder (f.stored u.dir.key u.name).name (folder_stands f lawful v u.reached.0 u.dir leads) there) [
      | inl old ↦
          let as_was : EntryStays f v (edited v e) u.dir (f.stored u.dir.key u.name) = entry_was f lawful v e keeps u.reached.0 u.dir u.name leads u.of.named old in
          record {
            dir = u.dir;
            name = u.name;
            reached = (u.reached.0, leads);
            of = record { named = u.of.named; stores = u.of.stores; full = as_was.full ∙ u.of.full };
            place = u.place;
            is = as_was.item ∙ u.is;
          }
      | inr here ↦ absurd ((keeps.whole u.reached.0 u.dir u.name leads u.of.named here u.of.full).is_item finding u.is)
    ]
  ]
]

-- each directory that stands is entered, and stood so or stands at the place
record StandsOn (f : Format) (v : View) (e : Edit) (at : Path) (x : Result Directory Lack) : Type 0 where
  d : Directory
  entered : x ≡ Ok d
  its : IsEntered f (edited v e) at (key_of f (under at (edited v e))) d
  before : (IsDirectoryItem f v at (Ok d) × (key_of f (under at v) ≡ Some d.key)) ⊎ ((at ≡ e.at) × IsApart f v d.folder)

stands_on_as : (f : Format) (lawful : IsLawful f) (v : View) (e : Edit) → KeepsClean f lawful v e → (at : Path) (x : Result Directory Lack) → IsDirectoryItem f (edited v e) at x → StandsOn f v e at x
stands_on_as f lawful v e keeps at (Err lack) item = elim (keeps.back item.reached.0 item.dir item.reached.1) [
  | inr bare ↦ absurd (subst HasNoItem item.stands (none_stands f lawful (edited v e) item.dir item.name (bare.entries item.name (stands_as f (edited v e) item.dir item.name at (Err lack) item.stands).named)))
  | inl leads ↦ absurd (keeps.unlocked item.reached.0 item.dir item.name at lack leads item.stands)
]
stands_on_as f lawful v e keeps at (Ok d) item = elim (keeps.back item.reached.0 item.dir item.reached.1) [
  | inr bare ↦ absurd (subst HasNoItem item.stands (none_stands f lawful (edited v e) item.dir item.name (bare.entries item.name (stands_as f (edited v e) item.dir item.name at (Ok d) item.stands).named)))
  | inl leads ↦ record {
    d = d;
    entered = refl;
    its = is_entered f (edited v e) at (key_of f (under at (edited v e))) d
        (ap (λ p. directory_with f (edited v e) p (key_of f (under p (edited v e)))) how.place ∙ how.entered);
    before = elim (keeps.stands item.reached.0 item.dir item.name at d leads item.stands) [
      | inr new ↦ inr new
      | inl old ↦ inl (record { dir = item.dir; name = item.name; reached = (item.reached.0, leads); stands = old }, old_key (stands_as f v item.dir item.name at (Ok d) old))
    ];
  }
]
  where
    how : StandsAs f (edited v e) item.dir item.name at (Ok d)
    how = stands_as f (edited v e) item.dir item.name at (Ok d) item.stands

    old_key : StandsAs f v item.dir item.name at (Ok d) → key_of f (under at v) ≡ Some d.key
    old_key was_so = (is_entered f v at (key_of f (under at v)) d (ap (λ p. directory_with f v p (key_of f (under p v))) was_so.place ∙ was_so.entered)).its_key

-- a directory without key or folder was so
locked_back : (f : Format) (lawful : IsLawful f) (v : View) (e : Edit) → KeepsClean f lawful v e → (lack : Lack) (at : Path) → IsLocked f (edited v e) lack at → IsLocked f v lack at
locked_back f lawful v e keeps lack at (inl root) = inl (keeps.root ∙ root)
locked_back f lawful v e keeps lack at (inr item) =
    let on : StandsOn f v e at (Err lack) = stands_on_as f lawful v e keeps at (Err lack) item in
    let clash : Err lack ≡ Ok on.d = on.entered in cc

-- a long-name file without its right text was one
orphan_back : (f : Format) (lawful : IsLawful f) (v : View) (e : Edit) → KeepsClean f lawful v e → (at : Path) → IsOrphanName f (edited v e) at → IsOrphanName f v at
orphan_back f lawful v e keeps at u = elim (keeps.back u.reached.0 u.dir u.reached.1) [
  | inr bare ↦ let clash : true ≡ false = sym u.full ∙ (bare.others u.file there).1 in cc
  | inl leads ↦ elim (was_below f lawful v e keeps u.dir.folder u.file (folder_stands f lawful v u.reached.0 u.dir leads) there) [
    | inl old ↦ record {
      dir = u.dir;
      file = u.file;
      reached = (u.reached.0, leads);
      place = u.place;
      there = (u.there.0, sym (stays f lawful v e keeps at (λ none. old (ap v (sym u.place) ∙ none))) ∙ u.there.1);
      full = u.full;
      wrong = λ entry text. u.wrong entry (text_on f lawful v e keeps u.dir u.file entry text);
    }
    | inr here ↦ elim (keeps.placed u.reached.0 u.dir u.file leads here) [
      | inl side ↦ let text : (entry : Part) × IsFullTextOf f (edited v e) u.dir u.file entry = side.right u.full in absurd (u.wrong text.0 text.1)
      | inr new ↦ let clash : true ≡ false = sym u.full ∙ new.not_full in cc
    ]
  ]
]
  where
    there : edited v e (child u.dir.folder u.file) ≢ NoEntry
    there none = let clash : FileOf u.there.0 ≡ NoEntry = sym u.there.1 ∙ ap (edited v e) u.place ∙ none in cc

-- directories that are one were one
twice_back : (f : Format) (lawful : IsLawful f) (v : View) (e : Edit) → KeepsClean f lawful v e → (at : Path) → IsTwice f (edited v e) at → IsTwice f v at
twice_back f lawful v e keeps at u =
    by_before (stands_on_as f lawful v e keeps at u.one u.item) (stands_on_as f lawful v e keeps u.other u.two u.again)
  where
    same_key : (at : Path) (d : Directory) → key_of f (under at (edited v e)) ≡ Some u.key → key_of f (under at (edited v e)) ≡ Some d.key → u.key ≡ d.key
    same_key at d one two = let both : Some u.key ≡ Some d.key = sym one ∙ two in cc

    folder_is : (at : Path) (d : Directory) → u.key ≡ d.key → d.folder ≡ f.folder_of at d.key → f.folder_of at u.key ≡ d.folder
    folder_is at d keys form = ap (f.folder_of at) keys ∙ sym form

    by_both : (one : StandsOn f v e at u.one) → (two : StandsOn f v e u.other u.two) → u.key ≡ one.d.key → u.key ≡ two.d.key
        → (IsDirectoryItem f v at (Ok one.d) × (key_of f (under at v) ≡ Some one.d.key)) ⊎ ((at ≡ e.at) × IsApart f v one.d.folder)
        → (IsDirectoryItem f v u.other (Ok two.d) × (key_of f (under u.other v) ≡ Some two.d.key)) ⊎ ((u.other ≡ e.at) × IsApart f v two.d.folder) → IsTwice f v at
    by_both one two k1 k2 (inl a) (inl b) = record {
      other = u.other;
      apart = u.apart;
      one = Ok one.d;
      two = Ok two.d;
      item = a.0;
      again = b.0;
      key = u.key;
      its = a.1 ∙ ap Some (sym k1);
      same = b.1 ∙ ap Some (sym k2);
      folder = u.folder;
    }
    by_both one two k1 k2 (inl a) (inr b) =
        absurd (b.1 a.0.reached.0 a.0.dir a.0.name at one.d a.0.reached.1 a.0.stands
        (sym (folder_is u.other two.d k2 two.its.form) ∙ sym u.folder ∙ folder_is at one.d k1 one.its.form))
    by_both one two k1 k2 (inr a) (inl b) =
        absurd (a.1 b.0.reached.0 b.0.dir b.0.name u.other two.d b.0.reached.1 b.0.stands
        (sym (folder_is at one.d k1 one.its.form) ∙ u.folder ∙ folder_is u.other two.d k2 two.its.form))
    by_both one two k1 k2 (inr a) (inr b) = absurd (u.apart (a.0 ∙ sym b.0))

    by_before : StandsOn f v e at u.one → StandsOn f v e u.other u.two → IsTwice f v at
    by_before one two = by_both one two (same_key at one.d u.its one.its.its_key) (same_key u.other two.d u.same two.its.its_key) one.before two.before

-- a content folder that holds more than what belongs there did
orphan_folder_back : (f : Format) (lawful : IsLawful f) (v : View) (e : Edit) → KeepsClean f lawful v e → (at : Path) → IsOrphanFolder f (edited v e) at → IsOrphanFolder f v at
orphan_folder_back f lawful v e keeps at u = elim (none_or_there (edited v e at)) [
  | inl none ↦ let clash : Expected ≡ ContentFolder = sym (lawful.no_role at) ∙ ap (f.role at) (sym none) ∙ u.loose.folder in cc
  | inr there ↦ elim (was v e at there) [
    | inr new ↦ absurd (u.there (ap (λ p. edited v e (child p u.entry)) new.1
        ∙ keeps.has.empty new.0 u.entry (ap (λ p. f.role p (edited v e p)) (sym new.1) ∙ u.loose.folder)))
    | inl old ↦ elim (was_below f lawful v e keeps at u.entry old u.there) [
      | inl entry_old ↦ record {
        loose = record {
          folder = ap (f.role at) (sym (stays f lawful v e keeps at old)) ∙ u.loose.folder;
          loose = λ dir reached. u.loose.loose dir (reached.0, keeps.on reached.0 dir reached.1);
        };
        entry = u.entry;
        there = entry_old;
        more = λ fixed. u.more (record { file = file_on f lawful v e keeps (child at u.entry) fixed.file; name = fixed.name });
      }
      | inr here ↦
          let its : (path : plain.Path) × (dir : Directory) × Leads f v path dir × (dir.folder ≡ at)
          = keeps.has.folder at u.entry (ap (f.role at) (sym (stays f lawful v e keeps at old)) ∙ u.loose.folder) here in
          absurd (u.loose.loose its.1 (its.0, keeps.on its.0 its.1 its.2) its.3)
    ]
  ]
]

-- what has no place had none
inside_back : (f : Format) (lawful : IsLawful f) (v : View) (e : Edit) → KeepsClean f lawful v e → (at : Path) → IsInside f (edited v e) at → IsInside f v at
inside_back f lawful v e keeps at u = elim (none_or_there (edited v e (entry_at f u.dir u.name))) [
  | inl none ↦
      let clash : Expected ≡ Extra = sym (lawful.role_in_nothing (is_some (f.stored u.dir.key u.name).full) u.entry (edited v e at))
      ∙ ap (λ i. f.inner_role (is_some (f.stored u.dir.key u.name).full) i u.entry (edited v e at)) (sym (nothing_at f lawful (edited v e) u.dir u.name none)) ∙ u.extra in cc
  | inr entry_there ↦ elim (keeps.back u.reached.0 u.dir u.reached.1) [
    | inr bare ↦ absurd (entry_there (bare.entries u.name u.of.named))
    | inl leads ↦ elim (was_below f lawful v e keeps u.dir.folder (f.stored u.dir.key u.name).name (folder_stands f lawful v u.reached.0 u.dir leads) entry_there) [
      | inr here ↦ absurd ((keeps.whole u.reached.0 u.dir u.name leads u.of.named here u.of.full).inside u.entry
          (ap (λ p. f.inner_role (is_some (f.stored u.dir.key u.name).full) (item_at f (edited v e) u.dir (f.stored u.dir.key u.name)) u.entry (edited v e p)) (sym u.place) ∙ u.extra))
      | inl entry_old ↦ by_there leads entry_old (none_or_there (edited v e at))
    ]
  ]
]
  where
    by_there : Leads f v u.reached.0 u.dir → v (entry_at f u.dir u.name) ≢ NoEntry → (edited v e at ≡ NoEntry) ⊎ (edited v e at ≢ NoEntry) → IsInside f v at
    by_there leads entry_old (inl none) =
        let clash : Expected ≡ Extra = sym (lawful.no_inner_role (is_some (f.stored u.dir.key u.name).full) (item_at f (edited v e) u.dir (f.stored u.dir.key u.name)) u.entry)
        ∙ ap (f.inner_role (is_some (f.stored u.dir.key u.name).full) (item_at f (edited v e) u.dir (f.stored u.dir.key u.name)) u.entry) (sym none) ∙ u.extra in cc
    by_there leads entry_old (inr there) = elim (was_below f lawful v e keeps (entry_at f u.dir u.name) u.entry entry_old (λ none. there (ap (edited v e) u.place ∙ none))) [
      | inr here ↦ absurd (keeps.has.inner u.reached.0 u.dir u.name u.entry leads here (is_some (f.stored u.dir.key u.name).full)
          (item_at f (edited v e) u.dir (f.stored u.dir.key u.name)) (edited v e at) u.extra)
      | inl old ↦
          let as_was : EntryStays f v (edited v e) u.dir (f.stored u.dir.key u.name) = entry_was f lawful v e keeps u.reached.0 u.dir u.name leads u.of.named entry_old in
          record {
            dir = u.dir;
            name = u.name;
            reached = (u.reached.0, leads);
            of = record { named = u.of.named; stores = u.of.stores; full = as_was.full ∙ u.of.full };
            entry = u.entry;
            place = u.place;
            extra = ap (λ i. f.inner_role (is_some (f.stored u.dir.key u.name).full) i u.entry (v at)) as_was.item
                ∙ ap (f.inner_role (is_some (f.stored u.dir.key u.name).full) (item_at f (edited v e) u.dir (f.stored u.dir.key u.name)) u.entry)
                (sym (stays f lawful v e keeps at (λ none. old (ap v (sym u.place) ∙ none)))) ∙ u.extra;
          }
    ]

extra_back : (f : Format) (lawful : IsLawful f) (v : View) (e : Edit) → KeepsClean f lawful v e → (at : Path) → IsExtra f (edited v e) at → IsExtra f v at
extra_back f lawful v e keeps at (inl inside) = inl (inside_back f lawful v e keeps at inside)
extra_back f lawful v e keeps at (inr role) = elim (none_or_there (edited v e at)) [
  | inl none ↦ let clash : Expected ≡ Extra = sym (lawful.no_role at) ∙ ap (f.role at) (sym none) ∙ role in cc
  | inr there ↦ elim (was v e at there) [
    | inl old ↦ inr (ap (f.role at) (sym (stays f lawful v e keeps at old)) ∙ role)
    | inr new ↦ absurd (keeps.has.role new.0 (ap (λ p. f.role p (edited v e p)) (sym new.1) ∙ role))
  ]
]

-- so the vault stays clean
pub stays_clean : (f : Format) (lawful : IsLawful f) (v : View) (e : Edit) → KeepsClean f lawful v e → IsClean f v → IsClean f (edited v e)
stays_clean f lawful v e keeps clean is.BadStoredName at counts found = clean is.BadStoredName at refl (unnamed_back f lawful v e keeps is.BadStoredName at found)
stays_clean f lawful v e keeps clean is.NoDirKey at counts found = clean is.NoDirKey at refl (locked_back f lawful v e keeps lacks.NoDirKey at found)
stays_clean f lawful v e keeps clean is.LongNameLost at counts found = clean is.LongNameLost at refl (unnamed_back f lawful v e keeps is.LongNameLost at found)
stays_clean f lawful v e keeps clean is.OrphanLongName at counts found = clean is.OrphanLongName at refl (orphan_back f lawful v e keeps at found)
stays_clean f lawful v e keeps clean is.DirIdTwice at counts found = clean is.DirIdTwice at refl (twice_back f lawful v e keeps at found)
stays_clean f lawful v e keeps clean is.NoFolder at counts found = clean is.NoFolder at refl (locked_back f lawful v e keeps lacks.NoFolder at found)
stays_clean f lawful v e keeps clean is.OrphanFolder at counts found = clean is.OrphanFolder at refl (orphan_folder_back f lawful v e keeps at found)
stays_clean f lawful v e keeps clean is.SymlinkFound at counts found = clean is.SymlinkFound at refl (no_item_back f lawful v e keeps is.SymlinkFound at found)
stays_clean f lawful v e keeps clean is.WrongKind at counts (inl found) = clean is.WrongKind at refl (inl (unnamed_back f lawful v e keeps is.WrongKind at found))
stays_clean f lawful v e keeps clean is.WrongKind at counts (inr found) = clean is.WrongKind at refl (inr (no_item_back f lawful v e keeps is.WrongKind at found))
stays_clean f lawful v e keeps clean is.ExtraEntry at counts found = clean is.ExtraEntry at refl (extra_back f lawful v e keeps at found)
stays_clean f lawful v e keeps clean is.TwoKinds at counts found = clean is.TwoKinds at refl (no_item_back f lawful v e keeps is.TwoKinds at found)
stays_clean f lawful v e keeps clean is.HeaderDamaged at counts found = cc
stays_clean f lawful v e keeps clean is.ChunkDamaged at counts found = cc
stays_clean f lawful v e keeps clean is.EmptyOrphan at counts found = cc

-- From the view v on, each edit comes so.
abbrev pub KeepEach : (f : Format) → IsLawful f → View → List Edit → Type 0
KeepEach f lawful v [] = Unit {0}
KeepEach f lawful v (e ∷ edits) = KeepsClean f lawful v e × KeepEach f lawful (edited v e) edits

each_clean : (f : Format) (lawful : IsLawful f) (v : View) (edits : List Edit) → KeepEach f lawful v edits → IsClean f v → StaysClean f v edits
each_clean f lawful v [] keep clean = record {}
each_clean f lawful v (e ∷ edits) keep clean =
    let clean_then : IsClean f (edited v e) = stays_clean f lawful v e keep.0 clean in
    (clean_then, each_clean f lawful (edited v e) edits keep.1 clean_then)

-- A format whose items are made so.
pub record KeepsItems (f : Format) (lawful : IsLawful f) : Type 0 where
  pub file : (v : View) (front : plain.Path) (dir : Directory) (name bytes : List ℕ) → IsOrderly f v → Leads f v front dir → IsTrue (is_name name)
      → f.taken_for_file v dir (f.stored dir.key name) ≡ None → KeepEach f lawful v (f.new_file v dir (f.stored dir.key name) bytes)
  pub directory : (v : View) (front : plain.Path) (dir : Directory) (name key : List ℕ) → IsOrderly f v → Leads f v front dir → IsTrue (is_name name)
      → f.key_in key ≡ Some key → f.taken_for_directory v dir (f.stored dir.key name) key ≡ None → KeepEach f lawful v (f.new_directory v dir (f.stored dir.key name) key)

pub new_items_clean : (f : Format) (lawful : IsLawful f) → KeepsItems f lawful → NewItemsStayClean f
new_items_clean f lawful keeps = record {
  file = λ v front dir name bytes orderly clean leads named none.
      each_clean f lawful v (f.new_file v dir (f.stored dir.key name) bytes) (keeps.file v front dir name bytes orderly leads named none) clean;
  directory = λ v front dir name key orderly clean leads named is_key none.
      each_clean f lawful v (f.new_directory v dir (f.stored dir.key name) key) (keeps.directory v front dir name key orderly leads named is_key none) clean;
}
