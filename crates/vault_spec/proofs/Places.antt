-- A vault in which something comes to stand at a free place looks alike, or gains the item whose entry is there.
use Rattle.std.proofs.Common.{◌≡◌, ◌≢◌, ◌⊎◌, ℕ, Bool, true, false, List, [], ◌∷◌, ◌++◌, Ok, Err, refl, sym, ap, ◌∙◌, inl, inr, subst, append-nil, Some, None, Option, IsTrue, is_some}
use mathlib.Core.Path.{fun_ext}
use Rattle.folder_spec.specs.Seen.{under}
use Rattle.std.proofs.lemmas.Slice.Eq.{bytes_eq-Decides}
use Rattle.folder_spec.specs.Path.{Part, Path, child, below}
use Rattle.folder_spec.specs.View.{Found, NoEntry, Folder, FileOf, Special, View}
use Rattle.folder_spec.specs.Edit.{Edit, grafted, edited, file_view, folder_view}
use Rattle.folder_spec.proofs.Edits.{off_edit}
use Rattle.folder_spec.proofs.Paths.{one_or_not, begins_or_not, below-append, below-above, child_begins, child-injective, child-last}
use Rattle.plain_tree.specs.Names as plain
use Rattle.plain_tree.specs.Names.{is_name}
use Rattle.vault_names.specs.declared.entry.Stored.{Stored}
use Rattle.vault_spec.specs.Format.{Format, Directory, Item, Nothing, FileItem, DirectoryItem, NoItem, file_bytes}
use Rattle.vault_spec.specs.Standing.{Standing, Absent, Strange, File, Dir, root_of, directory_with, standing, standing_from, entry_at, is_file_of, holds, holds_full, item_at, standing_of, standing_in}
use Rattle.vault_spec.specs.Opens.{Opened, opened_at}
use Rattle.vault_spec.specs.Adding.{OpensAs, OpensWith}
use Rattle.vault_spec.specs.Anywhere.{KeepsEntered}
use Rattle.vault_spec.specs.Reached.{Leads}
use Rattle.vault_spec.specs.Alike.{HasNoItem, AreAlike, LooksAlike, IsLeaf, GainsItem, HasFolders, IsOrderly}
use Rattle.vault_spec.proofs.Lawful.{IsLawful, SparesConfiguration}
use Rattle.vault_spec.proofs.Steps.{along, standing_alike, gained, gained_there}
use Rattle.vault_spec.proofs.Grafts.{reached_right, nothing_below, edited_adds, edited_entry, none_stands, standing_named, standing_unnamed, same_directory, SparesEntry, stands_on}

pub none_or_there : (x : Found) → (x ≡ NoEntry) ⊎ (x ≢ NoEntry)
none_or_there NoEntry = inl refl
none_or_there Folder = inr (λ e. cc)
none_or_there (FileOf bytes) = inr (λ e. cc)
none_or_there Special = inr (λ e. cc)

-- Nothing that is there is told by what comes to stand at the place: it is no mark of the root, and spares each entry.
pub record SparesAll (f : Format) (lawful : IsLawful f) (v : View) (at : Path) : Type 0 where
  pub root : (m : Part) → IsTrue (lawful.marks m) → m ∷ [] ≢ at
  pub entries : (path : plain.Path) (dir : Directory) (name : List ℕ) → Leads f v path dir → is_name name ≡ true → v (entry_at f dir name) ≢ NoEntry → SparesEntry f lawful v at dir name

-- and no name's entry is at the place
abbrev pub IsNoEntry : Format → View → Path → Type 0
IsNoEntry f v at = (path : plain.Path) (dir : Directory) (name : List ℕ) → Leads f v path dir → is_name name ≡ true → entry_at f dir name ≢ at

-- whatever stands has a folder above it, and the root is entered
pub record IsRooted (f : Format) (v : View) : Type 0 where
  pub folders : HasFolders v
  pub there : v [] ≡ Folder
  pub top : Directory
  pub root : root_of f v ≡ Dir [] (Ok top)

pub orderly_is_rooted : (f : Format) (v : View) → IsOrderly f v → IsRooted f v
orderly_is_rooted f v orderly = record { folders = orderly.folders; there = orderly.root_there; top = orderly.top; root = orderly.root }

-- where a directory is entered at a path, one is entered at each front of it
entered_here : (f : Format) (v : View) (here : Standing) (rest : plain.Path) (at : Path) (dir : Directory) → standing_from f v here rest ≡ Dir at (Ok dir) → (place : Path) × (d : Directory) × (here ≡ Dir place (Ok d))
entered_here f v here [] at dir e = (at, dir, e)
entered_here f v (Dir place (Ok d)) (n ∷ rest) at dir e = (place, d, refl)
entered_here f v (Dir place (Err lack)) (n ∷ rest) at dir e = cc
entered_here f v (File place) (n ∷ rest) at dir e = cc
entered_here f v (Strange place) (n ∷ rest) at dir e = cc
entered_here f v Absent (n ∷ rest) at dir e = cc

-- so it is at the root
pub leads_from_root : (f : Format) (lawful : IsLawful f) (v : View) → HasFolders v → (path : plain.Path) (dir : Directory) → Leads f v path dir → IsRooted f v
leads_from_root f lawful v folders path dir leads = record { folders = folders; there = there dir.folder refl; top = first.1; root = root }
  where
    first : (place : Path) × (d : Directory) × (root_of f v ≡ Dir place (Ok d))
    first = entered_here f v (root_of f v) path leads.at dir leads.stands

    root : root_of f v ≡ Dir [] (Ok first.1)
    root = let top : [] ≡ first.0 = ap place_or first.2 in first.2 ∙ ap (λ p. Dir p (Ok first.1)) (sym top)
      where
        place_or : Standing → Path
        place_or (Dir place directory) = place
        place_or (File place) = place
        place_or (Strange place) = place
        place_or Absent = []

    folder_there : v dir.folder ≡ Folder
    folder_there = (reached_right f lawful v path dir leads).there

    there : (folder : Path) → dir.folder ≡ folder → v [] ≡ Folder
    there [] is = ap v (sym is) ∙ folder_there
    there (a ∷ rest) is = folders [] a (λ none.
        let nothing : v dir.folder ≡ NoEntry = ap v is ∙ nothing_below v folders (a ∷ []) rest none in
        let clash : Folder ≡ NoEntry = sym folder_there ∙ nothing in cc)

-- the root stays
pub root_stays : (f : Format) (lawful : IsLawful f) (v : View) (e : Edit) → IsRooted f v → v e.at ≡ NoEntry → SparesAll f lawful v e.at → root_of f v ≡ root_of f (edited v e)
root_stays f lawful v e rooted free spares =
    ap (Dir []) (same_directory f v (edited v e) [] (f.root_key v) (edited_adds v e rooted.folders free)
    (λ lack locked. let top : Dir [] (Err lack) ≡ Dir [] (Ok rooted.top) = ap (Dir []) (sym locked) ∙ rooted.root in cc)
    ∙ ap (directory_with f (edited v e) []) (lawful.root_by_key v (edited v e)
    (sym (edited_entry v e rooted.folders free [] f.key_file (λ none. let there : v [] ≡ Folder = rooted.there in cc) (spares.root f.key_file lawful.key_is_mark)))))

-- a directory that is entered stays, and so does the way to it
step_leads : (f : Format) (lawful : IsLawful f) (v : View) (e : Edit) → IsRooted f v → v e.at ≡ NoEntry → SparesAll f lawful v e.at
    → (path : plain.Path) (dir : Directory) (name : List ℕ) (at : Path) (d : Directory) → Leads f v path dir → standing_in f v dir name ≡ Dir at (Ok d) → standing_in f (edited v e) dir name ≡ Dir at (Ok d)
step_leads f lawful v e rooted free spares path dir name at d leads stands = by_name (is_name name) refl
  where
    by_name : (b : Bool) → is_name name ≡ b → standing_in f (edited v e) dir name ≡ Dir at (Ok d)
    by_name false is = let clash : Absent ≡ Dir at (Ok d) = sym (standing_unnamed f v dir name is) ∙ stands in cc
    by_name true is = elim (none_or_there (v (entry_at f dir name))) [
      | inl none ↦ absurd (subst HasNoItem stands (none_stands f lawful v dir name none))
      | inr there ↦ sym (stands_on f lawful v e path dir name rooted.folders (λ a lack locked. let clash : Dir at (Ok d) ≡ Dir a (Err lack) = sym stands ∙ locked in cc)
          free leads there (spares.entries path dir name leads is there)).stands ∙ stands
    ]

way_from : (f : Format) (lawful : IsLawful f) (v : View) (e : Edit) → IsRooted f v → v e.at ≡ NoEntry → SparesAll f lawful v e.at
    → (front : plain.Path) (here : Standing) (rest : plain.Path) (at : Path) (dir : Directory) → standing f v front ≡ here → standing_from f v here rest ≡ Dir at (Ok dir) → standing_from f (edited v e) here rest ≡ Dir at (Ok dir)
way_from f lawful v e rooted free spares front here [] at dir is leads = leads
way_from f lawful v e rooted free spares front (Dir a (Ok d)) (n ∷ rest) at dir is leads =
    let next : (place : Path) × (x : Directory) × (standing_in f v d n ≡ Dir place (Ok x)) = entered_here f v (standing_in f v d n) rest at dir leads in
    ap (λ s. standing_from f (edited v e) s rest) (step_leads f lawful v e rooted free spares front d n next.0 next.1 (record { at = a; stands = is }) next.2 ∙ sym next.2)
    ∙ way_from f lawful v e rooted free spares (front ++ n ∷ []) (standing_in f v d n) rest at dir (along f v (root_of f v) d a front n is) leads
way_from f lawful v e rooted free spares front (Dir a (Err lack)) (n ∷ rest) at dir is leads = cc
way_from f lawful v e rooted free spares front (File a) (n ∷ rest) at dir is leads = cc
way_from f lawful v e rooted free spares front (Strange a) (n ∷ rest) at dir is leads = cc
way_from f lawful v e rooted free spares front Absent (n ∷ rest) at dir is leads = cc

pub still_entered : (f : Format) (lawful : IsLawful f) (v : View) (e : Edit) → IsRooted f v → v e.at ≡ NoEntry → SparesAll f lawful v e.at → KeepsEntered f v (edited v e)
still_entered f lawful v e rooted free spares path at dir stands =
    ap (λ s. standing_from f (edited v e) s path) (sym (root_stays f lawful v e rooted free spares))
    ∙ way_from f lawful v e rooted free spares [] (root_of f v) path at dir refl stands

pub still_leads : (f : Format) (lawful : IsLawful f) (v : View) (e : Edit) → IsRooted f v → v e.at ≡ NoEntry → SparesAll f lawful v e.at
    → (path : plain.Path) (dir : Directory) → Leads f v path dir → Leads f (edited v e) path dir
still_leads f lawful v e rooted free spares path dir leads = record { at = leads.at; stands = still_entered f lawful v e rooted free spares path leads.at dir leads.stands }

-- what stands under a name stays, where its entry isn't at the place
step_stays : (f : Format) (lawful : IsLawful f) (v : View) (e : Edit) → IsOrderly f v → v e.at ≡ NoEntry → SparesAll f lawful v e.at
    → (path : plain.Path) (dir : Directory) (name : List ℕ) → Leads f v path dir → (is_name name ≡ true → entry_at f dir name ≢ e.at)
    → AreAlike v (edited v e) (standing_in f v dir name) (standing_in f (edited v e) dir name)
step_stays f lawful v e orderly free spares path dir name leads apart = by_name (is_name name) refl
  where
    by_name : (b : Bool) → is_name name ≡ b → AreAlike v (edited v e) (standing_in f v dir name) (standing_in f (edited v e) dir name)
    by_name false is = inr (subst HasNoItem (sym (standing_unnamed f v dir name is)) (record {}), subst HasNoItem (sym (standing_unnamed f (edited v e) dir name is)) (record {}))
    by_name true is = elim (none_or_there (v (entry_at f dir name))) [
      | inl none ↦ inr (
        none_stands f lawful v dir name none,
        none_stands f lawful (edited v e) dir name
            (edited_entry v e orderly.folders free dir.folder (f.stored dir.key name).name (λ z. let folder : v dir.folder ≡ Folder = (reached_right f lawful v path dir leads).there in cc) (apart is) ∙ none),
      )
      | inr there ↦ inl (stands_on f lawful v e path dir name orderly.folders (λ at lack. orderly.entered path dir name at lack leads) free leads there (spares.entries path dir name leads is there))
    ]

-- where no entry is at the place, the vault looks alike
pub looks_alike : (f : Format) (lawful : IsLawful f) (v : View) (e : Edit) → IsOrderly f v → v e.at ≡ NoEntry → SparesAll f lawful v e.at → IsNoEntry f v e.at → LooksAlike f v (edited v e)
looks_alike f lawful v e orderly free spares no_entry = record {
  root = root_stays f lawful v e (orderly_is_rooted f v orderly) free spares;
  steps = λ path dir name leads. step_stays f lawful v e orderly free spares path dir name leads (no_entry path dir name leads);
}

-- a path leads where it led
pub led_back : (f : Format) (v w : View) → LooksAlike f v w → (path : plain.Path) (dir : Directory) → Leads f w path dir → Leads f v path dir
led_back f v w looks path dir leads = elim (standing_alike f v w looks path) [
  | inl same ↦ record { at = leads.at; stands = same.stands ∙ leads.stands }
  | inr none ↦ absurd (subst HasNoItem leads.stands none.1)
]

pub led_on : (f : Format) (v w : View) → LooksAlike f v w → (path : plain.Path) (dir : Directory) → Leads f v path dir → Leads f w path dir
led_on f v w looks path dir leads = elim (standing_alike f v w looks path) [
  | inl same ↦ record { at = leads.at; stands = sym same.stands ∙ leads.stands }
  | inr none ↦ absurd (subst HasNoItem leads.stands none.0)
]

-- and the vault stays orderly
pub stays_orderly : (f : Format) (v w : View) → IsOrderly f v → LooksAlike f v w → HasFolders w → w [] ≡ Folder → IsOrderly f w
stays_orderly f v w orderly looks folders root_there = record {
  root_there = root_there;
  top = orderly.top;
  root = sym looks.root ∙ orderly.root;
  folders = folders;
  entered = λ path dir name at lack leads locked. elim (looks.steps path dir name (led_back f v w looks path dir leads)) [
    | inl same ↦ orderly.entered path dir name at lack (led_back f v w looks path dir leads) (same.stands ∙ locked)
    | inr none ↦ absurd (subst HasNoItem locked none.1)
  ];
  one_path = λ path other dir one two. orderly.one_path path other dir (led_back f v w looks path dir one) (led_back f v w looks other dir two);
  own_folder = λ dir other one two. orderly.own_folder dir other (one.0, led_back f v w looks one.0 dir one.1) (two.0, led_back f v w looks two.0 other two.1);
}

-- folders stand above all where something with folders comes to stand in one
pub edited_folders : (v : View) (e : Edit) (up : Path) (a : Part) → HasFolders v → e.at ≡ child up a → v up ≡ Folder → HasFolders e.made → HasFolders (edited v e)
edited_folders v e up a folders is there made = λ p b there_now. elim (begins_or_not e.at (child p b)) [
  | inl k ↦ elim (child_begins e.at p b k.0 k.1) [
    | inl same ↦
        let one : p ≡ up = child-injective p up b a (same ∙ is) in
        off_edit v e p (ap (below e.at) one ∙ ap (λ q. below q up) is ∙ none_above up a) ∙ ap v one ∙ there
    | inr above ↦
        let now : edited v e (child p b) ≡ e.made (child above.0 b) = ap (edited v e) (k.1 ∙ ap (λ r. e.at ++ r) above.2) ∙ ap (grafted v e (e.at ++ child above.0 b)) (below-append e.at (child above.0 b)) in
        let up_now : edited v e p ≡ e.made above.0 = ap (edited v e) above.1 ∙ ap (grafted v e (e.at ++ above.0)) (below-append e.at above.0) in
        up_now ∙ made above.0 b (λ none. there_now (now ∙ none))
  ]
  | inr none ↦
      off_edit v e p (below-above e.at p b none)
      ∙ folders p b (λ z. there_now (off_edit v e (child p b) none ∙ z))
]
  where
    none_above : (up : Path) (a : Part) → below (child up a) up ≡ None
    none_above [] a = refl
    none_above (b ∷ up) a = rw ((bytes_eq-Decides b b).1 refl) (none_above up a)

-- nothing stands below a file
pub file_alone : (bytes : List ℕ) (p : Path) (a : Part) → file_view bytes (child p a) ≡ NoEntry
file_alone bytes [] a = refl
file_alone bytes (b ∷ p) a = refl

pub file_folders : (bytes : List ℕ) → HasFolders (file_view bytes)
file_folders bytes p a there = absurd (there (file_alone bytes p a))

-- folders of files have nothing below these
pub folder_folders : (files : List (Part × List ℕ)) → HasFolders (folder_view files)
folder_folders files [] a there = refl
folder_folders files (b ∷ []) a there = absurd (there refl)
folder_folders files (b ∷ c ∷ p) a there = absurd (there refl)

-- A new item: its entry's place is free, nothing that is there is told by it, and it is the entry of a name in a directory that a path
-- leads to. Then a file stands there, or a directory in which no item stands.
pub record BringsItem (f : Format) (lawful : IsLawful f) (v : View) (e : Edit) (front : plain.Path) (dir : Directory) (name : List ℕ) : Type 0 where
  pub orderly : IsOrderly f v
  pub free : v e.at ≡ NoEntry
  pub spares : SparesAll f lawful v e.at
  pub leads : Leads f v front dir
  pub is_key : IsTrue (lawful.is_key dir.key)
  pub named : IsTrue (is_name name)
  pub place : entry_at f dir name ≡ e.at
  pub full : holds_full f (edited v e) dir (f.stored dir.key name) ≡ true
  pub leaf : IsLeaf f (edited v e) (standing_in f (edited v e) dir name)

-- two long names with one entry and one text are one, and of two names of one entry no more than one has its long-name file
one_text : (w : View) (at : Path) (a b : Option (List ℕ)) → is_some a ≡ is_some b → holds w at a ≡ true → holds w at b ≡ true → a ≡ b
one_text w at None None same one other = refl
one_text w at None (Some b) same one other = cc
one_text w at (Some a) None same one other = cc
one_text w at (Some a) (Some b) same one other = by_file (file_bytes (w at)) one other
  where
    by_file : (o : Option (List ℕ)) → is_file_of a o ≡ true → is_file_of b o ≡ true → Some a ≡ Some b
    by_file None one other = cc
    by_file (Some there) one other =
        let first : there ≡ a = (bytes_eq-Decides there a).0 one in
        let second : there ≡ b = (bytes_eq-Decides there b).0 other in
        ap Some (sym first ∙ second)

-- no item stands at an entry without its long-name file
pub no_item_unheld : (f : Format) (w : View) (at : Path) (item : Item) → HasNoItem (standing_of f w at false item)
no_item_unheld f w at Nothing = record {}
no_item_unheld f w at (FileItem rest) = record {}
no_item_unheld f w at DirectoryItem = record {}
no_item_unheld f w at (NoItem finding) = record {}

-- another name of the same entry has none
pub other_name : (f : Format) (lawful : IsLawful f) (w : View) (dir : Directory) (name other : List ℕ) → IsTrue (lawful.is_key dir.key) → IsTrue (is_name name) → IsTrue (is_name other)
    → (f.stored dir.key other).name ≡ (f.stored dir.key name).name → holds_full f w dir (f.stored dir.key name) ≡ true → other ≢ name
    → HasNoItem (standing_in f w dir other)
other_name f lawful w dir name other key named other_named same held apart =
    by_held (holds_full f w dir (f.stored dir.key other)) refl
  where
    at_one : dir.folder ++ f.full_at (f.stored dir.key other).name ≡ dir.folder ++ f.full_at (f.stored dir.key name).name
    at_one = ap (λ n. dir.folder ++ f.full_at n) same

    texts : holds_full f w dir (f.stored dir.key other) ≡ true → (f.stored dir.key other).full ≡ (f.stored dir.key name).full
    texts other_held = one_text w (dir.folder ++ f.full_at (f.stored dir.key name).name) (f.stored dir.key other).full (f.stored dir.key name).full
        (lawful.forms dir.key other name key other_named named same)
        (ap (λ p. holds w p (f.stored dir.key other).full) (sym at_one) ∙ other_held) held

    stored_as : List ℕ → Option (List ℕ) → Stored
    stored_as n full = record { name = n; full = full }

    record_of : (s t : Stored) → s.name ≡ t.name → s.full ≡ t.full → s ≡ t
    record_of s t names fulls = ap (λ n. stored_as n s.full) names ∙ ap (stored_as t.name) fulls

    by_held : (b : Bool) → holds_full f w dir (f.stored dir.key other) ≡ b → HasNoItem (standing_in f w dir other)
    by_held true is = absurd (apart (lawful.one_name dir.key other name key other_named named
        (record_of (f.stored dir.key other) (f.stored dir.key name) same (texts is))))
    by_held false is = subst HasNoItem (sym (standing_named f w dir other other_named
        ∙ ap (λ b. standing_of f w (entry_at f dir other) b (item_at f w dir (f.stored dir.key other))) is))
        (no_item_unheld f w (entry_at f dir other) (item_at f w dir (f.stored dir.key other)))

-- the vault gains the item
pub brings_item : (f : Format) (lawful : IsLawful f) (v : View) (e : Edit) (front : plain.Path) (dir : Directory) (name : List ℕ) → BringsItem f lawful v e front dir name → GainsItem f v (edited v e) front name
brings_item f lawful v e front dir name b = record {
  root = root_stays f lawful v e (orderly_is_rooted f v b.orderly) b.free b.spares;
  dir = dir;
  leads = b.leads;
  free = none_stands f lawful v dir name (ap v b.place ∙ b.free);
  leaf = b.leaf;
  others = others;
}
  where
    same_name : (n : List ℕ) (other : Directory) → other ≡ dir → entry_at f other n ≡ entry_at f dir name → (f.stored dir.key n).name ≡ (f.stored dir.key name).name
    same_name n other one here =
        child-last dir.folder (f.stored dir.key n).name (f.stored dir.key name).name (ap (λ d. entry_at f d n) (sym one) ∙ here)

    by_other : (path : plain.Path) (n : List ℕ) → Leads f v path dir → path ++ n ∷ [] ≢ front ++ name ∷ [] → is_name n ≡ true
        → (f.stored dir.key n).name ≡ (f.stored dir.key name).name → HasNoItem (standing_in f (edited v e) dir n)
    by_other path n leads apart named same =
        other_name f lawful (edited v e) dir name n b.is_key b.named named same b.full
        (λ one. apart (ap (λ p. p ++ n ∷ []) (b.orderly.one_path path front dir leads b.leads) ∙ ap (λ m. front ++ m ∷ []) one))

    at_place : (t : Bool) (path : plain.Path) (other : Directory) (n : List ℕ) → is_name n ≡ t → Leads f v path other → path ++ n ∷ [] ≢ front ++ name ∷ []
        → entry_at f other n ≡ e.at → HasNoItem (standing_in f (edited v e) other n)
    at_place false path other n is leads apart here = subst HasNoItem (sym (standing_unnamed f (edited v e) other n is)) (record {})
    at_place true path other n is leads apart here =
        let entries : entry_at f other n ≡ entry_at f dir name = here ∙ sym b.place in
        let one : other ≡ dir = b.orderly.own_folder other dir (path, leads) (front, b.leads)
        (child-injective other.folder dir.folder (f.stored other.key n).name (f.stored dir.key name).name entries) in
        subst (λ d. HasNoItem (standing_in f (edited v e) d n)) (sym one)
        (by_other path n (subst (λ d. Leads f v path d) one leads) apart is (same_name n other one entries))

    others : (path : plain.Path) (other : Directory) (n : List ℕ) → Leads f v path other → path ++ n ∷ [] ≢ front ++ name ∷ []
        → AreAlike v (edited v e) (standing_in f v other n) (standing_in f (edited v e) other n)
    others path other n leads apart = elim (one_or_not (entry_at f other n) e.at) [
      | inr elsewhere ↦ step_stays f lawful v e b.orderly b.free b.spares path other n leads (λ _. elsewhere.0)
      | inl here ↦ inr (none_stands f lawful v other n (ap v here ∙ b.free), at_place (is_name n) path other n refl leads apart here)
    ]

-- it opens as before, and the item there opens as what stands there
pub opens_with : (f : Format) (lawful : IsLawful f) (v u : View) (e : Edit) (front : plain.Path) (dir : Directory) (name : List ℕ) (item : Opened)
    → OpensAs f v u → BringsItem f lawful u e front dir name → opened_at f (edited u e) (standing_in f (edited u e) dir name) ≡ item
    → OpensWith f v (edited u e) (front ++ name ∷ []) item
unfolding brings_item
opens_with f lawful v u e front dir name item as_before brings is = record {
  others = λ path apart. sym (gained f u (edited u e) front name (brings_item f lawful u e front dir name brings) path apart) ∙ as_before path;
  there = gained_there f u (edited u e) front name (brings_item f lawful u e front dir name brings) ∙ is;
}

-- An edit beside the item: at a free place in a folder that is there, which is no entry and tells nothing of what is there. Nothing
-- comes to stand below the place.
pub record IsSide (f : Format) (lawful : IsLawful f) (v : View) (e : Edit) : Type 0 where
  pub rooted : IsRooted f v
  pub free : v e.at ≡ NoEntry
  pub spares : SparesAll f lawful v e.at
  pub no_entry : IsNoEntry f v e.at
  pub up : Path
  pub last : Part
  pub place : e.at ≡ child up last
  pub up_there : v up ≡ Folder
  pub alone : (rest : Path) (a : Part) → e.made (child rest a) ≡ NoEntry
  pub no_configuration : SparesConfiguration e.at

pub side_looks : (f : Format) (lawful : IsLawful f) (v : View) (e : Edit) → IsOrderly f v → IsSide f lawful v e → LooksAlike f v (edited v e)
side_looks f lawful v e orderly side = looks_alike f lawful v e orderly side.free side.spares side.no_entry

side_folders : (f : Format) (lawful : IsLawful f) (v : View) (e : Edit) → IsSide f lawful v e → HasFolders (edited v e)
side_folders f lawful v e side = edited_folders v e side.up side.last side.rooted.folders side.place side.up_there (λ p a there. absurd (there (side.alone p a)))

-- the root stays where it is
pub top_stays : (f : Format) (v : View) (e : Edit) → IsRooted f v → v e.at ≡ NoEntry → edited v e [] ≡ Folder
top_stays f v e rooted free = edited_adds v e rooted.folders free [] (λ none. let there : v [] ≡ Folder = rooted.there in cc) ∙ rooted.there

side_rooted : (f : Format) (lawful : IsLawful f) (v : View) (e : Edit) → IsSide f lawful v e → IsRooted f (edited v e)
side_rooted f lawful v e side = record {
  folders = side_folders f lawful v e side;
  there = top_stays f v e side.rooted side.free;
  top = side.rooted.top;
  root = sym (root_stays f lawful v e side.rooted side.free side.spares) ∙ side.rooted.root;
}

pub side_orderly : (f : Format) (lawful : IsLawful f) (v : View) (e : Edit) → IsOrderly f v → IsSide f lawful v e → IsOrderly f (edited v e)
side_orderly f lawful v e orderly side = stays_orderly f v (edited v e) orderly (side_looks f lawful v e orderly side)
    (side_folders f lawful v e side) (top_stays f v e side.rooted side.free)

-- an entry that was free stays so
side_leaves : (f : Format) (lawful : IsLawful f) (v : View) (e : Edit) → IsSide f lawful v e
    → (path : plain.Path) (dir : Directory) (name : List ℕ) → Leads f v path dir → is_name name ≡ true → v (entry_at f dir name) ≡ NoEntry → edited v e (entry_at f dir name) ≡ NoEntry
side_leaves f lawful v e side path dir name leads named free =
    edited_entry v e side.rooted.folders side.free dir.folder (f.stored dir.key name).name
    (λ none. let folder : v dir.folder ≡ Folder = (reached_right f lawful v path dir leads).there in cc) (side.no_entry path dir name leads named) ∙ free

-- what an edit brings is seen at its place and below it
pub brought : (u : View) (e : Edit) (rest : Path) → edited u e (e.at ++ rest) ≡ e.made rest
brought u e rest = ap (grafted u e (e.at ++ rest)) (below-append e.at rest)

pub brought_there : (u : View) (e : Edit) → edited u e e.at ≡ e.made []
brought_there u e = ap (edited u e) (sym (append-nil e.at)) ∙ brought u e []

-- what stands once an edit at the entry is made, by what it brings there
pub arrived : (f : Format) (u : View) (dir : Directory) (name : List ℕ) (e : Edit) → IsTrue (is_name name) → e.at ≡ entry_at f dir name
    → holds_full f (edited u e) dir (f.stored dir.key name) ≡ true
    → standing_in f (edited u e) dir name ≡ standing_of f (edited u e) e.at true (f.item (is_some (f.stored dir.key name).full) e.made)
arrived f u dir name e named place held =
    standing_named f (edited u e) dir name named
    ∙ ap (λ b. standing_of f (edited u e) (entry_at f dir name) b (item_at f (edited u e) dir (f.stored dir.key name))) held
    ∙ ap (λ p. standing_of f (edited u e) p true (f.item (is_some (f.stored dir.key name).full) (under p (edited u e)))) (sym place)
    ∙ ap (λ x. standing_of f (edited u e) e.at true (f.item (is_some (f.stored dir.key name).full) x)) (fun_ext (brought u e))

-- An item that is new at its entry, where its last edit is made.
pub record IsNew (f : Format) (v : View) (front : plain.Path) (dir : Directory) (name : List ℕ) (e : Edit) : Type 0 where
  pub rooted : IsRooted f v
  pub leads : Leads f v front dir
  pub named : IsTrue (is_name name)
  pub place : entry_at f dir name ≡ e.at
  pub free : v (entry_at f dir name) ≡ NoEntry

-- an edit beside it leaves it new
pub new_after_side : (f : Format) (lawful : IsLawful f) (v : View) (side : Edit) (front : plain.Path) (dir : Directory) (name : List ℕ) (e : Edit)
    → IsSide f lawful v side → IsNew f v front dir name e → IsNew f (edited v side) front dir name e
new_after_side f lawful v side front dir name e is new = record {
  rooted = side_rooted f lawful v side is;
  leads = still_leads f lawful v side is.rooted is.free is.spares front dir new.leads;
  named = new.named;
  place = new.place;
  free = side_leaves f lawful v side is front dir name new.leads new.named new.free;
}

-- what stands at its entry once the last edit is made, and opens there
pub record Arrives (f : Format) (u : View) (dir : Directory) (name : List ℕ) (e : Edit) (item : Opened) : Type 0 where
  pub full : holds_full f (edited u e) dir (f.stored dir.key name) ≡ true
  pub leaf : IsLeaf f (edited u e) (standing_in f (edited u e) dir name)
  pub opens : opened_at f (edited u e) (standing_in f (edited u e) dir name) ≡ item

-- the last edit, in a view that opens as one did
pub comes_last : (f : Format) (lawful : IsLawful f) (v u : View) (front : plain.Path) (dir : Directory) (name : List ℕ) (e : Edit) (item : Opened)
    → OpensAs f v u → IsOrderly f u → IsNew f u front dir name e → SparesAll f lawful u e.at → Arrives f u dir name e item → OpensWith f v (edited u e) (front ++ name ∷ []) item
comes_last f lawful v u front dir name e item as_before orderly new spares arrives =
    opens_with f lawful v u e front dir name item as_before (record {
      orderly = orderly;
      free = ap u (sym new.place) ∙ new.free;
      spares = spares;
      leads = new.leads;
      is_key = (reached_right f lawful u front dir new.leads).is_key;
      named = new.named;
      place = new.place;
      full = arrives.full;
      leaf = arrives.leaf;
    }) arrives.opens
