-- A clean vault is orderly.
use Rattle.std.proofs.Common.{◌≡◌, ◌≢◌, ◌⊎◌, ℕ, zero, suc, ◌+◌, Bool, true, false, List, [], ◌∷◌, ◌++◌, Ok, Err, Result, refl, sym, ap, ◌∙◌, inl, inr, subst, length, length-append, arith, bytes_eq}
use Rattle.std.proofs.lemmas.Slice.Eq.{bytes_eq-Decides}
use Rattle.folder_spec.specs.Path.{Part, Path, child}
use Rattle.folder_spec.specs.View.{Folder, View}
use Rattle.folder_spec.specs.Seen.{under}
use Rattle.folder_spec.proofs.Paths.{one_or_not, base_or_child, child-not_base}
use Rattle.plain_tree.specs.Names as plain
use Rattle.plain_tree.specs.Names.{is_name}
use Rattle.vault_spec.specs.declared.Lack.{Lack}
use Rattle.vault_spec.specs.declared.Finding.TheVariants.{NoDirKey, NoFolder, DirIdTwice}
use Rattle.vault_spec.specs.declared.Lack.TheVariants as lacks
use Rattle.vault_spec.specs.Format.{Format, Directory, Item, Nothing, FileItem, DirectoryItem, NoItem, key_of}
use Rattle.vault_spec.specs.Standing.{Standing, Absent, Strange, File, Dir, root_of, directory_with, entry_at, holds_full, item_at, standing_of, standing_in, standing_from}
use Rattle.vault_spec.specs.Reached.{Leads, HaveOwnFolders}
use Rattle.vault_spec.specs.Findings.{IsClean, IsLocked}
use Rattle.vault_spec.specs.Alike.{HasNoItem, HasFolders, IsOrderly}
use Rattle.vault_spec.proofs.Lawful.{IsLawful}
use Rattle.vault_spec.proofs.Grafts.{IsEntered, is_entered, reached_right, standing_named, standing_unnamed}
use Rattle.vault_spec.proofs.PathEnds.{child-both}
use Rattle.vault_spec.proofs.Places.{other_name}

-- how a directory stands under a name
pub record StandsAs (f : Format) (v : View) (dir : Directory) (name : List ℕ) (at : Path) (x : Result Directory Lack) : Type 0 where
  pub named : is_name name ≡ true
  pub held : holds_full f v dir (f.stored dir.key name) ≡ true
  pub item : item_at f v dir (f.stored dir.key name) ≡ DirectoryItem
  pub place : at ≡ entry_at f dir name
  pub entered : directory_with f v (entry_at f dir name) (key_of f (under (entry_at f dir name) v)) ≡ x

by_item : (f : Format) (v : View) (at : Path) (held : Bool) (item : Item) (a : Path) (x : Result Directory Lack) → standing_of f v at held item ≡ Dir a x
    → (held ≡ true) × (item ≡ DirectoryItem) × (a ≡ at) × (directory_with f v at (key_of f (under at v)) ≡ x)
by_item f v at held Nothing a x e = cc
by_item f v at false (FileItem rest) a x e = cc
by_item f v at true (FileItem rest) a x e = cc
by_item f v at false DirectoryItem a x e = cc
by_item f v at true DirectoryItem a x e = (refl, refl, cc, cc)
by_item f v at held (NoItem finding) a x e = cc

pub stands_as : (f : Format) (v : View) (dir : Directory) (name : List ℕ) (at : Path) (x : Result Directory Lack) → standing_in f v dir name ≡ Dir at x → StandsAs f v dir name at x
stands_as f v dir name at x e = by_name (is_name name) refl
  where
    by_name : (b : Bool) → is_name name ≡ b → StandsAs f v dir name at x
    by_name false is = let absent : Absent ≡ Dir at x = sym (standing_unnamed f v dir name is) ∙ e in cc
    by_name true is =
        let parts : (holds_full f v dir (f.stored dir.key name) ≡ true) × (item_at f v dir (f.stored dir.key name) ≡ DirectoryItem) × (at ≡ entry_at f dir name) × (directory_with f v (entry_at f dir name) (key_of f (under (entry_at f dir name) v)) ≡ x)
        = by_item f v (entry_at f dir name) (holds_full f v dir (f.stored dir.key name)) (item_at f v dir (f.stored dir.key name)) at x (sym (standing_named f v dir name is) ∙ e) in
        record { named = is; held = parts.0; item = parts.1; place = parts.2; entered = parts.3 }

-- a path to a directory goes through its parent
record GoesThrough (f : Format) (v : View) (here : Standing) (front : plain.Path) (name : List ℕ) (s : Standing) : Type 0 where
  dir : Directory
  at : Path
  before : standing_from f v here front ≡ Dir at (Ok dir)
  then : standing_in f v dir name ≡ s

goes_through : (f : Format) (v : View) (here : Standing) (front : plain.Path) (name : List ℕ) (a : Path) (d : Directory) → standing_from f v here (front ++ name ∷ []) ≡ Dir a (Ok d) → GoesThrough f v here front name (Dir a (Ok d))
goes_through f v (Dir at (Ok dir)) [] name a d e = record { dir = dir; at = at; before = refl; then = e }
goes_through f v (Dir at (Err x)) [] name a d e = cc
goes_through f v (File at) [] name a d e = cc
goes_through f v (Strange at) [] name a d e = cc
goes_through f v Absent [] name a d e = cc
goes_through f v (Dir at (Ok dir)) (n ∷ front) name a d e =
    let rest : GoesThrough f v (standing_in f v dir n) front name (Dir a (Ok d)) = goes_through f v (standing_in f v dir n) front name a d e in
    record { dir = rest.dir; at = rest.at; before = rest.before; then = rest.then }
goes_through f v (Dir at (Err x)) (n ∷ front) name a d e = cc
goes_through f v (File at) (n ∷ front) name a d e = cc
goes_through f v (Strange at) (n ∷ front) name a d e = cc
goes_through f v Absent (n ∷ front) name a d e = cc

-- a directory that a path through another leads to stands there under the last name
pub record IsChild (f : Format) (v : View) (path : plain.Path) (name : List ℕ) (d : Directory) : Type 0 where
  pub dir : Directory
  pub leads : Leads f v path dir
  pub at : Path
  pub stands : standing_in f v dir name ≡ Dir at (Ok d)
  pub how : StandsAs f v dir name at (Ok d)
  pub its : IsEntered f v (entry_at f dir name) (key_of f (under (entry_at f dir name) v)) d

pub is_child : (f : Format) (v : View) (path : plain.Path) (name : List ℕ) (d : Directory) → Leads f v (path ++ name ∷ []) d → IsChild f v path name d
is_child f v path name d leads =
    let through : GoesThrough f v (root_of f v) path name (Dir leads.at (Ok d)) = goes_through f v (root_of f v) path name leads.at d leads.stands in
    let how : StandsAs f v through.dir name leads.at (Ok d) = stands_as f v through.dir name leads.at (Ok d) through.then in
    record {
      dir = through.dir;
      leads = record { at = through.at; stands = through.before };
      at = leads.at;
      stands = through.then;
      how = how;
      its = is_entered f v (entry_at f through.dir name) (key_of f (under (entry_at f through.dir name) v)) d how.entered;
    }

-- the root's directory is no child's
root_is_no_child : (f : Format) → IsLawful f → (v : View) (path : plain.Path) (name : List ℕ) (d : Directory) → Leads f v [] d → Leads f v (path ++ name ∷ []) d → ⊥
root_is_no_child f lawful v path name d root leads =
    let entered : IsEntered f v [] (f.root_key v) d = is_entered f v [] (f.root_key v) d (root_entered root.at root.stands) in
    let child_of : IsChild f v path name d = is_child f v path name d leads in
    lawful.root_apart v (under (entry_at f child_of.dir name) v) d.key d.key (entry_at f child_of.dir name)
    (child-not_base child_of.dir.folder (f.stored child_of.dir.key name).name) entered.its_key child_of.its.its_key (sym entered.form ∙ child_of.its.form) refl
  where
    root_entered : (at : Path) → root_of f v ≡ Dir at (Ok d) → directory_with f v [] (f.root_key v) ≡ Ok d
    root_entered at e = cc

-- the entries of one directory's children are one, as no directory stands twice
one_entry : (f : Format) (v : View) → IsClean f v → (p q : plain.Path) (a b : List ℕ) (d : Directory) → (one : IsChild f v p a d) → (two : IsChild f v q b d) → entry_at f one.dir a ≡ entry_at f two.dir b
one_entry f v clean p q a b d one two = elim (one_or_not (entry_at f one.dir a) (entry_at f two.dir b)) [
  | inl same ↦ same
  | inr apart ↦ absurd (clean DirIdTwice (entry_at f one.dir a) refl (record {
    other = entry_at f two.dir b;
    apart = apart.0;
    one = Ok d;
    two = Ok d;
    item = record { dir = one.dir; name = a; reached = (p, one.leads); stands = one.stands ∙ ap (λ x. Dir x (Ok d)) one.how.place };
    again = record { dir = two.dir; name = b; reached = (q, two.leads); stands = two.stands ∙ ap (λ x. Dir x (Ok d)) two.how.place };
    key = d.key;
    its = one.its.its_key;
    same = two.its.its_key;
    folder = sym one.its.form ∙ two.its.form;
  }))
]

-- so its children have one directory and one name
one_child : (f : Format) (lawful : IsLawful f) (v : View) → IsClean f v → HaveOwnFolders f v → (p q : plain.Path) (a b : List ℕ) (d : Directory) → (one : IsChild f v p a d) → (two : IsChild f v q b d)
    → (one.dir ≡ two.dir) × (a ≡ b)
one_child f lawful v clean own p q a b d one two = (dirs, names)
  where
    both : (one.dir.folder ≡ two.dir.folder) × ((f.stored one.dir.key a).name ≡ (f.stored two.dir.key b).name)
    both = child-both one.dir.folder two.dir.folder (f.stored one.dir.key a).name (f.stored two.dir.key b).name (one_entry f v clean p q a b d one two)

    dirs : one.dir ≡ two.dir
    dirs = own one.dir two.dir (p, one.leads) (q, two.leads) both.0

    no_other : a ≢ b → ⊥
    no_other apart =
        let none : HasNoItem (standing_in f v two.dir a) = other_name f lawful v two.dir b a (reached_right f lawful v q two.dir two.leads).is_key two.how.named one.how.named
        (ap (λ (x : Directory). (f.stored x.key a).name) (sym dirs) ∙ both.1) two.how.held apart in
        subst HasNoItem (ap (λ x. standing_in f v x a) (sym dirs) ∙ one.stands) none

    by_eq : (t : Bool) → bytes_eq a b ≡ t → a ≡ b
    by_eq true e = (bytes_eq-Decides a b).0 e
    by_eq false e = absurd (no_other (λ same. let is : bytes_eq a b ≡ true = (bytes_eq-Decides a b).1 same in cc))

    names : a ≡ b
    names = by_eq (bytes_eq a b) refl

-- one path leads to a directory that one of so many names leads to
abbrev OnePath : Format → View → ℕ → Type 0
OnePath f v n = (path other : plain.Path) (dir : Directory) → length path ≡ n → Leads f v path dir → Leads f v other dir → path ≡ other

no_names : (f : Format) (lawful : IsLawful f) (v : View) → OnePath f v zero
no_names f lawful v [] other dir size leads leads_too = elim (base_or_child other) [
  | inl none ↦ sym none
  | inr last ↦ absurd (root_is_no_child f lawful v last.0 last.1 dir leads (subst (λ p. Leads f v p dir) last.2 leads_too))
]
no_names f lawful v (n ∷ path) other dir size leads leads_too = cc

one_name_more : (f : Format) (lawful : IsLawful f) (v : View) → IsClean f v → HaveOwnFolders f v → (n : ℕ) → OnePath f v n → OnePath f v (suc n)
one_name_more f lawful v clean own n shorter path other dir size leads leads_too = by_ends (base_or_child path) (base_or_child other)
  where
    by_ends : (path ≡ []) ⊎ ((p : Path) × (a : Part) × (path ≡ child p a)) → (other ≡ []) ⊎ ((p : Path) × (a : Part) × (other ≡ child p a)) → path ≡ other
    by_ends (inl one) two = let none : suc n ≡ zero = sym size ∙ ap length one in cc
    by_ends (inr one) (inl two) = absurd (root_is_no_child f lawful v one.0 one.1 dir (subst (λ p. Leads f v p dir) two leads_too) (subst (λ p. Leads f v p dir) one.2 leads))
    by_ends (inr one) (inr two) =
        let first : IsChild f v one.0 one.1 dir = is_child f v one.0 one.1 dir (subst (λ p. Leads f v p dir) one.2 leads) in
        let second : IsChild f v two.0 two.1 dir = is_child f v two.0 two.1 dir (subst (λ p. Leads f v p dir) two.2 leads_too) in
        let same : (first.dir ≡ second.dir) × (one.1 ≡ two.1) = one_child f lawful v clean own one.0 two.0 one.1 two.1 dir first second in
        let more : length one.0 + 1 ≡ suc n = sym (length-append one.0 (one.1 ∷ [])) ∙ ap length (sym one.2) ∙ size in
        let fronts : one.0 ≡ two.0 = shorter one.0 two.0 first.dir (omega (arith, more)) first.leads (subst (λ d. Leads f v two.0 d) (sym same.0) second.leads) in
        one.2 ∙ ap (λ p. child p one.1) fronts ∙ ap (child two.0) same.1 ∙ sym two.2

one_path_by : (f : Format) (lawful : IsLawful f) (v : View) → IsClean f v → HaveOwnFolders f v → (n : ℕ) → OnePath f v n
one_path_by f lawful v clean own zero = no_names f lawful v
one_path_by f lawful v clean own (suc n) = one_name_more f lawful v clean own n (one_path_by f lawful v clean own n)

-- a clean vault is orderly
pub clean_is_orderly : (f : Format) → IsLawful f → (v : View) → v [] ≡ Folder → HasFolders v → HaveOwnFolders f v → IsClean f v → IsOrderly f v
clean_is_orderly f lawful v there folders own clean = record {
  root_there = there;
  top = top.0;
  root = ap (Dir []) top.1;
  folders = folders;
  entered = λ path dir name at lack leads stands. no_lock at lack (inr (record { dir = dir; name = name; reached = (path, leads); stands = stands }));
  one_path = λ path other dir leads leads_too. one_path_by f lawful v clean own (length path) path other dir refl leads leads_too;
  own_folder = own;
}
  where
    no_lock : (at : Path) (lack : Lack) → ¬ IsLocked f v lack at
    no_lock at lacks.NoDirKey locked = clean NoDirKey at refl locked
    no_lock at lacks.NoFolder locked = clean NoFolder at refl locked

    by_root : (x : Result Directory Lack) → directory_with f v [] (f.root_key v) ≡ x → (d : Directory) × (directory_with f v [] (f.root_key v) ≡ Ok d)
    by_root (Ok d) e = (d, e)
    by_root (Err lack) e = absurd (no_lock [] lack (inl (ap (Dir []) e)))

    top : (d : Directory) × (directory_with f v [] (f.root_key v) ≡ Ok d)
    top = by_root (directory_with f v [] (f.root_key v)) refl
