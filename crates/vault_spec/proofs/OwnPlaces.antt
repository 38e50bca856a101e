-- In an orderly vault no two plain paths have one place.
use Rattle.std.proofs.Common.{◌≡◌, ◌≢◌, ◌⊎◌, ℕ, Bool, true, false, List, [], ◌∷◌, ◌++◌, Ok, Err, refl, sym, ap, ◌∙◌, inl, inr, subst, append-nil, Some, None, is_some, bytes_eq}
use Rattle.std.proofs.lemmas.Slice.Eq.{bytes_eq-Decides}
use Rattle.folder_spec.specs.Path.{Part, Path, child}
use Rattle.folder_spec.specs.View.{View}
use Rattle.folder_spec.specs.Seen.{under}
use Rattle.folder_spec.proofs.Paths.{base_or_child}
use Rattle.plain_tree.specs.Names as plain
use Rattle.plain_tree.specs.Names.{is_name}
use Rattle.vault_spec.specs.Format.{Format, Directory, Item, Nothing, FileItem, DirectoryItem, NoItem}
use Rattle.vault_spec.specs.Standing.{Standing, Absent, Strange, File, Dir, root_of, entry_at, holds_full, item_at, standing_of, standing_in, standing_from, standing}
use Rattle.vault_spec.specs.Reached.{Leads}
use Rattle.vault_spec.specs.Alike.{HasNoItem, IsOrderly, place_of, HaveOwnPlaces}
use Rattle.vault_spec.proofs.Lawful.{IsLawful}
use Rattle.vault_spec.proofs.Grafts.{IsRight, reached_right, standing_named, standing_unnamed}
use Rattle.vault_spec.proofs.PathEnds.{child-both}
use Rattle.vault_spec.proofs.Places.{other_name}

-- what has a place and stands under a name in a directory that a path leads to
pub record StandsUnder (f : Format) (v : View) (here : Standing) (front : plain.Path) (name : List ℕ) (place : Path) : Type 0 where
  pub dir : Directory
  pub at : Path
  pub before : standing_from f v here front ≡ Dir at (Ok dir)
  pub its : place_of (standing_in f v dir name) ≡ Some place

pub stands_under : (f : Format) (v : View) (here : Standing) (front : plain.Path) (name : List ℕ) (place : Path) → place_of (standing_from f v here (front ++ name ∷ [])) ≡ Some place → StandsUnder f v here front name place
stands_under f v (Dir at (Ok dir)) [] name place e = record { dir = dir; at = at; before = refl; its = e }
stands_under f v (Dir at (Err x)) [] name place e = cc
stands_under f v (File at) [] name place e = cc
stands_under f v (Strange at) [] name place e = cc
stands_under f v Absent [] name place e = cc
stands_under f v (Dir at (Ok dir)) (n ∷ front) name place e =
    let rest : StandsUnder f v (standing_in f v dir n) front name place = stands_under f v (standing_in f v dir n) front name place e in
    record { dir = rest.dir; at = rest.at; before = rest.before; its = rest.its }
stands_under f v (Dir at (Err x)) (n ∷ front) name place e = cc
stands_under f v (File at) (n ∷ front) name place e = cc
stands_under f v (Strange at) (n ∷ front) name place e = cc
stands_under f v Absent (n ∷ front) name place e = cc

-- its place is its entry, or its content behind that
record IsAtEntry (f : Format) (v : View) (dir : Directory) (name : List ℕ) (place : Path) : Type 0 where
  named : is_name name ≡ true
  held : holds_full f v dir (f.stored dir.key name) ≡ true
  rest : Path
  is : place ≡ entry_at f dir name ++ rest
  kind : (rest ≡ []) ⊎ (item_at f v dir (f.stored dir.key name) ≡ FileItem rest)

by_item : (f : Format) (v : View) (at : Path) (held : Bool) (item : Item) (place : Path) → place_of (standing_of f v at held item) ≡ Some place
    → (held ≡ true) × (rest : Path) × (place ≡ at ++ rest) × ((rest ≡ []) ⊎ (item ≡ FileItem rest))
by_item f v at held Nothing place e = cc
by_item f v at false (FileItem rest) place e = cc
by_item f v at true (FileItem rest) place e = let same : at ++ rest ≡ place = cc in (refl, rest, sym same, inr refl)
by_item f v at false DirectoryItem place e = cc
by_item f v at true DirectoryItem place e = let same : at ≡ place = cc in (refl, [], sym same ∙ sym (append-nil at), inl refl)
by_item f v at held (NoItem finding) place e = cc

at_entry : (f : Format) (v : View) (dir : Directory) (name : List ℕ) (place : Path) → place_of (standing_in f v dir name) ≡ Some place → IsAtEntry f v dir name place
at_entry f v dir name place e = by_name (is_name name) refl
  where
    by_name : (b : Bool) → is_name name ≡ b → IsAtEntry f v dir name place
    by_name false is = let none : None ≡ Some place = ap place_of (sym (standing_unnamed f v dir name is)) ∙ e in cc
    by_name true is =
        let parts : (holds_full f v dir (f.stored dir.key name) ≡ true) × (rest : Path) × (place ≡ entry_at f dir name ++ rest) × ((rest ≡ []) ⊎ (item_at f v dir (f.stored dir.key name) ≡ FileItem rest))
        = by_item f v (entry_at f dir name) (holds_full f v dir (f.stored dir.key name)) (item_at f v dir (f.stored dir.key name)) place (ap place_of (sym (standing_named f v dir name is)) ∙ e) in
        record { named = is; held = parts.0; rest = parts.1; is = parts.2; kind = parts.3 }

-- no place is the root's but that of the root
not_root : (p : Path) (a : Part) (rest : Path) → child p a ++ rest ≢ []
not_root [] a rest e = cc
not_root (b ∷ p) a rest e = cc

-- what stands at one place is of one directory and name
one_of_place : (f : Format) (lawful : IsLawful f) (v : View) → IsOrderly f v → (p q : plain.Path) (a b : List ℕ) (place : Path)
    → (one : StandsUnder f v (root_of f v) p a place) → (two : StandsUnder f v (root_of f v) q b place) → (p ≡ q) × (a ≡ b)
one_of_place f lawful v orderly p q a b place one two = (orderly.one_path p q one.dir leads (subst (λ d. Leads f v q d) (sym dirs) leads_too), names)
  where
    first : IsAtEntry f v one.dir a place
    first = at_entry f v one.dir a place one.its

    second : IsAtEntry f v two.dir b place
    second = at_entry f v two.dir b place two.its

    leads : Leads f v p one.dir
    leads = record { at = one.at; stands = one.before }

    leads_too : Leads f v q two.dir
    leads_too = record { at = two.at; stands = two.before }

    right : IsRight f lawful v one.dir
    right = reached_right f lawful v p one.dir leads

    right_too : IsRight f lawful v two.dir
    right_too = reached_right f lawful v q two.dir leads_too

    entries : entry_at f one.dir a ≡ entry_at f two.dir b
    entries =
        ap (λ r. child r (f.stored one.dir.key a).name) right.form
        ∙ lawful.content_entry (under (entry_at f one.dir a) v) (under (entry_at f two.dir b) v) (is_some (f.stored one.dir.key a).full) (is_some (f.stored two.dir.key b).full)
        first.rest second.rest one.dir.key two.dir.key right.at right_too.at (f.stored one.dir.key a).name (f.stored two.dir.key b).name first.kind second.kind
        (ap (λ r. child r (f.stored one.dir.key a).name ++ first.rest) (sym right.form) ∙ sym first.is ∙ second.is
        ∙ ap (λ r. child r (f.stored two.dir.key b).name ++ second.rest) right_too.form)
        ∙ ap (λ r. child r (f.stored two.dir.key b).name) (sym right_too.form)

    both : (one.dir.folder ≡ two.dir.folder) × ((f.stored one.dir.key a).name ≡ (f.stored two.dir.key b).name)
    both = child-both one.dir.folder two.dir.folder (f.stored one.dir.key a).name (f.stored two.dir.key b).name entries

    dirs : one.dir ≡ two.dir
    dirs = orderly.own_folder one.dir two.dir (p, leads) (q, leads_too) both.0

    has_place : (s : Standing) → place_of s ≡ Some place → HasNoItem s → ⊥
    has_place Absent e none = cc
    has_place (Strange at) e none = cc
    has_place (File at) e none = none
    has_place (Dir at directory) e none = none

    not_other : a ≢ b → ⊥
    not_other apart = has_place (standing_in f v two.dir a) (ap (λ d. place_of (standing_in f v d a)) (sym dirs) ∙ one.its)
        (other_name f lawful v two.dir b a right_too.is_key second.named first.named (ap (λ (d : Directory). (f.stored d.key a).name) (sym dirs) ∙ both.1) second.held apart)

    by_eq : (t : Bool) → bytes_eq a b ≡ t → a ≡ b
    by_eq true e = (bytes_eq-Decides a b).0 e
    by_eq false e = absurd (not_other (λ same. let is : bytes_eq a b ≡ true = (bytes_eq-Decides a b).1 same in cc))

    names : a ≡ b
    names = by_eq (bytes_eq a b) refl

-- the root's place is no other's
root_is_alone : (f : Format) (v : View) (p : plain.Path) (a : List ℕ) (place : Path) → place_of (root_of f v) ≡ Some place → place_of (standing f v (p ++ a ∷ [])) ≡ Some place → ⊥
root_is_alone f v p a place root e =
    let under_one : StandsUnder f v (root_of f v) p a place = stands_under f v (root_of f v) p a place e in
    let entry : IsAtEntry f v under_one.dir a place = at_entry f v under_one.dir a place under_one.its in
    let top : [] ≡ place = cc in
    not_root under_one.dir.folder (f.stored under_one.dir.key a).name entry.rest (sym entry.is ∙ sym top)

pub own_places : (f : Format) → IsLawful f → (v : View) → IsOrderly f v → HaveOwnPlaces f v
own_places f lawful v orderly path other place one two = by_ends (base_or_child path) (base_or_child other)
  where
    by_ends : (path ≡ []) ⊎ ((p : Path) × (a : Part) × (path ≡ child p a)) → (other ≡ []) ⊎ ((q : Path) × (b : Part) × (other ≡ child q b)) → path ≡ other
    by_ends (inl a) (inl b) = a ∙ sym b
    by_ends (inl a) (inr b) = absurd (root_is_alone f v b.0 b.1 place (ap (λ r. place_of (standing f v r)) (sym a) ∙ one) (ap (λ r. place_of (standing f v r)) (sym b.2) ∙ two))
    by_ends (inr a) (inl b) = absurd (root_is_alone f v a.0 a.1 place (ap (λ r. place_of (standing f v r)) (sym b) ∙ two) (ap (λ r. place_of (standing f v r)) (sym a.2) ∙ one))
    by_ends (inr a) (inr b) =
        let same : (a.0 ≡ b.0) × (a.1 ≡ b.1) = one_of_place f lawful v orderly a.0 b.0 a.1 b.1 place
        (stands_under f v (root_of f v) a.0 a.1 place (ap (λ r. place_of (standing f v r)) (sym a.2) ∙ one))
        (stands_under f v (root_of f v) b.0 b.1 place (ap (λ r. place_of (standing f v r)) (sym b.2) ∙ two)) in
        a.2 ∙ ap (λ p. child p a.1) same.0 ∙ ap (child b.0) same.1 ∙ sym b.2
