-- Plans at what a rule makes of their paths.
use Rattle.std.proofs.Common.{◌≡◌, ◌⊎◌, inl, inr, ℕ, suc, ◌+◌, ◌<◌, ◌≤◌, Bool, true, false, List, [], ◌∷◌, ◌++◌, length, map, take, drop, get_or, Option, Some, None, Err, refl, sym, ap, ◌∙◌, subst, arith, take-append-drop, drop-cons, Contains, AllPairs, if◌then◌else◌}
use Rattle.std.specs.Cmp.Lexicographic.{lists_total, nat_list_cmp_total}
use Rattle.std.specs.BTreeMap.{BTreeMap, get, is_at}
use Rattle.std.specs.List.{AllAdjacentBelow}
use Rattle.std.specs.List.Sorted.{IsPermutation}
use Rattle.std.specs.Map.{lookup}
use Rattle.std.specs.Ordering.{is_eq}
use Rattle.std.proofs.lemmas.Cmp.{tied_itself}
use Rattle.std.proofs.lemmas.List.{get_or-map, get_or-take, get_or_default, length-map, length-take-le, take-map}
use Rattle.std.proofs.lemmas.List.Sorted.{Contains-permutation, IsPermutation-sym}
use Rattle.std.proofs.lemmas.Map.Keys.{Less-from_sorted, sorted_from_all_adjacent}
use Rattle.std.proofs.Math.Nat.{eq-or-lt_of_le}
use Rattle.std.specs.FinMap.{slice_cmp-IsAntisymmetric, nat_cmp-IsAntisymmetric}
use Rattle.std.specs.declared.cmp.Ordering.{Ordering}
use Rattle.std.specs.declared.cmp.Ordering.TheVariants.{Less, Equal, Greater}
use Rattle.folder_spec.specs.Seen.{ShowsFile}
use Rattle.folder_spec.specs.View.{View}
use Rattle.plain_tree.specs.Names as plain
use Rattle.plain_tree.specs.Order.{path_cmp}
use Rattle.plain_tree.specs.declared.NodeKind.TheVariants.{File}
use Rattle.plain_tree.specs.declared.name_map.NameMap.{NameMap}
use Rattle.vault_spec.proofs.Mapped.{mapped_from}
use Rattle.vault_spec.specs.Plan.{Planned}
use Rattle.vault_walk.specs.Surveyed.{AreInOrder}
use Rattle.tree_match.specs.Mapping.{AreAlone, AreFirstAlike, AreFirstToMeet, AreNamed, IsMappedPlan, MapsTo, Meets, RefusesFirst, RefusesItem, mapped_item}
use Rattle.tree_match.specs.Matching.{IsMatchable}
use Rattle.tree_match.specs.declared.answer.MapFault.{MapFault}
use Rattle.tree_match.specs.declared.answer.MapFault.TheVariants.{NotAName, Meet, NoMemory}

-- ---- one by one

-- all items, about one of them
pub parted : (items : List Planned) (k : ℕ) (x : Planned) → k < length items → x ≡ get_or items k x → items ≡ take k items ++ x ∷ drop (suc k) items
parted items k x within is =
    sym (take-append-drop k items) ∙ ap (λ (ys : List Planned). take k items ++ ys) (drop-cons items k x within ∙ ap (λ (y : Planned). y ∷ drop (suc k) items) (sym is))

-- the first that is refused
pub refuses_first : (names : NameMap) (items : List Planned) (k : ℕ) (x : Planned) → k < length items → x ≡ get_or items k x → AreNamed names (take k items) → (fault : MapFault) → RefusesItem names x fault
    → RefusesFirst names items fault
refuses_first names items k x within is named (NotAName path) refuses = record {
  front = take k items;
  item = x;
  behind = drop (suc k) items;
  parts = parted items k x within is;
  at_path = sym refuses.0;
  unnamed = refuses.1;
  first = named;
}
refuses_first names items k x within is named (Meet one other) refuses = refuses
refuses_first names items k x within is named NoMemory refuses = tt

-- ---- at which place a path stands

one_path : (p q : plain.Path) → is_eq (path_cmp p q) ≡ true → p ≡ q
one_path p q h = by (path_cmp p q) refl h
  where
    by : (o : Ordering) → path_cmp p q ≡ o → is_eq o ≡ true → p ≡ q
    by Equal e h = slice_cmp-IsAntisymmetric (slice_cmp-IsAntisymmetric nat_cmp-IsAntisymmetric) p q e
    by Less e h = cc h
    by Greater e h = cc h

own_path : (p : plain.Path) → is_eq (path_cmp p p) ≡ true
own_path p = ap is_eq (tied_itself (lists_total nat_list_cmp_total) p)

-- where each path comes before the next one, no two are one
pub all_ascending : (items : List Planned) (n : ℕ) → length items ≤ n → AllAdjacentBelow (λ (x y : Planned). path_cmp x.path y.path ≡ Less) items n → AreAlone items
all_ascending items n all ascending i j d before few same =
    let path = λ (x : Planned). x.path in
    let size : length (map path items) ≡ length items = length-map items path in
    let sorted = sorted_from_all_adjacent (lists_total nat_list_cmp_total) (map path items) [] (λ k less. rw (get_or-map path items k d [] (omega (arith, less, size)), get_or-map path items (k + 1) d [] (omega (arith, less, size))) (ascending k d (omega (arith, less, size, all)))) in
    let less = Less-from_sorted path_cmp (map path items) i j [] sorted before (omega (arith, few, size)) in
    let here : path_cmp (get_or items i d).path (get_or items j d).path ≡ Less = rw (get_or-map path items i d [] (omega (arith, before, few)), get_or-map path items j d [] few) at less in
    let own = own_path (get_or items j d).path in
    let no : true ≡ false = sym own ∙ ap (λ (p : plain.Path). is_eq (path_cmp p (get_or items j d).path)) (sym same) ∙ ap is_eq here in
    cc no

-- the places of the first items, each path at one
pub record Places (items : List Planned) (n : ℕ) (at : plain.Path → Option ℕ) : Type 0 where
  pub found : (p : plain.Path) (i : ℕ) → at p ≡ Some i → (i < n) × ((d : Planned) → (get_or items i d).path ≡ p)
  pub all_ : (i : ℕ) (d : Planned) → i < n → at (get_or items i d).path ≡ Some i

pub empty_map : (m : BTreeMap plain.Path ℕ) (p : plain.Path) → m.entries ≡ [] → get path_cmp m p ≡ None
empty_map m p empty = ap (λ (es : List (plain.Path × ℕ)). lookup (is_at (path_cmp p)) es) empty

pub no_places : (items : List Planned) (at : plain.Path → Option ℕ) → ((p : plain.Path) → at p ≡ None) → Places items 0 at
no_places items at none = record { found = λ p i e. let no : None ≡ Some i = sym (none p) ∙ e in cc no; all_ = λ i d few. absurd (omega arith) }

one_more : (at after : plain.Path → Option ℕ) (path : plain.Path) (n : ℕ) → at path ≡ None → ((p : plain.Path) → after p ≡ (if is_eq (path_cmp path p) then Some n else at p))
    → (p : plain.Path) (i : ℕ) → (at p ≡ Some i → after p ≡ Some i)
one_more at after path n none put p i e = by (is_eq (path_cmp path p)) refl
  where
    by : (b : Bool) → is_eq (path_cmp path p) ≡ b → after p ≡ Some i
    by true same = let no : None ≡ Some i = sym none ∙ ap at (one_path path p same) ∙ e in cc no
    by false other = put p ∙ ap (λ (b : Bool). if b then Some n else at p) other ∙ e

pub places_more : (items : List Planned) (n : ℕ) (x : Planned) (path : plain.Path) (at after : plain.Path → Option ℕ) → n < length items → x ≡ get_or items n x → path ≡ x.path → at path ≡ None
    → ((p : plain.Path) → after p ≡ (if is_eq (path_cmp path p) then Some n else at p)) → Places items n at → Places items (n + 1) after
places_more items n x path at after within is named none put h = record { found = found; all_ = all_ }
  where
    here : (d : Planned) → (get_or items n d).path ≡ path
    here d = ap (λ (y : Planned). y.path) (get_or_default items n d x within ∙ sym is) ∙ sym named

    found : (p : plain.Path) (i : ℕ) → after p ≡ Some i → (i < n + 1) × ((d : Planned) → (get_or items i d).path ≡ p)
    found p i e = by (is_eq (path_cmp path p)) refl
      where
        by : (b : Bool) → is_eq (path_cmp path p) ≡ b → (i < n + 1) × ((d : Planned) → (get_or items i d).path ≡ p)
        by true same =
            let at_n : Some n ≡ Some i = ap (λ (b : Bool). if b then Some n else at p) (sym same) ∙ sym (put p) ∙ e in
            let is_n : n ≡ i = cc at_n in
            (omega (arith, is_n), λ d. ap (λ k. (get_or items k d).path) (sym is_n) ∙ here d ∙ one_path path p same)
        by false other =
            let before = h.found p i (ap (λ (b : Bool). if b then Some n else at p) (sym other) ∙ sym (put p) ∙ e) in
            let less : i < n = before.0 in (omega (arith, less), before.1)

    all_ : (i : ℕ) (d : Planned) → i < n + 1 → after (get_or items i d).path ≡ Some i
    all_ i d few = by (eq-or-lt_of_le (le_of i few))
      where
        le_of : (i : ℕ) → i < n + 1 → i ≤ n
        le_of i few = omega arith

        by : (i ≡ n) ⊎ (i < n) → after (get_or items i d).path ≡ Some i
        by (inl last) =
            let same : (get_or items i d).path ≡ path = ap (λ k. (get_or items k d).path) last ∙ here d in
            ap after same ∙ put path ∙ ap (λ (b : Bool). if b then Some n else at path) (own_path path) ∙ ap Some (sym last)
        by (inr before) = one_more at after path n none put (get_or items i d).path i (h.all_ i d before)

-- so far no two have one path
pub alone_so_far : (items : List Planned) (n : ℕ) (at : plain.Path → Option ℕ) → n ≤ length items → Places items n at → AreAlone (take n items)
alone_so_far items n at within h i j d before few same =
    let size : length (take n items) ≡ n = length-take-le n items within in
    let j_in : j < n = omega (arith, few, size) in
    let i_in : i < n = omega (arith, j_in, before) in
    let one = ap (λ (y : Planned). y.path) (get_or-take n items i d i_in) in
    let two = ap (λ (y : Planned). y.path) (get_or-take n items j d j_in) in
    let both : Some i ≡ Some j = sym (h.all_ i d i_in) ∙ ap at (sym one ∙ same ∙ two) ∙ h.all_ j d j_in in
    let equal : i ≡ j = cc both in
    omega (arith, before, equal)

-- and so are all
pub all_alone : (items : List Planned) (n : ℕ) (at : plain.Path → Option ℕ) → length items ≤ n → Places items n at → AreAlone items
all_alone items n at all_ h i j d before few same =
    let j_in : j < n = omega (arith, few, all_) in
    let i_in : i < n = omega (arith, j_in, before) in
    let both : Some i ≡ Some j = sym (h.all_ i d i_in) ∙ ap at same ∙ h.all_ j d j_in in
    let equal : i ≡ j = cc both in
    omega (arith, before, equal)

pub first_alike : (items : List Planned) (n early : ℕ) (x : Planned) (path : plain.Path) (at : plain.Path → Option ℕ) → n < length items → x ≡ get_or items n x → path ≡ x.path → Places items n at
    → at path ≡ Some early → AreFirstAlike items early n
first_alike items n early x path at within is named h there =
    let found = h.found path early there in record {
      in_order = found.0;
      within = within;
      alike = λ d. found.1 d ∙ named ∙ ap (λ (y : Planned). y.path) (is ∙ get_or_default items n x d within);
      first = alone_so_far items n at (omega (arith, within)) h;
    }

-- ---- two that meet

alone_mapped : (names : NameMap) (items : List Planned) → AreAlone (map (mapped_item names) items) → AllPairs (λ (x y : Planned). ¬ Meets names x y) items
alone_mapped names items alone i j d before few meet =
    let size : length (map (mapped_item names) items) ≡ length items = length-map items (mapped_item names) in
    let e = mapped_item names d in
    let one = ap (λ (y : Planned). y.path) (get_or-map (mapped_item names) items i d e (omega (arith, before, few))) in
    let two = ap (λ (y : Planned). y.path) (get_or-map (mapped_item names) items j d e few) in
    alone i j e before (omega (arith, few, size)) (one ∙ meet ∙ sym two)

pub first_to_meet : (names : NameMap) (items mapped : List Planned) (early late : ℕ) (x y : Planned) (one other : plain.Path) → mapped ≡ map (mapped_item names) items → AreFirstAlike mapped early late
    → x ≡ get_or items early x → y ≡ get_or items late y → one ≡ x.path → other ≡ y.path → AreFirstToMeet names items one other
first_to_meet names items mapped early late x y one other are alike x_is y_is one_is other_is =
    let f = mapped_item names in
    let size : length mapped ≡ length items = ap length are ∙ length-map items f in
    let late_in : late < length items = omega (arith, alike.within, size) in
    let early_in : early < length items = omega (arith, alike.in_order, late_in) in
    let at_early : get_or mapped early (f x) ≡ f x = ap (λ (ys : List Planned). get_or ys early (f x)) are ∙ get_or-map f items early x (f x) early_in ∙ ap f (sym x_is) in
    let at_late : get_or mapped late (f x) ≡ f y = ap (λ (ys : List Planned). get_or ys late (f x)) are ∙ get_or-map f items late y (f x) late_in ∙ ap f (sym y_is) in
    let front_size : length (take late items) ≡ late = length-take-le late items (omega (arith, late_in)) in record {
      front = take late items;
      later = y;
      behind = drop (suc late) items;
      parts = parted items late y late_in y_is;
      earlier = x;
      among = (early, omega (arith, alike.in_order, front_size), get_or-take late items early x alike.in_order ∙ sym x_is);
      at_one = sym one_is;
      at_other = sym other_is;
      meet = sym (ap (λ (z : Planned). z.path) at_early) ∙ alike.alike (f x) ∙ ap (λ (z : Planned). z.path) at_late;
      first = alone_mapped names (take late items) (subst AreAlone (ap (take late) are ∙ take-map f late items) alike.first);
    }

pub meets_as : (names : NameMap) (items mapped : List Planned) (early late : ℕ) (fault : MapFault) → AreNamed names items → mapped ≡ map (mapped_item names) items → AreFirstAlike mapped early late
    → ((d : Planned) → fault ≡ Meet (get_or items early d).path (get_or items late d).path) → MapsTo names items (Err fault)
meets_as names [] mapped early late fault named are alike is =
    let none : length mapped ≡ 0 = ap length are in absurd (omega (arith, alike.within, none))
meets_as names (z ∷ zs) mapped early late fault named are alike is =
    let items = z ∷ zs in
    let size : length mapped ≡ length items = ap length are ∙ length-map items (mapped_item names) in
    let late_in : late < length items = omega (arith, alike.within, size) in
    let early_in : early < length items = omega (arith, alike.in_order, late_in) in
    let x = get_or items early z in
    let y = get_or items late z in
    subst (λ (e : MapFault). MapsTo names items (Err e)) (sym (is z))
    (named, first_to_meet names items mapped early late x y x.path y.path are alike (get_or_default items early z x early_in) (get_or_default items late z y late_in) refl refl)

pub is_mapped : (names : NameMap) (items mapped plan : List Planned) → mapped ≡ map (mapped_item names) items → AreInOrder mapped plan → AreAlone mapped → IsMappedPlan names items plan
is_mapped names items mapped plan are h alone = record { same = subst (λ (ys : List Planned). IsPermutation ys plan) are h.same; ordered = h.ordered alone }

-- ---- what is mapped can be matched

pub matchable : (v : View) (names : NameMap) (items mapped : List Planned) → IsMatchable v items → IsMappedPlan names items mapped → IsMatchable v mapped
matchable v names items mapped h are = record { ordered = are.ordered; files = files }
  where
    files : (item : Planned) → Contains mapped item → item.node ≡ File → ShowsFile v item.at
    files item here is_file =
        let f = mapped_item names in
        let from_ = mapped_from f items item (Contains-permutation mapped (map f items) item (IsPermutation-sym (map f items) mapped are.same) here) in
        subst (λ (y : Planned). ShowsFile v y.at) from_.2 (h.files from_.0 from_.1 (ap (λ (y : Planned). y.node) from_.2 ∙ is_file))
