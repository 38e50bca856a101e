-- An edit beside an item keeps a vault clean, and so does the last edit of an item, where what they bring has its place.
use Rattle.std.proofs.Common.{◌≡◌, ◌≢◌, ◌⊎◌, ℕ, true, false, List, [], ◌∷◌, ◌++◌, Ok, Err, refl, sym, ap, ◌∙◌, inl, inr, subst, IsTrue, is_some}
use mathlib.Core.Path.{fun_ext}
use Rattle.folder_spec.specs.Path.{Part, Path, child}
use Rattle.folder_spec.specs.View.{NoEntry, Folder, View}
use Rattle.folder_spec.specs.Seen.{under}
use Rattle.folder_spec.specs.Edit.{Edit, edited}
use Rattle.folder_spec.proofs.Paths.{one_or_not}
use Rattle.plain_tree.specs.Names as plain
use Rattle.plain_tree.specs.Names.{is_name}
use Rattle.vault_spec.specs.declared.Finding.{Finding}
use Rattle.vault_spec.specs.declared.Lack.{Lack}
use Rattle.vault_spec.specs.Format.{Format, Directory, Item, FileItem, NoItem, Extra}
use Rattle.vault_spec.specs.Standing.{File, Dir, standing_of, root_of, entry_at, holds_full, item_at, standing_in, standing}
use Rattle.vault_spec.specs.Reached.{Leads}
use Rattle.vault_spec.specs.Alike.{HasNoItem, AreAlike, LooksAlike, GainsItem, IsOrderly}
use Rattle.vault_spec.specs.Opens.{Opened}
use Rattle.vault_spec.proofs.Lawful.{IsLawful}
use Rattle.vault_spec.proofs.Steps.{along, gains_alike}
use Rattle.vault_spec.proofs.Grafts.{reached_right, none_stands, is_entered}
use Rattle.vault_spec.proofs.PathEnds.{child-both}
use Rattle.vault_spec.proofs.Places.{SparesAll, IsSide, side_looks, led_on, led_back, brought, arrived, IsNew, Arrives, brings_item}
use Rattle.vault_spec.proofs.Clean.{StandsAs, stands_as}
use Rattle.vault_spec.proofs.StaysClean.{IsBare, IsSideFile, IsNewEntry, IsWhole, IsApart, HasPlace, KeepsClean}

-- where nothing stands, no directory that is entered has its folder
pub free_is_apart : (f : Format) (v : View) (folder : Path) → v folder ≡ NoEntry → IsApart f v folder
free_is_apart f v folder free path dir name at d leads stands same =
    let how : StandsAs f v dir name at (Ok d) = stands_as f v dir name at (Ok d) stands in
    let there : v d.folder ≡ Folder = (is_entered f v (entry_at f dir name) _ d how.entered).there in
    let clash : Folder ≡ NoEntry = sym there ∙ ap v (sym same) ∙ free in cc

-- and that stays so in a view that looks alike
pub apart_on : (f : Format) (v w : View) (folder : Path) → LooksAlike f v w → IsApart f v folder → IsApart f w folder
apart_on f v w folder looks apart path dir name at d leads stands = elim (looks.steps path dir name (led_back f v w looks path dir leads)) [
  | inl same ↦ apart path dir name at d (led_back f v w looks path dir leads) (same.stands ∙ stands)
  | inr none ↦ absurd (subst HasNoItem stands none.1)
]

pub side_keeps : (f : Format) (lawful : IsLawful f) (v : View) (e : Edit) → IsOrderly f v → IsSide f lawful v e → HasPlace f v e
    → ((path : plain.Path) (dir : Directory) (x : Part) → Leads f v path dir → child dir.folder x ≡ e.at → IsSideFile f (edited v e) dir x) → KeepsClean f lawful v e
side_keeps f lawful v e orderly side has placed = record {
  orderly = orderly;
  free = side.free;
  spares = side.spares;
  root = looks.root;
  on = led_on f v (edited v e) looks;
  back = λ path dir leads. inl (led_back f v (edited v e) looks path dir leads);
  placed = λ path dir x leads here. inl (placed path dir x leads here);
  whole = λ path dir name leads named here held. absurd (side.no_entry path dir name leads named here);
  unlocked = λ path dir name at lack leads locked. elim (looks.steps path dir name leads) [
    | inl same ↦ orderly.entered path dir name at lack leads (same.stands ∙ locked)
    | inr none ↦ absurd (subst HasNoItem locked none.1)
  ];
  stands = λ path dir name at d leads stands_now. elim (looks.steps path dir name leads) [
    | inl same ↦ inl (same.stands ∙ stands_now)
    | inr none ↦ absurd (subst HasNoItem stands_now none.1)
  ];
  has = has;
}
  where
    looks : LooksAlike f v (edited v e)
    looks = side_looks f lawful v e orderly side

-- What the last edit of an item brings: an item that holds nothing without a place, and where it is a directory, one that is entered,
-- that holds nothing but what belongs there, and whose folder no other has.
pub record BringsWhole (f : Format) (v : View) (dir : Directory) (name : List ℕ) (e : Edit) : Type 0 where
  pub item : Item
  pub is : f.item (is_some (f.stored dir.key name).full) e.made ≡ item
  pub is_item : (finding : Finding) → item ≢ NoItem finding
  pub inside : (x : Part) → f.inner_role (is_some (f.stored dir.key name).full) item x (e.made (x ∷ [])) ≢ Extra
  pub not_full : f.is_full (f.stored dir.key name).name ≡ false
  pub unlocked : (at : Path) (lack : Lack) → standing_in f (edited v e) dir name ≢ Dir at (Err lack)
  pub entered : (at : Path) (d : Directory) → standing_in f (edited v e) dir name ≡ Dir at (Ok d) → (at ≡ e.at) × IsApart f v d.folder × IsBare f (edited v e) d

pub item_keeps : (f : Format) (lawful : IsLawful f) (v : View) (front : plain.Path) (dir : Directory) (name : List ℕ) (e : Edit) (opened : Opened)
    → IsOrderly f v → IsNew f v front dir name e → SparesAll f lawful v e.at → Arrives f v dir name e opened → HasPlace f v e → BringsWhole f v dir name e → KeepsClean f lawful v e
item_keeps f lawful v front dir name e opened orderly new spares arrives has brings = record {
  orderly = orderly;
  free = ap v (sym new.place) ∙ new.free;
  spares = spares;
  root = gains.root;
  on = on;
  back = back;
  placed = placed;
  whole = whole;
  unlocked = unlocked;
  stands = stands_now;
  has = has;
}
  where
    gains : GainsItem f v (edited v e) front name
    gains = brings_item f lawful v e front dir name (record {
      orderly = orderly;
      free = ap v (sym new.place) ∙ new.free;
      spares = spares;
      leads = new.leads;
      is_key = (reached_right f lawful v front dir new.leads).is_key;
      named = new.named;
      place = new.place;
      full = arrives.full;
      leaf = arrives.leaf;
    })

    on : (path : plain.Path) (d : Directory) → Leads f v path d → Leads f (edited v e) path d
    on path d leads = elim (one_or_not path (front ++ name ∷ [])) [
      | inl here ↦ absurd (subst HasNoItem (sym (along f v (root_of f v) dir new.leads.at front name new.leads.stands) ∙ ap (standing f v) (sym here) ∙ leads.stands)
          (none_stands f lawful v dir name new.free))
      | inr apart ↦ elim (gains_alike f v (edited v e) front name gains path apart.0) [
        | inl same ↦ record { at = leads.at; stands = sym same.stands ∙ leads.stands }
        | inr none ↦ absurd (subst HasNoItem leads.stands none.0)
      ]
    ]

    back : (path : plain.Path) (d : Directory) → Leads f (edited v e) path d → Leads f v path d ⊎ IsBare f (edited v e) d
    back path d leads = elim (one_or_not path (front ++ name ∷ [])) [
      | inl here ↦ inr (brings.entered leads.at d (sym (along f (edited v e) (root_of f (edited v e)) dir (on front dir new.leads).at front name (on front dir new.leads).stands)
          ∙ ap (standing f (edited v e)) (sym here) ∙ leads.stands)).2
      | inr apart ↦ elim (gains_alike f v (edited v e) front name gains path apart.0) [
        | inl same ↦ inl (record { at = leads.at; stands = same.stands ∙ leads.stands })
        | inr none ↦ absurd (subst HasNoItem leads.stands none.1)
      ]
    ]

    same_place : (path : plain.Path) (other : Directory) (x : Part) → Leads f v path other → child other.folder x ≡ e.at → (other ≡ dir) × (x ≡ (f.stored dir.key name).name)
    same_place path other x leads here =
        let both : (other.folder ≡ dir.folder) × (x ≡ (f.stored dir.key name).name) = child-both other.folder dir.folder x (f.stored dir.key name).name (here ∙ sym new.place) in
        (orderly.own_folder other dir (path, leads) (front, new.leads) both.0, both.1)

    placed : (path : plain.Path) (other : Directory) (x : Part) → Leads f v path other → child other.folder x ≡ e.at → IsSideFile f (edited v e) other x ⊎ IsNewEntry f (edited v e) other x
    placed path other x leads here =
        let same : (other ≡ dir) × (x ≡ (f.stored dir.key name).name) = same_place path other x leads here in
        inr (subst (λ d. IsNewEntry f (edited v e) d x) (sym same.0) (subst (IsNewEntry f (edited v e) dir) (sym same.1) (record {
          name = name;
          of = record { named = new.named; stores = refl; full = arrives.full };
          not_full = brings.not_full;
        })))

    whole_here : (n : List ℕ) → is_name n ≡ true → (f.stored dir.key n).name ≡ (f.stored dir.key name).name → entry_at f dir n ≡ e.at → IsWhole f (edited v e) dir n
    whole_here n named names here =
        let long : is_some (f.stored dir.key n).full ≡ is_some (f.stored dir.key name).full
        = lawful.forms dir.key n name (reached_right f lawful v front dir new.leads).is_key named new.named names in
        let made : under (entry_at f dir n) (edited v e) ≡ e.made = ap (λ p. under p (edited v e)) here ∙ fun_ext (brought v e) in
        let item : item_at f (edited v e) dir (f.stored dir.key n) ≡ brings.item = ap (λ b. f.item b (under (entry_at f dir n) (edited v e))) long ∙ ap (f.item (is_some (f.stored dir.key name).full)) made ∙ brings.is in
        record {
          is_item = λ finding fault. brings.is_item finding (sym item ∙ fault);
          inside = λ x extra. brings.inside x (ap (f.inner_role (is_some (f.stored dir.key name).full) brings.item x) (sym (brought v e (x ∷ [])) ∙ ap (λ p. edited v e (child p x)) (sym here))
              ∙ ap (λ b. f.inner_role b brings.item x (edited v e (child (entry_at f dir n) x))) (sym long)
              ∙ ap (λ i. f.inner_role (is_some (f.stored dir.key n).full) i x (edited v e (child (entry_at f dir n) x))) (sym item) ∙ extra);
        }

    whole : (path : plain.Path) (other : Directory) (n : List ℕ) → Leads f v path other → is_name n ≡ true → entry_at f other n ≡ e.at
        → holds_full f (edited v e) other (f.stored other.key n) ≡ true → IsWhole f (edited v e) other n
    whole path other n leads named here held =
        let same : (other ≡ dir) × ((f.stored other.key n).name ≡ (f.stored dir.key name).name) = same_place path other (f.stored other.key n).name leads here in
        subst (λ d. IsWhole f (edited v e) d n) (sym same.0)
        (whole_here n named (ap (λ (d : Directory). (f.stored d.key n).name) (sym same.0) ∙ same.1) (ap (λ d. entry_at f d n) (sym same.0) ∙ here))

    -- what stands elsewhere is alike, and the step to the item is that of its directory and name
    step : (path : plain.Path) (other : Directory) (n : List ℕ) → Leads f v path other
        → AreAlike v (edited v e) (standing_in f v other n) (standing_in f (edited v e) other n) ⊎ (standing_in f (edited v e) other n ≡ standing_in f (edited v e) dir name)
    step path other n leads = elim (one_or_not (path ++ n ∷ []) (front ++ name ∷ [])) [
      | inl here ↦
          let way : standing f (edited v e) (path ++ n ∷ []) ≡ standing_in f (edited v e) other n
          = along f (edited v e) (root_of f (edited v e)) other (on path other leads).at path n (on path other leads).stands in
          let its : standing f (edited v e) (front ++ name ∷ []) ≡ standing_in f (edited v e) dir name
          = along f (edited v e) (root_of f (edited v e)) dir (on front dir new.leads).at front name (on front dir new.leads).stands in
          inr (sym way ∙ ap (standing f (edited v e)) here ∙ its)
      | inr apart ↦ inl (gains.others path other n leads apart.0)
    ]

    unlocked : (path : plain.Path) (other : Directory) (n : List ℕ) (at : Path) (lack : Lack) → Leads f v path other → standing_in f (edited v e) other n ≢ Dir at (Err lack)
    unlocked path other n at lack leads locked = elim (step path other n leads) [
      | inr its ↦ brings.unlocked at lack (sym its ∙ locked)
      | inl alike ↦ elim alike [
        | inl same ↦ orderly.entered path other n at lack leads (same.stands ∙ locked)
        | inr none ↦ absurd (subst HasNoItem locked none.1)
      ]
    ]

    stands_now : (path : plain.Path) (other : Directory) (n : List ℕ) (at : Path) (d : Directory) → Leads f v path other → standing_in f (edited v e) other n ≡ Dir at (Ok d)
        → (standing_in f v other n ≡ Dir at (Ok d)) ⊎ ((at ≡ e.at) × IsApart f v d.folder)
    stands_now path other n at d leads now = elim (step path other n leads) [
      | inr its ↦
          let parts : (at ≡ e.at) × IsApart f v d.folder × IsBare f (edited v e) d = brings.entered at d (sym its ∙ now) in
          inr (parts.0, parts.1)
      | inl alike ↦ elim alike [
        | inl same ↦ inl (same.stands ∙ now)
        | inr none ↦ absurd (subst HasNoItem now none.1)
      ]
    ]

-- a file that comes whole: its content is stored behind its entry
pub file_brings : (f : Format) (v : View) (dir : Directory) (name : List ℕ) (e : Edit) (rest : Path) → IsTrue (is_name name) → entry_at f dir name ≡ e.at
    → holds_full f (edited v e) dir (f.stored dir.key name) ≡ true → f.item (is_some (f.stored dir.key name).full) e.made ≡ FileItem rest
    → ((x : Part) → f.inner_role (is_some (f.stored dir.key name).full) (FileItem rest) x (e.made (x ∷ [])) ≢ Extra) → f.is_full (f.stored dir.key name).name ≡ false
    → BringsWhole f v dir name e
file_brings f v dir name e rest named place held item inside not_full = record {
  item = FileItem rest;
  is = item;
  is_item = λ finding is. cc;
  inside = inside;
  not_full = not_full;
  unlocked = λ at lack is. let clash : File (e.at ++ rest) ≡ Dir at (Err lack) = sym stands ∙ is in cc;
  entered = λ at d is. let clash : File (e.at ++ rest) ≡ Dir at (Ok d) = sym stands ∙ is in cc;
}
  where
    stands : standing_in f (edited v e) dir name ≡ File (e.at ++ rest)
    stands = arrived f v dir name e named (sym place) held ∙ ap (standing_of f (edited v e) e.at true) item
