-- The edits by which an item is made, once for each format: some beside it, and then its entry. What opens, what loads and that the
-- vault stays orderly follow from these.
use Rattle.std.proofs.Common.{◌≡◌, ◌≢◌, ◌⊎◌, ℕ, List, [], ◌∷◌, ◌++◌, Ok, Err, Some, None, refl, sym, ap, ◌∙◌, inl, inr, subst, IsTrue}
use Rattle.folder_spec.specs.Path.{Path}
use Rattle.folder_spec.specs.View.{NoEntry, View}
use Rattle.folder_spec.specs.Edit.{Edit, edited}
use Rattle.folder_spec.proofs.Paths.{one_or_not}
use Rattle.plain_tree.specs.Names as plain
use Rattle.plain_tree.specs.Names.{is_name}
use Rattle.vault_spec.specs.declared.Lack.{Lack}
use Rattle.vault_spec.specs.Format.{Format, Directory}
use Rattle.vault_spec.specs.Standing.{Standing, Absent, Strange, File, Dir, root_of, standing_in, standing}
use Rattle.vault_spec.specs.Opens.{Opened, opened, opened_at, opened_file}
use Rattle.vault_spec.specs.Opens as opens
use Rattle.vault_spec.specs.Reached.{Leads}
use Rattle.vault_spec.specs.Alike.{HasNoItem, HasFolders, IsOrderly, IsLeaf, GainsItem}
use Rattle.vault_spec.specs.Adding.{OpensAs, ComesAlone, NewItemsComeAlone}
use Rattle.vault_spec.specs.Anywhere.{ComesAtLast, KeepsEntered, NewItemsComeAtLast}
use Rattle.vault_spec.specs.Staying.{LoadsAlike, StaysVault, NewItemsStayVaults}
use Rattle.vault_spec.proofs.Lawful.{IsLawful, SparesConfiguration}
use Rattle.vault_spec.proofs.Steps.{along, gains_alike}
use Rattle.vault_spec.proofs.Grafts.{reached_right}
use Rattle.vault_spec.proofs.Places.{SparesAll, IsSide, side_looks, side_orderly, led_back, IsNew, Arrives, brings_item, comes_last, edited_folders, top_stays, still_entered, still_leads}
use Rattle.vault_spec.proofs.Sides.{side_opens}
use Rattle.vault_spec.proofs.Loading.{edited_loads}

-- what stands is a file, or a directory that is entered, whose folder no directory of the view has
abbrev pub HasOwnFolder : Format → View → Standing → Type 0
HasOwnFolder f v Absent = ⊥
HasOwnFolder f v (Strange at) = ⊥
HasOwnFolder f v (File at) = Unit {0}
HasOwnFolder f v (Dir at (Err lack)) = ⊥
HasOwnFolder f v (Dir at (Ok dir)) = (path : plain.Path) (other : Directory) → Leads f v path other → dir.folder ≢ other.folder

-- The last edit of an item brings its entry to a free place, and the item with it.
pub record IsLast (f : Format) (lawful : IsLawful f) (first v : View) (front : plain.Path) (dir : Directory) (name : List ℕ) (item : Opened) (e : Edit) : Type 0 where
  pub new : IsNew f v front dir name e
  pub spares : SparesAll f lawful v e.at
  pub arrives : Arrives f v dir name e item
  pub made : HasFolders e.made
  pub own : HasOwnFolder f first (standing_in f (edited v e) dir name)
  pub no_configuration : SparesConfiguration e.at

-- From the view v on, edits beside an item come one after the other, and then its entry.
abbrev pub IsMade : (f : Format) → IsLawful f → View → View → plain.Path → Directory → List ℕ → Opened → List Edit → Type 0
IsMade f lawful first v front dir name item [] = ⊥
IsMade f lawful first v front dir name item (e ∷ []) = IsLast f lawful first v front dir name item e
IsMade f lawful first v front dir name item (e ∷ next ∷ edits) = IsSide f lawful v e × IsMade f lawful first (edited v e) front dir name item (next ∷ edits)

-- ---- what opens

comes_alone : (f : Format) (lawful : IsLawful f) (first u v : View) (front : plain.Path) (dir : Directory) (name : List ℕ) (item : Opened) (edits : List Edit)
    → OpensAs f u v → IsOrderly f v → IsMade f lawful first v front dir name item edits → ComesAlone f u v edits (front ++ name ∷ []) item
comes_alone f lawful first u v front dir name item [] as_before orderly made = absurd made
comes_alone f lawful first u v front dir name item (e ∷ []) as_before orderly made = comes_last f lawful u v front dir name e item as_before orderly made.new made.spares made.arrives
comes_alone f lawful first u v front dir name item (e ∷ next ∷ edits) as_before orderly made =
    let opens_then : OpensAs f u (edited v e) = side_opens f lawful v u e as_before made.0 in
    (opens_then, comes_alone f lawful first u (edited v e) front dir name item (next ∷ edits) opens_then (side_orderly f lawful v e orderly made.0) made.1)

-- the way to the item stays, and there it opens
opens_last : (f : Format) (lawful : IsLawful f) (first v : View) (front : plain.Path) (dir : Directory) (name : List ℕ) (item : Opened) (e : Edit)
    → IsLast f lawful first v front dir name item e → opened f (edited v e) (front ++ name ∷ []) ≡ item
unfolding opened
opens_last f lawful first v front dir name item e last =
    let leads : Leads f (edited v e) front dir = still_leads f lawful v e last.new.rooted (ap v (sym last.new.place) ∙ last.new.free) last.spares front dir last.new.leads in
    ap (opened_at f (edited v e)) (along f (edited v e) (root_of f (edited v e)) dir leads.at front name leads.stands) ∙ last.arrives.opens

comes_at_last : (f : Format) (lawful : IsLawful f) (first u v : View) (front : plain.Path) (dir : Directory) (name : List ℕ) (item : Opened) (edits : List Edit)
    → OpensAs f u v → KeepsEntered f u v → IsMade f lawful first v front dir name item edits → ComesAtLast f u v edits (front ++ name ∷ []) item
comes_at_last f lawful first u v front dir name item [] as_before entered made = absurd made
comes_at_last f lawful first u v front dir name item (e ∷ []) as_before entered made = (
  opens_last f lawful first v front dir name item e made,
  λ path at d stands. still_entered f lawful v e made.new.rooted (ap v (sym made.new.place) ∙ made.new.free) made.spares path at d (entered path at d stands),
)
comes_at_last f lawful first u v front dir name item (e ∷ next ∷ edits) as_before entered made =
    let opens_then : OpensAs f u (edited v e) = side_opens f lawful v u e as_before made.0 in
    let entered_then : KeepsEntered f u (edited v e) = λ path at d stands. still_entered f lawful v e made.0.rooted made.0.free made.0.spares path at d (entered path at d stands) in
    (opens_then, comes_at_last f lawful first u (edited v e) front dir name item (next ∷ edits) opens_then entered_then made.1)

-- ---- the vault stays orderly

-- a path leads where it led, or is the item's
abbrev WhereLed : Format → View → View → plain.Path → Directory → List ℕ → plain.Path → Directory → Type 0
WhereLed f v w front dir name path d = Leads f v path d ⊎ ((path ≡ front ++ name ∷ []) × (at : Path) × (standing_in f w dir name ≡ Dir at (Ok d)))

its_folder : (f : Format) (v : View) (s : Standing) → HasOwnFolder f v s → (at : Path) (d : Directory) → s ≡ Dir at (Ok d) → (path : plain.Path) (other : Directory) → Leads f v path other → d.folder ≢ other.folder
its_folder f v s own at d is = subst (HasOwnFolder f v) is own

not_locked : (f : Format) (v : View) (s : Standing) → HasOwnFolder f v s → (at : Path) (lack : Lack) → s ≢ Dir at (Err lack)
not_locked f v s own at lack is = subst (HasOwnFolder f v) is own

nothing_in : (f : Format) (w : View) (s : Standing) → IsLeaf f w s → (at : Path) (d : Directory) → s ≡ Dir at (Ok d) → (name : List ℕ) → HasNoItem (standing_in f w d name)
nothing_in f w s leaf at d is = subst (IsLeaf f w) is leaf

last_orderly : (f : Format) (lawful : IsLawful f) (first v : View) (front : plain.Path) (dir : Directory) (name : List ℕ) (item : Opened) (e : Edit)
    → IsOrderly f v → ((path : plain.Path) (d : Directory) → Leads f v path d → Leads f first path d)
    → IsLast f lawful first v front dir name item e → IsOrderly f (edited v e)
last_orderly f lawful first v front dir name item e orderly back last = record {
  root_there = top_stays f v e last.new.rooted free;
  top = orderly.top;
  root = sym gains.root ∙ orderly.root;
  folders = edited_folders v e dir.folder (f.stored dir.key name).name orderly.folders (sym last.new.place) (reached_right f lawful v front dir last.new.leads).there last.made;
  entered = entered;
  one_path = one_path;
  own_folder = own_folder;
}
  where
    free : v e.at ≡ NoEntry
    free = ap v (sym last.new.place) ∙ last.new.free

    gains : GainsItem f v (edited v e) front name
    gains = brings_item f lawful v e front dir name (record {
      orderly = orderly;
      free = ap v (sym last.new.place) ∙ last.new.free;
      spares = last.spares;
      leads = last.new.leads;
      is_key = (reached_right f lawful v front dir last.new.leads).is_key;
      named = last.new.named;
      place = last.new.place;
      full = last.arrives.full;
      leaf = last.arrives.leaf;
    })

    on : (path : plain.Path) (d : Directory) → Leads f v path d → Leads f (edited v e) path d
    on = still_leads f lawful v e last.new.rooted (ap v (sym last.new.place) ∙ last.new.free) last.spares

    at_item : standing f (edited v e) (front ++ name ∷ []) ≡ standing_in f (edited v e) dir name
    at_item = along f (edited v e) (root_of f (edited v e)) dir (on front dir last.new.leads).at front name (on front dir last.new.leads).stands

    where_led : (path : plain.Path) (d : Directory) → Leads f (edited v e) path d → WhereLed f v (edited v e) front dir name path d
    where_led path d leads = elim (one_or_not path (front ++ name ∷ [])) [
      | inl here ↦ inr (here, leads.at, sym at_item ∙ ap (standing f (edited v e)) (sym here) ∙ leads.stands)
      | inr apart ↦ elim (gains_alike f v (edited v e) front name gains path apart.0) [
        | inl same ↦ inl (record { at = leads.at; stands = same.stands ∙ leads.stands })
        | inr none ↦ absurd (subst HasNoItem leads.stands none.1)
      ]
    ]

    -- its folder is no other's
    apart_from_old : (at : Path) (d : Directory) → standing_in f (edited v e) dir name ≡ Dir at (Ok d) → (path : plain.Path) (other : Directory) → Leads f v path other → d.folder ≢ other.folder
    apart_from_old at d is path other leads = its_folder f first (standing_in f (edited v e) dir name) last.own at d is path other (back path other leads)

    entered : (path : plain.Path) (d : Directory) (n : List ℕ) (at : Path) (lack : Lack) → Leads f (edited v e) path d → standing_in f (edited v e) d n ≢ Dir at (Err lack)
    entered path d n at lack leads locked = elim (where_led path d leads) [
      | inr item_is ↦ subst HasNoItem locked (nothing_in f (edited v e) (standing_in f (edited v e) dir name) last.arrives.leaf item_is.1 d item_is.2 n)
      | inl old ↦ elim (one_or_not (path ++ n ∷ []) (front ++ name ∷ [])) [
        | inl here ↦ not_locked f first (standing_in f (edited v e) dir name) last.own at lack
            (sym at_item ∙ ap (standing f (edited v e)) (sym here) ∙ along f (edited v e) (root_of f (edited v e)) d (on path d old).at path n (on path d old).stands ∙ locked)
        | inr apart ↦ elim (gains.others path d n old apart.0) [
          | inl same ↦ orderly.entered path d n at lack old (same.stands ∙ locked)
          | inr none ↦ subst HasNoItem locked none.1
        ]
      ]
    ]

    one_path : (path other : plain.Path) (d : Directory) → Leads f (edited v e) path d → Leads f (edited v e) other d → path ≡ other
    one_path path other d one two = elim (where_led path d one) [
      | inl old ↦ elim (where_led other d two) [
        | inl too ↦ orderly.one_path path other d old too
        | inr item_is ↦ absurd (apart_from_old item_is.1 d item_is.2 path d old refl)
      ]
      | inr item_is ↦ elim (where_led other d two) [
        | inl too ↦ absurd (apart_from_old item_is.1 d item_is.2 other d too refl)
        | inr again ↦ item_is.0 ∙ sym again.0
      ]
    ]

    one_directory : (s : Standing) (a b : Path) (d other : Directory) → s ≡ Dir a (Ok d) → s ≡ Dir b (Ok other) → d ≡ other
    one_directory s a b d other one two = let both : Dir a (Ok d) ≡ Dir b (Ok other) = sym one ∙ two in ap (directory_or d) both
      where
        directory_or : Directory → Standing → Directory
        directory_or x (Dir at (Ok y)) = y
        directory_or x (Dir at (Err lack)) = x
        directory_or x (File at) = x
        directory_or x (Strange at) = x
        directory_or x Absent = x

    own_folder : (d other : Directory) → (path : plain.Path) × Leads f (edited v e) path d → (path : plain.Path) × Leads f (edited v e) path other → d.folder ≡ other.folder → d ≡ other
    own_folder d other one two same = elim (where_led one.0 d one.1) [
      | inl old ↦ elim (where_led two.0 other two.1) [
        | inl too ↦ orderly.own_folder d other (one.0, old) (two.0, too) same
        | inr item_is ↦ absurd (apart_from_old item_is.1 other item_is.2 one.0 d old (sym same))
      ]
      | inr item_is ↦ elim (where_led two.0 other two.1) [
        | inl too ↦ absurd (apart_from_old item_is.1 d item_is.2 two.0 other too same)
        | inr again ↦ one_directory (standing_in f (edited v e) dir name) item_is.1 again.1 d other item_is.2 again.2
      ]
    ]

stays_vault : (f : Format) (lawful : IsLawful f) (first u v : View) (front : plain.Path) (dir : Directory) (name : List ℕ) (item : Opened) (edits : List Edit)
    → LoadsAlike u v → IsOrderly f v → ((path : plain.Path) (d : Directory) → Leads f v path d → Leads f first path d)
    → IsMade f lawful first v front dir name item edits → StaysVault f u v edits
stays_vault f lawful first u v front dir name item [] before orderly back made = absurd made
stays_vault f lawful first u v front dir name item (e ∷ []) before orderly back made = (
  (
    last_orderly f lawful first v front dir name item e orderly back made,
    edited_loads f u v e before made.new.rooted (ap v (sym made.new.place) ∙ made.new.free) made.no_configuration,
  ),
  record {},
)
stays_vault f lawful first u v front dir name item (e ∷ next ∷ edits) before orderly back made =
    let loads : LoadsAlike u (edited v e) = edited_loads f u v e before made.0.rooted made.0.free made.0.no_configuration in
    let orderly_then : IsOrderly f (edited v e) = side_orderly f lawful v e orderly made.0 in (
      (orderly_then, loads),
      stays_vault f lawful first u (edited v e) front dir name item (next ∷ edits) loads orderly_then
          (λ path d leads. back path d (led_back f v (edited v e) (side_looks f lawful v e orderly made.0) path d leads)) made.1,
    )

-- ---- a format that makes its items so

pub record MakesItems (f : Format) (lawful : IsLawful f) : Type 0 where
  pub file : (v : View) (front : plain.Path) (dir : Directory) (name bytes : List ℕ) → HasFolders v → Leads f v front dir → IsTrue (is_name name)
      → f.taken_for_file v dir (f.stored dir.key name) ≡ None
      → IsMade f lawful v v front dir name (opened_file f.content (Some bytes)) (f.new_file v dir (f.stored dir.key name) bytes)
  pub directory : (v : View) (front : plain.Path) (dir : Directory) (name key : List ℕ) → HasFolders v → Leads f v front dir → IsTrue (is_name name)
      → f.key_in key ≡ Some key → f.taken_for_directory v dir (f.stored dir.key name) key ≡ None
      → IsMade f lawful v v front dir name opens.Directory (f.new_directory v dir (f.stored dir.key name) key)

pub new_items_alone : (f : Format) (lawful : IsLawful f) → MakesItems f lawful → NewItemsComeAlone f
new_items_alone f lawful makes = record {
  file = λ v front dir name bytes orderly leads named none.
      comes_alone f lawful v v v front dir name (opened_file f.content (Some bytes)) (f.new_file v dir (f.stored dir.key name) bytes) (λ path. refl) orderly
      (makes.file v front dir name bytes orderly.folders leads named none);
  directory = λ v front dir name key orderly leads named is_key none.
      comes_alone f lawful v v v front dir name opens.Directory (f.new_directory v dir (f.stored dir.key name) key) (λ path. refl) orderly
      (makes.directory v front dir name key orderly.folders leads named is_key none);
}

pub new_items_at_last : (f : Format) (lawful : IsLawful f) → MakesItems f lawful → NewItemsComeAtLast f
new_items_at_last f lawful makes = record {
  file = λ v front dir name bytes folders leads named none.
      comes_at_last f lawful v v v front dir name (opened_file f.content (Some bytes)) (f.new_file v dir (f.stored dir.key name) bytes) (λ path. refl) (λ path at d stands. stands)
      (makes.file v front dir name bytes folders leads named none);
  directory = λ v front dir name key folders leads named is_key none.
      comes_at_last f lawful v v v front dir name opens.Directory (f.new_directory v dir (f.stored dir.key name) key) (λ path. refl) (λ path at d stands. stands)
      (makes.directory v front dir name key folders leads named is_key none);
}

pub new_items_stay : (f : Format) (lawful : IsLawful f) → MakesItems f lawful → NewItemsStayVaults f
new_items_stay f lawful makes = record {
  file = λ v front dir name bytes orderly leads named none.
      stays_vault f lawful v v v front dir name (opened_file f.content (Some bytes)) (f.new_file v dir (f.stored dir.key name) bytes) (λ pass vault loads. loads) orderly (λ path d is. is)
      (makes.file v front dir name bytes orderly.folders leads named none);
  directory = λ v front dir name key orderly leads named is_key none.
      stays_vault f lawful v v v front dir name opens.Directory (f.new_directory v dir (f.stored dir.key name) key) (λ pass vault loads. loads) orderly (λ path d is. is)
      (makes.directory v front dir name key orderly.folders leads named is_key none);
}
