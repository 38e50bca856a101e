-- What is gathered of all visits has each item of the reached directories once.
use Rattle.std.proofs.Common.{◌≡◌, ◌≢◌, ◌<◌, ℕ, Bool, true, false, List, [], ◌∷◌, ◌++◌, Some, Ok, refl, sym, ap, ◌∙◌, subst, length, arith, append-nil, nat_lt, Contains, get_or}
use Rattle.std.proofs.lemmas.List.{get_or_default}
use Rattle.std.proofs.lemmas.List.Elements.{Contains-append_left, Contains-get_or}
use Rattle.std.proofs.lemmas.Bool.Decides.{nat_tests}
use Rattle.folder_spec.specs.Path.{Path}
use Rattle.folder_spec.specs.View.{View}
use Rattle.folder_spec.proofs.Paths.{child-injective, child-not_base}
use Rattle.plain_tree.specs.Names as plain
use Rattle.plain_tree.specs.declared.NodeKind.{NodeKind}
use Rattle.vault_spec.specs.Alike.{place_of}
use Rattle.vault_spec.specs.Format.{Format, Directory}
use Rattle.vault_spec.specs.Listing.{node_of}
use Rattle.vault_spec.specs.Plan.{Planned, IsPlanned}
use Rattle.vault_spec.specs.Reached.{Leads}
use Rattle.vault_spec.specs.Standing.{Standing, Absent, Strange, File, Dir, standing, standing_in}
use Rattle.vault_walk.specs.Survey.{Spot, IsItem, IsPathOf, AreDifferent, HasEachOnce}
use Rattle.vault_walk.specs.Walking.{Way, IsAmong, AreApart, IsWalked, IsItemOf, AreItemsOf, AreGathered}
use Rattle.vault_walk.proofs.Walks.{StandBehind, LeadThrough, ended_walk}

-- of two ways to one directory there is one
one_way : (ways : List Way) → AreApart ways → (x y : Way) → Contains ways x → Contains ways y → x.dir ≡ y.dir → x ≡ y
one_way ways apart x y one two same = by_order (nat_lt one.0 two.0) refl (nat_lt two.0 one.0) refl
  where
    there_x : get_or ways one.0 x ≡ x
    there_x = one.2

    there_y : get_or ways two.0 x ≡ y
    there_y = get_or_default ways two.0 x y two.1 ∙ two.2

    by_order : (a : Bool) → nat_lt one.0 two.0 ≡ a → (b : Bool) → nat_lt two.0 one.0 ≡ b → x ≡ y
    by_order true less b other = absurd (apart one.0 two.0 x (grind (arith, nat_tests)) two.1 (ap (λ (w : Way). w.dir) there_x ∙ same ∙ ap (λ (w : Way). w.dir) (sym there_y)))
    by_order false less true other = absurd (apart two.0 one.0 x (grind (arith, nat_tests)) one.1 (ap (λ (w : Way). w.dir) there_y ∙ sym same ∙ ap (λ (w : Way). w.dir) (sym there_x)))
    by_order false less false other =
        let at_one : one.0 ≡ two.0 = grind (arith, nat_tests) in
        sym there_x ∙ ap (λ k. get_or ways k x) at_one ∙ there_y

-- one directory stands at one path
pub one_directory : (f : Format) (v : View) (path : plain.Path) (dir other : Directory) → Leads f v path dir → Leads f v path other → dir ≡ other
one_directory f v path dir other one two = same_dir one.at two.at (sym one.stands ∙ two.stands)
  where
    same_dir : (at place : Path) → Dir at (Ok dir) ≡ Dir place (Ok other) → dir ≡ other
    same_dir at place e = cc

-- what is an item has a place
pub has_place : (s : Standing) (kind : NodeKind) → node_of s ≡ Some kind → (at : Path) × (place_of s ≡ Some at)
has_place Absent kind e = cc
has_place (Strange at) kind e = cc
has_place (File at) kind e = (at, refl)
has_place (Dir at directory) kind e = (at, refl)

-- a path of a spot is that of the way to its directory
abbrev WayOf : List Way → Spot → plain.Path → Type 0
WayOf ways spot path = (way : Way) × Contains ways way × (way.dir ≡ spot.dir) × (path ≡ way.path ++ spot.name ∷ [])

way_of : (f : Format) (v : View) (ways : List Way) (items : List Planned) → AreItemsOf f v ways items → (spot : Spot) (item : Planned) → Contains items item → IsPathOf f v spot item.path → WayOf ways spot item.path
way_of f v ways items are spot item found is =
    let from : (way : Way) × Contains ways way × IsItemOf f v way item = are.sound item found in
    let paths : from.0.path ++ from.2.name ∷ [] ≡ is.front ++ spot.name ∷ [] = sym from.2.path ∙ is.is in
    let fronts : from.0.path ≡ is.front = child-injective from.0.path is.front from.2.name spot.name paths in (
      from.0,
      from.1,
      one_directory f v from.0.path from.0.dir spot.dir (are.leads from.0 from.1) (subst (λ p. Leads f v p spot.dir) (sym fronts) is.leads),
      is.is ∙ ap (λ p. p ++ spot.name ∷ []) (sym fronts),
    )

-- no two of them are one item
pub different : (f : Format) (v : View) (ways : List Way) (items : List Planned) → AreItemsOf f v ways items → AreDifferent f v items
different f v ways items are i j d below less spot one two =
    let both : i < j = below in
    let end : j < length items = less in
    let first : WayOf ways spot (get_or items i d).path = way_of f v ways items are spot (get_or items i d) (Contains-get_or items i d (omega (arith, both, end))) one in
    let second : WayOf ways spot (get_or items j d).path = way_of f v ways items are spot (get_or items j d) (Contains-get_or items j d less) two in
    let same : first.0 ≡ second.0 = one_way ways are.apart first.0 second.0 first.1 second.1 (first.2 ∙ sym second.2) in
    are.paths i j d below less (first.3 ∙ ap (λ (w : Way). w.path ++ spot.name ∷ []) same ∙ sym second.3)

pub each_once : StandBehind → LeadThrough → (f : Format) (v : View) (steps : ℕ) (visits : List Way) (plan : List Planned) → IsWalked f v steps visits [] → AreGathered f v visits plan → HasEachOnce f v plan
each_once behind through f v steps visits plan walked gathered = record { stand = stand; each = each; once = different f v visits plan (record { leads = leads; apart = subst AreApart (append-nil visits) walked.apart; sound = gathered.sound; paths = gathered.apart }) }
  where
    leads : (way : Way) → Contains visits way → Leads f v way.path way.dir
    leads way found = walked.leads way (Contains-append_left visits [] way found)

    stand : (item : Planned) → Contains plan item → (item.path ≢ []) × IsPlanned f v item
    stand item found =
        let from : (way : Way) × Contains visits way × IsItemOf f v way item = gathered.sound item found in
        let here : standing f v item.path ≡ standing_in f v from.0.dir from.2.name
        = ap (standing f v) from.2.path ∙ behind f v from.0.path from.0.dir from.2.name (leads from.0 from.1) in (
          (λ none. child-not_base from.0.path from.2.name (sym from.2.path ∙ none)),
          record { node = ap node_of here ∙ from.2.node; place = ap place_of here ∙ from.2.place },
        )

    each : (spot : Spot) → IsItem f v spot → (item : Planned) × Contains plan item × IsPathOf f v spot item.path
    each spot is =
        let among : IsAmong visits spot.dir = ended_walk behind through f v steps visits walked is.reached.0 spot.dir is.reached.1 in
        let stands : node_of (standing_in f v among.0.dir spot.name) ≡ Some is.node = ap (λ d. node_of (standing_in f v d spot.name)) among.2 ∙ is.stands in
        let place : (at : Path) × (place_of (standing_in f v among.0.dir spot.name) ≡ Some at) = has_place (standing_in f v among.0.dir spot.name) is.node stands in (
          record { path = among.0.path ++ spot.name ∷ []; node = is.node; at = place.0 },
          gathered.complete among.0 (record { path = among.0.path ++ spot.name ∷ []; node = is.node; at = place.0 }) among.1
              (record { name = spot.name; path = refl; node = stands; place = place.1 }),
          record { front = among.0.path; is = refl; leads = subst (λ d. Leads f v among.0.path d) among.2 (leads among.0 among.1) },
        )
