-- What is seen between the steps of the demonstration, from step to step.
use Rattle.std.proofs.Common.{◌≡◌, ◌≢◌, ◌≤◌, ◌∙◌, ◌++◌, ◌∷◌, [], ℕ, Bool, List, length, Option, Some, None, codes, inl, inr, IsTrue, refl, sym, ap, subst, arith}
use Rattle.std.proofs.lemmas.List.{length-map}
use Rattle.item_making.specs.declared.fault.PutFault.TheVariants as put
use Rattle.demo_core.specs.Making.{CanEnter, CanMake, HoldsInOrder, IsOfChance, IsOfItems, IsTaken, MakesBeside, making_folder, phrase}
use Rattle.demo_core.specs.declared.fault.MakeFault.{MakeFault}
use Rattle.demo_core.specs.declared.fault.MakeFault.TheVariants.{Work, Load, Put, NoMemory}
use Rattle.demo_core.specs.Tree.{HasItems}
use Rattle.demo_core.specs.Sharing.{GoesOn}
use Rattle.demo_core.proofs.Shared.{goes_then}
use Rattle.demo_core.proofs.Standing.{same_vault}
use Rattle.folder_spec.specs.Event.{Event, Told}
use Rattle.folder_spec.specs.Moments.{Went}
use Rattle.folder_spec.specs.Path.{Path, parent}
use Rattle.folder_spec.specs.Region.{IsAsBefore, apart_from_both}
use Rattle.folder_spec.specs.Seen.{IfSeen, IsSeen, seen, under}
use Rattle.folder_spec.specs.State.{IsSound, State}
use Rattle.folder_spec.specs.View.{Folder, NoEntry, View}
use Rattle.folder_spec.proofs.Moments.{went_to}
use Rattle.folder_spec.proofs.Regions.{seen_as_before}
use Rattle.migrate_core.specs.Moved.{HasMoved, HaveMappedTree, IsTidyWork, MovesTree, TellsItems}
use Rattle.migrate_core.specs.Sides.{AreTold}
use Rattle.migrate_core.specs.Moving.{MovesOnly, OnlyBrings}
use Rattle.migrate_core.specs.declared.placing.Done.{Done}
use Rattle.migration_sides.specs.Sides.{opened_in}
use Rattle.plain_tree.specs.Names as plain
use Rattle.plain_tree.specs.declared.name_map.NameMap.TheVariants.{Same}
use Rattle.vault_read.specs.Laws.{HaveOneAnswer}
use Rattle.vault_read.specs.OwnFolders.{HasOwnFolders}
use Rattle.vault_read.specs.declared.vault.VaultKind.TheVariants as kind
use Rattle.vault_read.specs.Opened.{kind_of}
use Rattle.vault_spec.specs.Opens.{AreItems, Tree, tree}
use Rattle.vault_spec.specs.Plan.{IsPlan, Planned, paths_of}
use Rattle.vault_spec.specs.Vault.{IsVault, Vault, format_of}
use Rattle.vault_walk.specs.Surveyed.{IsPlanOf, placed}
use Rattle.item_making.specs.Trees.{ShowsVault}
use Rattle.work_folder.specs.Entering.{IsFresh}
use Rattle.demonstration.specs.Demo.{IsBare}
use Rattle.demonstration.specs.DemoSteps.{CanCarry, CanLead, HasCarried, HoldsWell, IsBeside, Sees, kind_from}
use Rattle.demonstration.specs.DemoTrees.{IsMoved, IsNewAt, IsWithin, Leaves, LeavesSource, first_root, kind_to, moving_folder, second_root, source_of, target_of, third_root}
use Rattle.demonstration.specs.declared.leading.Leg.{Leg}
use Rattle.demonstration.specs.declared.leading.Leg.TheVariants.{There, Back}
use Rattle.demonstration.proofs.DemonstratedTrees.{AreAlike, TreesStay, items_alike, region_stays}
use Rattle.demonstration.proofs.GoodOrder.{IsNewWell, first_well, new_well, own_of_good, well_alike}
use Rattle.demonstration.proofs.Legs.{apart_making, apart_moving, within}

-- ---- what stays

module _ (alike : AreAlike) (region : Path → Bool) (Q : State → Event → Type 0) (a b : Told) (sound : IsSound a.state) (went : Went (IsAsBefore region a.state) Q a b) where
  pub at_stays : (q : Path) → IsTrue (region q) → seen b.state q ≡ seen a.state q
  at_stays q inside = seen_as_before region a.state b.state sound (went_to (IsAsBefore region a.state) Q a b went) q inside

  pub root_stays : (root : Path) → ((rest : Path) → IsTrue (region (root ++ rest))) → under root (seen b.state) ≡ under root (seen a.state)
  root_stays root inside = region_stays alike root region Q a b sound (within root region inside) went

-- a work folder can be entered as it could
enter_alike : (v w : View) → w [] ≡ Folder → under making_folder w ≡ under making_folder v → CanEnter v making_folder → CanEnter w making_folder
enter_alike v w base same can = (
  base,
  elim can.1 [
    | inl none ↦ inl (at [] ∙ none)
    | inr fresh ↦ inr (record {
      ready = record {
        folder = at [] ∙ fresh.ready.folder;
        stage = at (codes "stage" ∷ []) ∙ fresh.ready.stage;
        bare = λ rest some. at (codes "stage" ∷ rest) ∙ fresh.ready.bare rest some;
      };
      alone = λ name other. at (name ∷ []) ∙ fresh.alone name other;
    })
  ],
)
  where
    at : (rest : Path) → w (codes "w" ∷ rest) ≡ v (codes "w" ∷ rest)
    at rest = ap (λ (u : View). u rest) same

beside_alike : (leg : Leg) (v w : View) → w [] ≡ Folder → under making_folder w ≡ under making_folder v → (leg ≡ There → w third_root ≡ v third_root) → IsBeside leg v → IsBeside leg w
beside_alike leg v w base making third beside = record {
  base = base;
  making = enter_alike v w base making beside.making;
  next = λ is. third is ∙ beside.next is;
}

-- ---- the first items

pub first_stands : (seed count : ℕ) (t u : Option Told) → count ≤ 2000 → ((a : Told) → t ≡ Some a → IsSound a.state) → IsBare t → MakesBeside first_root t u
    → ((b : Told) → u ≡ Some b → HoldsInOrder kind.Gocryptfs first_root seed count b.state) → IfSeen u (λ v. IsFresh v making_folder) → Sees (CanLead There) count u
first_stands seed count (Some a) (Some b) few sound bare beside holds fresh = record {
  few = few;
  seed = seed;
  view = seen b.state;
  seen = refl;
  shown = record {
    beside = record {
      base = at [] refl ∙ base;
      making = (at [] refl ∙ base, inr (fresh (seen b.state) refl));
      next = λ is. at third_root refl ∙ none (codes "h");
    };
    source = first_well kind.Gocryptfs first_root seed count b.state (holds b refl);
    target = at second_root refl ∙ none (codes "c");
    work = at moving_folder refl ∙ none (codes "m");
  };
}
  where
    at : (q : Path) → IsTrue (apart_from_both making_folder first_root q) → seen b.state q ≡ seen a.state q
    at q inside = seen_as_before (apart_from_both making_folder first_root) a.state b.state (sound a refl) (went_to (IsAsBefore (apart_from_both making_folder first_root) a.state) (λ s e. Unit {0}) a b beside) q inside

    base : seen a.state [] ≡ Folder
    base = ap (λ (u : View). u []) (sym bare.seen) ∙ bare.base

    none : (name : List ℕ) → seen a.state (name ∷ []) ≡ NoEntry
    none name = ap (λ (u : View). u (name ∷ [])) (sym bare.seen) ∙ bare.entries name
first_stands seed count None u few sound bare beside holds fresh = absurd bare.seen
first_stands seed count (Some a) None few sound bare beside holds fresh = absurd beside

-- a vault can be made where nothing stands
pub can_make_first : (t : Option Told) → IsBare t → IfSeen t (λ v. CanMake first_root v)
can_make_first t bare v is = record { work = (base, inl (none (codes "w"))); free = (none (codes "g"), base) }
  where
    same : (t : Option Told) (one other : View) → IsSeen t one → IsSeen t other → one ≡ other
    same (Some a) one other first second = first ∙ sym second
    same None one other first second = absurd first

    base : v [] ≡ Folder
    base = ap (λ (u : View). u []) (same t v bare.view is bare.seen) ∙ bare.base

    none : (name : List ℕ) → v (name ∷ []) ≡ NoEntry
    none name = ap (λ (u : View). u (name ∷ [])) (same t v bare.view is bare.seen) ∙ bare.entries name

pub bare_told : (t : Option Told) → IsBare t → t ≢ None
bare_told None bare is = absurd bare.seen
bare_told (Some a) bare is = cc is

-- ---- the target of a migration

-- the base is above, and nothing stands there
pub can_make_target : (leg : Leg) (count : ℕ) (t : Option Told) → Sees (CanLead leg) count t → IfSeen t (λ v. CanMake (target_of leg) v)
can_make_target leg count (Some a) sees v is =
    let can : CanLead leg sees.seed count v = subst (CanLead leg sees.seed count) (sees.seen ∙ sym is) sees.shown in
    record { work = can.beside.making; free = (can.target, above leg v can.beside.base) }
  where
    above : (leg : Leg) (v : View) → v [] ≡ Folder → v (parent (target_of leg)) ≡ Folder
    above There v base = base
    above Back v base = base
can_make_target leg count None sees v is = absurd is

abbrev in_making : (leg : Leg) (q : Path) → Type 0
in_making leg q = IsTrue (apart_from_both making_folder (target_of leg) q)

base_making : (leg : Leg) → in_making leg []
base_making There = refl
base_making Back = refl

work_making : (leg : Leg) → in_making leg moving_folder
work_making There = refl
work_making Back = refl

third_making : (leg : Leg) → leg ≡ There → in_making leg third_root
third_making There is = refl
third_making Back is = cc is

pub target_stands : AreAlike → (leg : Leg) (count : ℕ) (t u : Option Told) → ((a : Told) → t ≡ Some a → IsSound a.state) → MakesBeside (target_of leg) t u → IsNewAt (kind_to leg) (target_of leg) u
    → IfSeen u (λ v. IsFresh v making_folder) → Sees (CanLead leg) count t → Sees (CanCarry leg) count u
target_stands alike leg count (Some a) (Some b) sound beside new fresh sees =
    let can : CanLead leg sees.seed count (seen a.state) = subst (CanLead leg sees.seed count) sees.seen sees.shown in
    let made : IsNewWell (kind_to leg) (target_of leg) sees.seed (seen b.state) = new_well (kind_to leg) (target_of leg) sees.seed b.state (new b refl) in
    record {
      few = sees.few;
      seed = sees.seed;
      view = seen b.state;
      seen = refl;
      shown = record {
        beside = record {
          base = at [] (base_making leg) ∙ can.beside.base;
          making = (at [] (base_making leg) ∙ can.beside.base, inr (fresh (seen b.state) refl));
          next = λ is. at third_root (third_making leg is) ∙ can.beside.next is;
        };
        source = well_alike (kind_from leg) (source_of leg) sees.seed count (seen a.state) (seen b.state) (region_stays alike (source_of leg) region (λ s e. Unit {0}) a b (sound a refl) (apart_making leg) beside) can.source;
        target = made.well;
        tidy = made.tidy;
        work = at moving_folder (work_making leg) ∙ can.work;
      };
    }
  where
    region : Path → Bool
    region = apart_from_both making_folder (target_of leg)

    at : (q : Path) → IsTrue (region q) → seen b.state q ≡ seen a.state q
    at q inside = seen_as_before region a.state b.state (sound a refl) (went_to (IsAsBefore region a.state) (λ s e. Unit {0}) a b beside) q inside
target_stands alike leg count None u sound beside new fresh sees = absurd sees.seen
target_stands alike leg count (Some a) None sound beside new fresh sees = absurd beside

-- ---- a migration that is done

abbrev pub HaveSoMany : Type 0
HaveSoMany = (seed count : ℕ) (t : Tree) (paths : List plain.Path) → count ≤ 10000 → HasItems seed count t → AreItems t paths → length paths ≡ count

abbrev pub PlansAreTrees : Type 0
PlansAreTrees = (vault : Vault) (v : View) (plan : List Planned) → IsPlan (format_of vault) v plan → AreItems (tree (format_of vault) v) (paths_of plan)

abbrev in_moving : (leg : Leg) (q : Path) → Type 0
in_moving leg q = IsTrue (apart_from_both moving_folder (target_of leg) q)

base_moving : (leg : Leg) → in_moving leg []
base_moving There = refl
base_moving Back = refl

making_moving : (leg : Leg) (rest : Path) → in_moving leg (making_folder ++ rest)
making_moving There rest = refl
making_moving Back rest = refl

third_moving : (leg : Leg) → leg ≡ There → in_moving leg third_root
third_moving There is = refl
third_moving Back is = cc is

carried : AreAlike → HaveOneAnswer → TreesStay → HaveSoMany → PlansAreTrees → (leg : Leg) (seed count : ℕ) (done : Done) (a b : Told) → IsSound a.state → count ≤ 2000 → CanCarry leg seed count (seen a.state)
    → (moves : MovesTree Same (source_of leg) (target_of leg) moving_folder phrase phrase done (Some a) (Some b)) → MovesOnly moving_folder (target_of leg) (Some a) (Some b) → IsTidyWork moving_folder (seen b.state)
    → HasCarried leg seed count (seen b.state)
carried alike one stay so_many plans leg seed count done a b sound few can moves only tidy = record {
  beside = beside_alike leg (seen a.state) (seen b.state) (at [] (base_moving leg) ∙ can.beside.base) (stays making_folder (within making_folder region (making_moving leg)))
      (λ is. at third_root (third_moving leg is)) can.beside;
  source = source_well;
  target = target_well;
  moved = done.items;
  all = count_is;
  says = moved.says;
  tells = subst (λ x. TellsItems (opened_in from x) moved.says.journal (seen b.state)) (sym still_is) moved.tells;
  trees = subst (λ x. HaveMappedTree Same (opened_in from x) (opened_in to moves.target) (seen b.state)) (sym still_is) moved.trees;
  tidy = tidy;
}
  where
    from : Path
    from = source_of leg

    to : Path
    to = target_of leg

    region : Path → Bool
    region = apart_from_both moving_folder to

    at : (q : Path) → IsTrue (region q) → seen b.state q ≡ seen a.state q
    at q inside = seen_as_before region a.state b.state sound (went_to (IsAsBefore region a.state) (λ s e. OnlyBrings moving_folder to s e.call) a b only) q inside

    stays : (root : Path) → IsWithin root region → under root (seen b.state) ≡ under root (seen a.state)
    stays root inside = region_stays alike root region (λ s e. OnlyBrings moving_folder to s e.call) a b sound inside only

    moved : HasMoved Same (opened_in from moves.source) (opened_in to moves.target) moving_folder done.items (seen b.state)
    moved = moves.moved (seen b.state) refl

    source_is : can.source.items.vault ≡ moves.source
    source_is = same_vault one (under from (seen a.state)) can.source.items.vault moves.source can.source.items.opens (moves.opens_source (seen a.state) refl)

    target_is : can.target.items.vault ≡ moves.target
    target_is = same_vault one (under to (seen a.state)) can.target.items.vault moves.target can.target.items.opens (moves.opens_target (seen a.state) refl)

    source_well : HoldsWell (kind_from leg) from seed count (seen b.state)
    source_well = well_alike (kind_from leg) from seed count (seen a.state) (seen b.state) (stays from (apart_moving leg)) can.source

    own_before : HasOwnFolders moves.source (under from (seen a.state))
    own_before = subst (λ x. HasOwnFolders x (under from (seen a.state))) source_is (own_of_good can.source.items.vault from (seen a.state) can.source.good)

    own_target : HasOwnFolders moves.target (under to (seen a.state))
    own_target = subst (λ x. HasOwnFolders x (under to (seen a.state))) target_is (own_of_good can.target.items.vault to (seen a.state) can.target.good)

    good : ShowsVault (format_of moves.target) to (seen b.state)
    good = (moves.stays_good (seen a.state) (seen b.state) refl refl (record { source = own_before; target = own_target })).1

    still_is : source_well.items.vault ≡ moves.source
    still_is = same_vault one (under from (seen b.state)) source_well.items.vault moves.source source_well.items.opens
        (subst (λ u. IsVault u phrase moves.source) (sym (stays from (apart_moving leg))) (moves.opens_source (seen a.state) refl))

    own_after : HasOwnFolders moves.source (under from (seen b.state))
    own_after = subst (λ x. HasOwnFolders x (under from (seen b.state))) still_is (own_of_good source_well.items.vault from (seen b.state) source_well.good)

    source_items : HasItems seed count (tree (format_of moves.source) (under from (seen b.state)))
    source_items = subst (λ x. HasItems seed count (tree (format_of x) (under from (seen b.state)))) still_is source_well.items.items

    target_well : HoldsWell (kind_to leg) to seed count (seen b.state)
    target_well = record {
      items = record {
        vault = moves.target;
        is = subst (λ x. kind_of x ≡ kind_to leg) target_is can.target.items.is;
        opens = moves.opens_still (seen b.state) refl;
        items = items_alike seed count (tree (format_of moves.source) (under from (seen b.state))) (tree (format_of moves.target) (under to (seen b.state)))
            (λ path proper.
            (stay (tree (format_of moves.source) (under from (seen b.state))) (tree (format_of moves.target) (under to (seen b.state)))).0
            (moved.trees own_after (own_of_good moves.target to (seen b.state) good)) path)
            source_items;
      };
      good = good;
    }

    told : (items : List Planned) × IsPlanOf from (format_of moves.source) (under from (seen b.state)) items × AreTold moved.says.journal items
    told = moved.tells own_after

    count_is : done.items ≡ count
    count_is =
        let lengths : length told.0 ≡ length told.1.plan = ap length told.1.items_are ∙ length-map told.1.plan (placed from) in
        let paths : length (paths_of told.1.plan) ≡ count = so_many seed count (tree (format_of moves.source) (under from (seen b.state))) (paths_of told.1.plan) (omega (arith, few)) source_items
        (plans moves.source (under from (seen b.state)) told.1.plan told.1.is) in
        sym moved.says.items ∙ told.2.1 ∙ lengths ∙ sym (length-map told.1.plan (λ (item : Planned). item.path)) ∙ paths

pub is_carried : AreAlike → HaveOneAnswer → TreesStay → HaveSoMany → PlansAreTrees → (leg : Leg) (count : ℕ) (t u : Option Told) → ((a : Told) → t ≡ Some a → IsSound a.state) → IsMoved (source_of leg) (target_of leg) t u
    → IfSeen u (λ v. IsTidyWork moving_folder v) → Sees (CanCarry leg) count t → Sees (HasCarried leg) count u
is_carried alike one stay so_many plans leg count (Some a) (Some b) sound moved tidy sees = record {
  few = sees.few;
  seed = sees.seed;
  view = seen b.state;
  seen = refl;
  shown = carried alike one stay so_many plans leg sees.seed count moved.0 a b (sound a refl) sees.few (subst (CanCarry leg sees.seed count) sees.seen sees.shown) moved.1 moved.2 (tidy (seen b.state) refl);
}
is_carried alike one stay so_many plans leg count None u sound moved tidy sees = absurd sees.seen
is_carried alike one stay so_many plans leg count (Some a) None sound moved tidy sees = absurd moved.2

-- ---- its source is retired

-- as many items are retired as there were
pub all_retired : (leg : Leg) (retired count : ℕ) (t u : Option Told) → LeavesSource leg retired t u → Sees (HasCarried leg) count t → retired ≡ count
all_retired leg retired count (Some a) u leaves sees =
    let can : HasCarried leg sees.seed count (seen a.state) = subst (HasCarried leg sees.seed count) sees.seen sees.shown in
    let left = leaves a refl in
    (left.2 can.moved can.says).all ∙ can.all
all_retired leg retired count None u leaves sees = absurd sees.seen

-- and the way back can begin
pub next_leads : (retired count : ℕ) (t u : Option Told) → LeavesSource There retired t u → Sees (HasCarried There) count t → Sees (CanLead Back) count u
next_leads retired count (Some a) u leaves sees =
    let can : HasCarried There sees.seed count (seen a.state) = subst (HasCarried There sees.seed count) sees.seen sees.shown in
    let left = leaves a refl in
    let b : Told = left.0 in
    let gone : Leaves first_root can.moved retired a b = left.2 can.moved can.says in
    let base : seen b.state [] ≡ Folder = gone.base ∙ can.beside.base in
    record {
      few = sees.few;
      seed = sees.seed;
      view = seen b.state;
      seen = subst (λ o. IsSeen o (seen b.state)) (sym left.1) refl;
      shown = record {
        beside = beside_alike Back (seen a.state) (seen b.state) base (gone.stays making_folder (within making_folder (apart_from_both first_root moving_folder) (λ rest. refl))) (λ is. cc is)
            (record { base = can.beside.base; making = can.beside.making; next = λ is. cc is });
        source = well_alike kind.Cryptomator second_root sees.seed count (seen a.state) (seen b.state) (gone.stays second_root (within second_root (apart_from_both first_root moving_folder) (λ rest. refl))) can.target;
        target = ap (λ (v : View). v []) (gone.stays third_root (within third_root (apart_from_both first_root moving_folder) (λ rest. refl))) ∙ can.beside.next refl;
        work = gone.work_gone;
      };
    }
next_leads retired count None u leaves sees = absurd sees.seen

pub leg_next : (leg : Leg) (retired count : ℕ) (t u : Option Told) → leg ≡ There → LeavesSource leg retired t u → Sees (HasCarried leg) count t → Sees (CanLead Back) count u
leg_next There retired count t u is leaves sees = next_leads retired count t u leaves sees
leg_next Back retired count t u is leaves sees = cc is

-- the folder went on
pub leg_goes : (leg : Leg) (count retired : ℕ) (t u w : Option Told) → GoesOn t u → Sees (HasCarried leg) count u → LeavesSource leg retired u w → GoesOn t w
leg_goes leg count retired t (Some a) w goes sees leaves =
    let can : HasCarried leg sees.seed count (seen a.state) = subst (HasCarried leg sees.seed count) sees.seen sees.shown in
    let left = leaves a refl in
    goes_then t (Some a) w goes (subst (GoesOn (Some a)) (sym left.1) (left.2 can.moved can.says).goes)
leg_goes leg count retired t None w goes sees leaves = absurd sees.seen

-- ---- faults of making

pub item_of_chance : (fault : MakeFault) → IsOfChance fault → IsOfItems fault
item_of_chance (Work fault) is = is
item_of_chance (Load fault) is = is
item_of_chance NoMemory is = is
item_of_chance (Put put.Failed) is = is
item_of_chance (Put put.NoMemory) is = is
item_of_chance (Put put.Random) is = is
item_of_chance (Put put.ZeroRandom) is = is
item_of_chance (Put (put.Taken at)) is = absurd is
item_of_chance (Put (put.Find fault)) is = absurd is
item_of_chance (Put (put.NotAllowed path)) is = absurd is
item_of_chance (Put (put.Damaged at fault)) is = absurd is
item_of_chance (Put (put.Limit which)) is = absurd is
item_of_chance (Put put.Source) is = absurd is

pub never_taken : (fault : MakeFault) → IsOfChance fault → IsTaken fault → ⊥
never_taken (Work fault) is taken = taken
never_taken (Load fault) is taken = taken
never_taken NoMemory is taken = taken
never_taken (Put put.Failed) is taken = taken
never_taken (Put put.NoMemory) is taken = taken
never_taken (Put put.Random) is taken = taken
never_taken (Put put.ZeroRandom) is taken = taken
never_taken (Put (put.Taken at)) is taken = is
never_taken (Put (put.Find fault)) is taken = taken
never_taken (Put (put.NotAllowed path)) is taken = taken
never_taken (Put (put.Damaged at fault)) is taken = taken
never_taken (Put (put.Limit which)) is taken = taken
never_taken (Put put.Source) is taken = taken
