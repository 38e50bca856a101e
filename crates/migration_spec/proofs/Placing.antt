-- That a migration stays guarded while items of the source are made in the target.
use Rattle.std.proofs.Common.{◌≡◌, ◌≢◌, ◌⊎◌, Bool, true, false, ◌&&◌, not, List, [], ◌∷◌, ◌++◌, None, Result, Ok, refl, sym, ap, ◌∙◌, inl, inr, subst, append_assoc, append-nil, codes, IsTrue, is_none}
use Rattle.item_making.specs.Ending.{Ending, Whole}
use Rattle.item_making.specs.declared.fault.PutFault.{PutFault}
use Rattle.folder_spec.proofs.Moments.{went_nowhere, went_on, went_to}
use Rattle.folder_spec.proofs.Paths.{one_or_not, begins_or_not, below-apart}
use Rattle.folder_spec.specs.Path.{Part, Path, below, child}
use Rattle.folder_spec.specs.declared.Spot.TheVariants.{Odd}
use Rattle.folder_spec.specs.State.{Table, State, IsTableOf, kind_of}
use Rattle.folder_spec.specs.Event.{Told}
use Rattle.folder_spec.specs.Moments.{Went}
use Rattle.folder_spec.specs.Region.{AlikeIn, apart_from}
use Rattle.folder_spec.specs.Seen.{under}
use Rattle.folder_spec.specs.View.{View, Shows, ShowsAmong}
use Rattle.folder_spec.specs.declared.Kind.TheVariants as kind
use Rattle.vault_spec.specs.Mapped.{IsMappedItem, IsPartOfMapped, IsWhole}
use Rattle.plain_tree.specs.Names as plain
use Rattle.plain_tree.specs.declared.name_map.NameMap.{NameMap}
use Rattle.migration_spec.proofs.Along.{NoOdd, none_along, both_along, nothing_each}
use Rattle.migration_spec.proofs.Guards.{in_target, RootsAreAlike, ImagesShow, ShowsCase, guarded_by, source_alike, journal_alike, kinds_of}
use Rattle.migration_spec.proofs.Kept.{apart_below, staged_in, not_staged, entry_inside, other_is_odd, table_work, kept_is}
use Rattle.migration_spec.specs.Alone.{Begun, IsAlone, StaysGuarded}
use Rattle.migration_spec.specs.Guard.{Migration, IsSeparate, IsBuilding, Building, IsWork, is_kept, Guarded, tree_at, old_path}
use Rattle.migration_spec.specs.Placed.{ItemAt, path_of, placing_of, IsHeld, Places, PlaceEach}
use Rattle.vault_spec.specs.Adding.{OpensAs, OpensWith}
use Rattle.vault_spec.specs.Making.{NewItem, NewDirectory, NewFile}
use Rattle.vault_spec.specs.Opens.{NoItem, Tree}
use Rattle.vault_spec.specs.Vault.{format_of}
use Rattle.item_making.specs.Making.{Placing, Making, is_inside, is_staged, is_elsewhere, StagesOrPlaces}
use Rattle.item_making.specs.Placing.{HasVault, ShowsOne, IsMaking, making_at}
use Rattle.item_making.specs.Trees.{KeepsVault, KeepsTree, GainsItem, opens_as}
use Rattle.work_folder.specs.Entries.{journal_path, is_foreign}

-- ---- the region of both vaults and the journal

has_vault : (g : Migration) (x : ItemAt) → IsSeparate g → HasVault (placing_of g x) (is_kept g)
has_vault g x separate = record { vault = in_target g; unstaged = λ q kept staged. clash (staged_kept q (kept_is g separate q kept)) staged }
  where
    clash : {b : Bool} → b ≡ false → b ≡ true → ⊥
    clash isnt is = cc (isnt, is)

    staged_kept : (q : Path) → (journal_path g.work ≡ q) ⊎ (below g.work q ≡ None) → is_staged g.work q ≡ false
    staged_kept q (inl journal) = ap (is_staged g.work) (sym journal) ∙ staged_in g.work (codes "journal" ∷ []) ∙ entry_inside (codes "journal")
    staged_kept q (inr apart) = not_staged g.work q apart

-- all of the work folder but what is staged is elsewhere
elsewhere_in_work : (g : Migration) (x : ItemAt) → IsSeparate g → (rest : Path) → is_inside (below (codes "stage" ∷ []) rest) ≡ false → IsTrue (is_elsewhere (placing_of g x) (g.work ++ rest))
elsewhere_in_work g x separate rest unstaged =
    both (is_staged g.work (g.work ++ rest)) (apart_from g.target.root (g.work ++ rest)) (staged_in g.work rest ∙ unstaged)
    (ap is_none (below-apart g.target.root g.work rest separate.target.one separate.target.other))
  where
    both : (a b : Bool) → a ≡ false → b ≡ true → (not a && b) ≡ true
    both a b isnt is = rw (isnt, is) refl

-- ---- the work folder of each table

-- one table's work folder is as another's but for what is staged
work_alike : (g : Migration) (x : ItemAt) (t u : Table) → IsSeparate g → AlikeIn (is_elsewhere (placing_of g x)) t u
    → ((q : Path) → IsTrue (is_staged g.work q) → t q ≢ Odd) → IsWork false (kinds_of u) g.work → IsWork false (kinds_of t) g.work
work_alike g x t u separate alike staged is = record {
  folder = elim is.folder [
    | inl missing ↦ inl (root ∙ missing)
    | inr there ↦ inr (root ∙ there.0, λ name. subst (λ k. ¬ IsTrue (is_foreign false name k)) (sym (entry name)) (there.1 name))
  ];
  staged = λ q inside e. staged q inside (other_is_odd (t q) e);
  moved = λ q inside. subst (λ k. k ≢ kind.Other) (sym (old q inside)) (is.moved q inside);
}
  where
    at : (rest : Path) → is_inside (below (codes "stage" ∷ []) rest) ≡ false → t (g.work ++ rest) ≡ u (g.work ++ rest)
    at rest unstaged = alike (g.work ++ rest) (elsewhere_in_work g x separate rest unstaged)

    root : kinds_of t g.work ≡ kinds_of u g.work
    root = ap kind_of (subst (λ q. t q ≡ u q) (append-nil g.work) (at [] refl))

    entry : (name : Part) → kinds_of t (child g.work name) ≡ kinds_of u (child g.work name)
    entry name = ap kind_of (at (name ∷ []) (entry_inside name))

    old : (q : Path) → IsTrue (is_inside (below (old_path g.work) q)) → kinds_of t q ≡ kinds_of u q
    old q inside = elim (begins_or_not (old_path g.work) q) [
      | inl there ↦ subst (λ z. kinds_of t z ≡ kinds_of u z) (sym (there.1 ∙ append_assoc g.work (codes "old" ∷ []) there.0)) (ap kind_of (at (codes "old" ∷ there.0) refl))
      | inr none ↦ absurd (clash (sym (ap is_inside none) ∙ inside))
    ]
      where
        clash : false ≡ true → ⊥
        clash e = cc e

-- ---- the case of each view

whole_item : (item : NewItem) → IsWhole (opens_as item)
whole_item NewDirectory = tt
whole_item (NewFile content) = tt

-- the target's vault is kept, and each of its items is one that the source held
builds_on : RootsAreAlike → (g : Migration) (v w : View) → IsSeparate g → IsBuilding g v → KeepsVault (format_of g.target.vault) g.target.root v w
    → IsPartOfMapped g.names (tree_at g.target w) g.held → IsBuilding g w
builds_on alike g v w separate is keeps part = record {
  source = source_alike g w v (sym (alike g.source.root w v (λ q inside. keeps.elsewhere q (beside q (apart_below g.source.root g.target.root q separate.vaults inside))))) is.source;
  journal = journal_alike g _ w v (keeps.elsewhere (journal_path g.work) (beside (journal_path g.work) (below-apart g.target.root g.work (codes "journal" ∷ []) separate.target.one separate.target.other))) is.journal;
  target = record { pass = is.target.pass; loads = keeps.loads is.target.pass g.target.vault is.target.loads; good = keeps.good };
  apart = is.apart;
  part = part;
  allowed = is.allowed;
}
  where
    beside : (q : Path) → below g.target.root q ≡ None → IsTrue (apart_from g.target.root q)
    beside q none = ap is_none none

abbrev pub OldOrNew : Migration → ItemAt → Ending → View → View → Type 0
OldOrNew g x ending v w = KeepsTree (format_of g.target.vault) g.target.root v w ⊎ ((ending ≡ Whole) × GainsItem (format_of g.target.vault) g.target.root (path_of x) (opens_as x.item) v w)

kept_part : (g : Migration) (v w : View) → OpensAs (format_of g.target.vault) (under g.target.root v) (under g.target.root w) → IsPartOfMapped g.names (tree_at g.target v) g.held → IsPartOfMapped g.names (tree_at g.target w) g.held
kept_part g v w opens part path named there =
    subst (λ o. IsMappedItem g.names g.held path o × IsWhole o) (sym (opens path)) (part path named (subst (λ o. o ≢ NoItem) (opens path) there))

-- a tree that is part of a mapped one stays so where it gains an item of that
pub part_gains : (names : NameMap) (t u m : Tree) (at : plain.Path) (item : NewItem) → IsMappedItem names m at (opens_as item) → ((path : plain.Path) → path ≢ at → u path ≡ t path) → u at ≡ opens_as item
    → IsPartOfMapped names t m → IsPartOfMapped names u m
part_gains names t u m at item held others there part path named is = elim (one_or_not path at) [
  | inl same ↦ subst (λ p. IsMappedItem names m p (u p) × IsWhole (u p)) (sym same) (subst (IsMappedItem names m at) (sym there) held, subst IsWhole (sym there) (whole_item item))
  | inr other ↦ subst (λ o. IsMappedItem names m path o × IsWhole o) (sym (others path other.0)) (part path named (subst (λ o. o ≢ NoItem) (others path other.0) is))
]

gained_part : (g : Migration) (x : ItemAt) (v w : View) → IsHeld g x → OpensWith (format_of g.target.vault) (under g.target.root v) (under g.target.root w) (path_of x) (opens_as x.item)
    → IsPartOfMapped g.names (tree_at g.target v) g.held → IsPartOfMapped g.names (tree_at g.target w) g.held
gained_part g x v w held opens = part_gains g.names (tree_at g.target v) (tree_at g.target w) g.held (path_of x) x.item held opens.others opens.there

builds : RootsAreAlike → (g : Migration) (x : ItemAt) (ending : Ending) (v w : View) → IsSeparate g → (ending ≡ Whole → IsHeld g x) → IsBuilding g v → OldOrNew g x ending v w → IsBuilding g w
builds alike g x ending v w separate held is (inl keeps) = builds_on alike g v w separate is keeps.vault (kept_part g v w keeps.opens is.part)
builds alike g x ending v w separate held is (inr (whole, gains)) = builds_on alike g v w separate is gains.vault (gained_part g x v w (held whole) gains.opens is.part)

-- ---- at each moment

shows_one : (g : Migration) (x : ItemAt) (s : State) (b : IsAlone g Begun s) → ShowsOne (placing_of g x) (is_kept g) s b.view
shows_one g x s b = record { has = has_vault g x b.guarded.separate; alone = b.alone; good = b.holds.target.good }

guarded_at : RootsAreAlike → ImagesShow → (g : Migration) (x : ItemAt) (ending : Ending) (m : Making) (s0 s : State) → IsAlone g Begun s0 → (ending ≡ Whole → IsHeld g x)
    → IsMaking (placing_of g x) ending m s0 s → NoOdd g.work s → Guarded g s
guarded_at alike shown g x ending m s0 s b held making none = guarded_by alike shown g s b.guarded.separate shows
  where
    shows : (t : Table) → IsTableOf s t → ShowsCase g s t
    shows t is =
        let there : (w : View) × Shows (is_kept g) s t w × OldOrNew g x ending b.view w = making.trees (is_kept g) b.view (shows_one g x s0 b) t is in
        let before : (u : Table) × IsTableOf s0 u × AlikeIn (is_elsewhere (placing_of g x)) t u = making.others.tables t is in
        record {
          view = there.0;
          shows = there.1;
          case = Building (builds alike g x ending b.view there.0 b.guarded.separate held b.holds there.2);
          work = work_alike g x t before.0 b.guarded.separate before.2 (λ q staged. none t q is staged) (table_work g Begun s0 b before.0 before.1);
        }

none_at_first : (g : Migration) (s : State) → IsAlone g Begun s → NoOdd g.work s
none_at_first g s b t q is staged odd = (table_work g Begun s b t is).staged q staged (ap kind_of odd)

pub one_stays : RootsAreAlike → ImagesShow → (g : Migration) (x : ItemAt) (a b : Told) (result : Result (Unit {0}) PutFault) → IsAlone g Begun a.state → Places g x a b result → StaysGuarded g a b
one_stays alike shown g x a b result at places = record {
  events = went.events;
  log = went.log;
  state = went.state;
  states = both_along (IsMaking p places.ending m a.state) (NoOdd g.work) (Guarded g) a.state went.events (λ s making none. guarded_at alike shown g x places.ending m a.state s at places.held making none)
      went.states (none_along g.work m a.state went.events (none_at_first g a.state at) went.each);
  each = nothing_each a.state went.events;
  allowed = went.allowed;
}
  where
    p : Placing
    p = placing_of g x

    m : Making
    m = making_at p places.making a.state

    went : Went (IsMaking p places.ending m a.state) (λ s e. StagesOrPlaces g.work m s e.call) a b
    went = places.makes.moments

-- ---- after Ok

made_view : (g : Migration) (x : ItemAt) (a b : Told) (at : IsAlone g Begun a.state) → Places g x a b (Ok tt)
    → (w : View) × ShowsAmong (is_kept g) b.state (w ∷ []) × GainsItem (format_of g.target.vault) g.target.root (path_of x) (opens_as x.item) at.view w
made_view g x a b at places = places.makes.done.tree (is_kept g) at.view (shows_one g x a.state at)

pub next_may_follow : RootsAreAlike → ImagesShow → (g : Migration) (x : ItemAt) (a b : Told) → IsAlone g Begun a.state → Places g x a b (Ok tt) → IsAlone g Begun b.state
next_may_follow alike shown g x a b at places =
    let made : (w : View) × ShowsAmong (is_kept g) b.state (w ∷ []) × GainsItem (format_of g.target.vault) g.target.root (path_of x) (opens_as x.item) at.view w = made_view g x a b at places in
    record {
      sound = places.sound;
      guarded = went_to (Guarded g) (λ s e. Unit {0}) a b (one_stays alike shown g x a b (Ok tt) at places);
      view = made.0;
      alone = made.1;
      holds = builds alike g x places.ending at.view made.0 at.guarded.separate places.held at.holds (inr (places.whole, made.2));
    }

pub each_stays : RootsAreAlike → ImagesShow → (g : Migration) (items : List ItemAt) (a b : Told) → IsAlone g Begun a.state → PlaceEach g items a b → StaysGuarded g a b
each_stays alike shown g [] a b at placed = subst (StaysGuarded g a) (sym placed) (went_nowhere (Guarded g) (λ s e. Unit {0}) a at.guarded)
each_stays alike shown g (x ∷ items) a b at placed =
    went_on (Guarded g) (λ s e. Unit {0}) a placed.0 b (one_stays alike shown g x a placed.0 (Ok tt) at placed.1)
    (each_stays alike shown g items placed.0 b (next_may_follow alike shown g x a placed.0 at placed.1) placed.2)

pub last_may_follow : RootsAreAlike → ImagesShow → (g : Migration) (items : List ItemAt) (a b : Told) → IsAlone g Begun a.state → PlaceEach g items a b → IsAlone g Begun b.state
last_may_follow alike shown g [] a b at placed = subst (λ (c : Told). IsAlone g Begun c.state) (sym placed) at
last_may_follow alike shown g (x ∷ items) a b at placed = last_may_follow alike shown g items placed.0 b (next_may_follow alike shown g x a placed.0 at placed.1) placed.2
