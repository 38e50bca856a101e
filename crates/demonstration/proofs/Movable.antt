-- What the demonstration holds can be moved, and then retired.
use Rattle.std.specs.Cmp.Lexicographic.{bytes_decides}
use Rattle.std.specs.Str.{bytes_eq}
use Rattle.std.proofs.Common.{◌≡◌, ◌≢◌, ◌⊎◌, ◌≤◌, ◌<◌, ◌+◌, ◌∙◌, ◌++◌, ◌∷◌, [], ℕ, Bool, true, false, List, length, Contains, Option, Some, None, codes, inl, inr, IsTrue, refl, sym, ap, subst, arith}
use Rattle.chunk_files.specs.Reading.{Wanting, Whole}
use Rattle.demo_core.specs.Making.{phrase}
use Rattle.demo_core.specs.Tree.{HasItems}
use Rattle.demo_core.proofs.Standing.{nothing_seen}
use Rattle.folder_spec.specs.Path.{Path, below, child}
use Rattle.folder_spec.specs.Event.{Told}
use Rattle.folder_spec.specs.Seen.{IfSeen, seen, under}
use Rattle.folder_spec.specs.State.{IsSound, State}
use Rattle.folder_spec.specs.View.{FileOf, Folder, NoEntry, View, kind_found}
use Rattle.folder_spec.specs.declared.Kind.TheVariants as kinds
use Rattle.folder_spec.proofs.Paths.{begins_or_not, below-append}
use Rattle.migrate_core.specs.Completing.{CanBegin}
use Rattle.migration_spec.specs.Guard.{tree_at, AreOpenedBy, Done, IsSeparate, IsWork, Migration, kinds_in, old_path}
use Rattle.migrate_core.specs.Limits.{HasSmallContents, IsSmall}
use Rattle.migrate_core.specs.Moved.{IsTidyWork}
use Rattle.migrate_core.specs.Sides.{AreTold, IsAsked}
use Rattle.migration_sides.specs.Sides.{opened_in}
use Rattle.plain_tree.specs.Mapped.{mapped_name}
use Rattle.plain_tree.specs.Names as plain
use Rattle.plain_tree.specs.declared.name_map.NameMap.TheVariants.{Same}
use Rattle.retire_core.specs.Completing.{CanRetire, KeepsLimits}
use Rattle.tree_match.specs.Comparing.{content_at}
use Rattle.vault_spec.specs.PlanOf.{IsPlanOf}
use Rattle.vault_spec.specs.Mapped.{AllowsMapped, AllowsTree, IsWhole, StaysApart}
use Rattle.tree_match.specs.Trees.{IsWalkOf, PlannedVault}
use Rattle.vault_spec.specs.Opened.{OpenedVault}
use Rattle.vault_spec.specs.Alike.{IsOrderly}
use Rattle.vault_spec.specs.Format.{Format}
use Rattle.vault_spec.specs.Making.{Allows}
use Rattle.vault_spec.specs.Opens as opens
use Rattle.vault_spec.specs.Opens.{Opened, NoItem, Directory, Content, Tree, opened, opened_at, tree}
use Rattle.vault_spec.specs.Plan.{Planned}
use Rattle.vault_spec.specs.Standing.{File, standing}
use Rattle.vault_spec.specs.Vault.{IsVault, Vault, format_of}
use Rattle.vault_walk.specs.Surveyed as walks
use Rattle.item_making.specs.Making.{is_inside}
use Rattle.item_making.specs.Trees.{ShowsVault}
use Rattle.work_folder.specs.Entries.{is_foreign, journal_path, stage_path}
use Rattle.demonstration.specs.DemoSteps.{CanCarry, HasCarried, Sees}
use Rattle.demonstration.specs.DemoTrees.{moving_folder, source_of, target_of}
use Rattle.demonstration.specs.declared.leading.Leg.{Leg}
use Rattle.demonstration.specs.declared.leading.Leg.TheVariants.{There, Back}
use Rattle.demonstration.proofs.GoodOrder.{own_of_good}

-- ---- what laws say of its items

pub record AreMovable : Type 0 where
  pub apart : (m : Tree) → StaysApart Same m
  pub named : (seed count : ℕ) (t : Tree) → HasItems seed count t → (path : plain.Path) (name : List ℕ) → t path ≢ NoItem → Contains path name → IsTrue (plain.is_name name)
  pub allowed : (f : Format) (seed count : ℕ) (t : Tree) → HasItems seed count t → (path : plain.Path) (name : List ℕ) → t path ≢ NoItem → Contains path name → Allows f name
  pub short : (seed count : ℕ) (t : Tree) → HasItems seed count t → (path : plain.Path) → path ≢ [] → t path ≢ NoItem → (t path ≡ Directory) ⊎ ((content : List ℕ) × (t path ≡ Content content) × (length content ≤ 70000))
  pub fits : (vault : Vault) (v : View) (seed count : ℕ) → count ≤ 2000 → HasItems seed count (tree (format_of vault) v) → walks.IsWithin (format_of vault) v
  pub whole : (a : OpenedVault) (v : View) (path : plain.Path) (at : Path) → HasSmallContents (tree_at a v) → standing (format_of a.vault) (under a.root v) path ≡ File at
      → (content_at (format_of a.vault).content v (a.root ++ at)).ending ≡ Whole

-- a name that stays is allowed
allows_same : (f : Format) (name : List ℕ) → IsTrue (plain.is_name name) → Allows f name → AllowsMapped Same f name
unfolding mapped_name
allows_same f name named allowed = record { named = named; allowed = allowed }

allows_items : AreMovable → (f : Format) (seed count : ℕ) (t : Tree) → HasItems seed count t → AllowsTree Same f t
allows_items laws f seed count t items path name some among = allows_same f name (laws.named seed count t items path name some among) (laws.allowed f seed count t items path name some among)

-- the root of a vault in good order is a directory
root_opens : (f : Format) (v : View) → IsOrderly f v → opened f v [] ≡ Directory
unfolding opened
root_opens f v orderly = ap (opened_at f v) orderly.root

small_item : (opens : Opened) → (opens ≡ Directory) ⊎ ((content : List ℕ) × (opens ≡ Content content) × (length content ≤ 70000)) → IsSmall opens
small_item o (inl is) = subst IsSmall (sym is) tt
small_item o (inr some) = subst IsSmall (sym some.1) (let few = some.2 in omega (arith, few))

small_or_none : (opens : Opened) → (opens ≢ NoItem → IsSmall opens) → IsSmall opens
small_or_none NoItem small = tt
small_or_none Directory small = tt
small_or_none (Content bytes) small = small (λ none. cc none)
small_or_none (opens.Broken chunks fault) small = small (λ none. cc none)

pub small_contents : AreMovable → (vault : Vault) (root : Path) (seed count : ℕ) (v : View) → ShowsVault (format_of vault) root v → HasItems seed count (tree (format_of vault) (under root v))
    → HasSmallContents (tree_at (opened_in root vault) v)
small_contents laws vault root seed count v good items = by
  where
    by : (path : plain.Path) → IsSmall (tree (format_of vault) (under root v) path)
    by [] = subst IsSmall (sym (root_opens (format_of vault) (under root v) good.orderly)) tt
    by (name ∷ rest) = small_or_none (tree (format_of vault) (under root v) (name ∷ rest)) (λ some. small_item (tree (format_of vault) (under root v) (name ∷ rest)) (laws.short seed count (tree (format_of vault) (under root v)) items (name ∷ rest) (λ none. cc none) some))

-- ---- the migration of a leg

abbrev pub migration_of : Leg → Vault → Vault → View → Migration
migration_of leg source target v = record {
  source = opened_in (source_of leg) source;
  target = opened_in (target_of leg) target;
  work = moving_folder;
  names = Same;
  held = tree (format_of source) (under (source_of leg) v);
}

pub is_asked : (leg : Leg) (source target : Vault) (v : View) → IsAsked (migration_of leg source target v) Same (source_of leg) (target_of leg) moving_folder
is_asked leg source target v = record { source = refl; target = refl; work = refl; names = refl }

-- the passphrase of the demonstration opens its vaults
pub are_opened : (leg : Leg) (source target : Vault) (v : View) → IsVault (under (source_of leg) v) phrase source → IsVault (under (target_of leg) v) phrase target
    → AreOpenedBy (migration_of leg source target v) phrase phrase v
are_opened leg source target v opens_source opens_target = record { source = λ there. opens_source; target = λ there. opens_target }

are_separate : (leg : Leg) (source target : Vault) (v : View) → IsSeparate (migration_of leg source target v)
are_separate There source target v = record { vaults = record { one = refl; other = refl }; source = record { one = refl; other = refl }; target = record { one = refl; other = refl } }
are_separate Back source target v = record { vaults = record { one = refl; other = refl }; source = record { one = refl; other = refl }; target = record { one = refl; other = refl } }

-- nothing stands in the work folder, which isn't there
free_work : (s : State) → IsSound s → seen s moving_folder ≡ NoEntry → IsWork false (kinds_in (seen s)) moving_folder
free_work s sound free = record {
  folder = inl (ap kind_found free);
  staged = λ q inside other. none_other q (nothing_inside (codes "stage") q inside) other;
  moved = λ q inside other. none_other q (nothing_inside (codes "old") q inside) other;
}
  where
    none_other : (q : Path) → seen s q ≡ NoEntry → kinds_in (seen s) q ≢ kinds.Other
    none_other q none other = let never : kinds.Missing ≡ kinds.Other = sym (ap kind_found none) ∙ other in cc never

    nothing_inside : (name : List ℕ) (q : Path) → IsTrue (is_inside (below (moving_folder ++ name ∷ []) q)) → seen s q ≡ NoEntry
    nothing_inside name q inside = elim (begins_or_not (moving_folder ++ name ∷ []) q) [
      | inl there ↦ ap (seen s) there.1 ∙ nothing_seen s sound moving_folder (name ∷ there.0) free
      | inr none ↦ (let never : IsTrue (is_inside None) = subst (λ o. IsTrue (is_inside o)) none inside in cc never)
    ]

pub can_begin : AreMovable → (leg : Leg) (seed count : ℕ) (s : State) → IsSound s → count ≤ 2000 → (can : CanCarry leg seed count (seen s))
    → CanBegin (migration_of leg can.source.items.vault can.target.items.vault (seen s)) (seen s)
can_begin laws leg seed count s sound few can = record {
  separate = are_separate leg source target (seen s);
  begun = record {
    source = record { there = record { pass = phrase; loads = can.source.items.opens; good = can.source.good }; held = λ path. refl };
    journal = nothing_seen s sound moving_folder (codes "journal" ∷ []) can.work;
    target = record { pass = phrase; loads = can.target.items.opens; good = can.target.good };
    empty = λ path proper. can.target.items.items.others path proper (λ number none. absurd (omega (arith, none)));
  };
  above = can.beside.base;
  work = free_work s sound can.work;
  stage = λ rest deep. nothing_seen s sound moving_folder (codes "stage" ∷ rest) can.work;
  allowed = allows_items laws (format_of target) seed count held can.source.items.items;
  apart = laws.apart held;
  source = record {
    items = laws.fits source (under (source_of leg) (seen s)) seed count few can.source.items.items;
    contents = λ path at stands. laws.whole (opened_in (source_of leg) source) (seen s) path at (small_contents laws source (source_of leg) seed count (seen s) can.source.good can.source.items.items) stands;
  };
  target = laws.fits target (under (target_of leg) (seen s)) seed 0 (omega arith) can.target.items.items;
}
  where
    source : Vault
    source = can.source.items.vault

    target : Vault
    target = can.target.items.vault

    held : Tree
    held = tree (format_of source) (under (source_of leg) (seen s))

-- ---- and retired

abbrev pub PlansTell : Type 0
PlansTell = (v : View) (a : PlannedVault) → IsWalkOf v a → IsPlanOf (tree (format_of a.vault) (under a.root v)) a.items

whole_if_small : (opens : Opened) → IsSmall opens → IsWhole opens
whole_if_small NoItem small = tt
whole_if_small Directory small = tt
whole_if_small (Content bytes) small = tt
whole_if_small (opens.Broken chunks fault) small = small

-- of the work folder a stage and a journal stand, and no more
tidy_work : (s : State) → IsSound s → IsTidyWork moving_folder (seen s) → (bytes : List ℕ) → seen s (journal_path moving_folder) ≡ FileOf bytes → IsWork false (kinds_in (seen s)) moving_folder
tidy_work s sound tidy bytes journal = record {
  folder = inr (ap kind_found tidy.ready.folder, not_foreign);
  staged = λ q inside other. none_other q (staged_none q inside) other;
  moved = λ q inside other. none_other q (moved_none q inside) other;
}
  where
    none_other : (q : Path) → seen s q ≡ NoEntry → kinds_in (seen s) q ≢ kinds.Other
    none_other q none other = let never : kinds.Missing ≡ kinds.Other = sym (ap kind_found none) ∙ other in cc never

    not_foreign : (name : List ℕ) → ¬ IsTrue (is_foreign false name (kinds_in (seen s) (child moving_folder name)))
    not_foreign name foreign = by (bytes_eq name (codes "stage")) refl (bytes_eq name (codes "journal")) refl
      where
        by : (stage : Bool) → bytes_eq name (codes "stage") ≡ stage → (journal : Bool) → bytes_eq name (codes "journal") ≡ journal → ⊥
        by true is j e =
            let name_is : name ≡ codes "stage" = (bytes_decides name (codes "stage")).0 is in
            let never : IsTrue (is_foreign false (codes "stage") (kind_found Folder)) =
            subst (λ x. IsTrue (is_foreign false (codes "stage") (kind_found x))) tidy.ready.stage (subst (λ n. IsTrue (is_foreign false n (kinds_in (seen s) (child moving_folder n)))) name_is foreign) in
            cc never
        by false other true is =
            let name_is : name ≡ codes "journal" = (bytes_decides name (codes "journal")).0 is in
            let never : IsTrue (is_foreign false (codes "journal") (kind_found (FileOf bytes))) =
            subst (λ x. IsTrue (is_foreign false (codes "journal") (kind_found x))) journal (subst (λ n. IsTrue (is_foreign false n (kinds_in (seen s) (child moving_folder n)))) name_is foreign) in
            cc never
        by false stage false journal_apart =
            let none : seen s (child moving_folder name) ≡ NoEntry =
            tidy.alone name (λ e. let never : true ≡ false = sym ((bytes_decides name (codes "stage")).1 e) ∙ stage in cc never) (λ e. let never : true ≡ false = sym ((bytes_decides name (codes "journal")).1 e) ∙ journal_apart in cc never) in
            let never : IsTrue (is_foreign false name (kind_found NoEntry)) = subst (λ x. IsTrue (is_foreign false name (kind_found x))) none foreign in
            cc never

    inside_of : (at q : Path) → IsTrue (is_inside (below at q)) → (rest : Path) × (q ≡ at ++ rest) × (1 ≤ length rest)
    inside_of at q inside = elim (begins_or_not at q) [
      | inl there ↦ (there.0, there.1, longer there.0 (subst (λ o. IsTrue (is_inside o)) (ap (below at) there.1 ∙ below-append at there.0) inside))
      | inr none ↦ (let never : IsTrue (is_inside None) = subst (λ o. IsTrue (is_inside o)) none inside in cc never)
    ]
      where
        longer : (rest : Path) → IsTrue (is_inside (Some rest)) → 1 ≤ length rest
        longer [] never = cc never
        longer (a ∷ rest) is = omega arith

    staged_none : (q : Path) → IsTrue (is_inside (below (stage_path moving_folder) q)) → seen s q ≡ NoEntry
    staged_none q inside = let there = inside_of (stage_path moving_folder) q inside in ap (seen s) there.1 ∙ tidy.ready.bare there.0 there.2

    moved_none : (q : Path) → IsTrue (is_inside (below (old_path moving_folder) q)) → seen s q ≡ NoEntry
    moved_none q inside =
        let there = inside_of (old_path moving_folder) q inside in
        ap (seen s) there.1 ∙ nothing_seen s sound (old_path moving_folder) there.0 (tidy.alone (codes "old") (λ e. cc e) (λ e. cc e))

pub can_retire : AreMovable → PlansTell → (leg : Leg) (seed count : ℕ) (s : State) → IsSound s → count ≤ 2000 → (can : HasCarried leg seed count (seen s))
    → CanRetire (migration_of leg can.source.items.vault can.target.items.vault (seen s)) (seen s)
can_retire laws plans leg seed count s sound few can = record {
  separate = are_separate leg source target (seen s);
  guarded = record {
    case = Done (record {
      source = record { there = record { pass = phrase; loads = can.source.items.opens; good = can.source.good }; held = λ path. refl };
      journal = record {
        journal = can.says.journal;
        is = can.says.is;
        in_phase = can.says.phase;
        tells = record {
          source = can.says.source;
          target = can.says.target;
          names = can.says.names;
          plan = told.0;
          is_plan = plans (seen s) (record { vault = source; root = source_of leg; items = told.0 }) told.1;
          items = told.2.1;
          digest = told.2.0;
        };
        stands = can.says.stands;
      };
      target = record {
        there = record { pass = phrase; loads = can.target.items.opens; good = can.target.good };
        all = record {
          held = can.trees (own_of_good source (source_of leg) (seen s) can.source.good) (own_of_good target (target_of leg) (seen s) can.target.good);
          apart = laws.apart held;
          whole = whole;
        };
      };
      allowed = allows_items laws (format_of target) seed count held can.source.items.items;
    });
    work = tidy_work s sound can.tidy can.says.stands.text can.says.stands.file;
  };
  end = tt;
  limits = record {
    source = keeps source (source_of leg) can.source.good can.source.items.items;
    target = keeps target (target_of leg) can.target.good can.target.items.items;
    old = λ rest deep. nothing_seen s sound (old_path moving_folder) rest (can.tidy.alone (codes "old") (λ e. cc e) (λ e. cc e));
    stage = λ rest deep. can.tidy.ready.bare rest (omega (arith, deep));
  };
}
  where
    source : Vault
    source = can.source.items.vault

    target : Vault
    target = can.target.items.vault

    held : Tree
    held = tree (format_of source) (under (source_of leg) (seen s))

    told : (items : List Planned) × walks.IsPlanOf (source_of leg) (format_of source) (under (source_of leg) (seen s)) items × AreTold can.says.journal items
    told = can.tells (own_of_good source (source_of leg) (seen s) can.source.good)

    whole : (path : plain.Path) → IsWhole (held path)
    whole path = whole_if_small (held path) (small_contents laws source (source_of leg) seed count (seen s) can.source.good can.source.items.items path)

    keeps : (vault : Vault) (root : Path) → ShowsVault (format_of vault) root (seen s) → HasItems seed count (tree (format_of vault) (under root (seen s))) → KeepsLimits (opened_in root vault) (seen s)
    keeps vault root good items = record {
      items = laws.fits vault (under root (seen s)) seed count few items;
      contents = λ path at stands wanting.
          let never : Whole ≡ Wanting = sym (laws.whole (opened_in root vault) (seen s) path at (small_contents laws vault root seed count (seen s) good items) stands) ∙ wanting in
          cc never;
    }

-- what follows of a migration that can be retired follows where it was carried
pub carried_retires : AreMovable → PlansTell → (X : Type 0) (leg : Leg) (count : ℕ) (work : Path) (t : Option Told) → ((a : Told) → t ≡ Some a → IsSound a.state) → work ≡ moving_folder
    → ((g : Migration) → IfSeen t (λ v. g.work ≡ work → AreOpenedBy g phrase phrase v → CanRetire g v → X)) → Sees (HasCarried leg) count t → X
carried_retires laws plans X leg count work (Some a) sound is completes sees =
    let can : HasCarried leg sees.seed count (seen a.state) = subst (HasCarried leg sees.seed count) sees.seen sees.shown in
    completes (migration_of leg can.source.items.vault can.target.items.vault (seen a.state)) (seen a.state) refl (sym is)
    (are_opened leg can.source.items.vault can.target.items.vault (seen a.state) can.source.items.opens can.target.items.opens)
    (can_retire laws plans leg sees.seed count a.state (sound a refl) sees.few can)
carried_retires laws plans X leg count work None sound is completes sees = absurd sees.seen
