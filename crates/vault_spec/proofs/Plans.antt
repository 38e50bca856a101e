-- A plan is the tree, and what stands is found by going through directories step by step.
use Rattle.std.proofs.Common.{◌≡◌, ◌≢◌, ◌⊎◌, ◌↔◌, ◌<◌, ℕ, suc, ◌+◌, Bool, true, false, List, [], ◌∷◌, ◌++◌, Ok, refl, sym, ap, ◌∙◌, inl, inr, subst, Some, length, length-append, arith, Contains, is_some}
use Rattle.folder_spec.specs.Path.{Path, child}
use Rattle.folder_spec.specs.Seen.{ShowsFile}
use Rattle.folder_spec.specs.View.{View}
use Rattle.folder_spec.proofs.Paths.{base_or_child}
use Rattle.plain_tree.specs.Names as plain
use Rattle.plain_tree.specs.Names.{is_name}
use Rattle.plain_tree.specs.Order.{path_cmp}
use Rattle.plain_tree.specs.declared.NodeKind.{NodeKind}
use Rattle.plain_tree.specs.declared.NodeKind.TheVariants as node
use Rattle.std.specs.declared.cmp.Ordering.TheVariants.{Less}
use Rattle.vault_spec.specs.Alike.{place_of}
use Rattle.vault_spec.specs.Format.{Format, Directory, FileItem, file_bytes}
use Rattle.vault_spec.specs.Listing.{Listed, AreListed, node_of}
use Rattle.vault_spec.specs.Opens as opens
use Rattle.vault_spec.specs.Opens.{opened, opened_at, opened_file, tree, AreItems}
use Rattle.vault_spec.specs.Plan.{Planned, IsPlanned, IsPlan, paths_of, StandsBelow, IsReachedFrom}
use Rattle.vault_spec.specs.Reached.{Leads, IsReachedIn}
use Rattle.vault_spec.specs.Standing.{Standing, Absent, Strange, File, Dir, root_of, standing_in, standing, item_at, entry_at, holds_full}
use Rattle.vault_spec.proofs.Clean.{IsChild, is_child}
use Rattle.vault_spec.proofs.Endings.{content_opens}
use Rattle.vault_spec.proofs.Grafts.{standing_named, standing_unnamed, content_there}
use Rattle.vault_spec.proofs.Mapped.{contains_mapped, mapped_from, all_pairs_mapped}
use Rattle.vault_spec.proofs.OwnPlaces.{StandsUnder, stands_under}
use Rattle.vault_spec.proofs.Steps.{along}

-- contents that stand are there
abbrev pub HasContents : Format → View → Type 0
HasContents f v = (path : plain.Path) (at : Path) → standing f v path ≡ File at → ShowsFile v at

-- an item opens
item_opens : (f : Format) (v : View) (s : Standing) (kind : NodeKind) → ((at : Path) → s ≡ File at → ShowsFile v at) → node_of s ≡ Some kind → opened_at f v s ≢ opens.NoItem
item_opens f v Absent kind has is = cc
item_opens f v (Strange at) kind has is = cc
item_opens f v (Dir at d) kind has is = λ e. cc
item_opens f v (File at) kind has is =
    let there : ShowsFile v at = has at refl in
    λ e. content_opens f.content there.0 (ap (λ x. opened_file f.content (file_bytes x)) (sym there.1) ∙ e)

-- what opens is an item, with its kind and place
record HasPlan (s : Standing) : Type 0 where
  kind : NodeKind
  at : Path
  node : node_of s ≡ Some kind
  place : place_of s ≡ Some at

has_plan : (f : Format) (v : View) (s : Standing) → opened_at f v s ≢ opens.NoItem → HasPlan s
has_plan f v Absent opens = absurd (opens refl)
has_plan f v (Strange at) opens = absurd (opens refl)
has_plan f v (File at) opens = record { kind = node.File; at = at; node = refl; place = refl }
has_plan f v (Dir at d) opens = record { kind = node.Dir; at = at; node = refl; place = refl }

pub plan_is_tree : (f : Format) (v : View) (items : List Planned) → HasContents f v → IsPlan f v items → AreItems (tree f v) (paths_of items)
unfolding opened
plan_is_tree f v items has plan = record {
  ordered = all_pairs_mapped (λ (x y : plain.Path). path_cmp x y ≡ Less) (λ (item : Planned). item.path) items plan.ordered;
  items = λ path. (opens_there path, among path);
}
  where
    opens_there : (path : plain.Path) → Contains (paths_of items) path → (path ≢ []) × (opened f v path ≢ opens.NoItem)
    opens_there path found =
        let from : (item : Planned) × Contains items item × (item.path ≡ path) = mapped_from (λ (item : Planned). item.path) items path found in
        let is : (from.0.path ≢ []) × IsPlanned f v from.0 = (plan.items from.0).0 from.1 in
        subst (λ p. (p ≢ []) × (opened f v p ≢ opens.NoItem)) from.2
        (is.0, item_opens f v (standing f v from.0.path) from.0.node (has from.0.path) is.1.node)

    among : (path : plain.Path) → (path ≢ []) × (opened f v path ≢ opens.NoItem) → Contains (paths_of items) path
    among path some =
        let its : HasPlan (standing f v path) = has_plan f v (standing f v path) some.1 in
        contains_mapped (λ (item : Planned). item.path) items (record { path = path; node = its.kind; at = its.at })
        ((plan.items (record { path = path; node = its.kind; at = its.at })).1 (some.0, record { node = its.node; place = its.place }))

-- what stands in a directory stands behind the path to it
pub stands_behind : (f : Format) (v : View) (front : plain.Path) (dir : Directory) (name : List ℕ) → Leads f v front dir → standing f v (front ++ name ∷ []) ≡ standing_in f v dir name
stands_behind f v front dir name leads = along f v (root_of f v) dir leads.at front name leads.stands

-- and an item that isn't the root stands in a directory
pub stands_below : (f : Format) (v : View) (path : plain.Path) (at : Path) → path ≢ [] → place_of (standing f v path) ≡ Some at → StandsBelow f v path
stands_below f v path at some place = by_end (base_or_child path)
  where
    by_end : (path ≡ []) ⊎ ((front : Path) × (name : List ℕ) × (path ≡ child front name)) → StandsBelow f v path
    by_end (inl none) = absurd (some none)
    by_end (inr last) =
        let its : StandsUnder f v (root_of f v) last.0 last.1 at = stands_under f v (root_of f v) last.0 last.1 at (ap (λ p. place_of (standing f v p)) (sym last.2) ∙ place) in
        let leads : Leads f v last.0 its.dir = record { at = its.at; stands = its.before } in
        record {
          front = last.0;
          name = last.1;
          dir = its.dir;
          is = last.2;
          leads = leads;
          stands = sym (stands_behind f v last.0 its.dir last.1 leads) ∙ ap (standing f v) (sym last.2);
        }

-- contents that stand are there, where those of items are
pub has_contents : (f : Format) (v : View) → ((long : Bool) (v : View) (rest : Path) → f.item long v ≡ FileItem rest → ShowsFile v rest) → HasContents f v
has_contents f v there path at is = elim (base_or_child path) [
  | inl root ↦ let clash : root_of f v ≡ File at = ap (standing f v) (sym root) ∙ is in cc
  | inr last ↦
      let below : StandsBelow f v path = stands_below f v path at (λ none. let clash : root_of f v ≡ File at = ap (standing f v) (sym none) ∙ is in cc) (ap place_of is) in
      by_name below.dir below.name (is_name below.name) refl (below.stands ∙ is)
]
  where
    by_name : (dir : Directory) (name : List ℕ) (b : Bool) → is_name name ≡ b → standing_in f v dir name ≡ File at → ShowsFile v at
    by_name dir name false named stands = let clash : Absent ≡ File at = sym (standing_unnamed f v dir name named) ∙ stands in cc
    by_name dir name true named stands =
        content_there f there v (entry_at f dir name) (is_some (f.stored dir.key name).full) (holds_full f v dir (f.stored dir.key name)) (item_at f v dir (f.stored dir.key name)) at refl
        (sym (standing_named f v dir name named) ∙ stands)

-- the items of a directory stand behind the path to it
pub listed_stand : (f : Format) (v : View) (front : plain.Path) (dir : Directory) (items : List Listed) → Leads f v front dir → AreListed f v dir items
    → (item : Listed) → Contains items item ↔ (node_of (standing f v (front ++ item.name ∷ [])) ≡ Some item.node)
listed_stand f v front dir items leads listed item = (
  λ found. ap node_of (stands_behind f v front dir item.name leads) ∙ (listed.items item).0 found,
  λ is. (listed.items item).1 (ap node_of (sym (stands_behind f v front dir item.name leads)) ∙ is),
)

-- a directory reached in one step more stands in one that is reached
pub reached_from : (f : Format) (v : View) (steps : ℕ) (dir : Directory) → IsReachedIn f v (suc steps) dir → IsReachedFrom f v steps dir
reached_from f v steps dir reached = by_end (base_or_child reached.path)
  where
    behind : (parent : Directory) (name : List ℕ) (at : Path) → standing_in f v parent name ≡ Dir at (Ok dir) → (other : plain.Path) → Leads f v other parent → Leads f v (other ++ name ∷ []) dir
    behind parent name at stands other leads = record { at = at; stands = stands_behind f v other parent name leads ∙ stands }

    by_end : (reached.path ≡ []) ⊎ ((front : Path) × (name : List ℕ) × (reached.path ≡ child front name)) → IsReachedFrom f v steps dir
    by_end (inl none) = let size : 0 ≡ suc steps = ap length (sym none) ∙ reached.size in absurd (omega (arith, size))
    by_end (inr last) =
        let one : IsChild f v last.0 last.1 dir = is_child f v last.0 last.1 dir (subst (λ p. Leads f v p dir) last.2 reached.leads) in
        let more : length last.0 + 1 ≡ suc steps = sym (length-append last.0 (last.1 ∷ [])) ∙ ap length (sym last.2) ∙ reached.size in
        record {
          parent = one.dir;
          name = last.1;
          at = one.at;
          reached = record {
            path = last.0;
            leads = one.leads;
            size = omega (arith, more);
            least = λ other leads shorter.
                let size : length (other ++ last.1 ∷ []) ≡ length other + 1 = length-append other (last.1 ∷ []) in
                let below : length other < steps = shorter in
                reached.least (other ++ last.1 ∷ []) (behind one.dir last.1 one.at one.stands other leads) (omega (arith, size, below));
          };
          stands = one.stands;
        }
