-- That a vault has the items of another, where comparing their plans tells so; and what the items of a walk are.
use Rattle.std.proofs.Common.{◌≡◌, ◌≢◌, inl, inr, suc, ◌<◌, List, [], ◌∷◌, length, Bool, true, false, if◌then◌else◌, Option, Some, None, refl, sym, ap, subst, ◌∙◌, arith, Contains}
use Rattle.std.specs.Cmp.Lexicographic.{pointwise_decides, bytes_decides}
use Rattle.chunk_files.specs.Reading.{Ending}
use Rattle.folder_spec.specs.Path as folder
use Rattle.folder_spec.specs.Seen.{ShowsFile, under}
use Rattle.folder_spec.specs.View.{View}
use Rattle.plain_tree.specs.Names as plain
use Rattle.plain_tree.specs.Order.{path_eq}
use Rattle.plain_tree.specs.declared.NodeKind.TheVariants as node
use Rattle.vault_spec.proofs.Mapped.{contains_mapped, mapped_from}
use Rattle.vault_spec.specs.Alike.{place_of}
use Rattle.vault_spec.specs.Listing.{node_of}
use Rattle.vault_spec.specs.Opens.{NoItem, tree, AreItems}
use Rattle.vault_spec.specs.Plan.{Planned, IsPlan, IsPlanned, paths_of}
use Rattle.vault_spec.specs.Standing.{Standing, Absent, Strange, File, Dir, standing}
use Rattle.vault_spec.specs.Vault.{Vault, format_of}
use Rattle.vault_walk.proofs.PlanOrder.{placed_in_order}
use Rattle.vault_walk.specs.Surveyed.{placed}
use Rattle.tree_match.proofs.Differing.{holds_none, holds_one, differs_one, further_found, further_none}
use Rattle.tree_match.specs.Comparing.{Outcome, Is, Stops}
use Rattle.tree_match.specs.Matching.{IsMatchable, by_item, first_differing, first_further, item_with}
use Rattle.tree_match.specs.Trees.{PlannedVault, IsWalkOf, tree_of}
use Rattle.tree_match.specs.declared.answer.How.{How}
use Rattle.tree_match.specs.declared.answer.Match.{Match}
use Rattle.tree_match.specs.declared.answer.Match.TheVariants.{Same, Contained, Differs}
use Rattle.tree_match.proofs.InOrder.{first_or_among}

-- ---- items that are held

-- each is held, and what follows is the answer
pub record HoldsEach (held : Planned → Outcome (Option How)) (xs : List Planned) (last answer : Match) : Type 0 where
  pub each : (x : Planned) → Contains xs x → held x ≡ Is None
  pub last_is : last ≡ answer

abbrev pub IsNoDifference : Match → Type 0
IsNoDifference Same = Unit {0}
IsNoDifference (Contained path) = Unit {0}
IsNoDifference (Differs path how) = ⊥

is_answer : (one other : Match) → Is one ≡ Is other → one ≡ other
is_answer one other e = cc e

pub stopped : (held : Planned → Outcome (Option How)) (last : Outcome Match) (x : Planned) (xs : List Planned) (at : folder.Path) (ending : Ending) → held x ≡ Stops at ending
    → first_differing held (x ∷ xs) last ≡ Stops at ending
unfolding first_differing
stopped held last x xs at ending is = ap (λ (h : Outcome (Option How)). by_item x.path h (first_differing held xs last)) is

module _ (held : Planned → Outcome (Option How)) (last answer : Match) (no_difference : IsNoDifference answer) where
  pub held_each : (xs : List Planned) → first_differing held xs (Is last) ≡ Is answer → HoldsEach held xs last answer
  held_each [] is = record { each = λ x c. absurd (omega (arith, c.1)); last_is = is_answer last answer (sym (holds_none held (Is last)) ∙ is) }
  held_each (y ∷ ys) is = by (held y) refl (held_each ys)
    where
      by : (o : Outcome (Option How)) → held y ≡ o → (first_differing held ys (Is last) ≡ Is answer → HoldsEach held ys last answer) → HoldsEach held (y ∷ ys) last answer
      by (Is None) same later =
          let rest : HoldsEach held ys last answer = later (sym (holds_one held (Is last) y ys same) ∙ is) in
          record { each = λ x c. elim (first_or_among y ys x c) [ inl e ↦ subst (λ (z : Planned). held z ≡ Is None) e same | inr d ↦ rest.each x d ]; last_is = rest.last_is }
      by (Is (Some how)) same later = absurd (none answer no_difference (is_answer (Differs y.path how) answer (sym (differs_one held (Is last) y ys how same) ∙ is)))
        where
          none : (m : Match) → IsNoDifference m → Differs y.path how ≡ m → ⊥
          none m isnt e = subst IsNoDifference (sym e) isnt
      by (Stops at ending) same later = absurd (stops (sym (stopped held (Is last) y ys at ending same) ∙ is))
        where
          stops : Stops at ending ≡ Is answer → ⊥
          stops e = cc e

-- the item with a path has it, and is among them
pub found_with : (path : plain.Path) (others : List Planned) (o : Planned) → item_with path others ≡ Some o → Contains others o × (o.path ≡ path)
found_with path [] o is = cc is
found_with path (z ∷ zs) o is = by (path_eq z.path path) refl is (found_with path zs o)
  where
    by : (b : Bool) → path_eq z.path path ≡ b → (if b then Some z else item_with path zs) ≡ Some o → (item_with path zs ≡ Some o → Contains zs o × (o.path ≡ path)) → Contains (z ∷ zs) o × (o.path ≡ path)
    by true same e behind = let is_o : z ≡ o = cc e in ((0, omega arith, is_o), ap (λ (p : Planned). p.path) (sym is_o) ∙ (pointwise_decides bytes_decides z.path path).0 same)
    by false same e behind = let later : Contains zs o × (o.path ≡ path) = behind e in let few : later.0.0 < length zs = later.0.1 in ((suc later.0.0, omega (arith, few), later.0.2), later.1)

-- where no other is further, each has an item with its path
pub none_further : (items others : List Planned) → first_further items others ≡ Same → (o : Planned) → Contains others o → (x : Planned) × (item_with o.path items ≡ Some x)
none_further items [] same o among = absurd (omega (arith, among.1))
none_further items (z ∷ zs) same o among = by (item_with z.path items) refl (none_further items zs)
  where
    by : (found : Option Planned) → item_with z.path items ≡ found → (first_further items zs ≡ Same → (p : Planned) → Contains zs p → (x : Planned) × (item_with p.path items ≡ Some x))
        → (x : Planned) × (item_with o.path items ≡ Some x)
    by None e behind = let further : Contained z.path ≡ Same = sym (further_none items z zs e) ∙ same in cc further
    by (Some x) e behind = elim (first_or_among z zs o among) [
      | inl is ↦ (x, ap (λ (p : Planned). item_with p.path items) (sym is) ∙ e)
      | inr later ↦ behind (sym (further_found items z x zs e) ∙ same) o later
    ]

-- ---- the items of a walk

pub file_stands : (s : Standing) (at : folder.Path) → node_of s ≡ Some node.File → place_of s ≡ Some at → s ≡ File at
file_stands Absent at is place = cc is
file_stands (Strange other) at is place = cc is
file_stands (File other) at is place = cc place
file_stands (Dir other directory) at is place = cc is

abbrev pub FilesAreThere : Type 0
FilesAreThere = (vault : Vault) (v : View) (path : plain.Path) (at : folder.Path) → standing (format_of vault) v path ≡ File at → ShowsFile v at

abbrev pub PlansAreTheTree : Type 0
PlansAreTheTree = (vault : Vault) (v : View) (plan : List Planned) → IsPlan (format_of vault) v plan → AreItems (tree (format_of vault) v) (paths_of plan)

-- an item of a plan stands so
pub planned : (v : View) (a : PlannedVault) → IsWalkOf v a → (x : Planned) → Contains a.items x → (y : Planned) × (placed a.root y ≡ x) × IsPlanned (format_of a.vault) (under a.root v) y
planned v a walk x among =
    let from : (y : Planned) × Contains walk.plan y × (placed a.root y ≡ x) = mapped_from (placed a.root) walk.plan x (subst (λ (xs : List Planned). Contains xs x) walk.items_are among) in
    (from.0, from.2, ((walk.is.items from.0).0 from.1).1)

-- each item of the tree is in the plan
pub in_plan : PlansAreTheTree → (v : View) (a : PlannedVault) → IsWalkOf v a → (path : plain.Path) → path ≢ [] → tree_of v a path ≢ NoItem → (x : Planned) × Contains a.items x × (x.path ≡ path)
in_plan plans v a walk path named there =
    let items : AreItems (tree_of v a) (paths_of walk.plan) = plans a.vault (under a.root v) walk.plan walk.is in
    let from : (y : Planned) × Contains walk.plan y × (y.path ≡ path) = mapped_from (λ (item : Planned). item.path) walk.plan path ((items.items path).1 (named, there)) in
    (placed a.root from.0, subst (λ (xs : List Planned). Contains xs (placed a.root from.0)) (sym walk.items_are) (contains_mapped (placed a.root) walk.plan from.0 from.1), from.2)

pub file_there : FilesAreThere → (v : View) (a : PlannedVault) → IsWalkOf v a → (x : Planned) → Contains a.items x → x.node ≡ node.File → ShowsFile v x.at
file_there files v a walk x among is_file =
    let p : (y : Planned) × (placed a.root y ≡ x) × IsPlanned (format_of a.vault) (under a.root v) y = planned v a walk x among in
    subst (λ (at : folder.Path). ShowsFile v at) (ap (λ (z : Planned). z.at) p.1)
    (files a.vault (under a.root v) p.0.path p.0.at
    (file_stands (standing (format_of a.vault) (under a.root v) p.0.path) p.0.at (p.2.node ∙ ap (λ (z : Planned). Some z.node) p.1 ∙ ap Some is_file) p.2.place))

pub can_match : FilesAreThere → (v : View) (a : PlannedVault) → IsWalkOf v a → IsMatchable v a.items
can_match files v a walk = record {
  ordered = placed_in_order a.root walk.plan a.items walk.items_are walk.is.ordered;
  files = file_there files v a walk;
}
