-- The contents of the files of a plan.
use Rattle.std.proofs.Common.{◌≡◌, ◌≢◌, ℕ, List, [], ◌∷◌, ◌++◌, map, Some, Contains, refl, sym, ap, ◌∙◌}
use Rattle.std.specs.List.{filter_map}
use Rattle.folder_spec.specs.Path.{Path}
use Rattle.folder_spec.specs.View.{View}
use Rattle.plain_tree.specs.Names as plain
use Rattle.plain_tree.specs.declared.NodeKind.{NodeKind}
use Rattle.plain_tree.specs.declared.NodeKind.TheVariants as node
use Rattle.vault_spec.specs.Alike.{place_of}
use Rattle.vault_spec.specs.Format.{Format, Directory}
use Rattle.vault_spec.specs.Listing.{node_of}
use Rattle.vault_spec.specs.Plan.{Planned, StandsBelow}
use Rattle.vault_spec.specs.Reached.{IsReached, Leads}
use Rattle.vault_spec.specs.Standing.{Standing, Absent, Strange, File, Dir, standing, standing_in}
use Rattle.vault_walk.specs.Survey.{Spot, HasEachOnce}
use Rattle.vault_walk.specs.Surveyed.{placed}
use Rattle.vault_check.specs.Contents.{content_of, content_place}
use Rattle.vault_check.proofs.Contained.{filter_mapped, filter_mapped_from}
use Rattle.vault_spec.proofs.Mapped.{contains_mapped, mapped_from}

-- a file of a reached directory has its content there
pub record IsContentIn (f : Format) (v : View) (at : Path) : Type 0 where
  pub dir : Directory
  pub name : List ℕ
  pub reached : IsReached f v dir
  pub stands : standing_in f v dir name ≡ File at

file_stands : (here : Standing) (at : Path) → node_of here ≡ Some node.File → place_of here ≡ Some at → here ≡ File at
file_stands Absent at kind place = cc
file_stands (Strange p) at kind place = cc
file_stands (File p) at kind place = let same : p ≡ at = cc in ap File same
file_stands (Dir p directory) at kind place = cc

is_file : (kind : NodeKind) (at q : Path) → content_place kind at ≡ Some q → (kind ≡ node.File) × (at ≡ q)
is_file node.File at q e = (refl, cc)
is_file node.Dir at q e = cc

module _ (root : Path) (f : Format) (v : View) (plan : List Planned) (once : HasEachOnce f v plan) where
  items : List Planned
  items = map (placed root) plan

  -- it is the content of an item, at a path at which that stands
  pub content_stands : (q : Path) → Contains (filter_map content_of (map (placed root) plan)) q → (path : plain.Path) × (at : Path) × (path ≢ []) × (standing f v path ≡ File at) × (q ≡ root ++ at)
  content_stands q there =
      let made = filter_mapped_from content_of (map (placed root) plan) q there in
      let from = mapped_from (placed root) plan made.0 made.1 in
      let item : Planned = from.0 in
      let kind = is_file item.node (root ++ item.at) q (ap content_of from.2 ∙ made.2) in
      let stand = once.stand item from.1 in
      (item.path, item.at, stand.0, file_stands (standing f v item.path) item.at (stand.1.node ∙ ap Some kind.0) stand.1.place, sym kind.1)

  pub content_within : ((path : plain.Path) → path ≢ [] → (at : Path) → standing f v path ≡ File at → StandsBelow f v path) → (q : Path)
      → Contains (filter_map content_of (map (placed root) plan)) q → (at : Path) × IsContentIn f v at × (q ≡ root ++ at)
  content_within law q there =
      let k = content_stands q there in
      let below = law k.0 k.2 k.1 k.3 in
      (k.1, record { dir = below.dir; name = below.name; reached = (below.front, below.leads); stands = below.stands ∙ k.3 }, k.4)

  pub content_listed : (at : Path) → IsContentIn f v at → ((front : plain.Path) (dir : Directory) (name : List ℕ) → Leads f v front dir → standing f v (front ++ name ∷ []) ≡ standing_in f v dir name)
      → Contains (filter_map content_of (map (placed root) plan)) (root ++ at)
  content_listed at content law =
      let spot : Spot = record { dir = content.dir; name = content.name } in
      let entry = once.each spot (record { reached = content.reached; node = node.File; stands = ap node_of content.stands }) in
      let item : Planned = entry.0 in
      let stands : standing f v item.path ≡ File at = ap (standing f v) entry.2.is ∙ law entry.2.front content.dir content.name entry.2.leads ∙ content.stands in
      let stand = (once.stand item entry.1).1 in
      let kind : Some item.node ≡ Some node.File = sym stand.node ∙ ap node_of stands in
      let place : Some item.at ≡ Some at = sym stand.place ∙ ap place_of stands in
      filter_mapped content_of (map (placed root) plan) (placed root item) (root ++ at) (contains_mapped (placed root) plan item entry.1)
      (listed item.node item.at kind place)
    where
      listed : (kind : NodeKind) (p : Path) → Some kind ≡ Some node.File → Some p ≡ Some at → content_place kind (root ++ p) ≡ Some (root ++ at)
      listed node.File p k place = let same : p ≡ at = cc in ap (λ q. Some (root ++ q)) same
      listed node.Dir p k place = cc
