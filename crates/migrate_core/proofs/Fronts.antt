-- That a vault which allows the last mapped name of each item of a plan allows those of the whole tree.
use Rattle.std.proofs.Common.{◌≡◌, ◌≢◌, ℕ, zero, suc, List, ◌∷◌, [], ◌++◌, Some, refl, sym, ap, ◌∙◌, subst, append_assoc, append-nil, arith}
use Rattle.std.specs.Prelude.{Contains}
use Rattle.folder_spec.proofs.Paths.{child-injective, child-not_base}
use Rattle.folder_spec.specs.Path as folder
use Rattle.folder_spec.specs.Seen.{under}
use Rattle.folder_spec.specs.View.{View}
use Rattle.plain_tree.specs.Names as plain
use Rattle.migration_spec.specs.Guard.{HoldsSource, Migration, tree_at}
use Rattle.vault_spec.specs.PlanOf.{IsPlanOf}
use Rattle.vault_spec.specs.Mapped.{AllowsTree}
use Rattle.vault_spec.proofs.Mapped.{mapped_from}
use Rattle.vault_spec.specs.Alike.{place_of}
use Rattle.vault_spec.specs.Format.{Format}
use Rattle.vault_spec.specs.Opens as opens
use Rattle.vault_spec.specs.Opens.{NoItem, Directory, opened, tree}
use Rattle.vault_spec.specs.Plan.{Planned, StandsBelow}
use Rattle.vault_spec.specs.Standing.{Standing, Absent, Strange, File, Dir, standing}
use Rattle.vault_spec.specs.Vault.{format_of}
use Rattle.migrate_core.specs.Sides.{AllowsEachMapped}
use Rattle.vault_walk.proofs.Walks.{StandBelow}

-- an item has a place
placed : (f : Format) (v : View) (path : plain.Path) → tree f v path ≢ NoItem → (at : folder.Path) × (place_of (standing f v path) ≡ Some at)
unfolding opened
placed f v path there = by (standing f v path) refl
  where
    by : (s : Standing) → standing f v path ≡ s → (at : folder.Path) × (place_of (standing f v path) ≡ Some at)
    by Absent e = absurd (there (ap (opens.opened_at f v) e))
    by (Strange at) e = absurd (there (ap (opens.opened_at f v) e))
    by (File at) e = (at, ap place_of e)
    by (Dir at dir) e = (at, ap place_of e)

-- it stands in a directory
pub stands_in : StandBelow → (f : Format) (v : View) (path : plain.Path) (name : List ℕ) → tree f v (path ++ name ∷ []) ≢ NoItem → StandsBelow f v (path ++ name ∷ [])
stands_in below f v path name there = let at = placed f v (path ++ name ∷ []) there in below f v (path ++ name ∷ []) at.0 (child-not_base path name) at.1

-- which opens
pub directory_above : StandBelow → (f : Format) (v : View) (path : plain.Path) (name : List ℕ) → tree f v (path ++ name ∷ []) ≢ NoItem → tree f v path ≡ Directory
unfolding opened
directory_above below f v path name there =
    let up : StandsBelow f v (path ++ name ∷ []) = stands_in below f v path name there in
    let same : path ≡ up.front = child-injective path up.front name up.name up.is in
    ap (opens.opened_at f v) (ap (standing f v) same ∙ up.leads.stands)

one_above : StandBelow → (f : Format) (v : View) (path : plain.Path) (name : List ℕ) → tree f v (path ++ name ∷ []) ≢ NoItem → tree f v path ≢ NoItem
one_above below f v path name there none = let e : Directory ≡ NoItem = sym (directory_above below f v path name there) ∙ none in cc e

all_above : StandBelow → (f : Format) (v : View) (front rest : plain.Path) → tree f v (front ++ rest) ≢ NoItem → tree f v front ≢ NoItem
all_above below f v front [] there = subst (λ p. tree f v p ≢ NoItem) (append-nil front) there
all_above below f v front (name ∷ rest) there =
    one_above below f v front name (all_above below f v (front ++ name ∷ []) rest (subst (λ p. tree f v p ≢ NoItem) (sym (append_assoc front (name ∷ []) rest)) there))

-- a path is divided at one of its names
divided : (path : plain.Path) (name : List ℕ) → Contains path name → (front : plain.Path) × (rest : plain.Path) × (path ≡ front ++ name ∷ rest)
divided [] name (k, lt, at) = absurd (omega (arith, lt))
divided (a ∷ path) name (zero, lt, at) = ([], path, ap (λ x. x ∷ path) at)
divided (a ∷ path) name (suc k, lt, at) = let more = divided path name (k, omega (arith, lt), at) in (a ∷ more.0, more.1, ap (λ q. a ∷ q) more.2)

pub allows_tree : StandBelow → (g : Migration) (v : View) (items : List Planned) → HoldsSource g v → IsPlanOf (tree_at g.source v) items → AllowsEachMapped g.names (format_of g.target.vault) items
    → AllowsTree g.names (format_of g.target.vault) g.held
allows_tree below g v items source plan allowed path name there among =
    let parts = divided path name among in
    let front : plain.Path = parts.0 ++ name ∷ [] in
    let whole : tree_at g.source v (front ++ parts.1) ≢ NoItem
    = subst (λ p. tree_at g.source v p ≢ NoItem) (parts.2 ∙ sym (append_assoc parts.0 (name ∷ []) parts.1)) (λ none. there (sym (source.held path) ∙ none)) in
    let above : tree_at g.source v front ≢ NoItem = all_above below (format_of g.source.vault) (under g.source.root v) front parts.1 whole in
    let item = mapped_from (λ (x : Planned). x.path) items front ((plan.items.items front).1 (child-not_base parts.0 name, above)) in
    allowed item.0 item.1 parts.0 name item.2
