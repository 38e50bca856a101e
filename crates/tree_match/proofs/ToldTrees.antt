-- Items that tell a tree, as those of a walk tell the vault's.
use Rattle.std.proofs.Common.{◌≡◌, ◌≢◌, ℕ, List, [], ◌++◌, Option, Some, None, refl, sym, ap, subst, ◌∙◌, Contains}
use Rattle.std.proofs.lemmas.Simd.{map-map}
use Rattle.std.specs.List.{concat}
use Rattle.chunk_files.specs.Contents.{readable}
use Rattle.chunk_files.specs.FileOf.{WholeFilesEnd}
use Rattle.chunk_files.specs.Keys.{Keys}
use Rattle.chunk_files.specs.Reading.{Ending, Reading, Whole, Wanting, Faulty}
use Rattle.folder_spec.specs.Path as folder
use Rattle.folder_spec.specs.Seen.{ShowsFile, under}
use Rattle.folder_spec.specs.View.{View}
use Rattle.vault_spec.specs.PlanOf as plans
use Rattle.plain_tree.specs.Names as plain
use Rattle.plain_tree.specs.declared.NodeKind.{NodeKind}
use Rattle.plain_tree.specs.declared.NodeKind.TheVariants as node
use Rattle.vault_read.specs.Contents.{limited_reading}
use Rattle.vault_faults.specs.Limits.{content_limit}
use Rattle.vault_spec.proofs.Mapped.{contains_mapped}
use Rattle.vault_spec.specs.Alike.{place_of}
use Rattle.vault_spec.specs.Format.{Format, file_bytes}
use Rattle.vault_spec.specs.Listing.{node_of}
use Rattle.vault_spec.specs.Opens.{Opened, NoItem, Directory, Content, Broken, Tree, AreItems, opened, opened_at, opened_by, opened_file}
use Rattle.vault_spec.specs.Plan.{Planned, IsPlanned, paths_of}
use Rattle.vault_spec.specs.Standing.{Standing, Absent, Strange, File, Dir, standing}
use Rattle.vault_spec.specs.Vault.{format_of}
use Rattle.vault_walk.specs.Surveyed.{placed}
use Rattle.tree_match.proofs.HeldTrees.{FilesAreThere, PlansAreTheTree, file_there, in_plan, planned}
use Rattle.tree_match.proofs.WholeContents.{read_whole}
use Rattle.tree_match.specs.Comparing.{bytes_found, content_at}
use Rattle.tree_match.specs.Trees.{PlannedVault, IsWalkOf, tree_of}

-- what an item opens as, by its kind and its place
abbrev pub opened_node : Keys → View → NodeKind → folder.Path → Opened
opened_node keys v node.Dir at = Directory
opened_node keys v node.File at = opened_file keys (file_bytes (v at))

abbrev pub opens_as : View → PlannedVault → Planned → Opened
opens_as v a x = opened_node (format_of a.vault).content v x.node x.at

-- The items tell a tree: they are its items but for the root, and each opens in it. A file stands where one is a file.
pub record TellsTree (v : View) (a : PlannedVault) (t : Tree) : Type 0 where
  pub each : (path : plain.Path) → path ≢ [] → t path ≢ NoItem → (x : Planned) × Contains a.items x × (x.path ≡ path)
  pub items : (x : Planned) → Contains a.items x → (x.path ≢ []) × (t x.path ≢ NoItem)
  pub opens : (x : Planned) → Contains a.items x → t x.path ≡ opens_as v a x
  pub files : (x : Planned) → Contains a.items x → x.node ≡ node.File → ShowsFile v x.at

-- ---- what they tell

whole_opens : WholeFilesEnd → (keys : Keys) (bytes : List ℕ) → (limited_reading keys bytes).ending ≡ Whole → opened_file keys (Some bytes) ≡ Content (concat (limited_reading keys bytes).chunks)
whole_opens ends keys bytes whole =
    ap (λ (r : Reading). opened_by r.chunks r.ending) (sym (read_whole ends content_limit keys bytes whole)) ∙ ap (opened_by (limited_reading keys bytes).chunks) whole

no_directory : (chunks : List (List ℕ)) (ending : Ending) → opened_by chunks ending ≢ Directory
no_directory chunks Whole = λ e. cc e
no_directory chunks (Faulty fault) = λ e. cc e
no_directory chunks Wanting = λ e. cc e

no_file_directory : (keys : Keys) (bytes : Option (List ℕ)) → opened_file keys bytes ≢ Directory
no_file_directory keys None = λ e. cc e
no_file_directory keys (Some bytes) = no_directory (readable keys bytes).chunks (readable keys bytes).ending

file_node : (o : Opened) → o ≢ NoItem → o ≢ Directory → plans.node_of o ≡ Some node.File
file_node NoItem some other = absurd (some refl)
file_node Directory some other = absurd (other refl)
file_node (Content bytes) some other = refl
file_node (Broken chunks fault) some other = refl

node_is : (keys : Keys) (v : View) (n : NodeKind) (at : folder.Path) → opened_node keys v n at ≢ NoItem → plans.node_of (opened_node keys v n at) ≡ Some n
node_is keys v node.Dir at some = refl
node_is keys v node.File at some = file_node (opened_file keys (file_bytes (v at))) some (no_file_directory keys (file_bytes (v at)))

module _ (v : View) (a : PlannedVault) (t : Tree) (tells : TellsTree v a t) where
  pub opens_directory : (x : Planned) → Contains a.items x → x.node ≡ node.Dir → t x.path ≡ Directory
  opens_directory x among is_dir = tells.opens x among ∙ ap (λ (n : NodeKind). opened_node (format_of a.vault).content v n x.at) is_dir

  pub opens_file : (x : Planned) → Contains a.items x → x.node ≡ node.File → t x.path ≡ opened_file (format_of a.vault).content (file_bytes (v x.at))
  opens_file x among is_file = tells.opens x among ∙ ap (λ (n : NodeKind). opened_node (format_of a.vault).content v n x.at) is_file

  pub opens_content : WholeFilesEnd → (x : Planned) → Contains a.items x → x.node ≡ node.File → (content_at (format_of a.vault).content v x.at).ending ≡ Whole
      → t x.path ≡ Content (content_at (format_of a.vault).content v x.at).bytes
  opens_content ends x among is_file whole =
      let there : ShowsFile v x.at = tells.files x among is_file in
      opens_file x among is_file
      ∙ subst (λ found. (limited_reading (format_of a.vault).content (bytes_found found)).ending ≡ Whole
      → opened_file (format_of a.vault).content (file_bytes found) ≡ Content (concat (limited_reading (format_of a.vault).content (bytes_found found)).chunks)) (sym there.1)
      (whole_opens ends (format_of a.vault).content there.0) whole

  pub opens_node : (x : Planned) → Contains a.items x → plans.node_of (t x.path) ≡ Some x.node
  opens_node x among =
      let is : t x.path ≡ opens_as v a x = tells.opens x among in
      ap plans.node_of is ∙ node_is (format_of a.vault).content v x.node x.at (subst (λ o. o ≢ NoItem) is (tells.items x among).1)

-- ---- a walk

stands_as : (f : Format) (u : View) (s : Standing) (n : NodeKind) (at : folder.Path) → node_of s ≡ Some n → place_of s ≡ Some at → opened_at f u s ≡ opened_node f.content u n at
stands_as f u Absent n at is place = cc is
stands_as f u (Strange other) n at is place = cc is
stands_as f u (File other) node.File at is place = let same : other ≡ at = cc place in ap (λ p. opened_file f.content (file_bytes (u p))) same
stands_as f u (File other) node.Dir at is place = cc is
stands_as f u (Dir other directory) node.Dir at is place = refl
stands_as f u (Dir other directory) node.File at is place = cc is

planned_opens : (f : Format) (u : View) (y : Planned) → IsPlanned f u y → opened f u y.path ≡ opened_node f.content u y.node y.at
unfolding opened
planned_opens f u y is = stands_as f u (standing f u y.path) y.node y.at is.node is.place

-- what is seen below a root
seen_below : (keys : Keys) (root : folder.Path) (v : View) (n : NodeKind) (at : folder.Path) → opened_node keys (under root v) n at ≡ opened_node keys v n (root ++ at)
seen_below keys root v node.Dir at = refl
seen_below keys root v node.File at = refl

-- its paths are those of the tree
pub are_items : PlansAreTheTree → (v : View) (a : PlannedVault) → IsWalkOf v a → AreItems (tree_of v a) (paths_of a.items)
are_items are v a walk =
    subst (AreItems (tree_of v a)) (sym (ap paths_of walk.items_are ∙ map-map (λ (item : Planned). item.path) (placed a.root) walk.plan)) (are a.vault (under a.root v) walk.plan walk.is)

-- a walk's items tell the tree
pub walk_tells : FilesAreThere → PlansAreTheTree → (v : View) (a : PlannedVault) → IsWalkOf v a → TellsTree v a (tree_of v a)
walk_tells files are v a walk = record {
  each = in_plan are v a walk;
  items = λ x among. ((are_items are v a walk).items x.path).0 (contains_mapped (λ (item : Planned). item.path) a.items x among);
  opens = opens;
  files = file_there files v a walk;
}
  where
    opens : (x : Planned) → Contains a.items x → tree_of v a x.path ≡ opens_as v a x
    opens x among =
        let p : (y : Planned) × (placed a.root y ≡ x) × IsPlanned (format_of a.vault) (under a.root v) y = planned v a walk x among in
        subst (λ (z : Planned). tree_of v a z.path ≡ opens_as v a z) p.1
        (planned_opens (format_of a.vault) (under a.root v) p.0 p.2 ∙ seen_below (format_of a.vault).content a.root v p.0.node p.0.at)

pub walk_is_plan : FilesAreThere → PlansAreTheTree → (v : View) (a : PlannedVault) → IsWalkOf v a → plans.IsPlanOf (tree_of v a) a.items
walk_is_plan files are v a walk = record { items = are_items are v a walk; nodes = opens_node v a (tree_of v a) (walk_tells files are v a walk) }
