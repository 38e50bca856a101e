-- A migration of one vault into another: the four cases of what a folder shows of it, the states in which it is guarded, and the
-- views in which it is safe.
use Rattle.std.specs.Prelude.{◌≡◌, ◌≢◌, ◌⊎◌, ℕ, Bool, true, false, ◌||◌, List, [], length, codes, IsTrue}
use Rattle.folder_spec.specs.Path.{Part, Path, path_eq, below, child}
use Rattle.folder_spec.specs.declared.Spot.TheVariants.{FileNode}
use Rattle.folder_spec.specs.State.{Table, State, IsTableOf}
use Rattle.folder_spec.specs.State as state
use Rattle.folder_spec.specs.Image.{Image, IsImage}
use Rattle.folder_spec.specs.Region.{at_or_below}
use Rattle.folder_spec.specs.Seen.{under}
use Rattle.folder_spec.specs.View.{View, NoEntry, kind_found, view_of}
use Rattle.folder_spec.specs.declared.Kind.{Kind}
use Rattle.folder_spec.specs.declared.Kind.TheVariants as kind
use Rattle.vault_spec.specs.PlanOf.{IsPlanOf}
use Rattle.vault_spec.specs.Mapped.{AllowsTree, HasNoBroken, IsMapped, IsPartOfMapped, StaysApart}
use Rattle.move_journal.specs.Journal.{IsJournal}
use Rattle.move_journal.specs.Reading.{StandsIn}
use Rattle.move_journal.specs.declared.journal.Journal.{Journal}
use Rattle.move_journal.specs.declared.journal.Phase.{Phase}
use Rattle.move_journal.specs.declared.journal.Phase.TheVariants as phase
use Rattle.plain_tree.specs.Names as plain
use Rattle.plain_tree.specs.Mapped.{mapped_path}
use Rattle.plain_tree.specs.declared.name_map.NameMap.{NameMap}
use Rattle.vault_spec.specs.Opens.{NoItem, Content, Tree, tree}
use Rattle.vault_spec.specs.Plan.{Planned}
use Rattle.vault_spec.specs.Opened.{OpenedVault}
use Rattle.vault_spec.specs.Vault.{format_of, IsVault}
use Rattle.vault_walk.specs.Digest.{plan_digest}
use Rattle.item_making.specs.Making.{is_inside}
use Rattle.item_making.specs.Trees.{ShowsVault}
use Rattle.folder_spec.specs.Apart.{AreSeparate}
use Rattle.work_folder.specs.Entries.{journal_path, stage_path, is_foreign}

-- from one vault into another, through a work folder and by a rule for names; and the tree that the source held when it began
pub record Migration : Type 0 where
  pub source : OpenedVault
  pub target : OpenedVault
  pub work : Path
  pub names : NameMap
  pub held : Tree

-- the three folders don't overlap
abbrev pub IsSeparate : Migration → Type 0
IsSeparate g = AreSeparate g.source.root g.target.root g.work

-- what opens in the vault
abbrev pub tree_at : OpenedVault → View → Tree
tree_at a v = tree (format_of a.vault) (under a.root v)

-- the vault is there, with these keys: a passphrase opens it so, and it is in good order
pub record IsThere (a : OpenedVault) (v : View) : Type 0 where
  pub pass : List ℕ
  pub loads : IsVault (under a.root v) pass a.vault
  pub good : ShowsVault (format_of a.vault) a.root v

-- where the vault is there, this passphrase opens it so
abbrev pub IsOpenedBy : OpenedVault → List ℕ → View → Type 0
IsOpenedBy a pass v = IsThere a v → IsVault (under a.root v) pass a.vault

-- both vaults of the migration by these
pub record AreOpenedBy (g : Migration) (from_pass to_pass : List ℕ) (v : View) : Type 0 where
  pub source : IsOpenedBy g.source from_pass v
  pub target : IsOpenedBy g.target to_pass v

-- a tree of the root alone
abbrev pub IsEmpty : Tree → Type 0
IsEmpty t = (path : plain.Path) → path ≢ [] → t path ≡ NoItem

-- ---- the journal

-- a journal names both roots, the rule, the number of items of the source, and the digest of their plan
pub record Tells (g : Migration) (j : Journal) : Type 0 where
  pub source : j.source ≡ g.source.root
  pub target : j.target ≡ g.target.root
  pub names : j.names ≡ g.names
  pub plan : List Planned
  pub is_plan : IsPlanOf g.held plan
  pub items : j.items ≡ length plan
  pub digest : j.plan ≡ plan_digest plan

-- the journal of the migration stands in the work folder, in this phase
pub record HasJournal (g : Migration) (phase : Phase) (v : View) : Type 0 where
  pub journal : Journal
  pub is : IsJournal journal
  pub in_phase : journal.phase ≡ phase
  pub tells : Tells g journal
  pub stands : StandsIn g.work journal v

-- ---- the four cases

-- the source is there, with the tree that it held
pub record HoldsSource (g : Migration) (v : View) : Type 0 where
  pub there : IsThere g.source v
  pub held : (path : plain.Path) → tree_at g.source v path ≡ g.held path

-- what the target shows is the mapped tree of what the source held, which has each path once, and no file of it is broken
pub record HoldsAll (g : Migration) (v : View) : Type 0 where
  pub held : IsMapped g.names g.held (tree_at g.target v)
  pub apart : StaysApart g.names g.held
  pub whole : HasNoBroken g.held

-- the target is there, and shows that
pub record HoldsTarget (g : Migration) (v : View) : Type 0 where
  pub there : IsThere g.target v
  pub all : HoldsAll g v

pub record IsNotBegun (g : Migration) (v : View) : Type 0 where
  pub source : HoldsSource g v
  pub journal : v (journal_path g.work) ≡ NoEntry
  pub target : IsThere g.target v
  pub empty : IsEmpty (tree_at g.target v)

pub record IsBuilding (g : Migration) (v : View) : Type 0 where
  pub source : HoldsSource g v
  pub journal : HasJournal g phase.Building v
  pub target : IsThere g.target v
  pub apart : StaysApart g.names g.held
  pub part : IsPartOfMapped g.names (tree_at g.target v) g.held
  pub allowed : AllowsTree g.names (format_of g.target.vault) g.held

pub record IsDone (g : Migration) (v : View) : Type 0 where
  pub source : HoldsSource g v
  pub journal : HasJournal g phase.Done v
  pub target : HoldsTarget g v
  pub allowed : AllowsTree g.names (format_of g.target.vault) g.held

-- the journal of a migration whose source is retired: it stands, or is gone
pub data LastJournal (g : Migration) (v : View) : Type 0 where
  Stands : HasJournal g phase.Done v → LastJournal g v
  Gone : v (journal_path g.work) ≡ NoEntry → LastJournal g v

pub record IsRetired (g : Migration) (v : View) : Type 0 where
  pub gone : v g.source.root ≡ NoEntry
  pub journal : LastJournal g v
  pub target : HoldsTarget g v

pub data Case (g : Migration) (v : View) : Type 0 where
  NotBegun : IsNotBegun g v → Case g v
  Building : IsBuilding g v → Case g v
  Done : IsDone g v → Case g v
  Retired : IsRetired g v → Case g v

-- ---- the work folder

-- where the source is moved to when it is retired
abbrev pub old_path : Path → Path
old_path work = child work (codes "old")

-- `old` may stand in the work folder only once the source is retired, while the journal stands
abbrev pub has_old_by : (g : Migration) (v : View) → LastJournal g v → Bool
has_old_by g v (Stands journal) = true
has_old_by g v (Gone none) = false

abbrev pub has_old : (g : Migration) (v : View) → Case g v → Bool
has_old g v (NotBegun is) = false
has_old g v (Building is) = false
has_old g v (Done is) = false
has_old g v (Retired is) = has_old_by g v is.journal

-- The work folder is Missing, or a directory without foreign entries. Below its `stage` and its `old` stand only files and
-- directories.
pub record IsWork (old : Bool) (kinds : Path → Kind) (work : Path) : Type 0 where
  pub folder : (kinds work ≡ kind.Missing) ⊎ ((kinds work ≡ kind.Dir) × ((name : Part) → ¬ IsTrue (is_foreign old name (kinds (child work name)))))
  pub staged : (q : Path) → IsTrue (is_inside (below (stage_path work) q)) → kinds q ≢ kind.Other
  pub moved : (q : Path) → IsTrue (is_inside (below (old_path work) q)) → kinds q ≢ kind.Other

abbrev pub kinds_in : View → Path → Kind
kinds_in v q = kind_found (v q)

-- ---- guarded and safe

-- a view of a guarded migration
pub record IsGuarded (g : Migration) (v : View) : Type 0 where
  pub case : Case g v
  pub work : IsWork (has_old g v case) (kinds_in v) g.work

-- what stands in either vault, and the journal
abbrev pub is_kept : Migration → Path → Bool
is_kept g q = at_or_below g.source.root q || (at_or_below g.target.root q || path_eq (journal_path g.work) q)

-- The files of both vaults and of the journal are clean in every table, and each image is of a guarded migration.
pub record Guarded (g : Migration) (s : State) : Type 0 where
  pub separate : IsSeparate g
  pub clean : (t : Table) (q : Path) (n : ℕ) → IsTableOf s t → IsTrue (is_kept g q) → t q ≡ FileNode n → state.IsClean (s.nodes n)
  pub images : (image : Image) → IsImage s image → IsGuarded g (view_of image)

-- each file that the source held when the migration began opens with its content in the source or at its mapped path in the target
abbrev pub IsSafe : Migration → View → Type 0
IsSafe g v = (path : plain.Path) (content : List ℕ) → g.held path ≡ Content content
    → (tree_at g.source v path ≡ Content content) ⊎ (tree_at g.target v (mapped_path g.names path) ≡ Content content)

-- it is guarded at a moment, and safe in whatever a crash there leaves
pub record LosesNothing (g : Migration) (s : State) : Type 0 where
  pub guarded : Guarded g s
  pub safe : (image : Image) → IsImage s image → IsSafe g (view_of image)
