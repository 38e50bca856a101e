-- When no test of `begin` or `resume` fails, and no content stops it: the migration hasn't begun, or goes on, and no limit is passed.
use Rattle.std.specs.Prelude.{◌≡◌, ◌++◌, false}
use Rattle.chunk_files.specs.Reading.{Whole}
use Rattle.item_making.specs.declared.fault.PutFault.TheVariants as put
use Rattle.folder_spec.specs.Path.{Path, parent}
use Rattle.folder_spec.specs.Seen.{under}
use Rattle.folder_spec.specs.View.{Folder, View}
use Rattle.migration_sides.specs.Sides.{IsShallow}
use Rattle.plain_tree.specs.Names as plain
use Rattle.tree_match.specs.Comparing.{content_at}
use Rattle.migration_spec.specs.Guard.{Building, Case, Done, IsGuarded, IsNotBegun, IsSeparate, IsWork, Migration, NotBegun, Retired, kinds_in}
use Rattle.vault_spec.specs.Mapped.{AllowsTree, StaysApart}
use Rattle.tree_match.specs.declared.answer.MatchFault.TheVariants as match
use Rattle.vault_spec.specs.Opened.{OpenedVault}
use Rattle.vault_faults.specs.declared.fault.Limit.TheVariants as limit
use Rattle.vault_spec.specs.Standing.{File, standing}
use Rattle.vault_spec.specs.Vault.{format_of}
use Rattle.vault_walk.specs.Surveyed.{IsWithin}
use Rattle.work_folder.specs.Entries.{stage_path}
use Rattle.migrate_core.specs.declared.fault.MoveFault.{MoveFault}
use Rattle.migrate_core.specs.declared.fault.MoveFault.TheVariants.{Match as Matching, Place, Failed, NoMemory}

-- the vault passes no limit, neither in the number and the depth of its items nor by the content of a file, and no content is damaged
pub record IsIntact (a : OpenedVault) (v : View) : Type 0 where
  pub items : IsWithin (format_of a.vault) (under a.root v)
  pub contents : (path : plain.Path) (at : Path) → standing (format_of a.vault) (under a.root v) path ≡ File at → (content_at (format_of a.vault).content v (a.root ++ at)).ending ≡ Whole

pub record CanBegin (g : Migration) (v : View) : Type 0 where
  pub separate : IsSeparate g
  pub begun : IsNotBegun g v
  pub above : v (parent g.work) ≡ Folder
  pub work : IsWork false (kinds_in v) g.work
  pub stage : IsShallow (stage_path g.work) v
  pub allowed : AllowsTree g.names (format_of g.target.vault) g.held
  pub apart : StaysApart g.names g.held
  pub source : IsIntact g.source v
  pub target : IsWithin (format_of g.target.vault) (under g.target.root v)

-- it goes on, or all is done and the source is there
abbrev pub IsToResume : (g : Migration) (v : View) → Case g v → Type 0
IsToResume g v (NotBegun is) = ⊥
IsToResume g v (Building is) = Unit {0}
IsToResume g v (Done is) = Unit {0}
IsToResume g v (Retired is) = ⊥

pub record CanResume (g : Migration) (v : View) : Type 0 where
  pub separate : IsSeparate g
  pub guarded : IsGuarded g v
  pub going : IsToResume g v guarded.case
  pub stage : IsShallow (stage_path g.work) v
  pub source : IsIntact g.source v
  pub target : IsWithin (format_of g.target.vault) (under g.target.root v)

-- The folder or the random source failed, or memory ran out; zeros were drawn, or the place of a new item was taken; or a content
-- passes the limit where it is compared.
abbrev pub IsOfChance : MoveFault → Type 0
IsOfChance Failed = Unit {0}
IsOfChance NoMemory = Unit {0}
IsOfChance (Place put.Random) = Unit {0}
IsOfChance (Place put.ZeroRandom) = Unit {0}
IsOfChance (Place (put.Taken at)) = Unit {0}
IsOfChance (Matching (match.Limit (limit.Length at))) = Unit {0}
IsOfChance fault = ⊥
