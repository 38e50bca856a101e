-- When no test of `retire` fails: a guarded migration is done, or its source is retired while the journal stands, and no limit is passed.
use Rattle.std.specs.Prelude.{◌≡◌, ◌≢◌, ◌++◌, IsTrue}
use Rattle.chunk_files.specs.Reading.{Wanting}
use Rattle.folder_spec.specs.Path.{Path}
use Rattle.folder_spec.specs.Seen.{under}
use Rattle.folder_spec.specs.View.{View}
use Rattle.migration_sides.specs.Sides.{IsShallow}
use Rattle.plain_tree.specs.Names as plain
use Rattle.tree_match.specs.Comparing.{content_at}
use Rattle.migration_spec.specs.Guard.{Migration, Case, NotBegun, Building, Done, Retired, IsGuarded, IsSeparate, has_old_by, old_path}
use Rattle.vault_spec.specs.Opened.{OpenedVault}
use Rattle.vault_spec.specs.Standing.{File, standing}
use Rattle.vault_spec.specs.Vault.{format_of}
use Rattle.vault_walk.specs.Surveyed.{IsWithin}
use Rattle.work_folder.specs.Entries.{stage_path}

-- the vault passes no limit: neither in the number and the depth of its items, nor by the content of a file
pub record KeepsLimits (a : OpenedVault) (v : View) : Type 0 where
  pub items : IsWithin (format_of a.vault) (under a.root v)
  pub contents : (path : plain.Path) (at : Path) → standing (format_of a.vault) (under a.root v) path ≡ File at → (content_at (format_of a.vault).content v (a.root ++ at)).ending ≢ Wanting

-- neither vault passes one, nor what is removed beside the source
pub record PassesNoLimit (g : Migration) (v : View) : Type 0 where
  pub source : KeepsLimits g.source v
  pub target : KeepsLimits g.target v
  pub old : IsShallow (old_path g.work) v
  pub stage : IsShallow (stage_path g.work) v

-- it is done, or its source is retired while the journal stands
abbrev pub IsAtEnd : (g : Migration) (v : View) → Case g v → Type 0
IsAtEnd g v (NotBegun is) = ⊥
IsAtEnd g v (Building is) = ⊥
IsAtEnd g v (Done is) = Unit {0}
IsAtEnd g v (Retired is) = IsTrue (has_old_by g v is.journal)

pub record CanRetire (g : Migration) (v : View) : Type 0 where
  pub separate : IsSeparate g
  pub guarded : IsGuarded g v
  pub end : IsAtEnd g v guarded.case
  pub limits : PassesNoLimit g v
