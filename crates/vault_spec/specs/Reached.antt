-- The directories that are reached from the root, by the least number of steps.
use Rattle.std.specs.Prelude.{◌≡◌, ◌<◌, ℕ, length, Ok}
use Rattle.folder_spec.specs.Path.{Path}
use Rattle.folder_spec.specs.View.{View}
use Rattle.plain_tree.specs.Names as plain
use Rattle.vault_spec.specs.Format.{Format, Directory}
use Rattle.vault_spec.specs.Standing.{Dir, standing}

-- a plain path leads to a directory that can be entered
pub record Leads (f : Format) (v : View) (path : plain.Path) (dir : Directory) : Type 0 where
  pub at : Path
  pub stands : standing f v path ≡ Dir at (Ok dir)

-- some path leads to it
abbrev pub IsReached : Format → View → Directory → Type 0
IsReached f v dir = (path : plain.Path) × Leads f v path dir

-- a path of so many names leads to it, and no shorter one
pub record IsReachedIn (f : Format) (v : View) (steps : ℕ) (dir : Directory) : Type 0 where
  pub path : plain.Path
  pub leads : Leads f v path dir
  pub size : length path ≡ steps
  pub least : (other : plain.Path) → Leads f v other dir → ¬ (length other < steps)

-- No two reached directories have one folder. Ids of Cryptomator with one content folder would, and none such are known.
abbrev pub HaveOwnFolders : Format → View → Type 0
HaveOwnFolders f v = (dir other : Directory) → IsReached f v dir → IsReached f v other → dir.folder ≡ other.folder → dir ≡ other
