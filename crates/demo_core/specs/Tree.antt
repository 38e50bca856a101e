-- The tree of the demonstration, as a vault may have it.
use Rattle.std.specs.Prelude.{◌≡◌, ◌≢◌, ℕ, ◌<◌, [], if◌then◌else◌}
use Rattle.plain_tree.specs.Names.{Path}
use Rattle.vault_spec.specs.Opens.{Opened, Directory, Content, NoItem, Tree}
use Rattle.demo_core.specs.Demonstration.{content_of, is_directory, path_of}

-- what an item opens as
abbrev pub opens_as : ℕ → ℕ → Opened
opens_as seed number = if is_directory number then Directory else Content (content_of seed number)

-- A tree has the first items, and below its root nothing else.
pub record HasItems (seed count : ℕ) (t : Tree) : Type 0 where
  pub each : (number : ℕ) → number < count → t (path_of number) ≡ opens_as seed number
  pub others : (path : Path) → path ≢ [] → ((number : ℕ) → number < count → path ≢ path_of number) → t path ≡ NoItem
