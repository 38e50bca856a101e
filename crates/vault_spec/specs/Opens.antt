-- What opens at a plain path, and the tree of a vault.
use Rattle.std.specs.Prelude.{◌≡◌, ◌≢◌, ◌↔◌, ℕ, List, [], Option, Some, None, AllPairs, Contains}
use Rattle.std.specs.List.{concat}
use Rattle.std.specs.declared.cmp.Ordering.TheVariants.{Less}
use Rattle.chunk_files.specs.declared.fault.ChunkFault.{ChunkFault}
use Rattle.chunk_files.specs.Contents.{readable}
use Rattle.chunk_files.specs.Keys.{Keys}
use Rattle.chunk_files.specs.Reading.{Ending, Whole, Wanting, Faulty}
use Rattle.folder_spec.specs.View.{View}
use Rattle.plain_tree.specs.Names as plain
use Rattle.plain_tree.specs.Order.{path_cmp}
use Rattle.vault_spec.specs.Format.{Format, file_bytes}
use Rattle.vault_spec.specs.Standing.{Standing, Absent, Strange, File, Dir, standing}

-- nothing; a directory; a file with its content; or a file of which these chunks are read before this fault
pub data Opened : Type 0 where
  NoItem : Opened
  Directory : Opened
  Content : List ℕ → Opened
  Broken : List (List ℕ) → ChunkFault → Opened

abbrev pub opened_by : List (List ℕ) → Ending → Opened
opened_by chunks Whole = Content (concat chunks)
opened_by chunks (Faulty fault) = Broken chunks fault
opened_by chunks Wanting = NoItem

-- what the bytes of a content file open as
abbrev pub opened_file : Keys → Option (List ℕ) → Opened
opened_file keys None = NoItem
opened_file keys (Some bytes) = opened_by (readable keys bytes).chunks (readable keys bytes).ending

abbrev pub opened_at : Format → View → Standing → Opened
opened_at f v Absent = NoItem
opened_at f v (Strange at) = NoItem
opened_at f v (File at) = opened_file f.content (file_bytes (v at))
opened_at f v (Dir at directory) = Directory

-- what opens at a plain path
unfoldable pub opened : Format → View → plain.Path → Opened
opened f v path = opened_at f v (standing f v path)

-- a tree says of each plain path what opens there
abbrev pub Tree : Type 0
Tree = plain.Path → Opened

abbrev pub tree : Format → View → Tree
tree f v = opened f v

-- These are the items of a tree other than its root, in order of their paths.
pub record AreItems (t : Tree) (paths : List plain.Path) : Type 0 where
  pub ordered : AllPairs (λ (x y : plain.Path). path_cmp x y ≡ Less) paths
  pub items : (path : plain.Path) → Contains paths path ↔ ((path ≢ []) × (t path ≢ NoItem))
