-- Trees whose names a rule brings to another form on the way from one vault into another: what stands at a path of the one stands in the
-- other at the mapped path.
use Rattle.std.specs.Prelude.{◌≡◌, ◌≢◌, ℕ, List, [], Contains, IsTrue}
use Rattle.plain_tree.specs.Mapped.{mapped_name, mapped_path}
use Rattle.plain_tree.specs.Names.{Path, is_name}
use Rattle.plain_tree.specs.declared.name_map.NameMap.{NameMap}
use Rattle.vault_spec.specs.Format.{Format}
use Rattle.vault_spec.specs.Making.{Allows}
use Rattle.vault_spec.specs.Opens.{Opened, NoItem, Directory, Content, Broken, Tree}

abbrev pub IsWhole : Opened → Type 0
IsWhole NoItem = Unit {0}
IsWhole Directory = Unit {0}
IsWhole (Content bytes) = Unit {0}
IsWhole (Broken chunks fault) = ⊥

-- no file of the tree is broken
abbrev pub HasNoBroken : Tree → Type 0
HasNoBroken m = (path : Path) → IsWhole (m path)

-- the mapped tree has each path once: no two items of the tree come to one
abbrev pub StaysApart : NameMap → Tree → Type 0
StaysApart names m = (p q : Path) → m p ≢ NoItem → m q ≢ NoItem → mapped_path names p ≡ mapped_path names q → p ≡ q

-- it is so in the mapped tree: an item of the tree comes to this path, and opens so
pub record IsMappedItem (names : NameMap) (m : Tree) (path : Path) (opened : Opened) : Type 0 where
  pub from : Path
  pub comes : mapped_path names from ≡ path
  pub is : m from ≡ opened

-- the second tree is the mapped first one: it has each item of that at its mapped path, and no other items
pub record IsMapped (names : NameMap) (m t : Tree) : Type 0 where
  pub each : (path : Path) → m path ≢ NoItem → t (mapped_path names path) ≡ m path
  pub only : (path : Path) → t path ≢ NoItem → IsMappedItem names m path (t path)

-- each item of the first tree is one of the mapped second, and isn't broken
abbrev pub IsPartOfMapped : NameMap → Tree → Tree → Type 0
IsPartOfMapped names t m = (path : Path) → path ≢ [] → t path ≢ NoItem → IsMappedItem names m path (t path) × IsWhole (t path)

-- each item of the first tree opens in the second at its mapped path, and isn't broken
abbrev pub IsHeldIn : NameMap → Tree → Tree → Type 0
IsHeldIn names m t = (path : Path) → path ≢ [] → m path ≢ NoItem → (t (mapped_path names path) ≡ m path) × IsWhole (m path)

-- the mapped name is a name, and allowed in the vault
pub record AllowsMapped (names : NameMap) (f : Format) (name : List ℕ) : Type 0 where
  pub named : IsTrue (is_name (mapped_name names name))
  pub allowed : Allows f (mapped_name names name)

-- and so is each mapped name of the tree
abbrev pub AllowsTree : NameMap → Format → Tree → Type 0
AllowsTree names f m = (path : Path) (name : List ℕ) → m path ≢ NoItem → Contains path name → AllowsMapped names f name
