-- The plan of a vault whose names a rule brings to another form on the way.
use Rattle.std.specs.Prelude.{◌≡◌, ◌≢◌, ℕ, ◌<◌, Bool, List, ◌∷◌, ◌++◌, length, take, map, Result, Ok, Err, AllPairs, Contains, IsTrue, IsFalse, slice_index_or}
use Rattle.std.specs.List.{list_all}
use Rattle.std.specs.List.Sorted.{IsPermutation}
use Rattle.plain_tree.specs.Mapped.{mapped_path}
use Rattle.plain_tree.specs.Names as plain
use Rattle.plain_tree.specs.declared.name_map.NameMap.{NameMap}
use Rattle.vault_spec.specs.Plan.{Planned}
use Rattle.vault_walk.specs.Survey.{IsOrdered}
use Rattle.vault_walk.specs.declared.plan.Plan.{Plan}
use Rattle.tree_match.specs.declared.answer.MapFault.{MapFault}
use Rattle.tree_match.specs.declared.answer.MapFault.TheVariants.{NotAName, Meet, NoMemory}

-- an item at its mapped path; its place stays
abbrev pub mapped_item : NameMap → Planned → Planned
mapped_item names item = record { path = mapped_path names item.path; node = item.node; at = item.at }

-- these items so, in order of the new paths, each of these once
pub record IsMappedPlan (names : NameMap) (items mapped : List Planned) : Type 0 where
  pub same : IsPermutation (map (mapped_item names) items) mapped
  pub ordered : IsOrdered mapped

-- each name of the item's path, mapped, is a name
abbrev pub is_named : NameMap → Planned → Bool
is_named names item = list_all plain.is_name (mapped_path names item.path)

abbrev pub AreNamed : NameMap → List Planned → Type 0
AreNamed names items = IsTrue (list_all (is_named names) items)

-- two items have the same mapped path
abbrev pub Meets : NameMap → Planned → Planned → Type 0
Meets names x y = mapped_path names x.path ≡ mapped_path names y.path

-- the first item of which a mapped name is no name is the one at this path
pub record IsFirstUnnamed (names : NameMap) (items : List Planned) (path : plain.Path) : Type 0 where
  pub front : List Planned
  pub item : Planned
  pub behind : List Planned
  pub parts : items ≡ front ++ item ∷ behind
  pub at_path : item.path ≡ path
  pub unnamed : IsFalse (is_named names item)
  pub first : AreNamed names front

-- the item at the second path is the first whose mapped path an earlier item has, and that is the one at the first path
pub record AreFirstToMeet (names : NameMap) (items : List Planned) (one other : plain.Path) : Type 0 where
  pub front : List Planned
  pub later : Planned
  pub behind : List Planned
  pub parts : items ≡ front ++ later ∷ behind
  pub earlier : Planned
  pub among : Contains front earlier
  pub at_one : earlier.path ≡ one
  pub at_other : later.path ≡ other
  pub meet : Meets names earlier later
  pub first : AllPairs (λ (x y : Planned). ¬ Meets names x y) front

-- What mapping a plan answers. The first item with what is no name counts before two that meet.
abbrev pub MapsTo : NameMap → List Planned → Result Plan MapFault → Type 0
MapsTo names items (Ok plan) = AreNamed names items × IsMappedPlan names items plan.items
MapsTo names items (Err (NotAName path)) = IsFirstUnnamed names items path
MapsTo names items (Err (Meet one other)) = AreNamed names items × AreFirstToMeet names items one other
MapsTo names items (Err NoMemory) = Unit {0}

-- such a fault, by those of a command: that memory was refused, and what others are told as
abbrev pub map_as : {G : Type 0} → G → (plain.Path → G) → (plain.Path → plain.Path → G) → MapFault → G
map_as none unnamed meet (NotAName path) = unnamed path
map_as none unnamed meet (Meet one other) = meet one other
map_as none unnamed meet NoMemory = none

-- ---- words of private contracts

-- an item is refused only where a mapped name of it is no name
abbrev pub RefusesItem : NameMap → Planned → MapFault → Type 0
RefusesItem names item (NotAName path) = (path ≡ item.path) × IsFalse (is_named names item)
RefusesItem names item (Meet one other) = ⊥
RefusesItem names item NoMemory = Unit {0}

abbrev pub RefusesFirst : NameMap → List Planned → MapFault → Type 0
RefusesFirst names items (NotAName path) = IsFirstUnnamed names items path
RefusesFirst names items (Meet one other) = ⊥
RefusesFirst names items NoMemory = Unit {0}

-- no two of the items have one path
abbrev pub AreAlone : List Planned → Type 0
AreAlone items = AllPairs (λ (x y : Planned). x.path ≢ y.path) items

-- the item at the later place is the first with the path of an earlier one, which is at the other place
pub record AreFirstAlike (items : List Planned) (early late : ℕ) : Type 0 where
  pub in_order : early < late
  pub within : late < length items
  pub alike : (d : Planned) → (slice_index_or items early d).path ≡ (slice_index_or items late d).path
  pub first : AreAlone (take late items)
