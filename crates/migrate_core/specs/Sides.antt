-- The migration of a call: its vaults as the call opens them, its items at their mapped paths, and its journal.
use Rattle.std.specs.Prelude.{◌≡◌, ◌⊎◌, ◌++◌, ◌∷◌, [], ℕ, List, length, Option, Contains}
use Rattle.folder_spec.specs.Path.{Path}
use Rattle.folder_spec.specs.Event.{Told}
use Rattle.folder_spec.specs.View.{Folder, NoEntry, View}
use Rattle.move_journal.specs.Reading as reading
use Rattle.move_journal.specs.Writing.{IsWorkFolder}
use Rattle.move_journal.specs.declared.journal.Journal.{Journal}
use Rattle.move_journal.specs.declared.journal.Phase.TheVariants.{Building}
use Rattle.plain_tree.specs.Names as plain
use Rattle.plain_tree.specs.declared.name_map.NameMap.{NameMap}
use Rattle.vault_spec.specs.Mapped.{AllowsMapped}
use Rattle.migration_sides.specs.Sides.{IsWalked}
use Rattle.migration_spec.specs.Guard.{Migration}
use Rattle.tree_match.specs.Mapping.{IsMappedPlan}
use Rattle.vault_spec.specs.Opened.{OpenedVault}
use Rattle.vault_spec.specs.Format.{Format}
use Rattle.vault_spec.specs.Making.{Allows}
use Rattle.vault_spec.specs.Plan.{Planned}
use Rattle.vault_walk.specs.Digest.{plan_digest}
use Rattle.work_folder.specs.Entries.{stage_path}

-- the migration that a call is asked for
pub record IsAsked (g : Migration) (rule : NameMap) (from to through : Path) : Type 0 where
  pub source : g.source.root ≡ from
  pub target : g.target.root ≡ to
  pub work : g.work ≡ through
  pub names : g.names ≡ rule

-- its vaults are opened as these, its rule is this, and its work folder is this one
pub record AreSides (g : Migration) (rule : NameMap) (from to : OpenedVault) (through : Path) : Type 0 where
  pub source : from ≡ g.source
  pub target : to ≡ g.target
  pub names : rule ≡ g.names
  pub work : through ≡ g.work

-- a walk of the vault answered items that these are at their mapped paths
pub record IsMappedWalk (rule : NameMap) (told : Option Told) (a : OpenedVault) (items : List Planned) : Type 0 where
  pub own : List Planned
  pub walked : IsWalked told a own
  pub mapped : IsMappedPlan rule own items

-- the items that a walk of the vault answered, and these at their mapped paths
pub record AreItemsToMove (rule : NameMap) (told : Option Told) (a : OpenedVault) (own mapped : List Planned) : Type 0 where
  pub walked : IsWalked told a own
  pub same : IsMappedPlan rule own mapped

-- the work folder of a migration has this journal, and nothing that is in the way of a new one or of a stage
pub record IsInUse (v : View) (work : Path) (journal : Journal) : Type 0 where
  pub folder : IsWorkFolder v work
  pub stands : reading.StandsIn work journal v
  pub stage : (v (stage_path work) ≡ NoEntry) ⊎ (v (stage_path work) ≡ Folder)

-- the journal of a migration of these items by a rule for names, as it begins
abbrev pub new_journal : NameMap → Path → Path → List Planned → Journal
new_journal names from to items = record { phase = Building; names = names; source = from; target = to; items = length items; plan = plan_digest items }

-- the last name of the path is allowed
abbrev pub AllowsLast : Format → plain.Path → Type 0
AllowsLast f path = (front : plain.Path) (name : List ℕ) → path ≡ front ++ name ∷ [] → Allows f name

-- and that of each item's path
abbrev pub AllowsEach : Format → List Planned → Type 0
AllowsEach f items = (item : Planned) → Contains items item → AllowsLast f item.path

-- the last name of a path, mapped, is allowed
abbrev pub AllowsMappedLast : NameMap → Format → plain.Path → Type 0
AllowsMappedLast rule f path = (front : plain.Path) (name : List ℕ) → path ≡ front ++ name ∷ [] → AllowsMapped rule f name

-- and so is that of each item's path
abbrev pub AllowsEachMapped : NameMap → Format → List Planned → Type 0
AllowsEachMapped rule f items = (item : Planned) → Contains items item → AllowsMappedLast rule f item.path

-- the item is one of those that a walk of the vault answered, at its mapped path
pub record IsItemOf (rule : NameMap) (told : Option Told) (a : OpenedVault) (item : Planned) : Type 0 where
  pub items : List Planned
  pub walked : IsMappedWalk rule told a items
  pub among : Contains items item

-- one of these has the item's path
abbrev pub StandsIn : Planned → List Planned → Type 0
StandsIn item there = (other : Planned) × Contains there other × (other.path ≡ item.path)

abbrev pub StandAll : List Planned → List Planned → Type 0
StandAll items there = (item : Planned) → Contains items item → StandsIn item there

-- they have this digest and this number, and no others
abbrev pub AreTold : Journal → List Planned → Type 0
AreTold journal items = (journal.plan ≡ plan_digest items) × (journal.items ≡ length items)
