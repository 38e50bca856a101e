-- A target that the items of the source are copied into, as it is seen between two of them.
use Rattle.std.specs.Prelude.{◌≡◌, ◌≢◌, ◌⊎◌, ◌++◌, ◌∷◌, [], ℕ, List, Contains, Ok, Option}
use Rattle.folder_spec.specs.Event.{Told}
use Rattle.folder_spec.specs.Seen.{IfSeen, IsSeen, under}
use Rattle.folder_spec.specs.View.{View}
use Rattle.plain_tree.specs.Names as plain
use Rattle.plain_tree.specs.declared.name_map.NameMap.{NameMap}
use Rattle.vault_spec.specs.Mapped.{IsPartOfMapped}
use Rattle.vault_read.specs.OwnFolders.{HasOwnFolders}
use Rattle.vault_spec.specs.Opened.{OpenedVault}
use Rattle.vault_spec.specs.Find.{enter}
use Rattle.vault_spec.specs.Format.{Directory}
use Rattle.vault_spec.specs.Opens.{NoItem}
use Rattle.vault_spec.specs.Plan.{Planned}
use Rattle.vault_spec.specs.Staying.{LoadsAlike}
use Rattle.vault_spec.specs.Tidy.{StaysTidy}
use Rattle.vault_spec.specs.Vault.{format_of}
use Rattle.vault_walk.specs.Surveyed.{IsWithin}
use Rattle.migration_spec.specs.Guard.{tree_at}
use Rattle.item_making.specs.Trees.{ShowsVault}

-- no two directories of either vault share a folder
pub record BothHaveOwnFolders (from to : OpenedVault) (v : View) : Type 0 where
  pub source : HasOwnFolders from.vault (under from.root v)
  pub target : HasOwnFolders to.vault (under to.root v)

-- both vaults are in good order, the source passes no limit, and each item of the target is one of the mapped source and isn't broken
pub record IsCopying (rule : NameMap) (from to : OpenedVault) (v : View) : Type 0 where
  pub source : ShowsVault (format_of from.vault) from.root v
  pub within : IsWithin (format_of from.vault) (under from.root v)
  pub target : ShowsVault (format_of to.vault) to.root v
  pub part : IsPartOfMapped rule (tree_at to v) (tree_at from v)

abbrev pub HasItem : OpenedVault → View → Planned → Type 0
HasItem a v item = tree_at a v item.path ≢ NoItem

-- the target has these items already
pub record HasCopied (rule : NameMap) (from to : OpenedVault) (items : List Planned) (v : View) : Type 0 where
  pub copying : IsCopying rule from to v
  pub has : (item : Planned) → Contains items item → HasItem to v item

-- the directory that is to have the item is entered
abbrev pub Enters : OpenedVault → Planned → View → Type 0
Enters to item v = (front : plain.Path) (name : List ℕ) → item.path ≡ front ++ name ∷ [] → (dir : Directory) × (enter (format_of to.vault) (under to.root v) front ≡ Ok dir)

-- from the one view to the other the target gained the item and no other, and lost none; nothing is left over in it; and each passphrase
-- opens it as it did
pub record Copies (rule : NameMap) (from to : OpenedVault) (item : Planned) (v w : View) : Type 0 where
  pub copying : IsCopying rule from to w
  pub has : HasItem to w item
  pub keeps : (path : plain.Path) → tree_at to v path ≢ NoItem → tree_at to w path ≢ NoItem
  pub gains : (path : plain.Path) → tree_at to w path ≢ NoItem → (path ≡ item.path) ⊎ (tree_at to v path ≢ NoItem)
  pub tidy : StaysTidy (format_of to.vault) (under to.root v) (under to.root w)
  pub loads : LoadsAlike (under to.root v) (under to.root w)

-- it does so, where it was being copied into
abbrev pub CopiesOne : NameMap → OpenedVault → OpenedVault → Planned → Option Told → Option Told → Type 0
CopiesOne rule from to item told told' = (v w : View) → IsSeen told v → IsSeen told' w → IsCopying rule from to v → Copies rule from to item v w

-- the same of an item that may be among these, which the target has already
abbrev pub CopiesMissing : NameMap → OpenedVault → OpenedVault → List Planned → Planned → Option Told → Option Told → Type 0
CopiesMissing rule from to there item told told' = (v w : View) → IsSeen told v → IsSeen told' w → HasCopied rule from to there v → Copies rule from to item v w

-- where it had the ones, it has the others then
abbrev pub CopiesAll : NameMap → OpenedVault → OpenedVault → List Planned → List Planned → Option Told → Option Told → Type 0
CopiesAll rule from to there items told told' = (v w : View) → IsSeen told v → IsSeen told' w → HasCopied rule from to there v → HasCopied rule from to items w

-- so it is where no two directories of either vault share a folder
abbrev pub MayBegin : NameMap → OpenedVault → OpenedVault → List Planned → Option Told → Type 0
MayBegin rule from to there told = IfSeen told (λ v. BothHaveOwnFolders from to v → HasCopied rule from to there v)

-- and in good order both are then
abbrev pub StayGood : OpenedVault → OpenedVault → Option Told → Option Told → Type 0
StayGood from to told told' = (v w : View) → IsSeen told v → IsSeen told' w → BothHaveOwnFolders from to v → ShowsVault (format_of from.vault) from.root w × ShowsVault (format_of to.vault) to.root w
