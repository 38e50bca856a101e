-- Which item shares its place, where a migration stops at a place that is taken: with another item, or with what was left over there.
use Rattle.std.specs.Prelude.{◌≡◌, ◌≢◌, ◌++◌, ◌∷◌, [], ℕ, false, List, Contains, Ok, Option, Some}
use Rattle.folder_spec.specs.Event.{Told}
use Rattle.folder_spec.specs.Path.{Path}
use Rattle.folder_spec.specs.Seen.{IfSeen, IsSeen, under}
use Rattle.folder_spec.specs.View.{View}
use Rattle.plain_tree.specs.Names as plain
use Rattle.plain_tree.specs.declared.NodeKind.{NodeKind}
use Rattle.plain_tree.specs.declared.name_map.NameMap.{NameMap}
use Rattle.plain_tree.specs.declared.NodeKind.TheVariants.{Dir, File}
use Rattle.port_model.specs.Draws.{ByteStream, Draws}
use Rattle.item_making.specs.declared.fault.PutFault.TheVariants as put
use Rattle.vault_spec.specs.Opened.{OpenedVault}
use Rattle.vault_spec.specs.Alike.{HasNoItem}
use Rattle.vault_spec.specs.Find.{enter}
use Rattle.vault_spec.specs.Format.{Directory}
use Rattle.vault_spec.specs.Making.{NewItem, NewDirectory, NewFile, taken}
use Rattle.vault_spec.specs.Opens.{NoItem}
use Rattle.vault_spec.specs.Plan.{Planned}
use Rattle.vault_spec.specs.Standing.{standing_in}
use Rattle.vault_spec.specs.Staying.{LoadsAlike}
use Rattle.vault_spec.specs.Tidy.{HasOwnPlace, IsTidyAt, StaysTidy}
use Rattle.vault_spec.specs.Vault.{Vault, IsVault, format_of}
use Rattle.item_making.specs.Trees.{ShowsVault}
use Rattle.move_journal.specs.Journal.{IsJournal}
use Rattle.move_journal.specs.Reading.{StandsIn}
use Rattle.move_journal.specs.declared.journal.Journal.{Journal}
use Rattle.work_folder.specs.Entering.{IsReady}
use Rattle.migrate_core.specs.Copying.{HasCopied, BothHaveOwnFolders, IsCopying}
use Rattle.migration_spec.specs.Guard.{tree_at}
use Rattle.migration_sides.specs.Sides.{opened_in}
use Rattle.migrate_core.specs.Moved.{AreMappedItems, is_there}
use Rattle.migrate_core.specs.declared.fault.MoveFault.{MoveFault}
use Rattle.migrate_core.specs.declared.fault.MoveFault.TheVariants.{Place}

-- a new directory for a directory, and a file of some content for a file
abbrev pub IsMadeFor : NodeKind → NewItem → Type 0
IsMadeFor Dir item = item ≡ NewDirectory
IsMadeFor File item = (content : List ℕ) × (item ≡ NewFile content)

-- The target is in good order, and has the directory that is to have the item, but not the item. A place that the item gets by these
-- bytes is taken: another item is stored under its stored name, or a directory has the folder that it gets, unless something was left over
-- at that place in the first view. Nothing has been left over since then.
pub record SharesPlace (to : OpenedVault) (planned : Planned) (drawn : List ℕ) (first v : View) : Type 0 where
  pub good : ShowsVault (format_of to.vault) to.root v
  pub tidy : StaysTidy (format_of to.vault) (under to.root first) (under to.root v)
  pub front : plain.Path
  pub name : List ℕ
  pub is : planned.path ≡ front ++ name ∷ []
  pub dir : Directory
  pub entered : enter (format_of to.vault) (under to.root v) front ≡ Ok dir
  pub missing : HasNoItem (standing_in (format_of to.vault) (under to.root v) dir name)
  pub item : NewItem
  pub kind : IsMadeFor planned.node item
  pub place : Path
  pub taken : taken (format_of to.vault) (under to.root v) dir name item drawn ≡ Some place
  pub shares : IsTidyAt (format_of to.vault) (under to.root first) place → ¬ HasOwnPlace (format_of to.vault) (under to.root v) dir name item drawn

-- One of these items does, by the bytes that were drawn last, as is seen when the call ends; and its stage is bare then. Each passphrase
-- opens the target then as it did at first.
pub record OneShares (to : OpenedVault) (work : Path) (items : List Planned) (first : View) (stream stream' : Option ByteStream) (told' : Option Told) : Type 0 where
  pub item : Planned
  pub among : Contains items item
  pub earlier : List ℕ
  pub drawn : List ℕ
  pub were_drawn : Draws stream stream' (earlier ++ drawn)
  pub moment : View
  pub seen : IsSeen told' moment
  pub stage : IsReady moment work
  pub loads : LoadsAlike (under to.root first) (under to.root moment)
  pub shares : SharesPlace to item drawn first moment

-- an item of the source does, at its mapped path
pub record OneOfSourceShares (rule : NameMap) (from to : OpenedVault) (work : Path) (stream stream' : Option ByteStream) (told' : Option Told) (v : View) : Type 0 where
  pub items : List Planned
  pub items_are : AreMappedItems rule from v items
  pub shares : OneShares to work items v stream stream' told'

-- where at first no two directories of either vault share a folder
abbrev pub SharesSeen : NameMap → OpenedVault → OpenedVault → Path → Option ByteStream → Option ByteStream → Option Told → Option Told → Type 0
SharesSeen rule from to work stream stream' told told' = (v : View) → IsSeen told v → BothHaveOwnFolders from to v → OneOfSourceShares rule from to work stream stream' told' v

-- of the vaults that two roots and their passphrases are
pub record SharesInTree (rule : NameMap) (from to work : Path) (from_pass to_pass : List ℕ) (stream stream' : Option ByteStream) (told told' : Option Told) : Type 0 where
  pub source : Vault
  pub target : Vault
  pub opens_source : IfSeen told (λ v. IsVault (under from v) from_pass source)
  pub opens_target : IfSeen told (λ v. IsVault (under to v) to_pass target)
  pub shares : SharesSeen rule (opened_in from source) (opened_in to target) work stream stream' told told'

-- of those that the journal tells which stands in the work folder
pub record SharesAsTold (work : Path) (from_pass to_pass : List ℕ) (stream stream' : Option ByteStream) (told told' : Option Told) (v : View) : Type 0 where
  pub journal : Journal
  pub is : IsJournal journal
  pub stands : StandsIn work journal v
  pub shares : SharesInTree journal.names journal.source journal.target work from_pass to_pass stream stream' told told'

-- of a fault that names a taken place, this is so
abbrev pub IsOfTaken : Type 0 → MoveFault → Type 0
IsOfTaken P (Place (put.Taken at)) = P
IsOfTaken P fault = Unit {0}

-- ---- between two opened vaults (private contracts only)

-- where this is so of all that is seen at first
abbrev pub SharesFrom : (View → Type 0) → OpenedVault → Path → List Planned → Option ByteStream → Option ByteStream → Option Told → Option Told → Type 0
SharesFrom Is to work items stream stream' told told' = IfSeen told (λ v. Is v → OneShares to work items v stream stream' told')

-- the target is copied into, and doesn't have the item yet
pub record Lacks (rule : NameMap) (from to : OpenedVault) (item : Planned) (v : View) : Type 0 where
  pub copying : IsCopying rule from to v
  pub lacks : tree_at to v item.path ≡ NoItem

-- nor does it where none of these has the item's path
pub record LacksOther (rule : NameMap) (from to : OpenedVault) (there : List Planned) (item : Planned) (v : View) : Type 0 where
  pub copying : IsCopying rule from to v
  pub lacks : is_there there item ≡ false → tree_at to v item.path ≡ NoItem

-- nothing but its root and some of these items open in it
abbrev pub HasOnly : OpenedVault → List Planned → View → Type 0
HasOnly to items v = (path : plain.Path) → path ≢ [] → tree_at to v path ≢ NoItem → (item : Planned) × Contains items item × (item.path ≡ path)

-- it has these already, and no others
abbrev pub IsFilled : NameMap → OpenedVault → OpenedVault → List Planned → View → Type 0
IsFilled rule from to there v = HasCopied rule from to there v × HasOnly to there v

-- from the one view to the other it comes to have only these; nothing is left over, and each passphrase opens it as it did
pub record Fills (to : OpenedVault) (items : List Planned) (v w : View) : Type 0 where
  pub only : HasOnly to items w
  pub tidy : StaysTidy (format_of to.vault) (under to.root v) (under to.root w)
  pub loads : LoadsAlike (under to.root v) (under to.root w)

-- it had the ones and no others, and has then only these and the other items
abbrev pub FillsOnly : NameMap → OpenedVault → OpenedVault → List Planned → List Planned → Option Told → Option Told → Type 0
FillsOnly rule from to there items told told' = (v w : View) → IsSeen told v → IsSeen told' w → IsFilled rule from to there v → Fills to (there ++ items) v w
