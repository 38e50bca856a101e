-- What is so once a migration is done.
use Rattle.std.specs.Prelude.{◌≡◌, ◌≢◌, ◌++◌, ℕ, Bool, not, is_some, List, length, codes, Option, Result, IfOk}
use Rattle.std.specs.List.{filter}
use Rattle.chunk_files.specs.Reading.{Whole}
use Rattle.folder_spec.specs.Path.{Part, Path, child}
use Rattle.folder_spec.specs.Event.{Told}
use Rattle.folder_spec.specs.Seen.{IfSeen, under}
use Rattle.folder_spec.specs.View.{NoEntry, View}
use Rattle.move_journal.specs.Journal.{IsJournal}
use Rattle.move_journal.specs.Reading.{StandsIn}
use Rattle.move_journal.specs.declared.journal.Journal.{Journal}
use Rattle.move_journal.specs.declared.journal.Phase.TheVariants as phase
use Rattle.plain_tree.specs.Names as plain
use Rattle.plain_tree.specs.declared.name_map.NameMap.{NameMap}
use Rattle.tree_match.specs.Comparing.{content_at}
use Rattle.tree_match.specs.Matching.{item_with}
use Rattle.vault_read.specs.OwnFolders.{HasOwnFolders}
use Rattle.vault_spec.specs.Opened.{OpenedVault}
use Rattle.vault_spec.specs.Findings.{IsClean}
use Rattle.vault_spec.specs.Plan.{Planned}
use Rattle.vault_spec.specs.Standing.{File, standing}
use Rattle.vault_spec.specs.Vault.{Vault, IsVault, format_of}
use Rattle.vault_walk.specs.Surveyed.{IsPlanOf}
use Rattle.work_folder.specs.Entering.{IsReady}
use Rattle.migrate_core.specs.Sides.{AreTold}
use Rattle.vault_spec.specs.Mapped.{IsMapped}
use Rattle.migration_sides.specs.Sides.{opened_in}
use Rattle.tree_match.specs.Mapping.{IsMappedPlan}
use Rattle.migrate_core.specs.Copying.{StayGood}
use Rattle.migration_spec.specs.Guard.{tree_at}
use Rattle.migrate_core.specs.declared.placing.Done.{Done}

-- where no two directories of either vault share a folder, the second has the mapped tree of the first
abbrev pub HaveMappedTree : NameMap → OpenedVault → OpenedVault → View → Type 0
HaveMappedTree rule from to v = HasOwnFolders from.vault (under from.root v) → HasOwnFolders to.vault (under to.root v) → IsMapped rule (tree_at from v) (tree_at to v)

-- the journal that says that all is done
abbrev pub done_of : Journal → Journal
done_of j = record { phase = phase.Done; names = j.names; source = j.source; target = j.target; items = j.items; plan = j.plan }

-- the journal of a migration by this rule of so many items between these roots stands in the work folder, and says that all is done
pub record SaysDone (rule : NameMap) (from to work : Path) (count : ℕ) (v : View) : Type 0 where
  pub journal : Journal
  pub is : IsJournal journal
  pub phase : journal.phase ≡ phase.Done
  pub names : journal.names ≡ rule
  pub source : journal.source ≡ from
  pub target : journal.target ≡ to
  pub items : journal.items ≡ count
  pub stands : StandsIn work journal v

-- it has so many items, where no two of its directories share a folder
abbrev pub HasItems : OpenedVault → ℕ → View → Type 0
HasItems a count v = HasOwnFolders a.vault (under a.root v) → (items : List Planned) × IsPlanOf a.root (format_of a.vault) (under a.root v) items × (count ≡ length items)

-- these are the items of the vault that the journal tells, where no two of its directories share a folder
abbrev pub TellsItems : OpenedVault → Journal → View → Type 0
TellsItems a journal v = HasOwnFolders a.vault (under a.root v) → (items : List Planned) × IsPlanOf a.root (format_of a.vault) (under a.root v) items × AreTold journal items

-- where no two of its directories share a folder, each file of the vault is read to its end: its content is whole, and passes no limit
abbrev pub HasWholeContents : OpenedVault → View → Type 0
HasWholeContents a v =
    HasOwnFolders a.vault (under a.root v) → (path : plain.Path) (rest : Path) → standing (format_of a.vault) (under a.root v) path ≡ File rest
    → (content_at (format_of a.vault).content v (a.root ++ rest)).ending ≡ Whole

-- Both vaults are clean, the target has the mapped tree of the source, of so many items, and the journal says so and tells those of the
-- source. The contents of both are whole, and pass no limit.
pub record HasMoved (names : NameMap) (from to : OpenedVault) (work : Path) (count : ℕ) (v : View) : Type 0 where
  pub source : IsClean (format_of from.vault) (under from.root v)
  pub target : IsClean (format_of to.vault) (under to.root v)
  pub trees : HaveMappedTree names from to v
  pub source_contents : HasWholeContents from v
  pub target_contents : HasWholeContents to v
  pub items : HasItems to count v
  pub says : SaysDone names from.root to.root work count v
  pub tells : TellsItems from says.journal v

-- whether one of these has the item's path
abbrev pub is_there : List Planned → Planned → Bool
is_there there item = is_some (item_with item.path there)

-- how many items have no path among these
abbrev pub lacking : List Planned → List Planned → ℕ
lacking there items = length (filter (λ item. not (is_there there item)) items)

-- an empty stage and perhaps a journal stand in the work folder, and nothing else
pub record IsTidyWork (work : Path) (v : View) : Type 0 where
  pub ready : IsReady v work
  pub alone : (name : Part) → name ≢ codes "stage" → name ≢ codes "journal" → v (child work name) ≡ NoEntry

-- where it was so it is so still
abbrev pub StaysTidyWork : Path → Option Told → Option Told → Type 0
StaysTidyWork work told told' = (IfSeen told (λ v. IsTidyWork work v)) → IfSeen told' (λ v. IsTidyWork work v)

-- after Ok, of so many items
abbrev pub Moved : {E : Type 0} → NameMap → OpenedVault → OpenedVault → Path → Option Told → Result Done E → Type 0
Moved names from to work told result = IfOk result (λ done. IfSeen told (λ v. HasMoved names from to work done.items v))

-- the items of the vault that the source is, at their mapped paths
pub record AreMappedItems (rule : NameMap) (from : OpenedVault) (v : View) (mapped : List Planned) : Type 0 where
  pub own : List Planned
  pub are : IsPlanOf from.root (format_of from.vault) (under from.root v) own
  pub same : IsMappedPlan rule own mapped

-- so many items were placed as the second vault lacked of the mapped first, where no two directories of either share a folder
abbrev pub HasPlaced : NameMap → OpenedVault → OpenedVault → ℕ → View → Type 0
HasPlaced rule from to count v = HasOwnFolders from.vault (under from.root v) → HasOwnFolders to.vault (under to.root v)
    → (items there : List Planned) × AreMappedItems rule from v items × IsPlanOf to.root (format_of to.vault) (under to.root v) there × (count ≡ lacking there items)

abbrev pub Placed : {E : Type 0} → NameMap → OpenedVault → OpenedVault → Option Told → Result Done E → Type 0
Placed rule from to told result = IfOk result (λ done. IfSeen told (λ v. HasPlaced rule from to done.placed v))

-- Of the vaults that two roots and their passphrases are. The target is opened so afterwards too, and where no two directories of either
-- shared a folder, both are in good order then.
pub record MovesTree (names : NameMap) (from to work : Path) (from_pass to_pass : List ℕ) (done : Done) (told told' : Option Told) : Type 0 where
  pub source : Vault
  pub target : Vault
  pub opens_source : IfSeen told (λ v. IsVault (under from v) from_pass source)
  pub opens_target : IfSeen told (λ v. IsVault (under to v) to_pass target)
  pub placed : IfSeen told (λ v. HasPlaced names (opened_in from source) (opened_in to target) done.placed v)
  pub moved : IfSeen told' (λ v. HasMoved names (opened_in from source) (opened_in to target) work done.items v)
  pub opens_still : IfSeen told' (λ v. IsVault (under to v) to_pass target)
  pub stays_good : StayGood (opened_in from source) (opened_in to target) told told'

-- of the vaults that the journal tells which stands in the work folder
pub record MovesTold (work : Path) (from_pass to_pass : List ℕ) (done : Done) (told told' : Option Told) (v : View) : Type 0 where
  pub journal : Journal
  pub is : IsJournal journal
  pub stands : StandsIn work journal v
  pub moves : MovesTree journal.names journal.source journal.target work from_pass to_pass done told told'
