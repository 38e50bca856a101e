-- What is seen between the steps of the demonstration (private contracts only).
use Rattle.std.specs.Prelude.{◌≡◌, ◌≤◌, ℕ, [], Option}
use Rattle.demo_core.specs.Making.{CanEnter, HoldsItems, making_folder}
use Rattle.plain_tree.specs.declared.name_map.NameMap.TheVariants.{Same}
use Rattle.folder_spec.specs.Event.{Told}
use Rattle.folder_spec.specs.Path.{Path}
use Rattle.folder_spec.specs.Seen.{IsSeen, under}
use Rattle.folder_spec.specs.View.{Folder, NoEntry, View}
use Rattle.migrate_core.specs.Moved.{HaveMappedTree, IsTidyWork, SaysDone, TellsItems}
use Rattle.migration_sides.specs.Sides.{opened_in}
use Rattle.vault_read.specs.declared.vault.VaultKind.{VaultKind}
use Rattle.vault_read.specs.declared.vault.VaultKind.TheVariants as kind
use Rattle.vault_spec.specs.Tidy.{IsTidy}
use Rattle.vault_spec.specs.Vault.{format_of}
use Rattle.item_making.specs.Trees.{ShowsVault}
use Rattle.demonstration.specs.DemoTrees.{kind_to, moving_folder, source_of, target_of, third_root}
use Rattle.demonstration.specs.declared.leading.Leg.{Leg}
use Rattle.demonstration.specs.declared.leading.Leg.TheVariants.{There, Back}

abbrev pub kind_from : Leg → VaultKind
kind_from There = kind.Gocryptfs
kind_from Back = kind.Cryptomator

-- so many items stand in a vault in good order
pub record HoldsWell (kind : VaultKind) (root : Path) (seed count : ℕ) (v : View) : Type 0 where
  pub items : HoldsItems kind root seed count v
  pub good : ShowsVault (format_of items.vault) root v

-- Beside a migration the base is there, a vault can be made, and nothing stands where the next one is to come.
pub record IsBeside (leg : Leg) (v : View) : Type 0 where
  pub base : v [] ≡ Folder
  pub making : CanEnter v making_folder
  pub next : leg ≡ There → v third_root ≡ NoEntry

-- its source is there, and nothing yet at its target and its work folder
pub record CanLead (leg : Leg) (seed count : ℕ) (v : View) : Type 0 where
  pub beside : IsBeside leg v
  pub source : HoldsWell (kind_from leg) (source_of leg) seed count v
  pub target : v (target_of leg) ≡ NoEntry
  pub work : v moving_folder ≡ NoEntry

-- its target is there, tidy and without items
pub record CanCarry (leg : Leg) (seed count : ℕ) (v : View) : Type 0 where
  pub beside : IsBeside leg v
  pub source : HoldsWell (kind_from leg) (source_of leg) seed count v
  pub target : HoldsWell (kind_to leg) (target_of leg) seed 0 v
  pub tidy : IsTidy (format_of target.items.vault) (under (target_of leg) v)
  pub work : v moving_folder ≡ NoEntry

-- it is done, and its journal says so
pub record HasCarried (leg : Leg) (seed count : ℕ) (v : View) : Type 0 where
  pub beside : IsBeside leg v
  pub source : HoldsWell (kind_from leg) (source_of leg) seed count v
  pub target : HoldsWell (kind_to leg) (target_of leg) seed count v
  pub moved : ℕ
  pub all : moved ≡ count
  pub says : SaysDone Same (source_of leg) (target_of leg) moving_folder moved v
  pub tells : TellsItems (opened_in (source_of leg) source.items.vault) says.journal v
  pub trees : HaveMappedTree Same (opened_in (source_of leg) source.items.vault) (opened_in (target_of leg) target.items.vault) v
  pub tidy : IsTidyWork moving_folder v

-- this is seen, of up to 2,000 items
pub record Sees (P : ℕ → ℕ → View → Type 0) (count : ℕ) (told : Option Told) : Type 0 where
  pub few : count ≤ 2000
  pub seed : ℕ
  pub view : View
  pub seen : IsSeen told view
  pub shown : P seed count view
