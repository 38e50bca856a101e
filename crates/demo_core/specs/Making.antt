-- The vaults of the demonstration.
use Rattle.std.specs.Prelude.{◌≡◌, ◌⊎◌, ℕ, Bool, List, [], ◌∷◌, codes, Option}
use Rattle.folder_spec.specs.Event.{Told}
use Rattle.folder_spec.specs.Moments.{Moments}
use Rattle.folder_spec.specs.Path.{Path, parent}
use Rattle.folder_spec.specs.Region.{IsAsBefore, apart_from_both, at_or_below}
use Rattle.folder_spec.specs.Seen.{ShowsFree, under}
use Rattle.folder_spec.specs.State.{State}
use Rattle.folder_spec.specs.View.{Folder, NoEntry, View, ShowsAmong}
use Rattle.item_making.specs.declared.fault.PutFault.{PutFault}
use Rattle.item_making.specs.declared.fault.PutFault.TheVariants as put
use Rattle.vault_read.specs.declared.fault.LoadFault.TheVariants as load
use Rattle.vault_read.specs.declared.vault.VaultKind.{VaultKind}
use Rattle.vault_read.specs.Contents.{IsOfPath}
use Rattle.vault_spec.specs.Opened.{OpenedVault}
use Rattle.vault_read.specs.Opened.{kind_of}
use Rattle.kdf_suite.specs.ScryptCost.{Cost}
use Rattle.vault_spec.specs.Opens.{tree}
use Rattle.vault_spec.specs.Tidy.{IsTidy}
use Rattle.vault_spec.specs.Vault.{Vault, IsVault, format_of}
use Rattle.vault_write.specs.Founding.{IsNewVault}
use Rattle.item_making.specs.Trees.{ShowsVault}
use Rattle.work_folder.specs.Entering.{IsFresh}
use Rattle.work_folder.specs.declared.fault.WorkFault.TheVariants as work
use Rattle.demo_core.specs.Tree.{HasItems}
use Rattle.demo_core.specs.declared.fault.MakeFault.{MakeFault}
use Rattle.demo_core.specs.declared.fault.MakeFault.TheVariants.{Work, Load, Put, NoMemory}

-- the passphrase of all vaults
abbrev pub phrase : List ℕ
phrase = codes "demo"

-- the cost of scrypt of all vaults
abbrev pub cost : Cost
cost = record { n = 1024; r = 8; p = 1 }

-- the work folder in which they are made
abbrev pub making_folder : Path
making_folder = codes "w" ∷ []

-- A vault of the kind that the passphrase opens stands at a root, and its tree is that of so many items.
pub record HoldsItems (kind : VaultKind) (root : Path) (seed count : ℕ) (v : View) : Type 0 where
  pub vault : Vault
  pub is : kind_of vault ≡ kind
  pub opens : IsVault (under root v) phrase vault
  pub items : HasItems seed count (tree (format_of vault) (under root v))

-- the fault says that the folder failed
abbrev pub IsFailed : MakeFault → Type 0
IsFailed (Work work.Failed) = Unit {0}
IsFailed (Load load.Failed) = Unit {0}
IsFailed (Put put.Failed) = Unit {0}
IsFailed fault = ⊥

-- The faults of making a vault or an item: that the folder failed is told as such alone, and no source is read.
abbrev pub IsItemFault : PutFault → Type 0
IsItemFault (put.Find fault) = IsOfPath fault
IsItemFault put.Source = ⊥
IsItemFault fault = Unit {0}

abbrev pub IsMakeFault : MakeFault → Type 0
IsMakeFault (Put fault) = IsItemFault fault
IsMakeFault fault = Unit {0}

-- The faults of chance: the folder or the random source failed, memory ran out, or zeros were drawn.
abbrev pub IsPutOfChance : PutFault → Type 0
IsPutOfChance put.Failed = Unit {0}
IsPutOfChance put.NoMemory = Unit {0}
IsPutOfChance put.Random = Unit {0}
IsPutOfChance put.ZeroRandom = Unit {0}
IsPutOfChance fault = ⊥

abbrev pub IsOfChance : MakeFault → Type 0
IsOfChance (Work work.Failed) = Unit {0}
IsOfChance (Work work.NoMemory) = Unit {0}
IsOfChance (Work fault) = ⊥
IsOfChance (Load load.Failed) = Unit {0}
IsOfChance (Load load.NoMemory) = Unit {0}
IsOfChance (Load fault) = ⊥
IsOfChance (Put fault) = IsPutOfChance fault
IsOfChance NoMemory = Unit {0}

-- and, of an item, that its place is taken
abbrev pub IsOfItem : PutFault → Type 0
IsOfItem (put.Taken at) = Unit {0}
IsOfItem fault = IsPutOfChance fault

abbrev pub IsOfItems : MakeFault → Type 0
IsOfItems (Put fault) = IsOfItem fault
IsOfItems fault = IsOfChance fault

-- the fault says that a place is taken
abbrev pub IsPutTaken : PutFault → Type 0
IsPutTaken (put.Taken at) = Unit {0}
IsPutTaken fault = ⊥

abbrev pub IsTaken : MakeFault → Type 0
IsTaken (Put fault) = IsPutTaken fault
IsTaken fault = ⊥

-- The work folder can be entered: it is below a directory, and nothing stands there, or a work folder with a bare stage and no more.
abbrev pub CanEnter : View → Path → Type 0
CanEnter v work = (v (parent work) ≡ Folder) × ((v work ≡ NoEntry) ⊎ IsFresh v work)

-- A vault can be made at a path: the work folder can be entered, and nothing stands at the path, in a directory.
pub record CanMake (at : Path) (v : View) : Type 0 where
  pub work : CanEnter v making_folder
  pub free : ShowsFree v at

-- at every moment a region is as it was
abbrev pub IsBeside : (Path → Bool) → Option Told → Option Told → Type 0
IsBeside region = Moments (IsAsBefore region) (λ s0 s e. Unit {0})

-- all but the work folder and what stands at a path
abbrev pub MakesBeside : Path → Option Told → Option Told → Type 0
MakesBeside at = IsBeside (apart_from_both making_folder at)

-- A new vault of the kind stands alone at a root, in good order and without items.
pub record StandsNew (kind : VaultKind) (root : Path) (s : State) : Type 0 where
  pub view : View
  pub alone : ShowsAmong (at_or_below root) s (view ∷ [])
  pub vault : Vault
  pub new : IsNewVault (under root view) phrase vault
  pub good : ShowsVault (format_of vault) root view
  pub is : kind_of vault ≡ kind

-- This vault stands alone at its root, in good order and tidy, and has so many items.
pub record HoldsAlone (vault : OpenedVault) (seed count : ℕ) (s : State) : Type 0 where
  pub view : View
  pub alone : ShowsAmong (at_or_below vault.root) s (view ∷ [])
  pub good : ShowsVault (format_of vault.vault) vault.root view
  pub tidy : IsTidy (format_of vault.vault) (under vault.root view)
  pub opens : IsVault (under vault.root view) phrase vault.vault
  pub items : HasItems seed count (tree (format_of vault.vault) (under vault.root view))

-- and it is the one of this kind that stands at a root
pub record HoldsInOrder (kind : VaultKind) (root : Path) (seed count : ℕ) (s : State) : Type 0 where
  pub vault : OpenedVault
  pub at : vault.root ≡ root
  pub is : kind_of vault.vault ≡ kind
  pub holds : HoldsAlone vault seed count s

-- ---- private contracts

-- no making is at fault
abbrev pub IsNotPut : MakeFault → Type 0
IsNotPut (Put fault) = ⊥
IsNotPut fault = Unit {0}
