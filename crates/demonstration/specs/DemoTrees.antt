-- The tree of the demonstration goes from vault to vault.
use Rattle.std.specs.Prelude.{◌≡◌, ℕ, Bool, [], ◌∷◌, codes, Option, Some, IsTrue}
use Rattle.demo_core.specs.Making.{HoldsItems, StandsNew, making_folder, phrase}
use Rattle.plain_tree.specs.declared.name_map.NameMap.TheVariants.{Same}
use Rattle.folder_spec.specs.Event.{Told}
use Rattle.migrate_core.specs.Written.{HasGone}
use Rattle.folder_spec.specs.Path.{Path}
use Rattle.folder_spec.specs.Region.{apart_from_both, at_or_below}
use Rattle.folder_spec.specs.Seen.{seen, under}
use Rattle.folder_spec.specs.State.{State}
use Rattle.folder_spec.specs.View.{NoEntry}
use Rattle.migrate_core.specs.Moved.{MovesTree, SaysDone}
use Rattle.migrate_core.specs.Moving.{MovesOnly}
use Rattle.migrate_core.specs.declared.placing.Done.{Done}
use Rattle.vault_read.specs.OwnFolders.{HasOwnFolders}
use Rattle.vault_read.specs.Opened.{kind_of}
use Rattle.vault_read.specs.declared.vault.VaultKind.{VaultKind}
use Rattle.vault_read.specs.declared.vault.VaultKind.TheVariants as kind
use Rattle.vault_spec.specs.Vault.{Vault, IsVault}
use Rattle.demonstration.specs.declared.leading.Leg.{Leg}
use Rattle.demonstration.specs.declared.leading.Leg.TheVariants.{There, Back}

-- the roots of the three vaults
abbrev pub first_root : Path
first_root = codes "g" ∷ []

abbrev pub second_root : Path
second_root = codes "c" ∷ []

abbrev pub third_root : Path
third_root = codes "h" ∷ []

-- where a folder tells its state, R holds of what it tells before and after
abbrev pub WhereTold : (Told → Told → Type 0) → Option Told → Option Told → Type 0
WhereTold R told told' = (a : Told) → told ≡ Some a → (b : Told) × (told' ≡ Some b) × R a b

-- The items stand in a gocryptfs vault at `g` first, then in a Cryptomator vault at `c`, and in a gocryptfs vault at `h` when all is done.
-- By then the other two are gone.
pub record BringsItems (seed count : ℕ) (a b : Told) : Type 0 where
  pub first : Told
  pub second : Told
  pub made : HasGone a first
  pub moved : HasGone first second
  pub moved_back : HasGone second b
  pub in_first : HoldsItems kind.Gocryptfs first_root seed count (seen first.state)
  pub in_second : HoldsItems kind.Cryptomator second_root seed count (seen second.state)
  pub in_third : HoldsItems kind.Gocryptfs third_root seed count (seen b.state)
  pub first_gone : seen b.state first_root ≡ NoEntry
  pub second_gone : seen b.state second_root ≡ NoEntry

-- ---- private contracts

abbrev pub source_of : Leg → Path
source_of There = first_root
source_of Back = second_root

abbrev pub target_of : Leg → Path
target_of There = second_root
target_of Back = third_root

abbrev pub kind_to : Leg → VaultKind
kind_to There = kind.Cryptomator
kind_to Back = kind.Gocryptfs

-- no two directories of the vault at a root share a folder
abbrev pub HasOwn : Path → State → Type 0
HasOwn root s = (vault : Vault) → IsVault (under root (seen s)) phrase vault → HasOwnFolders vault (under root (seen s))

-- a new vault of the kind stands at a root
abbrev pub IsNewAt : VaultKind → Path → Option Told → Type 0
IsNewAt kind root told = (a : Told) → told ≡ Some a → StandsNew kind root a.state

-- the work folder of both migrations
abbrev pub moving_folder : Path
moving_folder = codes "m" ∷ []

-- what is at the root and below it is of the region
abbrev pub IsWithin : Path → (Path → Bool) → Type 0
IsWithin root region = (q : Path) → IsTrue (at_or_below root q) → IsTrue (region q)

-- the first items stand in the first vault
abbrev pub MakesItems : ℕ → ℕ → Told → Told → Type 0
MakesItems seed count a b = HasGone a b × HoldsItems kind.Gocryptfs first_root seed count (seen b.state)

-- a migration between these roots is done
abbrev pub IsMoved : Path → Path → Option Told → Option Told → Type 0
IsMoved from to told told' = (done : Done) × MovesTree Same from to moving_folder phrase phrase done told told' × MovesOnly moving_folder to told told'

-- A vault of the kind is made and then the migration to it is done. What is apart from both work folders and the new vault stays.
pub record Carries (kind : VaultKind) (from to : Path) (a b : Told) : Type 0 where
  pub goes : HasGone a b
  pub is : (vault : Vault) → IsVault (under to (seen b.state)) phrase vault → kind_of vault ≡ kind
  pub own : HasOwn from a.state → HasOwn to b.state
  pub holds : (first : VaultKind) (seed count : ℕ) → HasOwn from a.state → HoldsItems first from seed count (seen a.state) → HoldsItems kind to seed count (seen b.state)
  pub stays : (root : Path) → IsWithin root (apart_from_both making_folder to) → IsWithin root (apart_from_both moving_folder to) → under root (seen b.state) ≡ under root (seen a.state)
  pub items : ℕ
  pub says : SaysDone Same from to moving_folder items (seen b.state)

-- Its source is retired, with as many items as were moved, and the work folder is gone. What is apart from both stays.
pub record Leaves (from : Path) (moved retired : ℕ) (a b : Told) : Type 0 where
  pub goes : HasGone a b
  pub stays : (root : Path) → IsWithin root (apart_from_both from moving_folder) → under root (seen b.state) ≡ under root (seen a.state)
  pub base : seen b.state [] ≡ seen a.state []
  pub gone : seen b.state from ≡ NoEntry
  pub work_gone : seen b.state moving_folder ≡ NoEntry
  pub all : retired ≡ moved

-- it is, where the journal says that the migration is done
abbrev pub LeavesSource : Leg → ℕ → Option Told → Option Told → Type 0
LeavesSource leg retired =
    WhereTold (λ a b. (moved : ℕ) → SaysDone Same (source_of leg) (target_of leg) moving_folder moved (seen a.state) → Leaves (source_of leg) moved retired a b)

-- one after the other
pub record Leads (kind : VaultKind) (from to : Path) (a b : Told) : Type 0 where
  pub between : Told
  pub carries : Carries kind from to a between
  pub retired : ℕ
  pub leaves : Leaves from carries.items retired between b

-- both ways
pub record LeadsBoth (a b : Told) : Type 0 where
  pub between : Told
  pub there : Leads kind.Cryptomator first_root second_root a between
  pub back : Leads kind.Gocryptfs second_root third_root between b
