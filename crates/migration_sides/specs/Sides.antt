-- The two vaults of a migration as a call opens them, and what walks of them tell.
use Rattle.std.specs.Prelude.{◌≡◌, ◌<◌, ◌++◌, ◌≤◌, List, length, Option, Contains}
use Rattle.folder_spec.specs.Event.{Told}
use Rattle.folder_spec.specs.Path.{Path}
use Rattle.folder_spec.specs.Seen.{IfSeen, under, ShowsFile}
use Rattle.folder_spec.specs.View.{NoEntry, View}
use Rattle.folder_staging.specs.Removal.{deepest}
use Rattle.plain_tree.specs.declared.NodeKind.TheVariants.{File}
use Rattle.vault_read.specs.OwnFolders.{HasOwnFolders}
use Rattle.vault_spec.specs.Opened.{OpenedVault}
use Rattle.vault_spec.specs.Findings.{IsClean}
use Rattle.vault_spec.specs.Plan.{Planned}
use Rattle.vault_spec.specs.Vault.{Vault, format_of}
use Rattle.vault_walk.specs.Survey.{IsOrdered, item_limit}
use Rattle.vault_walk.specs.Surveyed.{IsPlanOf}

abbrev pub opened_in : Path → Vault → OpenedVault
opened_in root vault = record { root = root; vault = vault }

-- A walk of the vault answered these items: the vault is clean, and they are in order; where each file is one is there; and where no
-- two directories share a folder, they are its plan.
pub record IsWalked (told : Option Told) (a : OpenedVault) (items : List Planned) : Type 0 where
  pub clean : IfSeen told (λ v. IsClean (format_of a.vault) (under a.root v))
  pub ordered : IfSeen told (λ v. IsOrdered items)
  pub files : IfSeen told (λ v. (item : Planned) → Contains items item → item.node ≡ File → ShowsFile v item.at)
  pub behind : (item : Planned) → Contains items item → (rest : Path) × (item.at ≡ a.root ++ rest)
  pub size : length items ≤ item_limit
  pub plan : IfSeen told (λ v. HasOwnFolders a.vault (under a.root v) → IsPlanOf a.root (format_of a.vault) (under a.root v) items)

-- nothing stands deeper below the path than a removal goes down
abbrev pub IsShallow : Path → View → Type 0
IsShallow at v = (rest : Path) → deepest < length rest → v (at ++ rest) ≡ NoEntry
