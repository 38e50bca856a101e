-- How opening a vault answers, by what is seen below its root.
use Rattle.std.specs.Prelude.{◌≡◌, ◌≢◌, ◌⊎◌, ℕ, Bool, true, false, List, ◌++◌, ◌≤◌, length, Err}
use Rattle.cryptomator_conf.specs.declared.fault.CmConfFault.{CmConfFault}
use Rattle.cryptomator_conf.specs.declared.fault.CmConfFault.TheVariants as conf
use Rattle.folder_spec.specs.declared.FolderFault.{FolderFault}
use Rattle.folder_spec.specs.declared.FolderFault.TheVariants as folder
use Rattle.folder_spec.specs.Path.{Path}
use Rattle.folder_spec.specs.View.{Found, FileOf}
use Rattle.vault_spec.specs.Vault.{Loaded, OfFile, UnlocksGo, UnlocksCm, vault_file, master_file}
use Rattle.vault_spec.specs.Vault as spec
use Rattle.vault_read.specs.declared.fault.LoadFault.{LoadFault}
use Rattle.vault_read.specs.declared.fault.LoadFault.TheVariants.{Missing, WrongKind, TooLarge, Go, Cm, WrongPass, BadSignature, Failed, NoMemory}
use Rattle.vault_read.specs.declared.vault.VaultKind.{VaultKind}
use Rattle.vault_read.specs.declared.vault.VaultKind.TheVariants as kind

-- the fault of a folder, as opening a vault tells it
abbrev pub of_folder : FolderFault → LoadFault
of_folder folder.Failed = Failed
of_folder folder.Refused = Failed
of_folder folder.NoMemory = NoMemory

-- A refusal is one that these tests give, with paths below the root. The folder may fail, and memory may be refused, whatever the
-- tests say.
abbrev pub RefusesLoading : Path → (Loaded → Type 0) → LoadFault → Type 0
RefusesLoading root Tests (Missing at) = (rest : Path) × (at ≡ root ++ rest) × Tests (Err (spec.Missing rest))
RefusesLoading root Tests (WrongKind at) = (rest : Path) × (at ≡ root ++ rest) × Tests (Err (spec.WrongKind rest))
RefusesLoading root Tests (TooLarge at) = (rest : Path) × (at ≡ root ++ rest) × Tests (Err (spec.TooLarge rest))
RefusesLoading root Tests (Go fault) = Tests (Err (spec.GoRefused fault))
RefusesLoading root Tests (Cm at fault) = (rest : Path) × (at ≡ root ++ rest) × Tests (Err (spec.CmRefused rest fault))
RefusesLoading root Tests WrongPass = Tests (Err spec.WrongPass)
RefusesLoading root Tests BadSignature = Tests (Err spec.BadSignature)
RefusesLoading root Tests Failed = Unit {0}
RefusesLoading root Tests NoMemory = Unit {0}

-- the format whose configuration counts, by whether `gocryptfs.conf` and `vault.cryptomator` are files
abbrev pub kind_by : Bool → Bool → VaultKind
kind_by true cm = kind.Gocryptfs
kind_by false true = kind.Cryptomator
kind_by false false = kind.Gocryptfs

-- a file of at most 65,536 bytes
abbrev pub IsSmallFile : Found → List ℕ → Type 0
IsSmallFile there bytes = (there ≡ FileOf bytes) × (length bytes ≤ 65536)

-- no file of at most 65,536 bytes is there, and the answer says so
abbrev pub LacksFile : Path → Found → Loaded → Type 0
LacksFile at there answer = OfFile at there answer (λ bytes. ⊥)

-- memory was refused, or this file is refused
abbrev pub IsRefused : Path → CmConfFault → LoadFault → Type 0
IsRefused at fault result = (result ≡ NoMemory) ⊎ ((fault ≢ conf.NoMemory) × (result ≡ Cm at fault))
