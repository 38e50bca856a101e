-- Which vault a folder and a passphrase are: the first test that fails is the answer. A root with a file `gocryptfs.conf` is a
-- gocryptfs vault, and else one with a file `vault.cryptomator` a Cryptomator vault.
use Rattle.std.specs.Prelude.{◌≡◌, ◌≢◌, ◌⊎◌, ℕ, Bool, true, false, ◌&&◌, not, List, [], ◌∷◌, length, nat_le, codes, Result, Ok, Err, MatchResult}
use Rattle.cryptomator_conf.specs.declared.conf.MasterFile.{MasterFile}
use Rattle.cryptomator_conf.specs.declared.conf.VaultFile.{VaultFile}
use Rattle.cryptomator_conf.specs.declared.fault.CmConfFault.{CmConfFault}
use Rattle.vault_values.specs.declared.keys.CmKeys.{CmKeys}
use Rattle.cryptomator_conf.specs.Keys.{AreKeys}
use Rattle.cryptomator_conf.specs.Keys as cryptomator
use Rattle.cryptomator_conf.specs.Master.{ReadsMaster}
use Rattle.cryptomator_conf.specs.Signature.{signature_of}
use Rattle.cryptomator_conf.specs.Vault.{vault_in}
use Rattle.folder_spec.specs.Path.{Path}
use Rattle.folder_spec.specs.View.{Found, NoEntry, Folder, FileOf, Special, View}
use Rattle.gocrypt_conf.specs.declared.conf.GoConf.{GoConf}
use Rattle.gocrypt_conf.specs.declared.fault.GoConfFault.{GoConfFault}
use Rattle.vault_values.specs.declared.keys.GoKeys.{GoKeys}
use Rattle.gocrypt_conf.specs.MasterKey as gocryptfs
use Rattle.gocrypt_conf.specs.Tests.{ReadsAs}
use Rattle.vault_spec.specs.Format.{Format, is_file}
use Rattle.vault_spec.specs.Gocryptfs.{go_format}
use Rattle.vault_spec.specs.Cryptomator.{CmVault, cm_format}

-- an opened vault, of either format
pub data Vault : Type 0 where
  Gocryptfs : GoKeys → Vault
  Cryptomator : CmVault → Vault

abbrev pub format_of : Vault → Format
format_of (Gocryptfs keys) = go_format keys
format_of (Cryptomator vault) = cm_format vault

-- At this path from the root nothing stands, or something of another kind, or a file of more than 65,536 bytes. Or a configuration
-- is refused, the passphrase unlocks no keys, or the signature isn't theirs.
pub data LoadRefusal : Type 0 where
  Missing : Path → LoadRefusal
  WrongKind : Path → LoadRefusal
  TooLarge : Path → LoadRefusal
  GoRefused : GoConfFault → LoadRefusal
  CmRefused : Path → CmConfFault → LoadRefusal
  WrongPass : LoadRefusal
  BadSignature : LoadRefusal

abbrev pub Loaded : Type 0
Loaded = Result Vault LoadRefusal

abbrev pub go_conf : Path
go_conf = codes "gocryptfs.conf" ∷ []

abbrev pub master_file : Path
master_file = codes "masterkey.cryptomator" ∷ []

abbrev pub vault_file : Path
vault_file = codes "vault.cryptomator" ∷ []

-- one or the other
abbrev pub Either : Bool → Type 0 → Type 0 → Type 0
Either true one other = one
Either false one other = other

-- what follows of the bytes of a file of at most 65,536 bytes at a path, and else the answer is why there is none
abbrev pub OfFile : Path → Found → Loaded → (List ℕ → Type 0) → Type 0
OfFile at NoEntry answer next = answer ≡ Err (Missing at)
OfFile at Folder answer next = answer ≡ Err (WrongKind at)
OfFile at Special answer next = answer ≡ Err (WrongKind at)
OfFile at (FileOf bytes) answer next = Either (nat_le (length bytes) 65536) (next bytes) (answer ≡ Err (TooLarge at))

-- the keys that a gocryptfs configuration and a passphrase give, or that there are none
abbrev pub UnlocksGo : GoConf → List ℕ → Loaded → Type 0
UnlocksGo conf pass answer =
    ((keys : GoKeys) × gocryptfs.Unlocks conf pass keys × (answer ≡ Ok (Gocryptfs keys)))
    ⊎ (((keys : GoKeys) → ¬ gocryptfs.Unlocks conf pass keys) × (answer ≡ Err WrongPass))

-- the tests of a gocryptfs vault behind the bytes of its configuration: what they say, and the passphrase
abbrev pub TestsGo : List ℕ → List ℕ → Loaded → Type 0
TestsGo bytes pass answer =
    (read : Result GoConf GoConfFault) × ReadsAs bytes read
    × MatchResult read (λ conf. UnlocksGo conf pass answer) (λ fault. answer ≡ Err (GoRefused fault))

abbrev pub LoadsGo : View → List ℕ → Loaded → Type 0
LoadsGo v pass answer = OfFile go_conf (v go_conf) answer (λ bytes. TestsGo bytes pass answer)

abbrev pub cm_vault : CmKeys → VaultFile → CmVault
cm_vault keys file = record { keys = keys; combo = file.combo; threshold = file.threshold }

-- the signature of a vault's file, by its keys
abbrev pub Signs : CmKeys → VaultFile → Loaded → Type 0
Signs keys file answer =
    ((file.signature ≡ signature_of file.alg keys file.signed) × (answer ≡ Ok (Cryptomator (cm_vault keys file))))
    ⊎ ((file.signature ≢ signature_of file.alg keys file.signed) × (answer ≡ Err BadSignature))

-- the keys that a master key file and a passphrase give and the signature by them, or that there are none
abbrev pub UnlocksCm : MasterFile → VaultFile → List ℕ → Loaded → Type 0
UnlocksCm master file pass answer =
    ((keys : CmKeys) × AreKeys keys × cryptomator.Unlocks master pass keys × Signs keys file answer)
    ⊎ (((keys : CmKeys) → AreKeys keys → ¬ cryptomator.Unlocks master pass keys) × (answer ≡ Err WrongPass))

-- the tests of a Cryptomator vault behind the bytes of its two files: the master key file, the vault's file, the passphrase, the
-- signature
abbrev pub TestsCm : List ℕ → List ℕ → List ℕ → Loaded → Type 0
TestsCm master_bytes vault_bytes pass answer =
    (read : Result MasterFile CmConfFault) × ReadsMaster master_bytes read
    × MatchResult read
    (λ master. MatchResult (vault_in vault_bytes) (λ file. UnlocksCm master file pass answer) (λ fault. answer ≡ Err (CmRefused vault_file fault)))
    (λ fault. answer ≡ Err (CmRefused master_file fault))

-- both files are there first
abbrev pub LoadsCm : View → List ℕ → Loaded → Type 0
LoadsCm v pass answer =
    OfFile master_file (v master_file) answer (λ master_bytes.
    OfFile vault_file (v vault_file) answer (λ vault_bytes. TestsCm master_bytes vault_bytes pass answer))

-- which format's tests count, by what stands at `gocryptfs.conf` and at `vault.cryptomator`
abbrev pub LoadsBy : Found → Found → View → List ℕ → Loaded → Type 0
LoadsBy go cm v pass answer = Either (not (is_file go) && is_file cm) (LoadsCm v pass answer) (LoadsGo v pass answer)

-- the answer to a root that is a directory
abbrev pub LoadsFrom : Found → View → List ℕ → Loaded → Type 0
LoadsFrom NoEntry v pass answer = answer ≡ Err (Missing [])
LoadsFrom (FileOf bytes) v pass answer = answer ≡ Err (WrongKind [])
LoadsFrom Special v pass answer = answer ≡ Err (WrongKind [])
LoadsFrom Folder v pass answer = LoadsBy (v go_conf) (v vault_file) v pass answer

-- the answer to a root and a passphrase
abbrev pub Loads : View → List ℕ → Loaded → Type 0
Loads v pass answer = LoadsFrom (v []) v pass answer

-- the vault that a root and a passphrase are
abbrev pub IsVault : View → List ℕ → Vault → Type 0
IsVault v pass vault = Loads v pass (Ok vault)
