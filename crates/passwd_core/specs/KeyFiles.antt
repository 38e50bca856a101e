-- The file that holds a vault's keys: `gocryptfs.conf`, or `masterkey.cryptomator`.
use Rattle.std.specs.Prelude.{ℕ, List, codes, Ok}
use Rattle.cryptomator_conf.specs.Keys as cryptomator
use Rattle.cryptomator_conf.specs.Laws as cryptomator_laws
use Rattle.cryptomator_conf.specs.Master.{ReadsMaster}
use Rattle.cryptomator_conf.specs.Text.{Rewraps}
use Rattle.folder_spec.specs.Path.{Part, Path, child}
use Rattle.folder_spec.specs.View.{Found}
use Rattle.gocrypt_conf.specs.Laws as gocryptfs_laws
use Rattle.gocrypt_conf.specs.MasterKey as gocryptfs
use Rattle.gocrypt_conf.specs.Tests.{ReadsAs}
use Rattle.gocrypt_conf.specs.Text.{Reseals}
use Rattle.vault_read.specs.Loading.{IsSmallFile}
use Rattle.vault_read.specs.declared.vault.VaultKind.{VaultKind}
use Rattle.vault_read.specs.declared.vault.VaultKind.TheVariants as kind
use Rattle.vault_spec.specs.Vault.{Vault}
use Rattle.vault_spec.specs.Vault as vault
use Rattle.passwd_core.specs.declared.reading.KeyFile.{KeyFile}
use Rattle.passwd_core.specs.declared.reading.KeyFile.TheVariants.{Gocryptfs, Cryptomator}
use Rattle.passwd_core.specs.Drawing.{Fresh, ForGocryptfs, ForCryptomator}

-- its name at the root, and its path
abbrev pub key_name : VaultKind → Part
key_name kind.Gocryptfs = codes "gocryptfs.conf"
key_name kind.Cryptomator = codes "masterkey.cryptomator"

abbrev pub key_path : Path → VaultKind → Path
key_path root kind = child root (key_name kind)

-- what its bytes say
abbrev pub ReadsKeys : VaultKind → List ℕ → KeyFile → Type 0
ReadsKeys kind.Gocryptfs bytes (Gocryptfs conf) = ReadsAs bytes (Ok conf)
ReadsKeys kind.Cryptomator bytes (Cryptomator file) = ReadsMaster bytes (Ok file)
ReadsKeys kind.Gocryptfs bytes (Cryptomator file) = ⊥
ReadsKeys kind.Cryptomator bytes (Gocryptfs conf) = ⊥

-- it is there, of at most 65,536 bytes, and says this
abbrev pub HoldsKeys : VaultKind → Found → KeyFile → Type 0
HoldsKeys kind there file = (bytes : List ℕ) × IsSmallFile there bytes × ReadsKeys kind bytes file

-- a passphrase unlocks the keys of this vault
abbrev pub UnlocksKeys : KeyFile → List ℕ → Vault → Type 0
UnlocksKeys (Gocryptfs conf) pass (vault.Gocryptfs keys) = gocryptfs.Unlocks conf pass keys
UnlocksKeys (Cryptomator file) pass (vault.Cryptomator cm) = cryptomator.AreKeys cm.keys × cryptomator.Unlocks file pass cm.keys
UnlocksKeys (Gocryptfs conf) pass (vault.Cryptomator cm) = ⊥
UnlocksKeys (Cryptomator file) pass (vault.Gocryptfs keys) = ⊥

-- the text for another passphrase, of the same keys and at the file's own cost, under what was drawn
abbrev pub Rewrites : KeyFile → List ℕ → List ℕ → Fresh → List ℕ → Type 0
Rewrites (Gocryptfs conf) pass new_pass (ForGocryptfs salt nonce) text = Reseals conf pass new_pass conf.cost salt nonce text
Rewrites (Cryptomator file) pass new_pass (ForCryptomator salt) text = Rewraps file pass new_pass file.cost salt text
Rewrites (Gocryptfs conf) pass new_pass (ForCryptomator salt) text = ⊥
Rewrites (Cryptomator file) pass new_pass (ForGocryptfs salt nonce) text = ⊥

-- a short text that reads as a file of which the passphrase unlocks the keys of this vault
abbrev pub GivesKeys : List ℕ → Vault → List ℕ → Type 0
GivesKeys pass (vault.Gocryptfs keys) text = gocryptfs_laws.GivesBack pass keys text
GivesKeys pass (vault.Cryptomator cm) text = cryptomator_laws.GivesBack pass cm.keys text

-- what is drawn is for such a file
abbrev pub IsFor : VaultKind → Fresh → Type 0
IsFor kind.Gocryptfs (ForGocryptfs salt nonce) = Unit {0}
IsFor kind.Cryptomator (ForCryptomator salt) = Unit {0}
IsFor kind.Gocryptfs (ForCryptomator salt) = ⊥
IsFor kind.Cryptomator (ForGocryptfs salt nonce) = ⊥

-- the format of the file
abbrev pub kind_of_file : KeyFile → VaultKind
kind_of_file (Gocryptfs conf) = kind.Gocryptfs
kind_of_file (Cryptomator file) = kind.Cryptomator
