-- Laws of the configuration.
use Rattle.std.specs.Prelude.{◌≡◌, ℕ, ◌≤◌, List, length, Result, Ok}
use Rattle.base64.specs.GeneralPurpose.{IsBytes}
use Rattle.kdf_suite.specs.ScryptCost.{Cost, IsCost}
use Rattle.key_wrap.specs.Wrap.{IsKey}
use Rattle.cryptomator_conf.specs.declared.conf.Alg.TheVariants.{Hs256}
use Rattle.cryptomator_conf.specs.declared.conf.CmDraw.{CmDraw}
use Rattle.cryptomator_conf.specs.declared.conf.Combo.{Combo}
use Rattle.cryptomator_conf.specs.declared.conf.MasterFile.{MasterFile}
use Rattle.cryptomator_conf.specs.declared.conf.VaultFile.{VaultFile}
use Rattle.cryptomator_conf.specs.declared.fault.CmConfFault.{CmConfFault}
use Rattle.vault_values.specs.declared.keys.CmKeys.{CmKeys}
use Rattle.vault_values.specs.Id.{id_of}
use Rattle.cryptomator_conf.specs.Keys.{AreKeys, Unlocks}
use Rattle.cryptomator_conf.specs.Master.{ReadsMaster}
use Rattle.cryptomator_conf.specs.Signature.{signature_of}
use Rattle.cryptomator_conf.specs.Text.{Rewraps, keys_of, made_master, master_text, signed_text, vault_text, version_bytes, version_mac}
use Rattle.cryptomator_conf.specs.Vault.{vault_in}

-- the bytes of `masterkey.cryptomator` have one answer at most
abbrev pub HaveOneAnswer : Type 0
HaveOneAnswer =
    (bytes : List ℕ) (a b : Result MasterFile CmConfFault) → ReadsMaster bytes a → ReadsMaster bytes b → a ≡ b

-- a passphrase unlocks one pair of keys at most
abbrev pub UnlocksOnePair : Type 0
UnlocksOnePair =
    (file : MasterFile) (pass : List ℕ) (keys other : CmKeys) → AreKeys keys → AreKeys other → Unlocks file pass keys → Unlocks file pass other → keys ≡ other

-- two drawn keys, a salt of 8 bytes and 16 bytes for the id
pub record IsDrawn (drawn : CmDraw) : Type 0 where
  pub enc : IsKey drawn.enc
  pub mac : IsKey drawn.mac
  pub salt : IsBytes drawn.salt
  pub id_size : length drawn.jti ≡ 16

-- what a new `vault.cryptomator` with these ciphers says
abbrev pub made_vault : Combo → CmDraw → VaultFile
made_vault combo drawn =
    let signed : List ℕ = signed_text combo (id_of drawn.jti) in
    record {
      alg = Hs256;
      combo = combo;
      threshold = 220;
      signed = signed;
      signature = signature_of Hs256 (keys_of drawn) signed;
    }

-- the texts of new files are short, the first with a salt of eight bytes, and read as the files; the passphrase unlocks the drawn keys,
-- and the signature is theirs
pub record Return (pass : List ℕ) (cost : Cost) (combo : Combo) (drawn : CmDraw) : Type 0 where
  pub short_master : length drawn.salt ≡ 8 → length (master_text (made_master pass cost drawn) (version_mac drawn.mac version_bytes)) ≤ 65536
  pub short_vault : length (vault_text combo drawn) ≤ 65536
  pub master : ReadsMaster (master_text (made_master pass cost drawn) (version_mac drawn.mac version_bytes)) (Ok (made_master pass cost drawn))
  pub vault : vault_in (vault_text combo drawn) ≡ Ok (made_vault combo drawn)
  pub unlocked : Unlocks (made_master pass cost drawn) pass (keys_of drawn)
  pub signed : (made_vault combo drawn).signature ≡ signature_of (made_vault combo drawn).alg (keys_of drawn) (made_vault combo drawn).signed

abbrev pub MadeFilesReturn : Type 0
MadeFilesReturn = (pass : List ℕ) (cost : Cost) (combo : Combo) (drawn : CmDraw) → IsCost cost → IsDrawn drawn → Return pass cost combo drawn

-- a short text reads as a file whose passphrase unlocks the keys
pub record GivesBack (pass : List ℕ) (keys : CmKeys) (text : List ℕ) : Type 0 where
  pub file : MasterFile
  pub short : length text ≤ 65536
  pub read : ReadsMaster text (Ok file)
  pub unlocked : Unlocks file pass keys

-- the text for another passphrase, with a salt of eight bytes, gives back the keys that the old one unlocks
abbrev pub RewrappedTextReturns : Type 0
RewrappedTextReturns =
    (file : MasterFile) (pass new_pass : List ℕ) (cost : Cost) (salt text : List ℕ) (keys : CmKeys)
    → IsCost cost → length salt ≡ 8 → IsBytes salt → AreKeys keys
    → Unlocks file pass keys → Rewraps file pass new_pass cost salt text → GivesBack new_pass keys text
