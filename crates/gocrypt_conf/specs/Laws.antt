-- Laws of configurations.
use Rattle.std.specs.Prelude.{◌≡◌, ℕ, ◌≤◌, List, length, Ok}
use Rattle.base64.specs.GeneralPurpose.{IsBytes}
use Rattle.kdf_suite.specs.ScryptCost.{Cost, IsCost}
use Rattle.gocrypt_conf.specs.declared.conf.GoConf.{GoConf}
use Rattle.gocrypt_conf.specs.declared.conf.GoDraw.{GoDraw}
use Rattle.vault_values.specs.declared.keys.GoKeys.{GoKeys}
use Rattle.gocrypt_conf.specs.Keys.{keys_of}
use Rattle.gocrypt_conf.specs.MasterKey.{Unlocks}
use Rattle.gocrypt_conf.specs.Tests.{ReadConf, ReadsAs}
use Rattle.gocrypt_conf.specs.Text.{conf_text, made_conf, Reseals}

-- bytes have one answer at most
abbrev pub HaveOneAnswer : Type 0
HaveOneAnswer = (bytes : List ℕ) (a b : ReadConf) → ReadsAs bytes a → ReadsAs bytes b → a ≡ b

-- a passphrase unlocks one pair of keys at most
abbrev pub UnlocksOnePair : Type 0
UnlocksOnePair =
    (conf : GoConf) (pass : List ℕ) (keys other : GoKeys) → Unlocks conf pass keys → Unlocks conf pass other → keys ≡ other

-- a drawn master key of 32 bytes, a salt of 32 and a nonce of 16
pub record IsDrawn (drawn : GoDraw) : Type 0 where
  pub master_size : length drawn.master ≡ 32
  pub master_bytes : IsBytes drawn.master
  pub salt_size : length drawn.salt ≡ 32
  pub salt_bytes : IsBytes drawn.salt
  pub nonce_size : length drawn.nonce ≡ 16
  pub nonce_bytes : IsBytes drawn.nonce

-- the text of a new configuration is short and reads as the configuration, and its passphrase unlocks the keys of the drawn
-- master key
pub record Returns (pass : List ℕ) (cost : Cost) (drawn : GoDraw) : Type 0 where
  pub short : length (conf_text (made_conf pass cost drawn)) ≤ 65536
  pub read : ReadsAs (conf_text (made_conf pass cost drawn)) (Ok (made_conf pass cost drawn))
  pub unlocked : Unlocks (made_conf pass cost drawn) pass (keys_of drawn.master)

abbrev pub MadeTextReturns : Type 0
MadeTextReturns = (pass : List ℕ) (cost : Cost) (drawn : GoDraw) → IsCost cost → IsDrawn drawn → Returns pass cost drawn

-- a short text reads as a configuration whose passphrase unlocks the keys
pub record GivesBack (pass : List ℕ) (keys : GoKeys) (text : List ℕ) : Type 0 where
  pub conf : GoConf
  pub short : length text ≤ 65536
  pub read : ReadsAs text (Ok conf)
  pub unlocked : Unlocks conf pass keys

-- the text for another passphrase, with a salt of 32 bytes and a nonce of 16, gives back the keys that the old one unlocks
abbrev pub ResealedTextReturns : Type 0
ResealedTextReturns =
    (conf : GoConf) (pass new_pass : List ℕ) (cost : Cost) (salt nonce text : List ℕ) (keys : GoKeys)
    → IsCost cost → length salt ≡ 32 → IsBytes salt → length nonce ≡ 16 → IsBytes nonce
    → Unlocks conf pass keys → Reseals conf pass new_pass cost salt nonce text → GivesBack new_pass keys text
