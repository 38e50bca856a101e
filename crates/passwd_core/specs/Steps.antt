-- Words of private contracts: what the steps of a change of passphrase say.
use Rattle.std.specs.Prelude.{◌≡◌, ℕ, List, Option, Result, Ok, Err, IfOk}
use Rattle.folder_spec.specs.View.{Found, View}
use Rattle.port_model.specs.Draws.{ByteStream, Draws}
use Rattle.vault_read.specs.Opened.{kind_of}
use Rattle.vault_read.specs.declared.fault.LoadFault.TheVariants as load
use Rattle.vault_read.specs.declared.vault.VaultKind.{VaultKind}
use Rattle.vault_read.specs.declared.vault.VaultKind.TheVariants as kind
use Rattle.vault_spec.specs.Vault.{Vault, IsVault}
use Rattle.passwd_core.specs.declared.drawing.GoFresh.{GoFresh}
use Rattle.passwd_core.specs.declared.fault.PassFault.{PassFault}
use Rattle.passwd_core.specs.declared.fault.PassFault.TheVariants.{Load, ZeroRandom, Random, Failed, NoMemory}
use Rattle.passwd_core.specs.declared.reading.KeyFile.{KeyFile}
use Rattle.passwd_core.specs.Drawing.{Fresh, ForGocryptfs, HasSizes, DrewAll, DrewZeros, DrewFront}
use Rattle.passwd_core.specs.KeyFiles.{kind_of_file, HoldsKeys, UnlocksKeys, Rewrites, GivesKeys, IsFor}

-- the root and the passphrase are a vault of this kind
abbrev pub OpensAs : VaultKind → View → List ℕ → Type 0
OpensAs kind v pass = (vault : Vault) × IsVault v pass vault × (kind ≡ kind_of vault)

-- a file that holds keys is there
abbrev pub HoldsSome : VaultKind → Found → Type 0
HoldsSome kind there = (file : KeyFile) × HoldsKeys kind there file

-- What was drawn for the text of a file, by the answer: the passphrase is refused behind the drawing, and unlocks no keys then.
abbrev pub DrewFor : KeyFile → List ℕ → Fresh → List ℕ → Result (List ℕ) PassFault → Type 0
DrewFor file pass fresh drawn (Ok text) = DrewAll fresh drawn
DrewFor file pass fresh drawn (Err (Load fault)) = DrewAll fresh drawn × (fault ≡ load.WrongPass) × ((vault : Vault) → ¬ UnlocksKeys file pass vault)
DrewFor file pass fresh drawn (Err ZeroRandom) = DrewZeros fresh drawn
DrewFor file pass fresh drawn (Err Random) = DrewFront fresh drawn
DrewFor file pass fresh drawn (Err Failed) = ⊥
DrewFor file pass fresh drawn (Err NoMemory) = DrewAll fresh drawn

-- A text is made for another passphrase, of the same keys.
pub record DrawsText (file : KeyFile) (pass new_pass : List ℕ) (stream stream' : Option ByteStream) (result : Result (List ℕ) PassFault) : Type 0 where
  pub fresh : Fresh
  pub drawn : List ℕ
  pub sizes : HasSizes fresh
  pub were_drawn : Draws stream stream' drawn
  pub is_for : IsFor (kind_of_file file) fresh
  pub drew : DrewFor file pass fresh drawn result
  pub text : IfOk result (λ text. Rewrites file pass new_pass fresh text)
  pub gives : IfOk result (λ text. (vault : Vault) → UnlocksKeys file pass vault → GivesKeys new_pass vault text)

-- what is drawn for a gocryptfs vault, or why it isn't
abbrev pub DrewGo : Fresh → List ℕ → Result GoFresh PassFault → Type 0
DrewGo fresh drawn (Ok parts) = DrewAll fresh drawn × (fresh ≡ ForGocryptfs parts.salt parts.nonce)
DrewGo fresh drawn (Err ZeroRandom) = DrewZeros fresh drawn
DrewGo fresh drawn (Err Random) = DrewFront fresh drawn
DrewGo fresh drawn (Err (Load fault)) = ⊥
DrewGo fresh drawn (Err Failed) = ⊥
DrewGo fresh drawn (Err NoMemory) = ⊥

pub record DrawsGo (stream stream' : Option ByteStream) (result : Result GoFresh PassFault) : Type 0 where
  pub fresh : Fresh
  pub drawn : List ℕ
  pub sizes : HasSizes fresh
  pub were_drawn : Draws stream stream' drawn
  pub is_for : IsFor kind.Gocryptfs fresh
  pub drew : DrewGo fresh drawn result
