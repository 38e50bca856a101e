-- A vault's passphrase is being changed: a crash leaves the vault with the old one or with the new one.
use Rattle.std.specs.Prelude.{◌≡◌, ◌≢◌, ◌⊎◌, ℕ, List, [], Option, Result, Ok, Err, OnOk, IsTrue}
use Rattle.folder_spec.specs.Path.{Path}
use Rattle.folder_spec.specs.State.{State, HasNothingPendingIn}
use Rattle.folder_spec.specs.Image.{Image, IsImage}
use Rattle.folder_spec.specs.Event.{Event, Told, FromTo}
use Rattle.folder_spec.specs.Moments.{Moments}
use Rattle.folder_spec.specs.Region.{IsAsBefore, SparesOld, apart_from, apart_from_both}
use Rattle.folder_spec.specs.Seen.{IfSeen, seen, under}
use Rattle.folder_spec.specs.View.{FileOf, View, view_of}
use Rattle.port_model.specs.Draws.{ByteStream, Draws}
use Rattle.vault_read.specs.Loading.{RefusesLoading}
use Rattle.vault_read.specs.Opened.{kind_of}
use Rattle.vault_read.specs.declared.vault.VaultKind.{VaultKind}
use Rattle.vault_spec.specs.Vault.{Vault, Loads, IsVault}
use Rattle.work_folder.specs.Setting.{beside, staged_file}
use Rattle.passwd_core.specs.declared.fault.PassFault.{PassFault}
use Rattle.passwd_core.specs.declared.fault.PassFault.TheVariants.{Load, ZeroRandom, Random, Failed, NoMemory}
use Rattle.passwd_core.specs.declared.reading.KeyFile.{KeyFile}
use Rattle.passwd_core.specs.Drawing.{Fresh, HasSizes, Drew}
use Rattle.passwd_core.specs.Faults.{IsOfMachine}
use Rattle.passwd_core.specs.KeyFiles.{key_path, HoldsKeys, Rewrites, IsFor}

-- In what a crash left, the old passphrase or the new one opens the vault that it was, and all outside the work folder but the file that
-- holds the keys is as it was seen.
pub record IsRekeyed (work root : Path) (vault : Vault) (pass new_pass : List ℕ) (s : State) (image : Image) : Type 0 where
  pub opens : IsVault (under root (view_of image)) pass vault ⊎ IsVault (under root (view_of image)) new_pass vault
  pub others : (p : Path) → IsTrue (apart_from work p) → p ≢ key_path root (kind_of vault) → view_of image p ≡ seen s p

-- Since s0 the passphrase is being changed: nothing but the vault and what is in the work folder at this path is, and where nothing was
-- pending outside the work folder at s0, every crash leaves the vault of then rekeyed.
pub record IsRekeying (work staged root : Path) (pass new_pass : List ℕ) (s0 s : State) : Type 0 where
  pub others : IsAsBefore (apart_from_both staged root) s0 s
  pub images : (vault : Vault) → IsVault (under root (seen s0)) pass vault → HasNothingPendingIn (apart_from work) s0
      → (image : Image) → IsImage s image → IsRekeyed work root vault pass new_pass s0 image

-- The call spares all but the file that holds the keys and the one that is staged, and the files of then.
abbrev pub SparesOthers : Path → Path → List ℕ → State → State → Event → Type 0
SparesOthers work root pass s0 s e =
    (vault : Vault) → IsVault (under root (seen s0)) pass vault → SparesOld (beside work (key_path root (kind_of vault))) s0 s e.call

-- The passphrase has been changed since s0: the file that holds the keys is a new one, under what was drawn, in whatever a crash leaves,
-- and no directory change is pending. So where nothing was pending outside the work folder, nothing is, and the new passphrase opens the
-- vault of then in whatever a crash leaves.
pub record HasRekeyed (work root : Path) (pass new_pass : List ℕ) (fresh : Fresh) (s0 s : State) : Type 0 where
  pub kind : VaultKind
  pub file : KeyFile
  pub held : HoldsKeys kind (seen s0 (key_path root kind)) file
  pub text : List ℕ
  pub written : Rewrites file pass new_pass fresh text
  pub shown : (image : Image) → IsImage s image → view_of image (key_path root kind) ≡ FileOf text
  pub settled : s.later ≡ []
  pub nothing_pending : HasNothingPendingIn (apart_from work) s0 → HasNothingPendingIn (apart_from work) s
  pub opens : (vault : Vault) → IsVault (under root (seen s0)) pass vault → HasNothingPendingIn (apart_from work) s0
      → (image : Image) → IsImage s image → IsVault (under root (view_of image)) new_pass vault

-- the root and the passphrase are a vault
abbrev pub Opens : View → List ℕ → Type 0
Opens v pass = (vault : Vault) × IsVault v pass vault

-- What is answered, by what the root and the old passphrase are: a refusal is that of opening the vault. The folder may fail, and memory
-- may be refused, whatever they are.
abbrev pub Answers : Path → View → List ℕ → Result (Unit {0}) PassFault → Type 0
Answers root v pass (Ok done) = Opens v pass
Answers root v pass (Err (Load fault)) = RefusesLoading root (Loads v pass) fault
Answers root v pass (Err ZeroRandom) = Opens v pass
Answers root v pass (Err Random) = Opens v pass
Answers root v pass (Err Failed) = Unit {0}
Answers root v pass (Err NoMemory) = Unit {0}

-- that the folder failed or memory was refused is told as such
abbrev pub IsTold : Result (Unit {0}) PassFault → Type 0
IsTold (Ok done) = Unit {0}
IsTold (Err (Load fault)) = ¬ IsOfMachine fault
IsTold (Err ZeroRandom) = Unit {0}
IsTold (Err Random) = Unit {0}
IsTold (Err Failed) = Unit {0}
IsTold (Err NoMemory) = Unit {0}

-- it was refused before the file was set
abbrev pub IsEarly : Result (Unit {0}) PassFault → Type 0
IsEarly (Ok done) = ⊥
IsEarly (Err (Load fault)) = Unit {0}
IsEarly (Err ZeroRandom) = Unit {0}
IsEarly (Err Random) = Unit {0}
IsEarly (Err Failed) = ⊥
IsEarly (Err NoMemory) = ⊥

-- A call changes the passphrase of the vault at a root. What it draws is for a vault of that format.
pub record ChangesPass (work root : Path) (pass new_pass : List ℕ) (stream stream' : Option ByteStream) (before after : Option Told) (result : Result (Unit {0}) PassFault) : Type 0 where
  pub fresh : Fresh
  pub drawn : List ℕ
  pub sizes : HasSizes fresh
  pub were_drawn : Draws stream stream' drawn
  pub drew : Drew before fresh drawn result
  pub suits : (drawn ≡ []) ⊎ IfSeen before (λ v. (vault : Vault) → IsVault (under root v) pass vault → IsFor (kind_of vault) fresh)
  pub answer : IfSeen before (λ v. Answers root (under root v) pass result)
  pub told : IsTold result
  pub early : IsEarly result → after ≡ before
  pub moments : Moments (IsRekeying work (staged_file work) root pass new_pass) (SparesOthers work root pass) before after
  pub done : OnOk result (FromTo (λ a b. HasRekeyed work root pass new_pass fresh a.state b.state) before after)
