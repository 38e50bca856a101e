-- `passwd`: another passphrase for a vault.
use Rattle.std.specs.Prelude.{◌≡◌, ◌⊎◌, ℕ, List, [], Option, Result, Ok, Err, OnOk}
use Rattle.std.specs.Io.KnownBytes.{Keeps}
use Rattle.folder_spec.specs.Event.{Told, FromTo}
use Rattle.folder_spec.specs.Moments.{Moments}
use Rattle.folder_spec.specs.Path.{Path}
use Rattle.folder_spec.specs.Region.{Spares, apart_from}
use Rattle.folder_spec.specs.Seen.{IfSeen, under}
use Rattle.folder_spec.specs.View.{View}
use Rattle.port_model.specs.Draws.{ByteStream, Draws}
use Rattle.vault_read.specs.Opened.{kind_of}
use Rattle.vault_spec.specs.Vault.{IsVault, Vault}
use Rattle.passwd_core.specs.declared.fault.PassFault.{PassFault}
use Rattle.passwd_core.specs.declared.fault.PassFault.TheVariants as fault
use Rattle.passwd_core.specs.Drawing.{Fresh, HasSizes, Drew}
use Rattle.passwd_core.specs.KeyFiles.{IsFor}
use Rattle.passwd_core.specs.Rekeying.{HasRekeyed, IsEarly, IsRekeying, SparesOthers}
use Rattle.open_for_changing.specs.Beginning.{ChangesOnlyWork, MakesBeside, OfWork}
use Rattle.open_for_reading.specs.Faults.{of_load}
use Rattle.open_for_reading.specs.Opening.{IsPhrase, OfPassFile, OfVault}
use Rattle.open_for_reading.specs.Shown.{refused}
use Rattle.open_for_reading.specs.Tests.{is_of_readying}
use Rattle.open_for_reading.specs.World.{World}
use Rattle.command_answers.specs.declared.answer.Answer.{Answer}
use Rattle.command_answers.specs.declared.answer.Answer.TheVariants.{Done, FolderFault, OutOfMemory, RandomFault, ZeroRandom}
use Rattle.command_words.specs.declared.commands.NewPass.{NewPass}

-- the answer to a passphrase that is changed, or isn't
abbrev pub answer_to_change : Path → Result (Unit {0}) PassFault → Answer
answer_to_change root (Ok done) = Done
answer_to_change root (Err (fault.Load why)) = of_load root why
answer_to_change root (Err fault.ZeroRandom) = ZeroRandom
answer_to_change root (Err fault.Random) = RandomFault
answer_to_change root (Err fault.Failed) = FolderFault
answer_to_change root (Err fault.NoMemory) = OutOfMemory

-- where all tests pass, the passphrase is changed, or the random source fails or gives zeros
abbrev pub IsOfRekeying : Answer → Type 0
IsOfRekeying answer = (answer ≡ Done) ⊎ ((answer ≡ RandomFault) ⊎ (answer ≡ ZeroRandom))

-- The tests of `passwd` behind that of overlapping folders, by what is seen at first: the files of both passphrases, the work folder, the
-- vault.
abbrev pub OfNewPass : NewPass → View → Answer → Type 0
OfNewPass new v answer =
    OfPassFile new.pass (v new.pass) (refused answer) (λ phrase.
    OfPassFile new.new_pass (v new.new_pass) (refused answer) (λ new_phrase.
    OfWork v new.work answer (OfVault v new.vault phrase (refused answer) (λ vault. IsOfRekeying answer))))

-- The passphrase of the vault is changed. Where nothing was pending outside the work folder at first, every crash leaves the vault with the
-- old passphrase or with the new one, and after Ok with the new one. Where it is refused before that, nothing but the work folder is changed.
pub record RekeysVault (new : NewPass) (answer : Answer) (told told' : Option Told) (stream stream' : Option ByteStream) : Type 0 where
  pub phrase : List ℕ
  pub reads : IfSeen told (λ v. IsPhrase (v new.pass) phrase)
  pub new_phrase : List ℕ
  pub reads_new : IfSeen told (λ v. IsPhrase (v new.new_pass) new_phrase)
  pub result : Result (Unit {0}) PassFault
  pub is : (answer ≡ OutOfMemory) ⊎ (answer ≡ answer_to_change new.vault result)
  pub done : answer ≡ Done → result ≡ Ok tt
  pub fresh : Fresh
  pub drawn : List ℕ
  pub sizes : HasSizes fresh
  pub were_drawn : Draws stream stream' drawn
  pub drew : Drew told fresh drawn result
  pub suits : (drawn ≡ []) ⊎ IfSeen told (λ v. (vault : Vault) → IsVault (under new.vault v) phrase vault → IsFor (kind_of vault) fresh)
  pub early : IsEarly result → ChangesOnlyWork new.work told told'
  pub moments : Moments (IsRekeying new.work new.work new.vault phrase new_phrase)
      (λ s0 s e. Spares (apart_from new.work) e.call ⊎ SparesOthers new.work new.vault phrase s0 s e) told told'
  pub rekeyed : OnOk result (FromTo (λ a b. HasRekeyed new.work new.vault phrase new_phrase fresh a.state b.state) told told')

-- `passwd`, which takes nothing of the input and writes nothing
pub record ChangesPassphrase (new : NewPass) (answer : Answer) (before after : World) : Type 0 where
  pub changes : MakesBeside is_of_readying new.vault new.work (λ v. OfNewPass new v answer) (RekeysVault new answer before.told after.told before.random after.random) answer before after
  pub untouched : Keeps before.left after.left
