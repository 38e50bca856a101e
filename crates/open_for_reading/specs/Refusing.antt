-- Words of private contracts: why a vault isn't opened for a command.
use Rattle.std.specs.Prelude.{◌≡◌, ◌⊎◌, ℕ, List}
use Rattle.folder_spec.specs.Path.{Path}
use Rattle.folder_spec.specs.View.{Found, View}
use Rattle.vault_read.specs.declared.fault.LoadFault.{LoadFault}
use Rattle.open_for_reading.specs.Faults.{of_load}
use Rattle.open_for_reading.specs.Opening.{OfPassFile, OfVault, OfOpened}
use Rattle.open_for_reading.specs.Shown.{refused}
use Rattle.command_answers.specs.declared.answer.Answer.{Answer}
use Rattle.command_answers.specs.declared.answer.Answer.TheVariants.{OutOfMemory, FolderFault}

-- unless the folder failed or memory was refused
abbrev pub Unless : Answer → Type 0 → Type 0
Unless answer P = (answer ≡ FolderFault) ⊎ ((answer ≡ OutOfMemory) ⊎ P)

abbrev pub RefusesPass : Path → Found → Answer → Type 0
RefusesPass at there answer = Unless answer (OfPassFile at there (refused answer) (λ phrase. ⊥))

abbrev pub RefusesOpening : View → Path → Path → Answer → Type 0
RefusesOpening v root pass answer = Unless answer (OfOpened v root pass (refused answer) (λ vault. ⊥))

abbrev pub RefusesVault : View → Path → List ℕ → Answer → Type 0
RefusesVault v root phrase answer = Unless answer (OfVault v root phrase (refused answer) (λ vault. ⊥))

abbrev pub RefusesLoad : Path → LoadFault → Answer → Type 0
RefusesLoad root fault answer = (answer ≡ OutOfMemory) ⊎ (answer ≡ of_load root fault)
