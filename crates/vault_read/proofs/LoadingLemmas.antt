-- What the tests of a vault's files say, from what was seen of them.
use Rattle.std.proofs.Common.{◌≡◌, ℕ, Bool, true, false, nat_le, List, ◌++◌, length, Err, sym, subst}
use Rattle.std.proofs.lemmas.Bool.{le-leb}
use Rattle.folder_spec.specs.declared.FolderFault.{FolderFault}
use Rattle.folder_spec.specs.declared.FolderFault.TheVariants as folder
use Rattle.folder_spec.specs.Path.{Path}
use Rattle.folder_spec.specs.View.{Found, NoEntry, Folder, FileOf, Special, View}
use Rattle.folder_spec.specs.Seen.{under}
use Rattle.folder_model.specs.Answers.{CountsAbove}
use Rattle.port_model.specs.Counts.{CountRose}
use Rattle.vault_spec.specs.Vault.{Loaded, Either, OfFile, LoadsGo, LoadsCm, TestsGo, TestsCm, go_conf, master_file, vault_file}
use Rattle.vault_spec.specs.Vault as spec
use Rattle.vault_read.specs.declared.fault.LoadFault.{LoadFault}
use Rattle.vault_read.specs.declared.fault.LoadFault.TheVariants.{Missing, WrongKind, TooLarge, Go, Cm, WrongPass, BadSignature, Failed, NoMemory}
use Rattle.vault_read.specs.Loading.{of_folder, RefusesLoading, IsSmallFile, LacksFile}

-- ---- refusals

-- a refusal by some tests is one by those that follow from them
pub refuses_as : (root : Path) (Tests Others : Loaded → Type 0) (fault : LoadFault) → ((answer : Loaded) → Tests answer → Others answer)
    → RefusesLoading root Tests fault → RefusesLoading root Others fault
refuses_as root Tests Others (Missing at) follow (rest, is, told) = (rest, is, follow (Err (spec.Missing rest)) told)
refuses_as root Tests Others (WrongKind at) follow (rest, is, told) = (rest, is, follow (Err (spec.WrongKind rest)) told)
refuses_as root Tests Others (TooLarge at) follow (rest, is, told) = (rest, is, follow (Err (spec.TooLarge rest)) told)
refuses_as root Tests Others (Go fault) follow told = follow (Err (spec.GoRefused fault)) told
refuses_as root Tests Others (Cm at fault) follow (rest, is, told) = (rest, is, follow (Err (spec.CmRefused rest fault)) told)
refuses_as root Tests Others WrongPass follow told = follow (Err spec.WrongPass) told
refuses_as root Tests Others BadSignature follow told = follow (Err spec.BadSignature) told
refuses_as root Tests Others Failed follow told = tt
refuses_as root Tests Others NoMemory follow told = tt

-- ---- counts

pub above_failed : (T : Type 0) (before after : ℕ) (fault : FolderFault) → CountsAbove {T = T} before after (Err fault) → of_folder fault ≡ Failed → CountRose before after
above_failed T before after folder.Failed h is = h.1
above_failed T before after folder.Refused h is = h.1
above_failed T before after folder.NoMemory h is = cc is

-- ---- files

either_true : (b : Bool) (A B : Type 0) → b ≡ true → A → Either b A B
either_true true A B is a = a
either_true false A B is a = cc is

either_as : (b : Bool) (A B C : Type 0) → (A → C) → Either b A B → Either b C B
either_as true A B C follow a = follow a
either_as false A B C follow a = a

-- a file that was read
pub of_file : (at : Path) (there : Found) (bytes : List ℕ) (answer : Loaded) (Next : List ℕ → Type 0) → IsSmallFile there bytes → Next bytes → OfFile at there answer Next
of_file at there bytes answer Next (is, few) next =
    subst (λ (x : Found). OfFile at x answer Next) (sym is) (either_true (nat_le (length bytes) 65536) (Next bytes) (answer ≡ Err (spec.TooLarge at)) (le-leb (length bytes) 65536 few) next)

-- none that could be read
pub lacks_as : (at : Path) (there : Found) (answer : Loaded) (Next : List ℕ → Type 0) → LacksFile at there answer → OfFile at there answer Next
lacks_as at NoEntry answer Next h = h
lacks_as at Folder answer Next h = h
lacks_as at Special answer Next h = h
lacks_as at (FileOf bytes) answer Next h = either_as (nat_le (length bytes) 65536) ⊥ (answer ≡ Err (spec.TooLarge at)) (Next bytes) (λ none. absurd none) h

-- the tests of a gocryptfs vault behind its configuration, and those of a Cryptomator vault behind its two files
module _ (root : Path) (v : View) (pass : List ℕ) where
  pub loads_go : (bytes : List ℕ) (answer : Loaded) → IsSmallFile (v (root ++ go_conf)) bytes → TestsGo bytes pass answer → LoadsGo (under root v) pass answer
  loads_go bytes answer file tests = of_file go_conf (v (root ++ go_conf)) bytes answer (λ b. TestsGo b pass answer) file tests

  pub lacks_go : (answer : Loaded) → LacksFile go_conf (v (root ++ go_conf)) answer → LoadsGo (under root v) pass answer
  lacks_go answer h = lacks_as go_conf (v (root ++ go_conf)) answer (λ b. TestsGo b pass answer) h

  pub loads_cm : (master vault : List ℕ) (answer : Loaded) → IsSmallFile (v (root ++ master_file)) master → IsSmallFile (v (root ++ vault_file)) vault → TestsCm master vault pass answer
      → LoadsCm (under root v) pass answer
  loads_cm master vault answer first second tests =
      of_file master_file (v (root ++ master_file)) master answer (λ m. OfFile vault_file (v (root ++ vault_file)) answer (λ b. TestsCm m b pass answer)) first
      (of_file vault_file (v (root ++ vault_file)) vault answer (λ b. TestsCm master b pass answer) second tests)

  pub lacks_vault : (master : List ℕ) (answer : Loaded) → IsSmallFile (v (root ++ master_file)) master → LacksFile vault_file (v (root ++ vault_file)) answer → LoadsCm (under root v) pass answer
  lacks_vault master answer first h =
      of_file master_file (v (root ++ master_file)) master answer (λ m. OfFile vault_file (v (root ++ vault_file)) answer (λ b. TestsCm m b pass answer)) first
      (lacks_as vault_file (v (root ++ vault_file)) answer (λ b. TestsCm master b pass answer) h)

  pub lacks_master : (answer : Loaded) → LacksFile master_file (v (root ++ master_file)) answer → LoadsCm (under root v) pass answer
  lacks_master answer h =
      lacks_as master_file (v (root ++ master_file)) answer (λ m. OfFile vault_file (v (root ++ vault_file)) answer (λ b. TestsCm m b pass answer)) h
