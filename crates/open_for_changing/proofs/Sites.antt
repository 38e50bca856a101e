-- A vault is opened after a work folder was made ready, or why it isn't.
use Rattle.std.proofs.Common.{◌≡◌, List, ℕ, Option, Ok, Err, subst, IsTrue}
use Rattle.std.specs.Prelude.{MatchResult}
use Rattle.folder_spec.specs.Event.{Told}
use Rattle.folder_spec.specs.Region.{Spares, apart_from}
use Rattle.folder_spec.specs.Seen.{under}
use Rattle.folder_spec.specs.View.{View}
use Rattle.folder_spec.specs.Path.{Path}
use Rattle.folder_spec.proofs.Moments.{went_nowhere}
use Rattle.folder_spec.proofs.Tellings.{from_to_same}
use Rattle.vault_spec.specs.Vault.{Vault, Loads}
use Rattle.work_folder.specs.Entering.{EntersAs}
use Rattle.work_folder.specs.Looking as work
use Rattle.open_for_changing.proofs.Beginnings.{Begins, beginning_none}
use Rattle.open_for_reading.proofs.Refusals.{pass_gives, pass_then, unless_then, vault_by}
use Rattle.open_for_changing.specs.Faults.{of_work}
use Rattle.open_for_changing.specs.Beginning.{IsBeginning, ChangesWork, OfSite, OfWork}
use Rattle.open_for_reading.specs.Opening.{IsPhrase, OfPassFile, OfVault, Opens}
use Rattle.open_for_reading.specs.Refusing.{RefusesPass, RefusesVault}
use Rattle.open_for_changing.specs.Refusing.{RefusesSite, RefusesWork}
use Rattle.open_for_reading.specs.Shown.{refused}
use Rattle.open_for_reading.specs.Tests.{is_of_beginning, is_of_readying}
use Rattle.command_answers.specs.declared.answer.Answer.{Answer}
use Rattle.command_answers.specs.declared.answer.Answer.TheVariants.{Refused}
use Rattle.command_words.specs.declared.commands.Change.{Change}

-- ---- what follows

work_by : (at : Path) (answer : Answer) (P Q : Type 0) (entered : work.Looked) → (P → Q) → MatchResult entered (λ done. P) (λ fault. answer ≡ of_work at fault) → MatchResult entered (λ done. Q) (λ fault. answer ≡ of_work at fault)
work_by at answer P Q (Ok done) f x = f x
work_by at answer P Q (Err fault) f x = x

pub work_then : (v : View) (at : Path) (answer : Answer) (P Q : Type 0) → (P → Q) → OfWork v at answer P → OfWork v at answer Q
work_then v at answer P Q f of = (of.0, of.1, work_by at answer P Q of.0 f of.2)

pub site_then : (change : Change) (v : View) (answer : Answer) (P Q : Vault → Type 0) → ((vault : Vault) → P vault → Q vault) → OfSite change v answer P → OfSite change v answer Q
site_then change v answer P Q f x =
    pass_then change.target.pass (v change.target.pass) (refused answer) _ _
    (λ phrase of. work_then v change.work answer _ _ (λ loads. (loads.0, loads.1, vault_by change.target.vault (refused answer) P Q loads.0 f loads.2)) of) x

-- nothing has changed yet
pub begins_nowhere : (work : Path) (t u : Option Told) → u ≡ t → ChangesWork work t u
begins_nowhere work t u same = from_to_same (Begins work) t u same (λ a. went_nowhere (IsBeginning work a.state) (λ s e. Spares (apart_from work) e.call) a (beginning_none work a.state))

-- what may be answered before a vault is opened may be where one is
pub readied_begins : (answer : Answer) → IsTrue (is_of_readying answer) → IsTrue (is_of_beginning answer)
readied_begins (Refused at why) own = cc
readied_begins answer own = cc

module _ (change : Change) (v : View) where
  -- the vault is opened in a later view, which shows the same at its root
  pub site_opens : (w : View) (phrase : List ℕ) (vault : Vault) → under change.target.vault w ≡ under change.target.vault v → IsPhrase (v change.target.pass) phrase
      → Loads (under change.target.vault w) phrase (Ok vault) → Opens v change.target.vault change.target.pass vault
  site_opens w phrase vault same is loads = (phrase, is, subst (λ shown. Loads shown phrase (Ok vault)) same loads)

  pub site_refused : (w : View) (phrase : List ℕ) (answer : Answer) → under change.target.vault w ≡ under change.target.vault v → IsPhrase (v change.target.pass) phrase → EntersAs v change.work (Ok tt)
      → RefusesVault w change.target.vault phrase answer → RefusesSite change v answer
  site_refused w phrase answer same is entered refuses =
      unless_then (OfVault w change.target.vault phrase (refused answer) (λ vault. ⊥)) (OfSite change v answer (λ vault. ⊥)) answer
      (λ of. pass_gives change.target.pass (v change.target.pass) (refused answer)
      (λ phrase. OfWork v change.work answer (OfVault v change.target.vault phrase (refused answer) (λ vault. ⊥))) phrase is
      (Ok tt, entered, (of.0, subst (λ shown. Loads shown phrase of.0) same of.1, of.2))) refuses

  pub site_unready : (phrase : List ℕ) (answer : Answer) → IsPhrase (v change.target.pass) phrase → RefusesWork v change.work answer → RefusesSite change v answer
  site_unready phrase answer is refuses =
      unless_then (OfWork v change.work answer ⊥) (OfSite change v answer (λ vault. ⊥)) answer
      (λ of. pass_gives change.target.pass (v change.target.pass) (refused answer)
      (λ phrase. OfWork v change.work answer (OfVault v change.target.vault phrase (refused answer) (λ vault. ⊥))) phrase is (work_then v change.work answer ⊥ _ (λ none. absurd none) of)) refuses

  pub site_unread : (answer : Answer) → RefusesPass change.target.pass (v change.target.pass) answer → RefusesSite change v answer
  site_unread answer refuses =
      unless_then (OfPassFile change.target.pass (v change.target.pass) (refused answer) (λ phrase. ⊥)) (OfSite change v answer (λ vault. ⊥)) answer
      (pass_then change.target.pass (v change.target.pass) (refused answer) (λ phrase. ⊥)
      (λ phrase. OfWork v change.work answer (OfVault v change.target.vault phrase (refused answer) (λ vault. ⊥))) (λ phrase none. absurd none)) refuses
