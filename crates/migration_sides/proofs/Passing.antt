-- Tests that nothing but chance can fail: the folder, memory, or what else a fault says that may always come.
use Rattle.std.proofs.Common.{◌≡◌, inl, inr, Bool, IfErr, List, ℕ, Result, Ok, Err, MatchResult, refl, sym, subst, subst₂}
use Rattle.item_making.specs.Trees.{ShowsVault}
use Rattle.folder_spec.specs.Path.{Path}
use Rattle.folder_spec.specs.Seen.{under}
use Rattle.folder_spec.specs.View.{View}
use Rattle.migration_sides.specs.Causes.{Answer, Opens, TestsApart, TestsPair, Unless, Walks, WalksBoth, of_refusal}
use Rattle.migration_sides.specs.Faults.{of_walk}
use Rattle.migration_sides.specs.Sides.{opened_in}
use Rattle.migration_sides.specs.Tests.{PassesOr, Then, own}
use Rattle.migration_sides.specs.declared.fault.Side.TheVariants.{Source, Target}
use Rattle.migration_sides.specs.declared.fault.StepFault.{StepFault}
use Rattle.migration_sides.specs.declared.fault.StepFault.TheVariants.{Overlap}
use Rattle.move_journal.specs.Writing.{GivesBack}
use Rattle.move_journal.specs.declared.journal.Journal.{Journal}
use Rattle.move_journal.specs.declared.journal.JournalFault.{JournalFault}
use Rattle.move_journal.specs.declared.journal.JournalFault.TheVariants as journals
use Rattle.vault_faults.specs.declared.fault.Limit.TheVariants as limit
use Rattle.vault_read.specs.Laws.{HaveOneAnswer}
use Rattle.vault_read.specs.OwnFolders.{HasOwnFolders}
use Rattle.vault_spec.specs.Alike.{IsOrderly}
use Rattle.vault_spec.specs.Opened.{OpenedVault}
use Rattle.vault_spec.specs.Plan.{Planned}
use Rattle.vault_spec.specs.Vault.{Cryptomator, Gocryptfs, LoadRefusal, Loads, Vault, format_of}
use Rattle.vault_walk.specs.Surveyed.{IsPlanOf, IsWithin}
use Rattle.vault_walk.specs.declared.fault.WalkFault.{WalkFault}
use Rattle.vault_walk.specs.declared.fault.WalkFault.TheVariants as walk
use Rattle.folder_spec.specs.Apart.{AreApart, AreSeparate}
use Rattle.work_folder.specs.Entries.{HasNoForeign}
use Rattle.work_folder.specs.Looking.{TestsEntries}
use Rattle.work_folder.specs.declared.fault.WorkFault.{WorkFault}

abbrev pub Any : {X : Type 0} → X → Type 0
Any x = Unit {0}

-- such a value, unless chance has it otherwise
abbrev pub OnlyBy : {X G : Type 0} → (G → Type 0) → (X → Type 0) → Result X G → Type 0
OnlyBy Chance P answer = MatchResult answer P Chance

module _ {G : Type 0} (Chance : G → Type 0) where
  pub given : {X : Type 0} (P : X → Type 0) (x : X) (answer : Result X G) → P x → answer ≡ Ok x → OnlyBy Chance P answer
  given P x answer p is = subst (OnlyBy Chance P) (sym is) p

  pub if_only : {X : Type 0} (answer : Result X G) → OnlyBy Chance Any answer → IfErr answer Chance
  if_only (Ok x) only = tt
  if_only (Err fault) only = only

  pub only_or : (passes fails : Type 0) (fault : G) (answer : Result (Unit {0}) G) → ¬ fails → PassesOr passes fails fault answer → OnlyBy Chance Any answer
  only_or passes fails fault answer never (inl passed) = given Any tt answer tt passed.1
  only_or passes fails fault answer never (inr failed) = absurd (never failed.0)

  pub met : {X Y F : Type 0} (told : F → G) (test : Result X F → Type 0) (next : X → Result Y G → Type 0) (P : X → Type 0) (R : Y → Type 0) (answer : Result Y G)
      → ((tested : Result X F) → test tested → MatchResult tested P (λ why. Chance (told why))) → ((x : X) → P x → next x answer → OnlyBy Chance R answer) → Then told test next answer → OnlyBy Chance R answer
  met told test next P R answer only goes (Ok x, passed, n) = goes x (only (Ok x) passed) n
  met told test next P R answer only goes (Err why, refused, is) = subst (OnlyBy Chance R) (sym is) (only (Err why) refused)

-- ---- the journal, and what stands beside it

pub read_back : (Chance : JournalFault → Type 0) → Chance journals.Failed → Chance journals.NoMemory → (journal : Journal) (t : Result Journal JournalFault) → GivesBack journal t → OnlyBy Chance (λ k. k ≡ journal) t
read_back Chance failed memory journal (Ok k) back = back
read_back Chance failed memory journal (Err journals.NoJournal) back = absurd back
read_back Chance failed memory journal (Err (journals.BadJournal number)) back = absurd back
read_back Chance failed memory journal (Err journals.TooLarge) back = absurd back
read_back Chance failed memory journal (Err journals.Failed) back = failed
read_back Chance failed memory journal (Err journals.NoMemory) back = memory

pub entries_met : (Chance : WorkFault → Type 0) (old : Bool) (v : View) (work : Path) → HasNoForeign old v work → (t : Result (Unit {0}) WorkFault) → TestsEntries old v work t → OnlyBy Chance Any t
entries_met Chance old v work none t (inl passed) = subst (OnlyBy Chance Any) (sym passed.1) tt
entries_met Chance old v work none t (inr failed) = absurd (none failed.0 failed.1.foreign)

-- ---- the folders

pair_passes : (p q : Path) → AreApart p q → (t : Answer (Unit {0})) → TestsPair p q t → t ≡ Ok tt
pair_passes p q apart t (inl passed) = passed.1
pair_passes p q apart t (inr failed) = absurd (failed.0 apart)

then_passes : (test next : Answer (Unit {0}) → Type 0) (t : Answer (Unit {0})) → ((u : Answer (Unit {0})) → test u → u ≡ Ok tt) → Then own test (λ _. next) t → next t
then_passes test next t only (Ok done, passed, n) = n
then_passes test next t only (Err why, failed, is) = let clash : Err why ≡ Ok tt = only (Err why) failed in cc clash

apart_passes : (p q work : Path) → AreApart p q → AreApart p work → AreApart q work → (t : Answer (Unit {0})) → TestsApart p q work t → t ≡ Ok tt
apart_passes p q work one two three t tested =
    pair_passes q work three t
    (then_passes (TestsPair p work) (TestsPair q work) t (pair_passes p work two) (then_passes (TestsPair p q) (Then own (TestsPair p work) (λ _. TestsPair q work)) t (pair_passes p q one) tested))

pub apart_met : (Chance : StepFault → Type 0) (p q work : Path) → AreApart p q → AreApart p work → AreApart q work → (t : Answer (Unit {0})) → TestsApart p q work t → OnlyBy Chance Any t
apart_met Chance p q work one two three t tested = subst (OnlyBy Chance Any) (sym (apart_passes p q work one two three t tested)) tt

-- folders that don't overlap aren't told to do
pub none_overlap : (from to work first second : Path) → AreSeparate from to work → Unless {X = Unit {0}} (Err (Overlap first second)) (TestsApart from to work (Err (Overlap first second))) → ⊥
none_overlap from to work first second separate (inl failed) = cc
none_overlap from to work first second separate (inr (inl memory)) = cc
none_overlap from to work first second separate (inr (inr tested)) =
    let clash : Err (Overlap first second) ≡ Ok tt = apart_passes from to work separate.vaults separate.source separate.target (Err (Overlap first second)) tested in cc

-- ---- the vaults

loads_met : (Chance : LoadRefusal → Type 0) → HaveOneAnswer → (root : Path) (pass : List ℕ) (v : View) (vault : Vault) → Loads (under root v) pass (Ok vault) → (t : Result Vault LoadRefusal) → Loads (under root v) pass t
    → OnlyBy Chance (λ x. x ≡ vault) t
loads_met Chance one root pass v vault opens t loads = subst (OnlyBy Chance (λ x. x ≡ vault)) (sym (one (under root v) pass t (Ok vault) loads opens)) refl

pub both_open : {Y G : Type 0} (Chance : G → Type 0) (told : StepFault → G) → HaveOneAnswer → (a b : OpenedVault) (v : View) (from_pass to_pass : List ℕ) (next : OpenedVault → OpenedVault → Result Y G → Type 0) (answer : Result Y G)
    → Loads (under a.root v) from_pass (Ok a.vault) → Loads (under b.root v) to_pass (Ok b.vault) → (next a b answer → OnlyBy Chance Any answer) → Opens told v a.root b.root from_pass to_pass next answer → OnlyBy Chance Any answer
both_open Chance told one a b v from_pass to_pass next answer opens opens_too goes =
    met Chance (λ refusal. told (of_refusal Source a.root refusal)) (Loads (under a.root v) from_pass)
    (λ from. Then (λ refusal. told (of_refusal Target b.root refusal)) (Loads (under b.root v) to_pass) (λ to. next (opened_in a.root from) (opened_in b.root to))) (λ x. x ≡ a.vault) Any answer
    (loads_met (λ refusal. Chance (told (of_refusal Source a.root refusal))) one a.root from_pass v a.vault opens)
    (λ from is. met Chance (λ refusal. told (of_refusal Target b.root refusal)) (Loads (under b.root v) to_pass) (λ to. next (opened_in a.root from) (opened_in b.root to)) (λ x. x ≡ b.vault) Any answer
    (loads_met (λ refusal. Chance (told (of_refusal Target b.root refusal))) one b.root to_pass v b.vault opens_too)
    (λ to is_too with. goes (subst₂ (λ (x y : Vault). next (opened_in a.root x) (opened_in b.root y) answer) is is_too with)))

-- in a vault in good order no two directories share a folder
pub own_folders : (vault : Vault) (v : View) → IsOrderly (format_of vault) v → HasOwnFolders vault v
own_folders (Gocryptfs keys) v orderly = tt
own_folders (Cryptomator cm) v orderly = orderly.own_folder

module _ (Chance : WalkFault → Type 0) (a : OpenedVault) (v : View) (good : ShowsVault (format_of a.vault) a.root v) (within : IsWithin (format_of a.vault) (under a.root v)) where
  walks_met : (t : Result (List Planned) WalkFault) → Walks a v t → OnlyBy Chance (IsPlanOf a.root (format_of a.vault) (under a.root v)) t
  walks_met (Ok items) walked = walked.2 (own_folders a.vault (under a.root v) good.orderly)
  walks_met (Err (walk.Limit limit.Items)) walked = absurd (within.items walked)
  walks_met (Err (walk.Limit limit.Depth)) walked = absurd (within.depth walked.deep)
  walks_met (Err (walk.NotClean finding)) walked = absurd (good.clean walked.1.first.finding walked.1.first.at walked.1.of_structure walked.1.found)
  walks_met (Err (walk.Limit (limit.Length at))) walked = absurd walked
  walks_met (Err (walk.Limit limit.Input)) walked = absurd walked
  walks_met (Err walk.Failed) walked = absurd walked
  walks_met (Err walk.NoMemory) walked = absurd walked

-- both, and what follows of them
pub both_walked : {Y G : Type 0} (Chance : G → Type 0) (told : StepFault → G) (a b : OpenedVault) (v : View) (next : List Planned → List Planned → Result Y G → Type 0) (answer : Result Y G)
    → ShowsVault (format_of a.vault) a.root v → IsWithin (format_of a.vault) (under a.root v) → ShowsVault (format_of b.vault) b.root v → IsWithin (format_of b.vault) (under b.root v)
    → ((items there : List Planned) → IsPlanOf a.root (format_of a.vault) (under a.root v) items → IsPlanOf b.root (format_of b.vault) (under b.root v) there → next items there answer → OnlyBy Chance Any answer)
    → WalksBoth told a b v next answer → OnlyBy Chance Any answer
both_walked Chance told a b v next answer good within good_too within_too goes =
    met Chance (λ why. told (of_walk why)) (Walks a v) (λ items. Then (λ why. told (of_walk why)) (Walks b v) (λ there. next items there)) (IsPlanOf a.root (format_of a.vault) (under a.root v)) Any answer
    (walks_met (λ why. Chance (told (of_walk why))) a v good within)
    (λ items walk. met Chance (λ why. told (of_walk why)) (Walks b v) (λ there. next items there) (IsPlanOf b.root (format_of b.vault) (under b.root v)) Any answer
    (walks_met (λ why. Chance (told (of_walk why))) b v good_too within_too) (λ there walk_there. goes items there walk walk_there))
