-- Why a step of a migration refuses: its tests in order, by what is seen at first.
use Rattle.std.specs.Prelude.{◌++◌, ℕ, List, Result, Ok, Err}
use Rattle.folder_spec.specs.Path.{Path}
use Rattle.folder_spec.specs.Seen.{under}
use Rattle.folder_spec.specs.View.{View}
use Rattle.folder_spec.specs.Apart.{AreApart}
use Rattle.migration_sides.specs.Faults.{of_walk}
use Rattle.migration_sides.specs.Sides.{opened_in}
use Rattle.migration_sides.specs.Tests.{PassesOr, Then, UnlessBy, own}
use Rattle.migration_sides.specs.declared.fault.Side.{Side}
use Rattle.migration_sides.specs.declared.fault.Side.TheVariants.{Source, Target}
use Rattle.migration_sides.specs.declared.fault.StepFault.{StepFault}
use Rattle.migration_sides.specs.declared.fault.StepFault.TheVariants.{Overlap, Load, Failed, NoMemory}
use Rattle.vault_read.specs.OwnFolders.{HasOwnFolders}
use Rattle.vault_spec.specs.Opened.{OpenedVault}
use Rattle.vault_faults.specs.declared.fault.Limit.TheVariants as limit
use Rattle.vault_read.specs.declared.fault.LoadFault.{LoadFault}
use Rattle.vault_read.specs.declared.fault.LoadFault.TheVariants as load
use Rattle.vault_spec.specs.Findings.{IsClean}
use Rattle.vault_spec.specs.Plan.{Planned}
use Rattle.vault_spec.specs.Vault.{LoadRefusal, Loads, format_of}
use Rattle.vault_spec.specs.Vault as vault
use Rattle.vault_walk.specs.Survey.{HasTooMany}
use Rattle.vault_walk.specs.Surveyed.{IsFirstFinding, IsOnlyTooDeep, IsPlanOf, IsWithin}
use Rattle.vault_walk.specs.declared.fault.WalkFault.{WalkFault}
use Rattle.vault_walk.specs.declared.fault.WalkFault.TheVariants as walk

-- what a step may answer
abbrev pub Answer : Type 0 → Type 0
Answer X = Result X StepFault

-- the folder may always fail, and memory run out
abbrev pub Unless : {X : Type 0} → Answer X → Type 0 → Type 0
Unless answer P = UnlessBy Failed NoMemory answer P

-- ---- the folders

abbrev pub TestsPair : Path → Path → Answer (Unit {0}) → Type 0
TestsPair p q = PassesOr (AreApart p q) (¬ AreApart p q) (Overlap p q)

-- no two of the three folders overlap
abbrev pub TestsApart : Path → Path → Path → Answer (Unit {0}) → Type 0
TestsApart from to work = Then own (TestsPair from to) (λ _. Then own (TestsPair from work) (λ _. TestsPair to work))

-- ---- the vaults

-- why a vault isn't opened, with paths of the folder
abbrev pub refused_at : Path → LoadRefusal → LoadFault
refused_at root (vault.Missing at) = load.Missing (root ++ at)
refused_at root (vault.WrongKind at) = load.WrongKind (root ++ at)
refused_at root (vault.TooLarge at) = load.TooLarge (root ++ at)
refused_at root (vault.GoRefused fault) = load.Go fault
refused_at root (vault.CmRefused at fault) = load.Cm (root ++ at) fault
refused_at root vault.WrongPass = load.WrongPass
refused_at root vault.BadSignature = load.BadSignature

abbrev pub of_refusal : Side → Path → LoadRefusal → StepFault
of_refusal side root refusal = Load side (refused_at root refusal)

-- each of the two roots and its passphrase are a vault
abbrev pub Opens : {Y G : Type 0} → (StepFault → G) → View → (from to : Path) (from_pass to_pass : List ℕ) → (OpenedVault → OpenedVault → Result Y G → Type 0) → Result Y G → Type 0
Opens told v from to from_pass to_pass next =
    Then (λ refusal. told (of_refusal Source from refusal)) (Loads (under from v) from_pass) (λ source.
    Then (λ refusal. told (of_refusal Target to refusal)) (Loads (under to v) to_pass) (λ target. next (opened_in from source) (opened_in to target)))

-- these are the vault's items, where no two of its directories share a folder
abbrev pub AreItemsOf : OpenedVault → View → List Planned → Type 0
AreItemsOf a v items = HasOwnFolders a.vault (under a.root v) → IsPlanOf a.root (format_of a.vault) (under a.root v) items

-- a walk of the vault: it passes no limit, then it is clean
abbrev pub Walks : OpenedVault → View → Result (List Planned) WalkFault → Type 0
Walks a v (Ok items) = IsWithin (format_of a.vault) (under a.root v) × IsClean (format_of a.vault) (under a.root v) × AreItemsOf a v items
Walks a v (Err (walk.Limit limit.Items)) = HasTooMany (format_of a.vault) (under a.root v)
Walks a v (Err (walk.Limit limit.Depth)) = IsOnlyTooDeep (format_of a.vault) (under a.root v)
Walks a v (Err (walk.NotClean finding)) = IsWithin (format_of a.vault) (under a.root v) × IsFirstFinding a.root (format_of a.vault) (under a.root v) finding
Walks a v (Err (walk.Limit (limit.Length at))) = ⊥
Walks a v (Err (walk.Limit limit.Input)) = ⊥
Walks a v (Err walk.Failed) = ⊥
Walks a v (Err walk.NoMemory) = ⊥

-- both are walked
abbrev pub WalksBoth : {Y G : Type 0} → (StepFault → G) → OpenedVault → OpenedVault → View → (List Planned → List Planned → Result Y G → Type 0) → Result Y G → Type 0
WalksBoth told from to v next =
    Then (λ fault. told (of_walk fault)) (Walks from v) (λ items. Then (λ fault. told (of_walk fault)) (Walks to v) (λ there. next items there))

-- ---- refusals of a part (private contracts only)

-- so it would be if nothing may follow
abbrev pub Refuses : (Answer (Unit {0}) → Type 0) → StepFault → Type 0
Refuses test fault = Unless {X = Unit {0}} (Err fault) (test (Err fault))
