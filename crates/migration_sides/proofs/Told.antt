-- What a step tells of its tests, taken to the chain of a command that tells the step's fault by a fault of its own: where the tests pass,
-- whatever follows counts; where one refuses, the command refuses.
use Rattle.std.proofs.Common.{◌≡◌, ◌≢◌, inl, inr, List, ℕ, Result, Ok, Err, refl, sym, ap, subst, subst₂}
use Rattle.folder_spec.specs.Path.{Path}
use Rattle.folder_spec.specs.Seen.{under}
use Rattle.folder_spec.specs.View.{View}
use Rattle.folder_spec.specs.declared.FolderFault.{FolderFault}
use Rattle.folder_spec.specs.declared.FolderFault.TheVariants as folder
use Rattle.vault_read.specs.Loading as loading
use Rattle.vault_spec.specs.Opened.{OpenedVault}
use Rattle.vault_faults.specs.declared.fault.Limit.TheVariants as limit
use Rattle.vault_read.specs.declared.fault.LoadFault.{LoadFault}
use Rattle.vault_read.specs.declared.fault.LoadFault.TheVariants as load
use Rattle.vault_spec.specs.Plan.{Planned}
use Rattle.vault_spec.specs.Vault.{Loads, Vault, format_of}
use Rattle.vault_spec.specs.Vault as vault
use Rattle.vault_walk.specs.Survey.{HasTooMany}
use Rattle.vault_walk.specs.Surveyed.{IsFirstFinding, IsOnlyTooDeep, IsWalkFault, IsWithin}
use Rattle.vault_walk.specs.declared.fault.Finding.{Finding}
use Rattle.vault_walk.specs.declared.fault.WalkFault.{WalkFault}
use Rattle.vault_walk.specs.declared.fault.WalkFault.TheVariants as walk
use Rattle.work_folder.specs.Looking as work
use Rattle.work_folder.specs.Looking.{Gives}
use Rattle.work_folder.specs.declared.fault.WorkFault.{WorkFault}
use Rattle.work_folder.specs.declared.fault.WorkFault.TheVariants as works
use Rattle.migration_sides.proofs.Chains.{part_refused, passed_is, then_passes}
use Rattle.migration_sides.specs.Causes.{Opens, Refuses, TestsApart, Unless, Walks, WalksBoth, of_refusal}
use Rattle.migration_sides.specs.Faults.{of_walk}
use Rattle.migration_sides.specs.Sides.{opened_in}
use Rattle.folder_spec.specs.Apart.{AreSeparate}
use Rattle.migration_sides.specs.Tests.{Then, UnlessBy, nothing_follows, own}
use Rattle.migration_sides.specs.declared.fault.Side.{Side}
use Rattle.migration_sides.specs.declared.fault.Side.TheVariants.{Source, Target}
use Rattle.migration_sides.specs.declared.fault.StepFault.{StepFault}
use Rattle.migration_sides.specs.declared.fault.StepFault.TheVariants.{Load, Failed, NoMemory}

-- the folder may always fail, and memory run out, as the command tells it
abbrev pub UnlessTold : {X G : Type 0} → (StepFault → G) → Result X G → Type 0 → Type 0
UnlessTold told answer P = UnlessBy (told Failed) (told NoMemory) answer P

-- ---- a refusal that is told on

abbrev failing : {G : Type 0} (Y : Type 0) → G → Result Y G
failing Y fault = Err fault

told_is : {Y Z G : Type 0} (told : StepFault → G) (fault why : StepFault) → failing Y fault ≡ Err why → failing Z (told fault) ≡ Err (told why)
told_is {Z = Z} told fault why e =
    let same : fault ≡ why = cc e in
    ap (λ (f : StepFault). failing Z (told f)) same

unless_told : {Y Z G : Type 0} (told : StepFault → G) (fault : StepFault) (P Q : Type 0) → (P → Q) → Unless {X = Y} (Err fault) P → UnlessTold {X = Z} told (Err (told fault)) Q
unless_told told fault P Q more (inl fails) = inl (told_is told fault Failed fails)
unless_told told fault P Q more (inr (inl full)) = inr (inl (told_is told fault NoMemory full))
unless_told told fault P Q more (inr (inr p)) = inr (inr (more p))

then_told : {X Y Z F G : Type 0} (told : StepFault → G) (one : F → StepFault) (test : Result X F → Type 0) (next : X → Result Y StepFault → Type 0) (next' : X → Result Z G → Type 0) (fault : StepFault)
    → ((x : X) → next x (Err fault) → next' x (Err (told fault))) → Then one test next (Err fault) → Then (λ f. told (one f)) test next' (Err (told fault))
then_told told one test next next' fault more (Ok x, passed, n) = (Ok x, passed, more x n)
then_told told one test next next' fault more (Err why, refused, is) = (Err why, refused, told_is told fault (one why) is)

-- ---- tests of the step as one test of the command

pub step_refused : {X Y G : Type 0} (told : StepFault → G) (test : Result X StepFault → Type 0) (next : X → Result Y G → Type 0) (fault : StepFault) → Unless {X = X} (Err fault) (test (Err fault))
    → UnlessTold {X = Y} told (Err (told fault)) (Then told test next (Err (told fault)))
step_refused told test next fault = unless_told told fault (test (Err fault)) (Then told test next (Err (told fault))) (λ t. (Err fault, t, refl))

pub step_passes : {X Y G : Type 0} (told : StepFault → G) (test : Result X StepFault → Type 0) (next : X → Result Y G → Type 0) (answer : Result Y G) (x : X) → Unless (Ok x) (test (Ok x))
    → UnlessTold told answer (next x answer) → UnlessTold told answer (Then told test next answer)
step_passes told test next answer x passed = then_passes (told Failed) (told NoMemory) told test next answer x (passed_is Failed NoMemory x (test (Ok x)) passed)

-- ---- the folder, and the work folder

-- what is so of its failing and of want of memory is so of each of its faults
pub by_folder : {G : Type 0} (P : G → Type 0) (told : FolderFault → G) → told folder.Refused ≡ told folder.Failed → P (told folder.Failed) → P (told folder.NoMemory) → (fault : FolderFault) → P (told fault)
by_folder P told same failed none folder.Failed = failed
by_folder P told same failed none folder.Refused = subst P (sym same) failed
by_folder P told same failed none folder.NoMemory = none

pub folder_unless : {X G : Type 0} (told : FolderFault → G) → told folder.Refused ≡ told folder.Failed → (P : Type 0) (fault : FolderFault) → UnlessBy {X = X} (told folder.Failed) (told folder.NoMemory) (Err (told fault)) P
folder_unless {X = X} told same P = by_folder (λ why. UnlessBy {X = X} (told folder.Failed) (told folder.NoMemory) (Err why) P) told same (inl refl) (inr (inl refl))

pub work_refused : {Y G : Type 0} (told : WorkFault → G) (test : work.Looked → Type 0) (next : Unit {0} → Result Y G → Type 0) (why : WorkFault) → Gives {T = Unit {0}} test (Err why)
    → UnlessBy {X = Y} (told works.Failed) (told works.NoMemory) (Err (told why)) (Then told test next (Err (told why)))
work_refused told test next (works.NoParent p) h = inr (inr (Err (works.NoParent p), h, refl))
work_refused told test next (works.WrongKind p) h = inr (inr (Err (works.WrongKind p), h, refl))
work_refused told test next (works.Foreign p) h = inr (inr (Err (works.Foreign p), h, refl))
work_refused told test next works.Begun h = inr (inr (Err works.Begun, h, refl))
work_refused told test next works.Depth h = inr (inr (Err works.Depth, h, refl))
work_refused told test next works.Failed h = inl refl
work_refused told test next works.NoMemory h = inr (inl refl)

-- ---- the folders

pub apart_refused : {Y G : Type 0} (told : StepFault → G) (from to work : Path) (next : Unit {0} → Result Y G → Type 0) (fault : StepFault) → Refuses (TestsApart from to work) fault
    → UnlessTold {X = Y} told (Err (told fault)) (Then told (TestsApart from to work) next (Err (told fault)))
apart_refused told from to work next fault = step_refused told (TestsApart from to work) next fault

pub apart_passes : {Y G : Type 0} (told : StepFault → G) (from to work : Path) (next : Unit {0} → Result Y G → Type 0) (answer : Result Y G)
    → Unless {X = Unit {0}} (Ok tt) (TestsApart from to work (Ok tt)) → UnlessTold told answer (next tt answer) → UnlessTold told answer (Then told (TestsApart from to work) next answer)
apart_passes told from to work next answer = step_passes told (TestsApart from to work) next answer tt

pub separate_pass : (from to work : Path) → AreSeparate from to work → TestsApart from to work (Ok tt)
separate_pass from to work apart = (Ok tt, inl (apart.vaults, refl), (Ok tt, inl (apart.source, refl), inl (apart.target, refl)))

-- ---- both vaults opened

abbrev pub RefusesLoad : Side → View → Path → List ℕ → StepFault → Type 0
RefusesLoad side v root pass = Refuses (Then (of_refusal side root) (Loads (under root v) pass) nothing_follows)

abbrev pub RefusesBoth : View → (from to : Path) (from_pass to_pass : List ℕ) → StepFault → Type 0
RefusesBoth v from to from_pass to_pass = Refuses (Opens own v from to from_pass to_pass (λ from. nothing_follows))

pub opens_refused : {Y G : Type 0} (told : StepFault → G) (v : View) (from to : Path) (from_pass to_pass : List ℕ) (next : OpenedVault → OpenedVault → Result Y G → Type 0) (fault : StepFault)
    → RefusesBoth v from to from_pass to_pass fault → UnlessTold {X = Y} told (Err (told fault)) (Opens told v from to from_pass to_pass next (Err (told fault)))
opens_refused told v from to from_pass to_pass next fault =
    unless_told told fault (Opens own v from to from_pass to_pass (λ from. nothing_follows) (Err fault)) (Opens told v from to from_pass to_pass next (Err (told fault)))
    (then_told told (of_refusal Source from) (Loads (under from v) from_pass) (λ source. Then (of_refusal Target to) (Loads (under to v) to_pass) nothing_follows)
    (λ source. Then (λ refusal. told (of_refusal Target to refusal)) (Loads (under to v) to_pass) (λ target. next (opened_in from source) (opened_in to target))) fault
    (λ source. then_told told (of_refusal Target to) (Loads (under to v) to_pass) nothing_follows (λ target. next (opened_in from source) (opened_in to target)) fault (λ target n. absurd n)))

pub opens_passes : {Y G : Type 0} (told : StepFault → G) (v : View) (from to : Path) (from_pass to_pass : List ℕ) (next : OpenedVault → OpenedVault → Result Y G → Type 0) (answer : Result Y G)
    (source target : OpenedVault) → source.root ≡ from → target.root ≡ to → Loads (under from v) from_pass (Ok source.vault) → Loads (under to v) to_pass (Ok target.vault)
    → UnlessTold told answer (next source target answer) → UnlessTold told answer (Opens told v from to from_pass to_pass next answer)
opens_passes told v from to from_pass to_pass next answer source target at_from at_to one other h =
    then_passes (told Failed) (told NoMemory) (λ refusal. told (of_refusal Source from refusal)) (Loads (under from v) from_pass)
    (λ s. Then (λ refusal. told (of_refusal Target to refusal)) (Loads (under to v) to_pass) (λ t. next (opened_in from s) (opened_in to t))) answer source.vault one
    (then_passes (told Failed) (told NoMemory) (λ refusal. told (of_refusal Target to refusal)) (Loads (under to v) to_pass) (λ t. next (opened_in from source.vault) (opened_in to t)) answer target.vault other
    (subst₂ (λ (p q : Path). UnlessTold told answer (next (opened_in p source.vault) (opened_in q target.vault) answer)) at_from at_to h))

pub both_open : {G : Type 0} (told : StepFault → G) (v : View) (from to : Path) (from_pass to_pass : List ℕ) (next : OpenedVault → OpenedVault → Result (Unit {0}) G → Type 0)
    (source target : OpenedVault) → source.root ≡ from → target.root ≡ to → Loads (under from v) from_pass (Ok source.vault) → Loads (under to v) to_pass (Ok target.vault)
    → next source target (Ok tt) → Opens told v from to from_pass to_pass next (Ok tt)
both_open told v from to from_pass to_pass next source target at_from at_to one other h =
    passed_is (told Failed) (told NoMemory) tt (Opens told v from to from_pass to_pass next (Ok tt)) (opens_passes told v from to from_pass to_pass next (Ok tt) source target at_from at_to one other (inr (inr h)))

-- ---- both vaults walked

abbrev pub RefusesWalk : OpenedVault → View → StepFault → Type 0
RefusesWalk a v = Refuses (Then of_walk (Walks a v) nothing_follows)

abbrev pub RefusesWalks : OpenedVault → OpenedVault → View → StepFault → Type 0
RefusesWalks from to v = Refuses (WalksBoth own from to v (λ items. nothing_follows))

pub walk_refused : {Y G : Type 0} (told : StepFault → G) (a : OpenedVault) (v : View) (next : List Planned → Result Y G → Type 0) (fault : StepFault) → RefusesWalk a v fault
    → UnlessTold {X = Y} told (Err (told fault)) (Then (λ why. told (of_walk why)) (Walks a v) next (Err (told fault)))
walk_refused told a v next fault =
    unless_told told fault (Then of_walk (Walks a v) nothing_follows (Err fault)) (Then (λ why. told (of_walk why)) (Walks a v) next (Err (told fault)))
    (then_told told of_walk (Walks a v) nothing_follows next fault (λ items n. absurd n))

pub walk_passes : {Y G : Type 0} (told : StepFault → G) (a : OpenedVault) (v : View) (next : List Planned → Result Y G → Type 0) (answer : Result Y G) (items : List Planned) → Walks a v (Ok items)
    → UnlessTold told answer (next items answer) → UnlessTold told answer (Then (λ why. told (of_walk why)) (Walks a v) next answer)
walk_passes told a v next answer items walked = then_passes (told Failed) (told NoMemory) (λ why. told (of_walk why)) (Walks a v) next answer items walked

pub walks_refused : {Y G : Type 0} (told : StepFault → G) (from to : OpenedVault) (v : View) (next : List Planned → List Planned → Result Y G → Type 0) (fault : StepFault) → RefusesWalks from to v fault
    → UnlessTold {X = Y} told (Err (told fault)) (WalksBoth told from to v next (Err (told fault)))
walks_refused told from to v next fault =
    unless_told told fault (WalksBoth own from to v (λ items. nothing_follows) (Err fault)) (WalksBoth told from to v next (Err (told fault)))
    (then_told told of_walk (Walks from v) (λ items. Then of_walk (Walks to v) nothing_follows) (λ items. Then (λ why. told (of_walk why)) (Walks to v) (λ there. next items there)) fault
    (λ items. then_told told of_walk (Walks to v) nothing_follows (λ there. next items there) fault (λ there n. absurd n)))

pub walks_passes : {Y G : Type 0} (told : StepFault → G) (from to : OpenedVault) (v : View) (next : List Planned → List Planned → Result Y G → Type 0) (answer : Result Y G) (items there : List Planned)
    → Walks from v (Ok items) → Walks to v (Ok there) → UnlessTold told answer (next items there answer) → UnlessTold told answer (WalksBoth told from to v next answer)
walks_passes told from to v next answer items there one other h =
    then_passes (told Failed) (told NoMemory) (λ why. told (of_walk why)) (Walks from v) (λ items. Then (λ why. told (of_walk why)) (Walks to v) (λ there. next items there)) answer items one
    (then_passes (told Failed) (told NoMemory) (λ why. told (of_walk why)) (Walks to v) (λ there. next items there) answer there other h)

-- ---- of one vault: why it isn't opened, or not walked

pub load_refused : (side : Side) (root : Path) (v : View) (pass : List ℕ) (why : LoadFault) → why ≢ load.Failed → why ≢ load.NoMemory → loading.RefusesLoading root (Loads (under root v) pass) why
    → RefusesLoad side v root pass (Load side why)
load_refused side root v pass (load.Missing at) one two (rest, is, h) = inr (inr (Err (vault.Missing rest), h, ap (λ (p : Path). Err (Load side (load.Missing p))) is))
load_refused side root v pass (load.WrongKind at) one two (rest, is, h) = inr (inr (Err (vault.WrongKind rest), h, ap (λ (p : Path). Err (Load side (load.WrongKind p))) is))
load_refused side root v pass (load.TooLarge at) one two (rest, is, h) = inr (inr (Err (vault.TooLarge rest), h, ap (λ (p : Path). Err (Load side (load.TooLarge p))) is))
load_refused side root v pass (load.Go fault) one two h = inr (inr (Err (vault.GoRefused fault), h, refl))
load_refused side root v pass (load.Cm at fault) one two (rest, is, h) = inr (inr (Err (vault.CmRefused rest fault), h, ap (λ (p : Path). Err (Load side (load.Cm p fault))) is))
load_refused side root v pass load.WrongPass one two h = inr (inr (Err vault.WrongPass, h, refl))
load_refused side root v pass load.BadSignature one two h = inr (inr (Err vault.BadSignature, h, refl))
load_refused side root v pass load.Failed one two h = absurd (one refl)
load_refused side root v pass load.NoMemory one two h = absurd (two refl)

pub source_refused : (v : View) (from to : Path) (from_pass to_pass : List ℕ) (fault : StepFault) → RefusesLoad Source v from from_pass fault → RefusesBoth v from to from_pass to_pass fault
source_refused v from to from_pass to_pass fault =
    part_refused Failed NoMemory (of_refusal Source from) (Loads (under from v) from_pass) nothing_follows
    (λ source. Then (of_refusal Target to) (Loads (under to v) to_pass) nothing_follows) fault (λ source n. absurd n)

pub target_refused : (v : View) (from to : Path) (from_pass to_pass : List ℕ) (source : Vault) (fault : StepFault) → Loads (under from v) from_pass (Ok source) → RefusesLoad Target v to to_pass fault
    → RefusesBoth v from to from_pass to_pass fault
target_refused v from to from_pass to_pass source fault opened =
    then_passes Failed NoMemory (of_refusal Source from) (Loads (under from v) from_pass) (λ source. Then (of_refusal Target to) (Loads (under to v) to_pass) nothing_follows) (Err fault) source opened

-- what a walk answers
pub record WalkTells (a : OpenedVault) (v : View) (why : WalkFault) : Type 0 where
  pub not_clean : (finding : Finding) → why ≡ walk.NotClean finding → IsFirstFinding a.root (format_of a.vault) (under a.root v) finding
  pub items : why ≡ walk.Limit limit.Items → HasTooMany (format_of a.vault) (under a.root v)
  pub depth : why ≡ walk.Limit limit.Depth → IsOnlyTooDeep (format_of a.vault) (under a.root v)
  pub limits_first : (finding : Finding) → why ≡ walk.NotClean finding → IsWithin (format_of a.vault) (under a.root v)

pub one_refused : (a : OpenedVault) (v : View) (why : WalkFault) → IsWalkFault why → WalkTells a v why → RefusesWalk a v (of_walk why)
one_refused a v (walk.NotClean finding) can tells = inr (inr (Err (walk.NotClean finding), (tells.limits_first finding refl, tells.not_clean finding refl), refl))
one_refused a v (walk.Limit limit.Items) can tells = inr (inr (Err (walk.Limit limit.Items), tells.items refl, refl))
one_refused a v (walk.Limit limit.Depth) can tells = inr (inr (Err (walk.Limit limit.Depth), tells.depth refl, refl))
one_refused a v (walk.Limit (limit.Length at)) can tells = absurd can
one_refused a v (walk.Limit limit.Input) can tells = absurd can
one_refused a v walk.Failed can tells = inl refl
one_refused a v walk.NoMemory can tells = inr (inl refl)

pub first_refused : (from to : OpenedVault) (v : View) (fault : StepFault) → RefusesWalk from v fault → RefusesWalks from to v fault
first_refused from to v fault = part_refused Failed NoMemory of_walk (Walks from v) nothing_follows (λ items. Then of_walk (Walks to v) nothing_follows) fault (λ items n. absurd n)

pub second_refused : (from to : OpenedVault) (v : View) (items : List Planned) (fault : StepFault) → Walks from v (Ok items) → RefusesWalk to v fault → RefusesWalks from to v fault
second_refused from to v items fault walked = then_passes Failed NoMemory of_walk (Walks from v) (λ items. Then of_walk (Walks to v) nothing_follows) (Err fault) items walked
