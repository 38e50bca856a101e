-- Making a vault or an item is refused by chance alone where nothing is in the way.
use Rattle.std.specs.Bool.{Decides}
use Rattle.std.specs.Cmp.Lexicographic.{bytes_decides}
use Rattle.std.specs.Str.{bytes_eq}
use Rattle.std.proofs.Common.{◌≡◌, ◌≢◌, ◌∙◌, ◌≤◌, ◌<◌, ℕ, Bool, true, false, not, ◌||◌, List, [], ◌∷◌, ◌++◌, length, codes, is_none, Option, Some, None, Result, Ok, Err, IsTrue, IfErr, inl, inr, refl, sym, ap, subst, arith}
use Rattle.item_making.specs.declared.fault.PutFault.{PutFault}
use Rattle.item_making.specs.declared.fault.PutFault.TheVariants as put
use Rattle.cryptomator_conf.specs.declared.conf.CmDraw.{CmDraw}
use Rattle.folder_spec.specs.Event.{Told}
use Rattle.folder_spec.specs.Path.{Path, below, child, parent}
use Rattle.folder_spec.specs.Region.{apart_from}
use Rattle.folder_spec.specs.Seen.{IfSeen, IsSeen, ShowsFree}
use Rattle.folder_spec.specs.State.{IsSound}
use Rattle.folder_spec.specs.View.{NoEntry, Folder, Special, View, kind_found}
use Rattle.folder_spec.proofs.Paths.{below-apart, below-parent, below-sibling}
use Rattle.gocrypt_conf.specs.declared.conf.GoDraw.{GoDraw}
use Rattle.vault_read.specs.Laws.{HaveOneAnswer}
use Rattle.vault_read.specs.Loading as loading
use Rattle.vault_read.specs.declared.fault.LoadFault.{LoadFault}
use Rattle.vault_read.specs.declared.fault.LoadFault.TheVariants as load
use Rattle.vault_spec.specs.Vault.{Loaded, IsVault, Loads, Vault}
use Rattle.vault_write.specs.Founding.{CmDrew, GoDrew}
use Rattle.item_making.specs.Making.{is_apart, is_inside, is_unstaged}
use Rattle.work_folder.specs.Entering.{Empties, EntersAs, IsFresh, IsReady}
use Rattle.work_folder.specs.Entries.{IsForeign, is_foreign, stage_path}
use Rattle.work_folder.specs.Looking as looking
use Rattle.work_folder.specs.Looking.{Gives, Tests, TestsEntries, TestsJournal, TestsKind, TestsParent}
use Rattle.work_folder.specs.declared.fault.WorkFault.{WorkFault}
use Rattle.work_folder.specs.declared.fault.WorkFault.TheVariants as work
use Rattle.demo_core.proofs.Beside.{seen_beside}
use Rattle.demo_core.proofs.Standing.{nothing_seen}
use Rattle.demo_core.specs.Making.{CanEnter, IsBeside, IsNotPut, IsOfChance, IsOfItems, IsPutOfChance, IsPutTaken, IsTaken}
use Rattle.demo_core.specs.declared.fault.MakeFault.{MakeFault}
use Rattle.demo_core.specs.declared.fault.MakeFault.TheVariants.{Load, NoMemory, Put, Work}

-- ---- a work folder is entered

decides : (a b : List ℕ) → Decides (bytes_eq a b) (a ≡ b)
decides = bytes_decides

-- in a fresh one nothing is foreign
not_foreign : (v : View) (w : Path) → IsFresh v w → (name : List ℕ) → ¬ IsForeign false v w name
not_foreign v w fresh name foreign = by (bytes_eq name (codes "stage")) refl
  where
    by : (b : Bool) → bytes_eq name (codes "stage") ≡ b → ⊥
    by true same =
        let is : name ≡ codes "stage" = (decides name (codes "stage")).0 same in
        let folder : v (child w name) ≡ Folder = ap (λ n. v (child w n)) is ∙ fresh.ready.stage in
        let never : IsTrue (not (true || false)) = subst (λ b. IsTrue (not (b || false))) same (subst (λ x. IsTrue (is_foreign false name (kind_found x))) folder foreign) in
        cc never
    by false other =
        let none : v (child w name) ≡ NoEntry = fresh.alone name (λ is. let never : true ≡ false = sym ((decides name (codes "stage")).1 is) ∙ other in cc never) in
        let never : IsTrue false = subst (λ x. IsTrue (is_foreign false name (kind_found x))) none foreign in
        cc never

entries_pass : (v : View) (w : Path) (answer : looking.Looked) → IsFresh v w → TestsEntries false v w answer → answer ≡ Ok tt
entries_pass v w answer fresh tests = elim tests [
  | inl none ↦ none.1
  | inr some ↦ absurd (not_foreign v w fresh some.0 some.1.foreign)
]

pass : (v : View) (w : Path) (answer : looking.Looked) → CanEnter v w → Tests v w answer → answer ≡ Ok tt
pass v w answer can tests = elim can.1 [
  | inl none ↦ subst (λ x. TestsKind x v w answer) none (subst (λ x. TestsParent x v w answer) can.0 tests)
  | inr fresh ↦ entries_pass v w answer fresh
      (subst (λ x. TestsJournal x v w answer) (fresh.alone (codes "journal") (λ e. cc e))
      (subst (λ x. TestsKind x v w answer) fresh.ready.folder (subst (λ x. TestsParent x v w answer) can.0 tests)))
]

-- below its stage nothing is seen
bare : (v : View) (w : Path) → ((q rest : Path) → v q ≡ NoEntry → v (q ++ rest) ≡ NoEntry) → CanEnter v w → (rest : Path) → 1 ≤ length rest → v (stage_path w ++ rest) ≡ NoEntry
bare v w above can rest some = elim can.1 [
  | inl none ↦ above (stage_path w) rest (above w (codes "stage" ∷ []) none)
  | inr fresh ↦ fresh.ready.bare rest some
]

enters : (v : View) (w : Path) → ((q rest : Path) → v q ≡ NoEntry → v (q ++ rest) ≡ NoEntry) → CanEnter v w → (answer : looking.Looked) → EntersAs v w answer → Empties v w answer
enters v w above can answer entered = elim entered [
  | inl fails ↦ absurd (fails.1 (pass v w answer can fails.0))
  | inr passes ↦ passes.1
]

work_chance : (v : View) (w : Path) → ((q rest : Path) → v q ≡ NoEntry → v (q ++ rest) ≡ NoEntry) → CanEnter v w → (fault : WorkFault) → Gives {T = Unit {0}} (EntersAs v w) (Err fault) → IsOfChance (Work fault)
work_chance v w above can (work.NoParent p) gives = absurd (enters v w above can (Err (work.NoParent p)) gives)
work_chance v w above can (work.WrongKind p) gives = absurd (enters v w above can (Err (work.WrongKind p)) gives)
work_chance v w above can work.Begun gives = absurd (enters v w above can (Err work.Begun) gives)
work_chance v w above can (work.Foreign p) gives =
    let special = enters v w above can (Err (work.Foreign p)) gives in
    let never : NoEntry ≡ Special = sym (bare v w above can special.0.rest special.0.least) ∙ ap v (sym special.0.is) ∙ special.1 in
    cc never
work_chance v w above can work.Depth gives =
    let deep = enters v w above can (Err work.Depth) gives in
    let far : 128 < length deep.0 = deep.1 in
    absurd (deep.2 (bare v w above can deep.0 (omega (arith, far))))
work_chance v w above can work.Failed gives = tt
work_chance v w above can work.NoMemory gives = tt

-- where what a folder tells is sound
pub enter_chance : (t : Option Told) → ((a : Told) → t ≡ Some a → IsSound a.state) → (w : Path) → IfSeen t (λ v. CanEnter v w → (fault : WorkFault) → Gives {T = Unit {0}} (EntersAs v w) (Err fault) → IsOfChance (Work fault))
enter_chance None sound w v is can fault gives = absurd is
enter_chance (Some a) sound w v is can fault gives =
    work_chance v w (subst (λ u. (q rest : Path) → u q ≡ NoEntry → u (q ++ rest) ≡ NoEntry) (sym is) (nothing_seen a.state (sound a refl))) can fault gives

-- a fresh work folder stays so while only its stage and what is at a path beside it change
pub fresh_stays : (w at : Path) (t u : Option Told) → ((a : Told) → t ≡ Some a → IsSound a.state) → below at w ≡ None → below w at ≡ None → IsBeside (is_apart w at) t u
    → IfSeen t (λ v. IsFresh v w) → IfSeen u (λ v. IsReady v w) → IfSeen u (λ v. IsFresh v w)
fresh_stays w at t u sound one other beside fresh ready v is =
    let before = seen_beside (is_apart w at) t u sound beside v is in
    record {
      ready = ready v is;
      alone = λ name other_name. before.2 (child w name) (inside name other_name) ∙ (fresh before.0 before.1).alone name other_name;
    }
  where
    unstaged : (name : List ℕ) → name ≢ codes "stage" → is_unstaged w (child w name) ≡ true
    unstaged name other_name = by (bytes_eq (codes "stage") name) refl
      where
        by : (b : Bool) → bytes_eq (codes "stage") name ≡ b → is_unstaged w (child w name) ≡ true
        by true same = absurd (other_name (sym ((decides (codes "stage") name).0 same)))
        by false apart = ap (λ o. not (is_inside o)) (below-sibling w (codes "stage") name apart)

    inside : (name : List ℕ) → name ≢ codes "stage" → IsTrue (is_apart w at (child w name))
    inside name other_name = rw (unstaged name other_name) (ap is_none (below-apart at w (name ∷ []) one other))

-- nothing comes to a free place while only a work folder changes
pub free_stays : (w at : Path) (t u : Option Told) → ((a : Told) → t ≡ Some a → IsSound a.state) → below w at ≡ None → IsBeside (apart_from w) t u
    → IfSeen t (λ v. ShowsFree v at → IfSeen u (λ x. ShowsFree x at))
free_stays w at t u sound apart beside v is free x seen_x =
    let before = seen_beside (apart_from w) t u sound beside x seen_x in
    let same : before.0 ≡ v = one_view t before.0 v before.1 is in
    (before.2 at (ap is_none apart) ∙ ap (λ y. y at) same ∙ free.0, before.2 (parent at) (ap is_none (below-parent w at apart)) ∙ ap (λ y. y (parent at)) same ∙ free.1)
  where
    one_view : (t : Option Told) (one other : View) → IsSeen t one → IsSeen t other → one ≡ other
    one_view (Some a) one other first second = first ∙ sym second
    one_view None one other first second = absurd first

-- ---- a vault is made, and opened

pub go_chance : (draw : GoDraw) (key drawn : List ℕ) (result : Result (Unit {0}) PutFault) → GoDrew draw key drawn result → IfErr result IsPutOfChance
go_chance draw key drawn (Ok value) drew = tt
go_chance draw key drawn (Err (put.Find fault)) drew = absurd drew
go_chance draw key drawn (Err (put.NotAllowed path)) drew = absurd drew
go_chance draw key drawn (Err (put.Taken at)) drew = absurd drew
go_chance draw key drawn (Err (put.Damaged at fault)) drew = absurd drew
go_chance draw key drawn (Err (put.Limit limit)) drew = absurd drew
go_chance draw key drawn (Err put.ZeroRandom) drew = tt
go_chance draw key drawn (Err put.Source) drew = absurd drew
go_chance draw key drawn (Err put.Random) drew = tt
go_chance draw key drawn (Err put.Failed) drew = tt
go_chance draw key drawn (Err put.NoMemory) drew = tt

pub cm_chance : (draw : CmDraw) (drawn : List ℕ) (result : Result (Unit {0}) PutFault) → CmDrew draw drawn result → IfErr result IsPutOfChance
cm_chance draw drawn (Ok value) drew = tt
cm_chance draw drawn (Err (put.Find fault)) drew = absurd drew
cm_chance draw drawn (Err (put.NotAllowed path)) drew = absurd drew
cm_chance draw drawn (Err (put.Taken at)) drew = absurd drew
cm_chance draw drawn (Err (put.Damaged at fault)) drew = absurd drew
cm_chance draw drawn (Err (put.Limit limit)) drew = absurd drew
cm_chance draw drawn (Err put.ZeroRandom) drew = absurd drew
cm_chance draw drawn (Err put.Source) drew = absurd drew
cm_chance draw drawn (Err put.Random) drew = tt
cm_chance draw drawn (Err put.Failed) drew = tt
cm_chance draw drawn (Err put.NoMemory) drew = tt

module _ (one : HaveOneAnswer) (v : View) (pass : List ℕ) (vault : Vault) (opens : IsVault v pass vault) where
  never : (E : Loaded) → E ≢ Ok vault → ¬ Loads v pass E
  never answer other loads = other (one v pass answer (Ok vault) loads opens)

  pub load_chance : (root : Path) (fault : LoadFault) → loading.RefusesLoading root (Loads v pass) fault → IsOfChance (Load fault)
  load_chance root (load.Missing at) refuses = absurd (never _ (λ e. cc e) refuses.2)
  load_chance root (load.WrongKind at) refuses = absurd (never _ (λ e. cc e) refuses.2)
  load_chance root (load.TooLarge at) refuses = absurd (never _ (λ e. cc e) refuses.2)
  load_chance root (load.Go fault) refuses = absurd (never _ (λ e. cc e) refuses)
  load_chance root (load.Cm at fault) refuses = absurd (never _ (λ e. cc e) refuses.2)
  load_chance root load.WrongPass refuses = absurd (never _ (λ e. cc e) refuses)
  load_chance root load.BadSignature refuses = absurd (never _ (λ e. cc e) refuses)
  load_chance root load.Failed refuses = tt
  load_chance root load.NoMemory refuses = tt

-- ---- one fault among more

pub chance_items : (fault : MakeFault) → IsOfChance fault → IsOfItems fault
chance_items (Work fault) chance = chance
chance_items (Load fault) chance = chance
chance_items (Put put.Failed) chance = tt
chance_items (Put put.NoMemory) chance = tt
chance_items (Put put.Random) chance = tt
chance_items (Put put.ZeroRandom) chance = tt
chance_items (Put (put.Find fault)) chance = chance
chance_items (Put (put.NotAllowed path)) chance = chance
chance_items (Put (put.Taken at)) chance = tt
chance_items (Put (put.Damaged at fault)) chance = chance
chance_items (Put (put.Limit limit)) chance = chance
chance_items (Put put.Source) chance = chance
chance_items NoMemory chance = tt

-- ---- no place is taken

chance_puts : (fault : PutFault) → IsPutOfChance fault → ¬ IsPutTaken fault
chance_puts (put.Find fault) chance taken = taken
chance_puts (put.NotAllowed path) chance taken = taken
chance_puts (put.Taken at) chance taken = chance
chance_puts (put.Damaged at fault) chance taken = taken
chance_puts (put.Limit limit) chance taken = taken
chance_puts put.ZeroRandom chance taken = taken
chance_puts put.Source chance taken = taken
chance_puts put.Random chance taken = taken
chance_puts put.Failed chance taken = taken
chance_puts put.NoMemory chance taken = taken

pub chance_free : (fault : MakeFault) → IsOfChance fault → ¬ IsTaken fault
chance_free (Work fault) chance taken = taken
chance_free (Load fault) chance taken = taken
chance_free (Put fault) chance taken = chance_puts fault chance taken
chance_free NoMemory chance taken = taken

pub load_free : (fault : MakeFault) → IsNotPut fault → ¬ IsTaken fault
load_free (Work fault) other taken = taken
load_free (Load fault) other taken = taken
load_free (Put fault) other taken = other
load_free NoMemory other taken = taken
