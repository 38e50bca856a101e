-- The first test that fails is the answer: parts of a chain of tests, and what a call tells of each.
use Rattle.std.proofs.Common.{◌≡◌, ◌⊎◌, inl, inr, List, [], ◌∷◌, ℕ, length, get_or, zero, suc, ◌<◌, arith, Ok, Err, refl, sym, ap, subst, IfErr}
use Rattle.folder_spec.specs.View.{View}
use Rattle.move_journal.specs.declared.journal.Journal.{Journal}
use Rattle.plain_tree.specs.Names as plain
use Rattle.plain_tree.specs.declared.name_map.NameMap.{NameMap}
use Rattle.migration_sides.specs.Tests.{Then, nothing_follows, own}
use Rattle.tree_match.specs.Mapping.{MapsTo}
use Rattle.tree_match.specs.Trees.{Compares}
use Rattle.tree_match.specs.declared.answer.Match.{Match}
use Rattle.tree_match.specs.declared.answer.Match.TheVariants.{Same, Contained}
use Rattle.tree_match.specs.declared.answer.MatchFault.{MatchFault}
use Rattle.tree_match.specs.declared.answer.MatchFault.TheVariants as match
use Rattle.vault_spec.specs.Opened.{OpenedVault}
use Rattle.vault_faults.specs.declared.fault.Limit.TheVariants as limit
use Rattle.vault_spec.specs.Format.{Format}
use Rattle.vault_spec.specs.Plan.{Planned}
use Rattle.vault_spec.specs.Vault.{format_of}
use Rattle.vault_walk.specs.declared.plan.Plan.{Plan}
use Rattle.work_folder.specs.Looking as work
use Rattle.migrate_core.specs.Causes.{Answer, ForbidsMappedLast, IsOfMoving, IsStop, Moves, Refuses, StopsAt, StopsMatch, TestsHeld, TestsItems, TestsMapped, TestsMatch, TestsNames, TestsTold, Unless, nothing_stops}
use Rattle.migrate_core.specs.Copying.{BothHaveOwnFolders}
use Rattle.migrate_core.specs.Faults.{of_map, of_match, of_put, of_work}
use Rattle.migrate_core.specs.Sides.{AllowsEachMapped, AllowsMappedLast}
use Rattle.item_making.specs.declared.fault.PutFault.{PutFault}
use Rattle.item_making.specs.declared.fault.PutFault.TheVariants as put
use Rattle.migrate_core.specs.declared.fault.MoveFault.TheVariants as moves
use Rattle.migrate_core.specs.declared.fault.MoveFault.{MoveFault}
use Rattle.migrate_core.specs.declared.fault.MoveFault.TheVariants.{Failed, NoMemory, NotAllowed}
use Rattle.migration_sides.proofs.Chains.{unless_more, then_passes, then_more, part_refused}

-- ---- once items are moved

pub moving : {Y : Type 0} (Is : Type 0) (P : PutFault → Type 0) (answer : Answer Y) → IfErr answer (IsStop Is P) → Unless answer (IsOfMoving Is P answer)
moving Is P (Ok value) is = inr (inr tt)
moving Is P (Err fault) is = inr (inr is)

pub moves_pass : {Y : Type 0} (A : work.Looked → Type 0) (from to : OpenedVault) (v : View) (items : List Planned) (answer : Answer Y) → A (Ok tt)
    → IfErr answer (IsStop (BothHaveOwnFolders from to v) (StopsAt (BothHaveOwnFolders from to v) from v items)) → Unless answer (Moves A from to v items answer)
moves_pass A from to v items answer ready is =
    let Own : Type 0 = BothHaveOwnFolders from to v in
    then_passes Failed NoMemory of_work A (λ _. IsOfMoving Own (StopsAt Own from v items)) answer tt ready (moving Own (StopsAt Own from v items) answer is)

match_more_stops : (Is More : Type 0) (why : MatchFault) → (More → Is) → StopsMatch Is why → StopsMatch More why
match_more_stops Is More (match.Damaged at fault) more is = λ m. is (more m)
match_more_stops Is More (match.Limit (limit.Length at)) more is = tt
match_more_stops Is More (match.Limit limit.Items) more is = λ m. is (more m)
match_more_stops Is More (match.Limit limit.Depth) more is = λ m. is (more m)
match_more_stops Is More (match.Limit limit.Input) more is = λ m. is (more m)
match_more_stops Is More match.Failed more is = λ m. is (more m)
match_more_stops Is More match.NoMemory more is = λ m. is (more m)

-- where more is so of both vaults
pub stop_more : (Is More : Type 0) (P Q : PutFault → Type 0) (fault : MoveFault) → (More → Is) → ((why : PutFault) → P why → Q why) → IsStop Is P fault → IsStop More Q fault
stop_more Is More P Q (moves.Place why) given more is = more why is
stop_more Is More P Q (moves.Walk why) given more is = λ m. is (given m)
stop_more Is More P Q (moves.Match why) given more is = match_more_stops Is More why given is
stop_more Is More P Q (moves.Differ path how) given more is = λ m. is (given m)
stop_more Is More P Q moves.Failed given more is = tt
stop_more Is More P Q moves.NoMemory given more is = tt
stop_more Is More P Q (moves.Work why) given more is = is
stop_more Is More P Q (moves.Journal why) given more is = is
stop_more Is More P Q (moves.Overlap p q) given more is = is
stop_more Is More P Q (moves.Load side why) given more is = is
stop_more Is More P Q (moves.NotEmpty at) given more is = is
stop_more Is More P Q (moves.NotAllowed path) given more is = is
stop_more Is More P Q (moves.Meet one other) given more is = is
stop_more Is More P Q (moves.Changed plan items plan' items') given more is = is
stop_more Is More P Q moves.SourceGone given more is = is

-- what never stops, whatever is so
pub never_more : (Is : Type 0) (P : PutFault → Type 0) (fault : MoveFault) → IsStop (Unit {0}) nothing_stops fault → IsStop Is P fault
never_more Is P fault = stop_more (Unit {0}) Is nothing_stops P fault (λ m. tt) (λ why none. absurd none)

pub put_stop : (Is : Type 0) (P : PutFault → Type 0) (fault : PutFault) → P fault → IsStop Is P (of_put fault)
put_stop Is P (put.Find why) is = is
put_stop Is P (put.NotAllowed path) is = is
put_stop Is P (put.Taken at) is = is
put_stop Is P (put.Damaged at why) is = is
put_stop Is P (put.Limit which) is = is
put_stop Is P put.ZeroRandom is = is
put_stop Is P put.Source is = is
put_stop Is P put.Random is = is
put_stop Is P put.Failed is = tt
put_stop Is P put.NoMemory is = tt

-- ---- mapping

module _ {Z : Type 0} (rule : NameMap) (f : Format) (items : List Planned) (next : List Planned → Answer Z → Type 0) where
  abbrev named : Answer (Unit {0}) → Type 0
  named = TestsNames rule f items

  abbrev mapping : {Y : Type 0} → (List Planned → Answer Y → Type 0) → Answer Y → Type 0
  mapping after = Then of_map (MapsTo rule items) (λ (plan : Plan). after plan.items)

  mapped_more : {Y : Type 0} (before : List Planned → Answer Y → Type 0) (fault : MoveFault) → ((mapped : List Planned) → before mapped (Err fault) → next mapped (Err fault))
      → TestsMapped rule f items before (Err fault) → TestsMapped rule f items next (Err fault)
  mapped_more before fault more =
      then_more Failed NoMemory own named (λ _. mapping before) (λ _. mapping next) fault
      (λ _. then_more Failed NoMemory of_map (MapsTo rule items) (λ plan. before plan.items) (λ plan. next plan.items) fault (λ plan. more plan.items))

  pub mapped_refused : (fault : MoveFault) → Refuses (TestsMapped rule f items nothing_follows) fault → Unless {X = Z} (Err fault) (TestsMapped rule f items next (Err fault))
  mapped_refused fault =
      part_refused Failed NoMemory own named (λ _. mapping nothing_follows) (λ _. mapping next) fault
      (λ _. then_more Failed NoMemory of_map (MapsTo rule items) (λ plan. nothing_follows plan.items) (λ plan. next plan.items) fault (λ plan none. absurd none))

  pub mapped_pass : (answer : Answer Z) (plan : Plan) → named (Ok tt) → MapsTo rule items (Ok plan) → Unless answer (next plan.items answer) → Unless answer (TestsMapped rule f items next answer)
  mapped_pass answer plan passed maps h = then_passes Failed NoMemory own named (λ _. mapping next) answer tt passed (then_passes Failed NoMemory of_map (MapsTo rule items) (λ plan. next plan.items) answer plan maps h)

-- ---- the tests of the items

abbrev pub Passed : Answer (Unit {0}) → Type 0
Passed answer = answer ≡ Ok tt

-- they passed, with these at their mapped paths
abbrev pub PassedWith : List Planned → List Planned → Answer (Unit {0}) → Type 0
PassedWith mapped items answer = (items ≡ mapped) × (answer ≡ Ok tt)

module _ {Z : Type 0} (a : OpenedVault) (items : List Planned) (b : OpenedVault) (others : List Planned) (v : View) (next : Answer Z → Type 0) where
  match_more : {Y : Type 0} (before : Answer Y → Type 0) (fault : MoveFault) → (before (Err fault) → next (Err fault)) → TestsMatch a items b others v before (Err fault) → TestsMatch a items b others v next (Err fault)
  match_more before fault more =
      then_more Failed NoMemory of_match (Compares a items b others v) (λ m. Then own (TestsHeld m) (λ _. before)) (λ m. Then own (TestsHeld m) (λ _. next)) fault
      (λ m. then_more Failed NoMemory own (TestsHeld m) (λ _. before) (λ _. next) fault (λ _. more))

  pub matching_refused : (fault : MoveFault) → Unless {X = Unit {0}} (Err fault) (TestsMatch a items b others v Passed (Err fault)) → Unless {X = Z} (Err fault) (TestsMatch a items b others v next (Err fault))
  matching_refused fault =
      part_refused Failed NoMemory of_match (Compares a items b others v) (λ m. Then own (TestsHeld m) (λ _. Passed)) (λ m. Then own (TestsHeld m) (λ _. next)) fault
      (λ m. then_more Failed NoMemory own (TestsHeld m) (λ _. Passed) (λ _. next) fault (λ _ e. cc e))

  pub match_on : (answer : Answer Z) → next answer → TestsMatch a items b others v Passed (Ok tt) → TestsMatch a items b others v next answer
  match_on answer h (Ok m, matches, (Ok done, held, is)) = (Ok m, matches, (Ok done, held, h))
  match_on answer h (Ok m, matches, (Err why, held, is)) = cc is
  match_on answer h (Err why, matches, is) = cc is

module _ {Z : Type 0} (from to : OpenedVault) (journal : Journal) (v : View) (items there : List Planned) (next : List Planned → Answer Z → Type 0) where
  abbrev told : Answer (Unit {0}) → Type 0
  told = TestsTold journal items

  abbrev mapped_then : {Y : Type 0} → (List Planned → Answer Y → Type 0) → Answer Y → Type 0
  mapped_then after = TestsMapped journal.names (format_of to.vault) items (λ mapped. TestsMatch to there from mapped v (after mapped))

  pub items_refused : (fault : MoveFault) → Refuses (TestsItems from to journal v items there nothing_follows) fault → Unless {X = Z} (Err fault) (TestsItems from to journal v items there next (Err fault))
  items_refused fault =
      part_refused Failed NoMemory own told (λ _. mapped_then nothing_follows) (λ _. mapped_then next) fault
      (λ _. mapped_more journal.names (format_of to.vault) items (λ mapped. TestsMatch to there from mapped v (next mapped)) (λ mapped. TestsMatch to there from mapped v (nothing_follows mapped)) fault
      (λ mapped. match_more to there from mapped v (next mapped) (nothing_follows mapped) fault (λ none. absurd none)))

  items_on : (mapped : List Planned) (answer : Answer Z) → next mapped answer → TestsItems from to journal v items there (PassedWith mapped) (Ok tt) → TestsItems from to journal v items there next answer
  items_on mapped answer h (Ok one, says, (Ok two, names, (Ok plan, maps, (Ok m, matches, (Ok last, held, (is, e)))))) =
      (Ok one, says, (Ok two, names, (Ok plan, maps, (Ok m, matches, (Ok last, held, subst (λ xs. next xs answer) (sym is) h)))))
  items_on mapped answer h (Ok one, says, (Ok two, names, (Ok plan, maps, (Ok m, matches, (Err why, held, is))))) = cc is
  items_on mapped answer h (Ok one, says, (Ok two, names, (Ok plan, maps, (Err why, matches, is)))) = cc is
  items_on mapped answer h (Ok one, says, (Ok two, names, (Err why, maps, is))) = cc is
  items_on mapped answer h (Ok one, says, (Err why, names, is)) = cc is
  items_on mapped answer h (Err why, says, is) = cc is

  pub items_pass : (mapped : List Planned) (answer : Answer Z) → TestsItems from to journal v items there (PassedWith mapped) (Ok tt) → Unless answer (next mapped answer) → Unless answer (TestsItems from to journal v items there next answer)
  items_pass mapped answer passed = unless_more Failed NoMemory answer (next mapped answer) (TestsItems from to journal v items there next answer) (λ h. items_on mapped answer h passed)

-- the target's items are so in the source
pub none_differs : (m : Match) → (m ≡ Same) ⊎ ((path : plain.Path) × (m ≡ Contained path)) → TestsHeld m (Ok tt)
none_differs m (inl same) = subst (λ x. TestsHeld x (Ok tt)) (sym same) refl
none_differs m (inr contained) = subst (λ x. TestsHeld x (Ok tt)) (sym contained.1) refl

-- ---- names

pub names_pass : (rule : NameMap) (f : Format) (items : List Planned) → AllowsEachMapped rule f items → TestsNames rule f items (Ok tt)
names_pass rule f [] allowed = refl
names_pass rule f (item ∷ items) allowed =
    (Ok tt, inl (allowed item (zero, omega arith, refl), refl), names_pass rule f items (λ other among. allowed other (suc among.0, omega (arith, among.1), among.2)))

-- the first one that isn't allowed
names_fail : (rule : NameMap) (f : Format) (items : List Planned) (k : ℕ) (item : Planned) → ((j : ℕ) → j < k → (other : Planned) → AllowsMappedLast rule f (get_or items j other).path) → k < length items → item ≡ get_or items k item
    → ForbidsMappedLast rule f item.path → TestsNames rule f items (Err (NotAllowed item.path))
names_fail rule f [] k item before inside at forbids = absurd (omega (arith, inside))
names_fail rule f (y ∷ items) zero item before inside at forbids =
    (Err (NotAllowed y.path), inr (subst (λ (z : Planned). ForbidsMappedLast rule f z.path) at forbids, refl), ap (λ (z : Planned). Err (NotAllowed z.path)) at)
names_fail rule f (y ∷ items) (suc k) item before inside at forbids =
    (Ok tt, inl (before 0 (omega arith) y, refl), names_fail rule f items k item (λ j lt other. before (suc j) (omega (arith, lt)) other) (omega (arith, inside)) at forbids)

pub names_refused : (rule : NameMap) (f : Format) (items : List Planned) (k : ℕ) (item : Planned) (fault : MoveFault) → ((j : ℕ) → j < k → (other : Planned) → AllowsMappedLast rule f (get_or items j other).path) → k < length items
    → item ≡ get_or items k item → (fault ≡ NoMemory) ⊎ (ForbidsMappedLast rule f item.path × (fault ≡ NotAllowed item.path)) → Unless {X = Unit {0}} (Err fault) (TestsNames rule f items (Err fault))
names_refused rule f items k item fault before inside at (inl none) = inr (inl (ap Err none))
names_refused rule f items k item fault before inside at (inr forbids) = inr (inr (subst (λ why. TestsNames rule f items (Err why)) (sym forbids.1) (names_fail rule f items k item before inside at forbids.0)))
