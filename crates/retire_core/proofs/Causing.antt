-- The first test that fails is the answer: parts of a chain of tests, and what a call tells of each.
use Rattle.std.proofs.Common.{◌≡◌, ◌≢◌, inl, inr, List, [], ◌∷◌, ◌++◌, ℕ, Option, None, Result, Ok, Err, true, false, refl, sym, ap, ◌∙◌, subst, IfErr, append-nil, append_assoc, bytes_eq}
use Rattle.folder_spec.proofs.Paths.{below-both}
use Rattle.folder_spec.specs.Event.{Changes, Rename, Settle, Told}
use Rattle.folder_spec.specs.Path.{Part, Path, below, child}
use Rattle.folder_spec.specs.Seen.{IfSeen, IsSeen, moved_view, under}
use Rattle.folder_spec.specs.View.{FileOf, Folder, Found, NoEntry, Special, View}
use Rattle.folder_spec.specs.declared.FolderFault.{FolderFault}
use Rattle.folder_staging.specs.Removal.{Reach, RemovesAs, deepest, from}
use Rattle.folder_staging.specs.declared.removal.RemovalFault.{RemovalFault}
use Rattle.folder_staging.specs.declared.removal.RemovalFault.TheVariants as removal
use Rattle.migration_sides.proofs.Chains.{own_passes, own_refused, passed_is, then_passes, then_refused, unless_more}
use Rattle.migration_sides.proofs.Told.{RefusesBoth, RefusesWalks, apart_passes, apart_refused, by_folder, opens_passes, opens_refused, walks_passes, walks_refused, work_refused}
use Rattle.migration_sides.specs.Causes.{TestsApart, Walks}
use Rattle.migration_sides.specs.Causes as sides
use Rattle.migration_sides.specs.Tests.{Then, own}
use Rattle.migration_sides.specs.declared.fault.StepFault.{StepFault}
use Rattle.move_journal.specs.declared.journal.Journal.{Journal}
use Rattle.migration_spec.specs.Guard.{old_path}
use Rattle.plain_tree.specs.declared.name_map.NameMap.{NameMap}
use Rattle.tree_match.specs.Mapping.{MapsTo}
use Rattle.tree_match.specs.declared.answer.MapFault.{MapFault}
use Rattle.vault_spec.specs.Opened.{OpenedVault}
use Rattle.vault_spec.specs.Alike.{HasFolders}
use Rattle.vault_spec.specs.Plan.{Planned}
use Rattle.vault_spec.specs.Vault.{Loads}
use Rattle.vault_walk.specs.declared.plan.Plan.{Plan}
use Rattle.work_folder.specs.Entries.{new_journal_path, stage_path}
use Rattle.work_folder.specs.Looking as looking
use Rattle.work_folder.specs.Looking.{TestsEntries}
use Rattle.work_folder.specs.declared.fault.WorkFault.{WorkFault}
use Rattle.retire_core.proofs.Cleared.{seen_then}
use Rattle.retire_core.proofs.CleanVaults.{folder_before}
use Rattle.folder_spec.proofs.Seen.{one_view}
use Rattle.migration_spec.proofs.Tellings as tellings
use Rattle.migration_spec.proofs.Tellings.{AreSound, folders_of}
use Rattle.retire_core.specs.Causes.{Answer, IsOfFolder, Passes, ReadsDone, Refuses, Retires, RetiresTold, TestsAway, TestsFree, TestsHeld, TestsItems, TestsMapped, TestsRemoval, TestsRemovals, TestsVaults, Unless, moved_away, retired_of}
use Rattle.retire_core.specs.Clearing.{ClearsEntry, Leaves, MovesHeldOnly}
use Rattle.retire_core.specs.Faults.{of_folder, of_map, of_removal, of_step, of_work}
use Rattle.retire_core.specs.Retiring.{Retiring}
use Rattle.retire_core.specs.declared.fault.RetireFault.{RetireFault}
use Rattle.retire_core.specs.declared.fault.RetireFault.TheVariants.{Failed, NoMemory}
use Rattle.retire_core.specs.declared.retiring.Retired.{Retired}

-- ---- parts of a chain

-- a test of the chain's own that gives nothing
abbrev pub Passed : (Answer (Unit {0}) → Type 0) → Type 0
Passed test = Unless {X = Unit {0}} (Ok tt) (test (Ok tt))

pub test_passes : {Y : Type 0} (test : Answer (Unit {0}) → Type 0) (next : Unit {0} → Answer Y → Type 0) (answer : Answer Y) → Passed test → Unless answer (next tt answer)
    → Unless answer (Then own test next answer)
test_passes test next answer passed = then_passes Failed NoMemory own test next answer tt (passed_is Failed NoMemory tt (test (Ok tt)) passed)

-- where all tests passed, no other answer comes than that it is done, or that the folder failed or memory ran out
pub ends : (P : Answer (Unit {0}) → Type 0) (answer : Answer (Unit {0})) → IfErr answer IsOfFolder → P (Ok tt) → Unless answer (P answer)
ends P (Ok done) fails passed = inr (inr passed)
ends P (Err fault) (inl failed) passed = inl (ap Err failed)
ends P (Err fault) (inr none) passed = inr (inl (ap Err none))

-- ---- at an exit

pub folder_fails : (fault : FolderFault) → IsOfFolder (of_folder fault)
folder_fails = by_folder IsOfFolder of_folder refl (inl refl) (inr refl)

-- ---- whether the target holds the source

module _ (rule : NameMap) (source target : OpenedVault) (v : View) where
  abbrev walked_next : List Planned → List Planned → Answer (Unit {0}) → Type 0
  walked_next items others = TestsMapped rule source items target others v

  pub unclean : (fault : StepFault) → RefusesWalks source target v fault → Refuses (TestsVaults rule source target v) (of_step fault)
  unclean fault = walks_refused of_step source target v walked_next fault

  pub both_clean : (items others : List Planned) (answer : Answer (Unit {0})) → Walks source v (Ok items) → Walks target v (Ok others) → Unless answer (TestsMapped rule source items target others v answer)
      → Unless answer (TestsVaults rule source target v answer)
  both_clean items others answer = walks_passes of_step source target v walked_next answer items others

  module _ (items others : List Planned) where
    abbrev mapped_next : Plan → Answer (Unit {0}) → Type 0
    mapped_next mapped = TestsItems source mapped.items target others v

    pub unmapped : (why : MapFault) → MapsTo rule items (Err why) → Refuses (TestsMapped rule source items target others v) (of_map why)
    unmapped why refused = then_refused Failed NoMemory of_map (MapsTo rule items) mapped_next why refused

    pub is_mapped : (mapped : Plan) (answer : Answer (Unit {0})) → MapsTo rule items (Ok mapped) → Unless answer (TestsItems source mapped.items target others v answer)
        → Unless answer (TestsMapped rule source items target others v answer)
    is_mapped mapped answer maps = then_passes Failed NoMemory of_map (MapsTo rule items) mapped_next answer mapped maps

module _ (rule : NameMap) (from to : Path) (from_pass to_pass : List ℕ) (v : View) where
  abbrev opened_next : OpenedVault → OpenedVault → Answer (Unit {0}) → Type 0
  opened_next source target = TestsVaults rule source target v

  pub closed : (fault : StepFault) → RefusesBoth v from to from_pass to_pass fault → Refuses (TestsHeld rule from to from_pass to_pass v) (of_step fault)
  closed fault = opens_refused of_step v from to from_pass to_pass opened_next fault

  pub both_opened : (source target : OpenedVault) (answer : Answer (Unit {0})) → source.root ≡ from → target.root ≡ to → Loads (under from v) from_pass (Ok source.vault) → Loads (under to v) to_pass (Ok target.vault)
      → Unless answer (TestsVaults rule source target v answer) → Unless answer (TestsHeld rule from to from_pass to_pass v answer)
  both_opened source target answer = opens_passes of_step v from to from_pass to_pass opened_next answer source target

-- ---- what is seen

-- the source is moved
pub moved_seen : (source work : Path) (t u w : Option Told) (one two : Unit {0}) → AreSound t → AreSound u → Changes (Rename source (old_path work)) t u (Ok one) → Changes Settle u w (Ok two)
    → (v x : View) → IsSeen t v → IsSeen w x → x ≡ moved_view v source (old_path work)
moved_seen source work t u w one two sound sound_then moves settles v x is is_now =
    let settled = seen_then Settle u w two sound_then settles x is_now in
    let moved = seen_then (Rename source (old_path work)) t u one sound moves settled.0 settled.1 in
    settled.2 ∙ moved.2 ∙ ap (λ (y : View). moved_view y source (old_path work)) (one_view t moved.0 v moved.1 is)

pub away_none : (source work : Path) (v w : View) → v source ≡ NoEntry → w ≡ v → w ≡ moved_away (v source) source work v
away_none source work v w none same = same ∙ ap (λ (x : Found). moved_away x source work v) (sym none)

pub away_there : (source work : Path) (v : View) (x : Found) → x ≢ NoEntry → moved_view v source (old_path work) ≡ moved_away x source work v
away_there source work v NoEntry there = absurd (there refl)
away_there source work v Folder there = refl
away_there source work v (FileOf bytes) there = refl
away_there source work v Special there = refl

-- ---- moving the source

module _ (work : Path) (from_pass to_pass : List ℕ) (journal : Journal) (v : View) (there : v journal.source ≢ NoEntry) where
  abbrev free_next : Unit {0} → Answer (Unit {0}) → Type 0
  free_next _ = TestsHeld journal.names journal.source journal.target from_pass to_pass v

  pub not_free : (fault : RetireFault) → Refuses (TestsFree work v) fault → Refuses (TestsAway work from_pass to_pass journal v) fault
  not_free fault refused =
      unless_more Failed NoMemory (Err fault) (Then own (TestsFree work v) free_next (Err fault)) (TestsAway work from_pass to_pass journal v (Err fault)) (λ h. inr (there, h)) (own_refused Failed NoMemory (TestsFree work v) free_next fault refused)

  pub is_free : (answer : Answer (Unit {0})) → Passed (TestsFree work v) → Unless answer (TestsHeld journal.names journal.source journal.target from_pass to_pass v answer)
      → Unless answer (TestsAway work from_pass to_pass journal v answer)
  is_free answer free h =
      unless_more Failed NoMemory answer (Then own (TestsFree work v) free_next answer) (TestsAway work from_pass to_pass journal v answer) (λ n. inr (there, n)) (test_passes (TestsFree work v) free_next answer free h)

-- ---- removals

removes_alike : (r : Reach) (v w : View) (result : Result (Unit {0}) RemovalFault) → ((rest : Path) → w (r.at ++ rest) ≡ v (r.at ++ rest)) → RemovesAs r w result → RemovesAs r v result
removes_alike r v w (Ok done) same h = λ rest least. ((λ special. (h rest least).0 (same rest ∙ special)), (λ deep. sym (same rest) ∙ (h rest least).1 deep))
removes_alike r v w (Err removal.Depth) same h = (h.0, h.1, λ none. h.2 (same h.0 ∙ none))
removes_alike r v w (Err (removal.Other p)) same h = (h.0, ap v h.0.is ∙ sym (same h.0.rest) ∙ ap w (sym h.0.is) ∙ h.1)
removes_alike r v w (Err removal.Failed) same h = tt
removes_alike r v w (Err removal.NoMemory) same h = tt

pub removal_refused : (at : Path) (v : View) (result : Result (Unit {0}) RemovalFault) (fault : RemovalFault) → result ≡ Err fault → RemovesAs (from at deepest) v result → Refuses (TestsRemoval at v) (of_removal fault)
removal_refused at v result fault is removes = then_refused Failed NoMemory of_removal (RemovesAs (from at deepest) v) Passes fault (subst (RemovesAs (from at deepest) v) is removes)

pub removal_done : (at : Path) (v : View) (result : Result (Unit {0}) RemovalFault) (done : Unit {0}) → result ≡ Ok done → RemovesAs (from at deepest) v result → TestsRemoval at v (Ok tt)
removal_done at v result done is removes = (Ok tt, subst (RemovesAs (from at deepest) v) is removes, refl)

removal_alike : (at : Path) (v w : View) (answer : Answer (Unit {0})) → ((rest : Path) → w (at ++ rest) ≡ v (at ++ rest)) → TestsRemoval at w answer → TestsRemoval at v answer
removal_alike at v w answer same (tested, removes, told) = (tested, removes_alike (from at deepest) v w tested same removes, told)

pub beside : (work : Path) (gone name : Part) (rest : Path) → bytes_eq gone name ≡ false → below (child work gone) (child work name ++ rest) ≡ None
beside work gone name rest other = ap (below (child work gone)) (append_assoc work (name ∷ []) rest) ∙ below-both work (gone ∷ []) (name ∷ rest) ∙ rw other refl

-- by what was seen before another entry was removed
pub removed_before : (work : Path) (gone name : Part) (t u : Option Told) (answer : Answer (Unit {0})) → bytes_eq gone name ≡ false → ClearsEntry (child work gone) t u → Leaves (child work gone) t u
    → IfSeen u (λ w. Unless answer (TestsRemoval (child work name) w answer)) → IfSeen t (λ v. Unless answer (TestsRemoval (child work name) v answer))
removed_before work gone name t u answer other clears leaves cause v is =
    let then_ = tellings.seen_then _ t u clears v is in
    unless_more Failed NoMemory answer (TestsRemoval (child work name) then_.0 answer) (TestsRemoval (child work name) v answer)
    (removal_alike (child work name) v then_.0 answer (λ rest. leaves v then_.0 is then_.1 (child work name ++ rest) (beside work gone name rest other))) (cause then_.0 then_.1)

-- nothing is below what isn't a directory
pub none_behind : (v : View) → HasFolders v → (at : Path) (a : Part) (more : Path) → v at ≢ Folder → v (at ++ a ∷ more) ≡ NoEntry
none_behind v folders at a more isnt = by_found (v (at ++ a ∷ more)) refl
  where
    by_found : (x : Found) → v (at ++ a ∷ more) ≡ x → v (at ++ a ∷ more) ≡ NoEntry
    by_found NoEntry e = e
    by_found Folder e = absurd (isnt (folder_before v folders at a more (λ n. cc (e, n))))
    by_found (FileOf bytes) e = absurd (isnt (folder_before v folders at a more (λ n. cc (e, n))))
    by_found Special e = absurd (isnt (folder_before v folders at a more (λ n. cc (e, n))))

none_below : (t : Option Told) → AreSound t → IfSeen t (λ v. (at rest : Path) → v at ≡ NoEntry → v (at ++ rest) ≡ NoEntry)
none_below t sound v is at [] none = ap v (append-nil at) ∙ none
none_below t sound v is at (a ∷ more) none = none_behind v (folders_of t sound v is) at a more (λ folder. clash (sym folder ∙ none))
  where
    clash : Folder ≡ NoEntry → ⊥
    clash e = cc e

pub none_removed : (t : Option Told) → AreSound t → IfSeen t (λ v. (at : Path) → v at ≡ NoEntry → TestsRemoval at v (Ok tt))
none_removed t sound v is at none = (Ok tt, (λ rest least. ((λ special. clash (sym (none_below t sound v is at rest none) ∙ special)), (λ deep. none_below t sound v is at rest none))), refl)
  where
    clash : NoEntry ≡ Special → ⊥
    clash e = cc e

module _ (work : Path) (v : View) where
  abbrev stage_next : Unit {0} → Answer (Unit {0}) → Type 0
  stage_next _ = TestsRemoval (new_journal_path work) v

  abbrev old_next : Unit {0} → Answer (Unit {0}) → Type 0
  old_next _ = Then own (TestsRemoval (stage_path work) v) stage_next

  pub old_stays : (fault : RetireFault) → Refuses (TestsRemoval (old_path work) v) fault → Refuses (TestsRemovals work v) fault
  old_stays fault = own_refused Failed NoMemory (TestsRemoval (old_path work) v) old_next fault

  pub stage_stays : (fault : RetireFault) → Passed (TestsRemoval (old_path work) v) → Refuses (TestsRemoval (stage_path work) v) fault → Refuses (TestsRemovals work v) fault
  stage_stays fault old refused = test_passes (TestsRemoval (old_path work) v) old_next (Err fault) old (own_refused Failed NoMemory (TestsRemoval (stage_path work) v) stage_next fault refused)

  pub both_removed : (answer : Answer (Unit {0})) → Passed (TestsRemoval (old_path work) v) → Passed (TestsRemoval (stage_path work) v)
      → Unless answer (TestsRemoval (new_journal_path work) v answer) → Unless answer (TestsRemovals work v answer)
  both_removed answer old stage h = test_passes (TestsRemoval (old_path work) v) old_next answer old (test_passes (TestsRemoval (stage_path work) v) stage_next answer stage h)

-- ---- the call

module _ (work : Path) (from_pass to_pass : List ℕ) (journal : Journal) (v : View) where
  abbrev removed_next : Unit {0} → Answer Retired → Type 0
  removed_next _ = Passes (retired_of journal)

  abbrev removals : Answer (Unit {0}) → Type 0
  removals = TestsRemovals work (moved_away (v journal.source) journal.source work v)

  abbrev away_next : Unit {0} → Answer Retired → Type 0
  away_next _ = Then own removals removed_next

  pub not_away : (fault : RetireFault) → Refuses (TestsAway work from_pass to_pass journal v) fault → Refuses (RetiresTold work from_pass to_pass journal v) fault
  not_away fault = own_refused Failed NoMemory (TestsAway work from_pass to_pass journal v) away_next fault

  pub not_removed : (fault : RetireFault) → Passed (TestsAway work from_pass to_pass journal v) → Refuses removals fault → Refuses (RetiresTold work from_pass to_pass journal v) fault
  not_removed fault away refused = test_passes (TestsAway work from_pass to_pass journal v) away_next (Err fault) away (own_refused Failed NoMemory removals removed_next fault refused)

  pub is_retired : Passed (TestsAway work from_pass to_pass journal v) → Passed removals → Unless (Ok (retired_of journal)) (RetiresTold work from_pass to_pass journal v (Ok (retired_of journal)))
  is_retired away removed =
      test_passes (TestsAway work from_pass to_pass journal v) away_next (Ok (retired_of journal)) away (test_passes removals removed_next (Ok (retired_of journal)) removed (inr (inr refl)))

pub removed_then : (r : Retiring) (source work : Path) (t u : Option Told) (answer : Answer (Unit {0})) → MovesHeldOnly r t u
    → ((v w : View) → IsSeen t v → IsSeen u w → w ≡ moved_away (v source) source work v) → IfSeen u (λ w. Unless answer (TestsRemovals work w answer))
    → IfSeen t (λ v. Unless answer (TestsRemovals work (moved_away (v source) source work v) answer))
removed_then r source work t u answer moves goes cause v is =
    let then_ = tellings.seen_then _ t u moves v is in
    subst (λ (x : View). Unless answer (TestsRemovals work x answer)) (goes v then_.0 is then_.1) (cause then_.0 then_.1)

module _ (work : Path) (from_pass to_pass : List ℕ) (v : View) where
  abbrev entries_next : Journal → Unit {0} → Answer Retired → Type 0
  entries_next journal _ = RetiresTold work from_pass to_pass journal v

  abbrev apart_next : Journal → Unit {0} → Answer Retired → Type 0
  apart_next journal _ = Then of_work (TestsEntries true v work) (entries_next journal)

  abbrev journal_next : Journal → Answer Retired → Type 0
  journal_next journal = Then of_step (TestsApart journal.source journal.target work) (apart_next journal)

  pub not_done : (fault : RetireFault) → Refuses (ReadsDone work v) fault → Refuses (Retires work from_pass to_pass v) fault
  not_done fault = own_refused Failed NoMemory (ReadsDone work v) journal_next fault

  module _ (journal : Journal) (done : Unless (Ok journal) (ReadsDone work v (Ok journal))) where
    pub overlapping : (fault : StepFault) → sides.Refuses (TestsApart journal.source journal.target work) fault → Refuses (Retires work from_pass to_pass v) (of_step fault)
    overlapping fault refused =
        own_passes Failed NoMemory (ReadsDone work v) journal_next (Err (of_step fault)) journal done (apart_refused of_step journal.source journal.target work (apart_next journal) fault refused)

    module _ (apart : sides.Unless {X = Unit {0}} (Ok tt) (TestsApart journal.source journal.target work (Ok tt))) where
      pub foreign : (why : WorkFault) → looking.Gives {T = Unit {0}} (TestsEntries true v work) (Err why) → Refuses (Retires work from_pass to_pass v) (of_work why)
      foreign why looked =
          own_passes Failed NoMemory (ReadsDone work v) journal_next (Err (of_work why)) journal done
          (apart_passes of_step journal.source journal.target work (apart_next journal) (Err (of_work why)) apart (work_refused of_work (TestsEntries true v work) (entries_next journal) why looked))

      pub is_told : (answer : Answer Retired) → TestsEntries true v work (Ok tt) → Unless answer (RetiresTold work from_pass to_pass journal v answer) → Unless answer (Retires work from_pass to_pass v answer)
      is_told answer entries h =
          own_passes Failed NoMemory (ReadsDone work v) journal_next answer journal done
          (apart_passes of_step journal.source journal.target work (apart_next journal) answer apart (then_passes Failed NoMemory of_work (TestsEntries true v work) (entries_next journal) answer tt entries h))
