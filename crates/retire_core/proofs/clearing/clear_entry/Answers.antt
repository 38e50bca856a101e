use Rattle.std.proofs.Common.{◌≡◌, ◌≤◌, Ok, arith, inr, subst, sym, refl}
use Rattle.std.proofs.lemmas.Result.{err_from_is_err_and}
use Rattle.folder_model.proofs.Counting.{never_falls}
use Rattle.folder_model.specs.Answers.{Answers}
use Rattle.folder_spec.specs.Path.{child}
use Rattle.folder_staging.specs.Removal.{Removes, deepest, from}
use Rattle.folder_spec.specs.View.{NoEntry, kind_found}
use Rattle.folder_spec.specs.Seen.{IsSeen}
use Rattle.folder_spec.specs.declared.Kind.{Kind}
use Rattle.retire_core.proofs.Blaming.{blamed_kind, blamed_removal, folder_refused, removal_refuses}
use Rattle.retire_core.proofs.Cleared.{bare_of, entry_cleared, entry_leaves, entry_same}
use Rattle.retire_core.proofs.Going.{removes_retiring}
use Rattle.migration_sides.proofs.Chains.{fault_as, refused_as}
use Rattle.migration_sides.proofs.Told.{folder_unless}
use Rattle.retire_core.proofs.Causing.{none_removed, removal_done, removal_refused}
use Rattle.retire_core.proofs.Starts.{missing_by_kind, there_by_kind}
use Rattle.retire_core.specs.Causes.{Refuses, TestsRemoval, Unless}
use Rattle.retire_core.specs.Faults.{of_folder, of_removal}
use Rattle.retire_core.specs.Clearing.{ClearsEntry, IsGone, Leaves}
use Rattle.retire_core.specs.Guarding.{KeepsRetiring}
use Rattle.retire_core.proofs.clearing.clear_entry.Goals as goal

pub returns-in_err-kind-clause-clears : goal.returns-in_err-kind-clause-clears
returns-in_err-kind-clause-clears g c = entry_same (child c.args.work.now c.args.name.now) (g.F.Folder.told c.args.folder.now) (g.F.Folder.told c.kind.new.self) c.kind.ensures.told

pub returns-in_err-kind-clause-blamed : goal.returns-in_err-kind-clause-blamed
returns-in_err-kind-clause-blamed g c =
    let n0 = g.F.Folder.faults c.args.folder.now in
    fault_as _ c.from_residual-in_err-kind.result c.from_residual-in_err-kind.ensures.1
    (blamed_kind (g.F.Folder.told c.args.folder.now) c.in_ok-at.at n0 n0 (g.F.Folder.faults c.kind.new.self) c.in_err-kind.field-0.0 (omega arith) c.in_err-kind.ensures.answer c.in_err-kind.ensures.counts)

pub returns-in_err-remove_all-in_default : goal.returns-in_err-remove_all-in_default
returns-in_err-remove_all-in_default g c =
    let work = c.args.work.now in
    let name = c.args.name.now in
    let at = c.in_ok-at.at in
    let its : at ≡ child work name = c.in_ok-at.ensures in
    let t0 = g.F.Folder.told c.args.folder.now in
    let t1 = g.F.Folder.told c.kind.new.self in
    let t2 = g.F.Folder.told c.remove_all.new.folder in
    let n0 = g.F.Folder.faults c.args.folder.now in
    let n1 = g.F.Folder.faults c.kind.new.self in
    let n2 = g.F.Folder.faults c.remove_all.new.folder in
    let there = there_by_kind t1 at c.in_ok-kind.field-0 (subst (λ t. Answers t (λ v. Unit {0}) (λ v kind. kind ≡ kind_found (v at)) (Ok c.in_ok-kind.field-0)) (sym c.kind.ensures.told) c.in_ok-kind.ensures.answer) c.in_default.not-Missing in
    let removes = c.remove_all.ensures in
    let clears = entry_cleared c.removals_leave_the_rest.ensures.rest at t1 t2 n1 n2 c.remove_all.result there removes in
    let p = err_from_is_err_and c.from_residual-in_err-remove_all-in_default.result c.from_residual-in_err-remove_all-in_default.ensures.1 in
    rw p.1
    (record {
      guard = λ migration same. subst (λ t. KeepsRetiring migration t t2) c.kind.ensures.told (removes_retiring c.roots_show_their_own.ensures.alike migration work name c.requires.other same t1 t2 n1 n2 c.remove_all.result (subst (λ p. Removes (from p deepest) t1 t2 n1 n2 c.remove_all.result) its removes));
      clears = subst (λ p. ClearsEntry p t0 t2) its (subst (λ t. ClearsEntry at t t2) c.kind.ensures.told clears);
      leaves = subst (λ p. Leaves p t0 t2) its (subst (λ t. Leaves at t t2) c.kind.ensures.told (entry_leaves at t1 t2 (g.met.F.Folder.sound c.kind.new.self) clears));
      gone = tt;
      refused = rw p.2 (removal_refuses c.in_err-remove_all-in_default.field-0.0);
      grows = (let first : n0 ≤ n1 = never_falls {T = Kind} t0 n0 n1 (Ok c.in_ok-kind.field-0) c.in_ok-kind.ensures.counts in let second : n1 ≤ n2 = removes.grows in omega (arith, first, second));
      cause = rw p.2
          (λ v seen. subst (λ q. Refuses (TestsRemoval q v) (of_removal c.in_err-remove_all-in_default.field-0.0)) its
          (removal_refused at v c.remove_all.result c.in_err-remove_all-in_default.field-0.0 c.in_err-remove_all-in_default.was (removes.answer v (subst (λ t. IsSeen t v) (sym c.kind.ensures.told) seen))));
      blamed = rw p.2 (blamed_removal n0 n1 n2 c.in_err-remove_all-in_default.field-0.0 c.remove_all.result (c.in_err-remove_all-in_default.was) (never_falls {T = Kind} t0 n0 n1 (Ok c.in_ok-kind.field-0) c.in_ok-kind.ensures.counts) removes.failed);
    })

pub returns : goal.returns
returns g c =
    let work = c.args.work.now in
    let name = c.args.name.now in
    let at = c.in_ok-at.at in
    let its : at ≡ child work name = c.in_ok-at.ensures in
    let t0 = g.F.Folder.told c.args.folder.now in
    let t1 = g.F.Folder.told c.kind.new.self in
    let t2 = g.F.Folder.told c.remove_all.new.folder in
    let n0 = g.F.Folder.faults c.args.folder.now in
    let n1 = g.F.Folder.faults c.kind.new.self in
    let n2 = g.F.Folder.faults c.remove_all.new.folder in
    let there = there_by_kind t1 at c.in_ok-kind.field-0 (subst (λ t. Answers t (λ v. Unit {0}) (λ v kind. kind ≡ kind_found (v at)) (Ok c.in_ok-kind.field-0)) (sym c.kind.ensures.told) c.in_ok-kind.ensures.answer) c.in_default.not-Missing in
    let removes = c.remove_all.ensures in
    let clears = entry_cleared c.removals_leave_the_rest.ensures.rest at t1 t2 n1 n2 c.remove_all.result there removes in
    record {
      guard = λ migration same. subst (λ t. KeepsRetiring migration t t2) c.kind.ensures.told (removes_retiring c.roots_show_their_own.ensures.alike migration work name c.requires.other same t1 t2 n1 n2 c.remove_all.result (subst (λ p. Removes (from p deepest) t1 t2 n1 n2 c.remove_all.result) its removes));
      clears = subst (λ p. ClearsEntry p t0 t2) its (subst (λ t. ClearsEntry at t t2) c.kind.ensures.told clears);
      leaves = subst (λ p. Leaves p t0 t2) its (subst (λ t. Leaves at t t2) c.kind.ensures.told (entry_leaves at t1 t2 (g.met.F.Folder.sound c.kind.new.self) clears));
      gone = subst (λ p. IsGone p t2) its (bare_of at t2 c.remove_all.result c.in_ok-remove_all-in_default.field-0 (c.in_ok-remove_all-in_default.was) removes.bare);
      refused = tt;
      grows = (let first : n0 ≤ n1 = never_falls {T = Kind} t0 n0 n1 (Ok c.in_ok-kind.field-0) c.in_ok-kind.ensures.counts in let second : n1 ≤ n2 = removes.grows in omega (arith, first, second));
      cause = λ v seen. inr (inr (subst (λ q. TestsRemoval q v (Ok tt)) its
          (removal_done at v c.remove_all.result c.in_ok-remove_all-in_default.field-0 c.in_ok-remove_all-in_default.was (removes.answer v (subst (λ t. IsSeen t v) (sym c.kind.ensures.told) seen)))));
      blamed = tt;
    }

pub returns-in_err-kind-clause-cause : goal.returns-in_err-kind-clause-cause
returns-in_err-kind-clause-cause g c v seen =
    refused_as (λ answer. Unless answer (TestsRemoval (child c.args.work.now c.args.name.now) v answer)) c.from_residual-in_err-kind.result c.from_residual-in_err-kind.ensures.1
    (folder_unless of_folder refl _ c.in_err-kind.field-0.0)

pub returns-in-Missing-clause-cause : goal.returns-in-Missing-clause-cause
returns-in-Missing-clause-cause g c v seen =
    let t0 = g.F.Folder.told c.args.folder.now in
    let at = c.in_ok-at.at in
    inr (inr (none_removed t0 (g.met.F.Folder.sound c.args.folder.now) v seen (child c.args.work.now c.args.name.now)
    (subst (λ q. v q ≡ NoEntry) c.in_ok-at.ensures (missing_by_kind t0 at c.in_ok-kind.field-0 c.in_ok-kind.ensures.answer c.in-Missing.is v seen))))

pub returns-in_err-kind-clause-refused : goal.returns-in_err-kind-clause-refused
returns-in_err-kind-clause-refused g c = fault_as _ c.from_residual-in_err-kind.result c.from_residual-in_err-kind.ensures.1 (folder_refused c.in_err-kind.field-0.0)
