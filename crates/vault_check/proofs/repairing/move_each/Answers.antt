use Rattle.std.proofs.Common.{◌≡◌, ◌≤◌, ◌<◌, ◌^◌, ◌∙◌, [], ◌∷◌, Ok, Err, ap, get_or, length, subst, subst₂, take, arith, rules}
use Rattle.std.proofs.Math.Seq.{take-length}
use Rattle.std.proofs.lemmas.List.{get_or_default}
use Rattle.folder_model.proofs.Counting.{counts_after, never_falls}
use Rattle.folder_spec.specs.Event.{Changes, FromTo, Rename}
use Rattle.std.proofs.lemmas.Result.{err_from_is_err_and}
use Rattle.vault_check.specs.Repairing.{HasMadeAll, StopsIn, place_of, renames}
use Rattle.vault_check.proofs.MadeCalls.{all_next, all_none, at_err, renames_around, renames_more, stops_here, stops_next}
use Rattle.vault_check.proofs.MovedStates.{each_moved, gone_none, gone_moments, gone_all, renamed_moments, renamed_gone, may_rename}
use Rattle.vault_check.proofs.repairing.move_each.Goals as goal

pub loop-k-init : goal.loop-k-init
loop-k-init g c = record {
  goes = gone_none c.args.lost.now c.args.strays.now (g.F.Folder.told c.args.folder.now) c.requires.bare;
  all = all_none (g.F.Folder.told c.args.folder.now);
  grows = omega arith;
}

pub returns-in_err-place-clause-moments : goal.returns-in_err-place-clause-moments
returns-in_err-place-clause-moments g c =
    gone_moments c.args.lost.now c.args.strays.now c.loop-k.k (g.F.Folder.told c.args.folder.now) (g.F.Folder.told c.loop-k.folder) c.loop-k.invariant.goes

pub returns-clause-moments : goal.returns-clause-moments
returns-clause-moments g c =
    gone_moments c.args.lost.now c.args.strays.now c.loop-k.k (g.F.Folder.told c.args.folder.now) (g.F.Folder.told c.loop-k.folder) c.loop-k.invariant.goes

pub returns-clause-moved : goal.returns-clause-moved
returns-clause-moved g c =
    let t0 = g.F.Folder.told c.args.folder.now in
    let t1 = g.F.Folder.told c.loop-k.folder in
    let lost = c.args.lost.now in
    let strays = c.args.strays.now in
    let end : c.loop-k.k ≡ length strays = omega (arith, c.loop-k-test.false, c.loop-k.auto.k-end) in
    each_moved lost strays t0 t1 (gone_all lost strays c.loop-k.k t0 t1 end c.loop-k.invariant.goes)
    (subst (λ paths. FromTo (HasMadeAll (renames lost 0 paths)) t0 t1) (ap (λ n. take n strays) end ∙ take-length strays) c.loop-k.invariant.all)

pub returns-in_err-place-clause-stops : goal.returns-in_err-place-clause-stops
returns-in_err-place-clause-stops g c =
    let t0 = g.F.Folder.told c.args.folder.now in
    let t1 = g.F.Folder.told c.loop-k.folder in
    let lost = c.args.lost.now in
    let strays = c.args.strays.now in
    let around = renames_around lost c.loop-k.k strays c.loop-k-test.true in
    at_err c.from_residual.result _ (subst (λ calls. FromTo (StopsIn calls) t0 t1) around.1
    (stops_here (renames lost 0 (take c.loop-k.k strays)) (Rename (get_or strays c.loop-k.k []) (place_of lost c.loop-k.k)) around.0 t0 t1 c.loop-k.invariant.all))

pub returns-in_err-rename-clause-stops : goal.returns-in_err-rename-clause-stops
returns-in_err-rename-clause-stops g c =
    let t0 = g.F.Folder.told c.args.folder.now in
    let t1 = g.F.Folder.told c.loop-k.folder in
    let t2 = g.F.Folder.told c.rename.new.self in
    let lost = c.args.lost.now in
    let strays = c.args.strays.now in
    let fault = c.in_err-rename.field-0.0 in
    let from_path : c.index-strays-k.result ≡ get_or strays c.loop-k.k [] = c.index-strays-k.is ∙ get_or_default strays c.loop-k.k c.index-strays-k.result [] c.loop-k-test.true in
    let around = renames_around lost c.loop-k.k strays c.loop-k-test.true in
    at_err c.from_residual-in_err-rename.result _ (subst (λ calls. FromTo (StopsIn calls) t0 t2) around.1
    (stops_next (renames lost 0 (take c.loop-k.k strays)) (Rename (get_or strays c.loop-k.k []) (place_of lost c.loop-k.k)) around.0 fault t0 t1 t2 c.loop-k.invariant.all
    (subst₂ (λ p q. Changes (Rename p q) t1 t2 (Err fault)) from_path c.in_ok-place.ensures c.in_err-rename.ensures.changes)))

-- the rename is that of the next stray
pub loop-k-preserved : goal.loop-k-preserved
loop-k-preserved g c =
    let lost = c.args.lost.now in
    let strays = c.args.strays.now in
    let few : c.loop-k.k < 2 ^ 63 = search rules in
    let i = c.loop-k.invariant in
    let from_path : c.index-strays-k.result ≡ get_or strays c.loop-k.k [] = c.index-strays-k.is ∙ get_or_default strays c.loop-k.k c.index-strays-k.result [] c.loop-k-test.true in
    let changes = subst₂ (λ p q. Changes (Rename p q) (g.F.Folder.told c.loop-k.folder) (g.F.Folder.told c.rename.new.self) (Ok c.in_ok-rename.field-0)) from_path c.in_ok-place.ensures
    (c.in_ok-rename.ensures.changes) in
    record {
      goes = renamed_gone lost strays c.loop-k.k c.loop-k-test.true few (g.F.Folder.told c.args.folder.now) (g.F.Folder.told c.loop-k.folder) (g.F.Folder.told c.rename.new.self) c.in_ok-rename.field-0
          c.requires.strays c.requires.stays i.goes changes;
      all = subst (λ calls. FromTo (HasMadeAll calls) (g.F.Folder.told c.args.folder.now) (g.F.Folder.told c.rename.new.self)) (renames_more lost c.loop-k.k strays c.loop-k-test.true)
          (all_next (renames lost 0 (take c.loop-k.k strays)) (Rename (get_or strays c.loop-k.k []) (place_of lost c.loop-k.k)) c.in_ok-rename.field-0 (g.F.Folder.told c.args.folder.now)
          (g.F.Folder.told c.loop-k.folder) (g.F.Folder.told c.rename.new.self) i.all changes);
      grows =
          let more : g.F.Folder.faults c.loop-k.folder ≤ g.F.Folder.faults c.rename.new.self
          = never_falls {T = Unit {0}} (g.F.Folder.told c.loop-k.folder) (g.F.Folder.faults c.loop-k.folder) (g.F.Folder.faults c.rename.new.self) (Ok c.in_ok-rename.field-0) c.in_ok-rename.ensures.counts in
          omega (arith, i.grows, more);
    }

pub returns-in_err-rename-clause-moments : goal.returns-in_err-rename-clause-moments
returns-in_err-rename-clause-moments g c =
    let lost = c.args.lost.now in
    let strays = c.args.strays.now in
    let few : c.loop-k.k < 2 ^ 63 = search rules in
    let from_path : c.index-strays-k.result ≡ get_or strays c.loop-k.k [] = c.index-strays-k.is ∙ get_or_default strays c.loop-k.k c.index-strays-k.result [] c.loop-k-test.true in
    renamed_moments lost strays c.loop-k.k c.loop-k-test.true few (g.F.Folder.told c.args.folder.now) (g.F.Folder.told c.loop-k.folder) (g.F.Folder.told c.rename.new.self) c.rename.result
    c.requires.strays c.requires.stays c.loop-k.invariant.goes
    (subst₂ (λ p q. Changes (Rename p q) (g.F.Folder.told c.loop-k.folder) (g.F.Folder.told c.rename.new.self) c.rename.result) from_path c.in_ok-place.ensures c.rename.ensures.changes)

pub returns-in_err-rename-clause-counts : goal.returns-in_err-rename-clause-counts
returns-in_err-rename-clause-counts g c =
    let lost = c.args.lost.now in
    let strays = c.args.strays.now in
    let few : c.loop-k.k < 2 ^ 63 = search rules in
    let p = err_from_is_err_and c.from_residual-in_err-rename.result c.from_residual-in_err-rename.ensures.1 in
    let fault = c.in_err-rename.field-0.0 in
    let i = c.loop-k.invariant in
    let t0 = g.F.Folder.told c.args.folder.now in
    let t1 = g.F.Folder.told c.loop-k.folder in
    let t2 = g.F.Folder.told c.rename.new.self in
    let from_path : c.index-strays-k.result ≡ get_or strays c.loop-k.k [] = c.index-strays-k.is ∙ get_or_default strays c.loop-k.k c.index-strays-k.result [] c.loop-k-test.true in
    rw (p.1, p.2)
    (counts_after (Rename (get_or strays c.loop-k.k []) (place_of lost c.loop-k.k)) t1 t2 (g.F.Folder.faults c.args.folder.now) (g.F.Folder.faults c.loop-k.folder) (g.F.Folder.faults c.rename.new.self) (Err fault) i.grows
    (may_rename lost strays c.loop-k.k c.loop-k-test.true few t0 t1 c.requires.strays i.goes)
    (subst₂ (λ p q. Changes (Rename p q) t1 t2 (Err fault)) from_path c.in_ok-place.ensures c.in_err-rename.ensures.changes) c.in_err-rename.ensures.counts)
