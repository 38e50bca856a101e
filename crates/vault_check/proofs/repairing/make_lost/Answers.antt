use Rattle.std.proofs.Common.{◌≤◌, [], ◌∷◌, Ok, Err, arith}
use Rattle.std.proofs.lemmas.Result.{err_from_is_err_and}
use Rattle.folder_model.proofs.Counting.{counts_after, never_falls}
use Rattle.folder_spec.specs.Event.{MakeDir, Settle}
use Rattle.vault_check.proofs.MadeCalls.{all_next, all_none, at_err, stops_last, stops_next}
use Rattle.vault_check.proofs.MovedStates.{has_begun, lost_moments, made_gone, made_lost_by, made_moments, may_make, settle_moments}
use Rattle.vault_check.proofs.repairing.make_lost.Goals as goal

pub returns-in_err-settle-clause-moments : goal.returns-in_err-settle-clause-moments
returns-in_err-settle-clause-moments g c strays =
    settle_moments c.args.lost.now strays c.settle.result (g.F.Folder.told c.args.folder.now) (g.F.Folder.told c.settle.new.self) c.settle.ensures.changes

pub returns-in_err-settle-clause-stops : goal.returns-in_err-settle-clause-stops
returns-in_err-settle-clause-stops g c =
    let t0 = g.F.Folder.told c.args.folder.now in
    at_err c.from_residual.result _ (stops_next [] Settle (MakeDir c.args.lost.now ∷ Settle ∷ []) c.in_err-settle.field-0.0 t0 t0 (g.F.Folder.told c.settle.new.self) (all_none t0)
    c.in_err-settle.ensures.changes)

pub returns-in_err-make_dir-clause-moments : goal.returns-in_err-make_dir-clause-moments
returns-in_err-make_dir-clause-moments g c strays =
    let lost = c.args.lost.now in
    let t0 = g.F.Folder.told c.args.folder.now in
    let t1 = g.F.Folder.told c.settle.new.self in
    made_moments lost strays t0 (g.met.F.Folder.sound c.args.folder.now) c.requires.free t1 (g.F.Folder.told c.make_dir.new.self) c.make_dir.result
    (has_begun lost strays c.in_ok-settle.field-0 t0 t1 c.in_ok-settle.ensures.changes) c.make_dir.ensures.changes

pub returns-in_err-make_dir-clause-stops : goal.returns-in_err-make_dir-clause-stops
returns-in_err-make_dir-clause-stops g c =
    let t0 = g.F.Folder.told c.args.folder.now in
    let t1 = g.F.Folder.told c.settle.new.self in
    at_err c.from_residual-in_err-make_dir.result _ (stops_next (Settle ∷ []) (MakeDir c.args.lost.now) (Settle ∷ []) c.in_err-make_dir.field-0.0 t0 t1 (g.F.Folder.told c.make_dir.new.self)
    (all_next [] Settle c.in_ok-settle.field-0 t0 t0 t1 (all_none t0) c.in_ok-settle.ensures.changes) c.in_err-make_dir.ensures.changes)

pub returns-in_err-make_dir-clause-counts : goal.returns-in_err-make_dir-clause-counts
returns-in_err-make_dir-clause-counts g c =
    let lost = c.args.lost.now in
    let t0 = g.F.Folder.told c.args.folder.now in
    let t1 = g.F.Folder.told c.settle.new.self in
    let n0 = g.F.Folder.faults c.args.folder.now in
    let n1 = g.F.Folder.faults c.settle.new.self in
    let p = err_from_is_err_and c.from_residual-in_err-make_dir.result c.from_residual-in_err-make_dir.ensures.1 in
    let fault = c.in_err-make_dir.field-0.0 in
    rw (p.1, p.2)
    (counts_after (MakeDir lost) t1 (g.F.Folder.told c.make_dir.new.self) n0 n1 (g.F.Folder.faults c.make_dir.new.self) (Err fault)
    (never_falls {T = Unit {0}} t0 n0 n1 (Ok c.in_ok-settle.field-0) c.in_ok-settle.ensures.counts)
    (may_make lost [] t0 (g.met.F.Folder.sound c.args.folder.now) c.requires.free t1 (has_begun lost [] c.in_ok-settle.field-0 t0 t1 c.in_ok-settle.ensures.changes))
    c.in_err-make_dir.ensures.changes c.in_err-make_dir.ensures.counts)

pub returns-clause-moments : goal.returns-clause-moments
returns-clause-moments g c strays =
    let lost = c.args.lost.now in
    let t0 = g.F.Folder.told c.args.folder.now in
    let t1 = g.F.Folder.told c.settle.new.self in
    let t2 = g.F.Folder.told c.make_dir.new.self in
    let sound = g.met.F.Folder.sound c.args.folder.now in
    lost_moments lost strays t0 sound c.requires.free t2 (g.F.Folder.told c.settle-2.new.self) c.settle-2.result
    (made_gone lost strays t0 sound c.requires.free t1 t2 c.in_ok-make_dir.field-0 (has_begun lost strays c.in_ok-settle.field-0 t0 t1 c.in_ok-settle.ensures.changes) c.in_ok-make_dir.ensures.changes)
    c.settle-2.ensures.changes

pub returns-clause-stops : goal.returns-clause-stops
returns-clause-stops g c =
    let t0 = g.F.Folder.told c.args.folder.now in
    let t1 = g.F.Folder.told c.settle.new.self in
    let t2 = g.F.Folder.told c.make_dir.new.self in
    stops_last (Settle ∷ MakeDir c.args.lost.now ∷ []) Settle c.settle-2.result t0 t2 (g.F.Folder.told c.settle-2.new.self)
    (all_next (Settle ∷ []) (MakeDir c.args.lost.now) c.in_ok-make_dir.field-0 t0 t1 t2 (all_next [] Settle c.in_ok-settle.field-0 t0 t0 t1 (all_none t0) c.in_ok-settle.ensures.changes)
    c.in_ok-make_dir.ensures.changes)
    c.settle-2.ensures.changes

pub returns-clause-made : goal.returns-clause-made
returns-clause-made g c =
    let lost = c.args.lost.now in
    let t0 = g.F.Folder.told c.args.folder.now in
    let t1 = g.F.Folder.told c.settle.new.self in
    let t2 = g.F.Folder.told c.make_dir.new.self in
    let sound = g.met.F.Folder.sound c.args.folder.now in
    made_lost_by lost [] t0 t2 (g.F.Folder.told c.settle-2.new.self) c.settle-2.result
    (made_gone lost [] t0 sound c.requires.free t1 t2 c.in_ok-make_dir.field-0 (has_begun lost [] c.in_ok-settle.field-0 t0 t1 c.in_ok-settle.ensures.changes) c.in_ok-make_dir.ensures.changes)
    (all_next (Settle ∷ []) (MakeDir lost) c.in_ok-make_dir.field-0 t0 t1 t2 (all_next [] Settle c.in_ok-settle.field-0 t0 t0 t1 (all_none t0) c.in_ok-settle.ensures.changes)
    c.in_ok-make_dir.ensures.changes)
    c.settle-2.ensures.changes

pub returns-clause-counts : goal.returns-clause-counts
returns-clause-counts g c =
    let t0 = g.F.Folder.told c.args.folder.now in
    let t1 = g.F.Folder.told c.settle.new.self in
    let t2 = g.F.Folder.told c.make_dir.new.self in
    let n0 = g.F.Folder.faults c.args.folder.now in
    let n1 = g.F.Folder.faults c.settle.new.self in
    let n2 = g.F.Folder.faults c.make_dir.new.self in
    let one : n0 ≤ n1 = never_falls {T = Unit {0}} t0 n0 n1 (Ok c.in_ok-settle.field-0) c.in_ok-settle.ensures.counts in
    let two : n1 ≤ n2 = never_falls {T = Unit {0}} t1 n1 n2 (Ok c.in_ok-make_dir.field-0) c.in_ok-make_dir.ensures.counts in
    counts_after Settle t2 (g.F.Folder.told c.settle-2.new.self) n0 n2 (g.F.Folder.faults c.settle-2.new.self) c.settle-2.result (omega (arith, one, two)) (λ a is. tt)
    c.settle-2.ensures.changes c.settle-2.ensures.counts
