use Rattle.std.proofs.Common.{[], ◌∷◌, ◌++◌, IfErr, append_assoc, subst}
use Rattle.folder_spec.specs.Event.{FromTo, Settle}
use Rattle.vault_check.specs.Repairing.{StopsIn, making_calls, renames}
use Rattle.vault_check.proofs.MadeCalls.{all_on, at_err, stops_in_front, stops_last, stops_on}
use Rattle.vault_check.proofs.MovedStates.{HasGone, all_of_each, all_of_lost, bare_now, gone_lost, moments_since, movable_now, moved_all, moved_of_each, settled_by, settled_moments, stays_now}
use Rattle.vault_check.proofs.repairing.move_all.Goals as goal

pub move_each-requires : goal.move_each-requires
move_each-requires g c =
    let lost = c.args.lost.now in
    let strays = c.args.strays.now in
    let t0 = g.F.Folder.told c.args.folder.now in
    let t1 = g.F.Folder.told c.make_lost.new.folder in
    let begun : FromTo (HasGone lost strays 0) t0 t1 = gone_lost lost strays t0 t1 (c.make_lost.ensures.moments strays) c.in_ok-make_lost.ensures.made in
    record { bare = bare_now lost strays t0 t1 begun; stays = stays_now lost strays t0 t1 c.in_ok-make_lost.ensures.made; strays = movable_now lost strays t0 t1 c.requires.strays begun }

pub returns-in_err-make_lost-clause-stops : goal.returns-in_err-make_lost-clause-stops
returns-in_err-make_lost-clause-stops g c =
    at_err c.from_residual.result _ (stops_in_front (making_calls c.args.lost.now) (renames c.args.lost.now 0 c.args.strays.now ++ Settle ∷ []) (g.F.Folder.told c.args.folder.now)
    (g.F.Folder.told c.make_lost.new.folder) c.in_err-make_lost.ensures.stops)

pub returns-in_err-make_lost-clause-moments : goal.returns-in_err-make_lost-clause-moments
returns-in_err-make_lost-clause-moments g c = c.make_lost.ensures.moments c.args.strays.now

pub returns-in_err-move_each-clause-moments : goal.returns-in_err-move_each-clause-moments
returns-in_err-move_each-clause-moments g c =
    let lost = c.args.lost.now in
    let strays = c.args.strays.now in
    let t0 = g.F.Folder.told c.args.folder.now in
    let t1 = g.F.Folder.told c.make_lost.new.folder in
    moments_since lost strays t0 t1 (g.F.Folder.told c.move_each.new.folder) c.requires.strays (gone_lost lost strays t0 t1 (c.make_lost.ensures.moments strays) c.in_ok-make_lost.ensures.made)
    c.move_each.ensures.moments

pub returns-in_err-move_each-clause-stops : goal.returns-in_err-move_each-clause-stops
returns-in_err-move_each-clause-stops g c =
    let lost = c.args.lost.now in
    let t0 = g.F.Folder.told c.args.folder.now in
    let t1 = g.F.Folder.told c.make_lost.new.folder in
    let t2 = g.F.Folder.told c.move_each.new.folder in
    let moves = renames lost 0 c.args.strays.now in
    at_err c.from_residual-in_err-move_each.result _
    (stops_on (making_calls lost) (moves ++ Settle ∷ []) t0 t1 t2 (all_of_lost lost [] t0 t1 c.in_ok-make_lost.ensures.made) (stops_in_front moves (Settle ∷ []) t1 t2 c.in_err-move_each.ensures.stops))

pub returns-clause-moments : goal.returns-clause-moments
returns-clause-moments g c =
    let lost = c.args.lost.now in
    let strays = c.args.strays.now in
    let t0 = g.F.Folder.told c.args.folder.now in
    let t1 = g.F.Folder.told c.make_lost.new.folder in
    let t2 = g.F.Folder.told c.move_each.new.folder in
    settled_moments lost strays c.settle.result t0 t2 (g.F.Folder.told c.settle.new.self)
    (moments_since lost strays t0 t1 t2 c.requires.strays (gone_lost lost strays t0 t1 (c.make_lost.ensures.moments strays) c.in_ok-make_lost.ensures.made) c.move_each.ensures.moments)
    c.settle.ensures.changes

pub returns-clause-stops : goal.returns-clause-stops
returns-clause-stops g c =
    let lost = c.args.lost.now in
    let strays = c.args.strays.now in
    let t0 = g.F.Folder.told c.args.folder.now in
    let t1 = g.F.Folder.told c.make_lost.new.folder in
    let t2 = g.F.Folder.told c.move_each.new.folder in
    let t3 = g.F.Folder.told c.settle.new.self in
    subst (λ calls. IfErr c.settle.result (λ _. FromTo (StopsIn calls) t0 t3)) (append_assoc (making_calls lost) (renames lost 0 strays) (Settle ∷ []))
    (stops_last (making_calls lost ++ renames lost 0 strays) Settle c.settle.result t0 t2 t3
    (all_on (making_calls lost) (renames lost 0 strays) t0 t1 t2 (all_of_lost lost [] t0 t1 c.in_ok-make_lost.ensures.made) (all_of_each lost strays t1 t2 c.in_ok-move_each.ensures.moved))
    c.settle.ensures.changes)

pub returns-clause-moved : goal.returns-clause-moved
returns-clause-moved g c =
    let lost = c.args.lost.now in
    let strays = c.args.strays.now in
    let t0 = g.F.Folder.told c.args.folder.now in
    let t1 = g.F.Folder.told c.make_lost.new.folder in
    let t2 = g.F.Folder.told c.move_each.new.folder in
    let begun : FromTo (HasGone lost strays 0) t0 t1 = gone_lost lost strays t0 t1 (c.make_lost.ensures.moments strays) c.in_ok-make_lost.ensures.made in
    settled_by lost strays c.settle.result t0 t2 (g.F.Folder.told c.settle.new.self)
    (moved_all lost strays t0 t1 t2 c.requires.strays begun (moved_of_each lost strays t1 t2 c.in_ok-move_each.ensures.moved))
    (all_on (making_calls lost) (renames lost 0 strays) t0 t1 t2 (all_of_lost lost [] t0 t1 c.in_ok-make_lost.ensures.made) (all_of_each lost strays t1 t2 c.in_ok-move_each.ensures.moved))
    c.settle.ensures.changes
