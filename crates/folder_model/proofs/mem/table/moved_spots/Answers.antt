use Rattle.std.proofs.Common.{◌∙◌, sym, subst, Contains}
use Rattle.folder_model.specs.Tables.{table_of}
use Rattle.folder_model.proofs.NameTables.{IsMovedSoFar, none_found, key_there, moved_at_first, moved_next, moved_at_last}
use Rattle.folder_model.proofs.mem.table.moved_spots.Goals as goal

pub loop-path-init : goal.loop-path-init
loop-path-init c =
    moved_at_first (table_of c.args.spots.now) c.args.old.now c.args.new.now c.requires.parents c.requires.apart c.requires.place (table_of c.new-after.result)
    c.into_iter-path-iterator.result (λ q. none_found c.new-after.result q c.new-after.ensures.empty)
    (λ p stands. subst (λ keys. Contains keys p) (sym (c.into_iter-path-iterator.ensures.into_iter_gives ∙ c.keys-path-items.ensures.rest)) (key_there c.args.spots.now p stands))

pub loop-path-preserved : goal.loop-path-preserved
loop-path-preserved c =
    moved_next (table_of c.args.spots.now) c.args.old.now c.args.new.now c.requires.parents c.requires.apart c.requires.place
    (table_of c.loop-path.after) (table_of c.move_path.new.after) c.in-Some.path.now c.next.new.self c.in_ok-move_path.ensures
    (subst (IsMovedSoFar (table_of c.args.spots.now) (table_of c.loop-path.after) c.args.old.now c.args.new.now) c.in-Some.ensures.steps c.loop-path.invariant)

pub returns : goal.returns
returns c =
    moved_at_last (table_of c.args.spots.now) c.args.old.now c.args.new.now c.requires.parents c.requires.apart c.requires.place (table_of c.loop-path.after)
    (subst (IsMovedSoFar (table_of c.args.spots.now) (table_of c.loop-path.after) c.args.old.now c.args.new.now) c.in-None.ensures.steps.0 c.loop-path.invariant)
