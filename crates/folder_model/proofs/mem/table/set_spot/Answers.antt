use Rattle.std.proofs.Common.{Some, refl}
use Rattle.folder_model.proofs.NameTables.{found_after}
use Rattle.folder_model.proofs.mem.table.set_spot.Goals as goal

pub returns-clause-ok : goal.returns-clause-ok
returns-clause-ok c =
    found_after c.args.spots.now c.insert.new.self c.args.at c.args.spot (Some c.args.spot) refl c.in_ok-insert.ensures.updates.0
