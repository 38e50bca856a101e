use Rattle.std.proofs.Common.{None, refl}
use Rattle.folder_spec.specs.declared.Spot.TheVariants.{Nothing}
use Rattle.folder_model.proofs.NameTables.{found_after}
use Rattle.folder_model.proofs.mem.table.NameTable.clear.Goals as goal

pub returns : goal.returns
returns c = found_after c.args.self.now.spots c.remove.new.self c.args.at.now Nothing None refl c.remove.ensures.updates.0
