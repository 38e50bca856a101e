use Rattle.folder_model.proofs.NameTables.{base_alone}
use Rattle.std.proofs.Common.{◌∙◌, ap}
use Rattle.folder_spec.specs.declared.Spot.TheVariants.{Directory}
use Rattle.folder_spec.specs.State.{put}
use Rattle.folder_model.specs.Tables.{table_of}
use Rattle.folder_model.proofs.mem.table.NameTable.base.Goals as goal

pub returns : goal.returns
returns c =
    base_alone c.new-spots.result c.set_spot.new.spots c.new-spots.ensures.empty
    (c.in_ok-set_spot.ensures.ok ∙ ap (λ p. put (table_of c.new-spots.result) p Directory) c.base.ensures)
