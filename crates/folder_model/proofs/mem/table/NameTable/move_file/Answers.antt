use Rattle.std.proofs.Common.{◌∙◌, ap}
use Rattle.folder_spec.specs.declared.Spot.TheVariants.{Nothing}
use Rattle.folder_spec.specs.State.{put}
use Rattle.folder_model.specs.Tables.{names_of}
use Rattle.folder_model.proofs.NameTables.{file_moved}
use Rattle.folder_model.proofs.mem.table.NameTable.move_file.Goals as goal

pub returns-clause-ok : goal.returns-clause-ok
returns-clause-ok c =
    let t = names_of c.args.self.now in
    let old = c.args.old.now in
    let new = c.args.new.now in
    c.clear.ensures
    ∙ ap (λ u. put u old Nothing) (c.in_ok-put.ensures.ok ∙ ap (put t new) c.spot-spot.ensures)
    ∙ file_moved t old new c.requires.parents c.requires.file c.requires.place c.requires.apart
