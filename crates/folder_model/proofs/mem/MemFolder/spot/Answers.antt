use Rattle.folder_model.proofs.States.{present_is}
use Rattle.folder_model.specs.Tables.{names_of}
use Rattle.folder_model.proofs.mem.MemFolder.spot.Goals as goal

pub returns : goal.returns
returns c =
    let self = c.args.self.now in
    rw (present_is self.nodes.items (names_of self.base) self.steps.items self.kept, ← c.as_slice.ensures.value) c.look.ensures
