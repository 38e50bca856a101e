use Rattle.std.proofs.Common.{◌<◌, length, arith}
use Rattle.folder_model.proofs.Others.{later_some}
use Rattle.folder_model.specs.Tables.{names_of}
use Rattle.folder_model.proofs.mem.MemFolder.may_place.Goals as goal

pub returns-then-self-len : goal.returns-then-self-len
returns-then-self-len c =
    let self = c.args.self.now in
    let fewer : self.kept < length self.steps.items = omega (arith, c.if-self-len.true, c.len.ensures, self.steps.ok.0) in
    (λ no. cc, λ may. absurd (later_some self.nodes.items (names_of self.base) self.steps.items self.kept fewer may.0.settled))
