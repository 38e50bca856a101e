use Rattle.folder_spec.specs.Event.{grown}
use Rattle.folder_model.proofs.States.{node_changed, on_ok}
use Rattle.folder_model.proofs.FileNodes.{here, made, within, holds}
use Rattle.folder_model.specs.Tables.{names_of}
use Rattle.folder_model.proofs.mem.MemFolder.grow_file.Goals as goal

pub index_mut-node-requires : goal.index_mut-node-requires
index_mut-node-requires c = within c.args.self.now c.args.at.now c.in-FileNode.number c.in_ok-number.field-0 c.in_ok-number.ensures c.in-FileNode.is

pub invariant_of-self : goal.invariant_of-self
invariant_of-self c =
    let self = c.args.self.now in
    let h = holds self c.args.at.now c.in-FileNode.number c.in_ok-number.field-0 c.in_ok-number.ensures c.in-FileNode.is c.grow.new.self c.grow.ensures.front in
    record { within = self.within; fronts = h.0; sound = h.1 }

pub returns-in-FileNode-clause-ok : goal.returns-in-FileNode-clause-ok
returns-in-FileNode-clause-ok c =
    let self = c.args.self.now in
    let at = c.args.at.now in
    let number = c.in-FileNode.number in
    on_ok c.grow.result _ _ c.grow.ensures.ok
    (λ e. node_changed self.nodes.items (names_of self.base) self.steps.items self.kept number at c.index_mut-node.result.now c.grow.new.self (grown c.args.piece.now)
    (made self at number c.in_ok-number.field-0 c.in_ok-number.ensures c.in-FileNode.is) (here self at number c.in_ok-number.field-0 c.in_ok-number.ensures c.in-FileNode.is)
    c.index_mut-node.ensures.value e)
