use Rattle.std.proofs.Common.{◌≤◌, ◌∙◌, ap, is_ok, length}
use Rattle.folder_model.specs.Steps.{AreSoundTables, state_from}
use Rattle.folder_model.proofs.States.{pushed_holds, step_pushed}
use Rattle.folder_model.specs.Tables.{names_of}
use Rattle.folder_model.proofs.mem.MemFolder.push_step.Goals as goal

pub invariant_of-self : goal.invariant_of-self
invariant_of-self c =
    let self = c.args.self.now in
    let h : (self.kept ≤ length c.push.new.self.items) × AreSoundTables (length self.nodes.items) (names_of self.base) c.push.new.self.items =
    pushed_holds self.nodes.items (names_of self.base) self.steps.items c.push.new.self.items self.kept c.args.step (is_ok c.push.result) c.push.ensures.items self.within self.sound c.requires in
    record { within = h.0; fronts = self.fronts; sound = h.1 }

pub returns-clause-ok : goal.returns-clause-ok
returns-clause-ok c =
    let self = c.args.self.now in
    ap (λ steps. state_from self.nodes.items (names_of self.base) steps self.kept) c.in_ok-push.ensures.items
    ∙ step_pushed self.nodes.items (names_of self.base) self.steps.items self.kept c.args.step self.within
