use Rattle.std.proofs.Common.{◌≡◌, ◌∙◌, ap, length, le_refl}
use Rattle.folder_model.specs.Steps.{state_from}
use Rattle.folder_model.proofs.States.{settled, have_parents}
use Rattle.folder_model.specs.Tables.{names_of}
use Rattle.folder_model.proofs.mem.MemFolder.settle_all.Goals as goal

pub absorb_all-requires : goal.absorb_all-requires
absorb_all-requires c =
    let self = c.args.self.now in
    have_parents (length self.nodes.items) (names_of self.base) self.steps.items self.sound

pub invariant_of-self : goal.invariant_of-self
invariant_of-self c =
    let self = c.args.self.now in
    let steps = c.absorb_all.new.steps in
    let all : c.len-self.result ≡ length steps.items = c.len-self.ensures ∙ steps.ok.0 in
    record {
      within = rw all (le_refl (length steps.items));
      fronts = self.fronts;
      sound = λ t among. self.sound t (c.absorb_all.ensures.tables t among);
    }

pub returns-clause-state : goal.returns-clause-state
returns-clause-state c =
    let self = c.args.self.now in
    let steps = c.absorb_all.new.steps in
    ap (state_from self.nodes.items (names_of c.absorb_all.new.table) steps.items) (c.len-self.ensures ∙ steps.ok.0)
    ∙ settled self.nodes.items (names_of self.base) (names_of c.absorb_all.new.table) self.steps.items steps.items self.kept c.absorb_all.ensures.last
