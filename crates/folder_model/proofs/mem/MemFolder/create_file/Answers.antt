use Rattle.std.proofs.Common.{◌≡◌, ◌≤◌, ◌∙◌, ◌++◌, ◌∷◌, [], sym, ap₂, subst, length, vec_len, vec_capacity}
use Rattle.folder_spec.specs.declared.Spot.TheVariants.{FileNode}
use Rattle.folder_spec.specs.Event.{empty_node}
use Rattle.folder_model.specs.declared.mem.step.Step.TheVariants.{Put}
use Rattle.folder_model.specs.Nodes.{KeepsFronts}
use Rattle.folder_model.specs.Steps.{AreSoundTables, state_from}
use Rattle.folder_model.proofs.States.{was_pushed, all_pushed, created, created_holds}
use Rattle.folder_model.specs.Tables.{names_of}
use Rattle.folder_model.proofs.mem.MemFolder.create_file.Goals as goal

pub invariant_of-self : goal.invariant_of-self
invariant_of-self c =
    let self = c.args.self.now in
    record {
      within = subst (λ steps. self.kept ≤ length steps) (sym c.reserve.ensures.items) self.within;
      fronts = self.fronts;
      sound = subst (λ steps. AreSoundTables (length self.nodes.items) (names_of self.base) steps) (sym c.reserve.ensures.items) self.sound;
    }

pub invariant_of-self-in-Break-branch-2 : goal.invariant_of-self-in-Break-branch-2
invariant_of-self-in-Break-branch-2 c =
    let self = c.args.self.now in
    record {
      within = subst (λ steps. self.kept ≤ length steps) (sym c.reserve.ensures.items) self.within;
      fronts = subst KeepsFronts (sym c.reserve-2.ensures.items) self.fronts;
      sound = subst (λ nodes. AreSoundTables (length nodes) (names_of self.base) c.reserve.new.self.items) (sym c.reserve-2.ensures.items)
          (subst (λ steps. AreSoundTables (length self.nodes.items) (names_of self.base) steps) (sym c.reserve.ensures.items) self.sound);
    }

pub invariant_of-self-2 : goal.invariant_of-self-2
invariant_of-self-2 c =
    let self = c.args.self.now in
    let new_nodes : c.push.new.self.items ≡ self.nodes.items ++ empty_node ∷ [] =
    all_pushed c.push.result c.push.new.self.items c.reserve-2.new.self.items c.new.result c.push.ensures.items
    (was_pushed c.push.result (vec_capacity c.reserve-2.new.self) (vec_len c.reserve-2.new.self) c.push.ensures.full c.in_ok-reserve-2.ensures.ok)
    ∙ ap₂ (λ nodes node. nodes ++ node ∷ []) c.reserve-2.ensures.items c.new.ensures in
    let new_steps : c.push-2.new.self.items ≡ self.steps.items ++ Put c.args.at (FileNode (length self.nodes.items)) ∷ [] =
    all_pushed c.push-2.result c.push-2.new.self.items c.reserve.new.self.items (Put c.args.at (FileNode c.len-number.result)) c.push-2.ensures.items
    (was_pushed c.push-2.result (vec_capacity c.reserve.new.self) (vec_len c.reserve.new.self) c.push-2.ensures.full c.in_ok-reserve.ensures.ok)
    ∙ ap₂ (λ steps n. steps ++ Put c.args.at (FileNode n) ∷ []) c.reserve.ensures.items (c.len-number.ensures ∙ self.nodes.ok.0) in
    let h : (self.kept ≤ length c.push-2.new.self.items) × KeepsFronts c.push.new.self.items × AreSoundTables (length c.push.new.self.items) (names_of self.base) c.push-2.new.self.items =
    created_holds self.nodes.items c.push.new.self.items (names_of self.base) self.steps.items c.push-2.new.self.items self.kept c.args.at new_nodes new_steps self.within self.fronts self.sound c.requires in
    record { within = h.0; fronts = h.1; sound = h.2 }

pub returns-clause-ok : goal.returns-clause-ok
returns-clause-ok c =
    let self = c.args.self.now in
    let new_nodes : c.push.new.self.items ≡ self.nodes.items ++ empty_node ∷ [] =
    all_pushed c.push.result c.push.new.self.items c.reserve-2.new.self.items c.new.result c.push.ensures.items
    (was_pushed c.push.result (vec_capacity c.reserve-2.new.self) (vec_len c.reserve-2.new.self) c.push.ensures.full c.in_ok-reserve-2.ensures.ok)
    ∙ ap₂ (λ nodes node. nodes ++ node ∷ []) c.reserve-2.ensures.items c.new.ensures in
    let new_steps : c.push-2.new.self.items ≡ self.steps.items ++ Put c.args.at (FileNode (length self.nodes.items)) ∷ [] =
    all_pushed c.push-2.result c.push-2.new.self.items c.reserve.new.self.items (Put c.args.at (FileNode c.len-number.result)) c.push-2.ensures.items
    (was_pushed c.push-2.result (vec_capacity c.reserve.new.self) (vec_len c.reserve.new.self) c.push-2.ensures.full c.in_ok-reserve.ensures.ok)
    ∙ ap₂ (λ steps n. steps ++ Put c.args.at (FileNode n) ∷ []) c.reserve.ensures.items (c.len-number.ensures ∙ self.nodes.ok.0) in
    ap₂ (λ nodes steps. state_from nodes (names_of self.base) steps self.kept) new_nodes new_steps ∙ created self.nodes.items (names_of self.base) self.steps.items self.kept c.args.at self.within
