-- What the new folder holds is the picked image.
use Rattle.std.proofs.Common.{◌≡◌, ◌∙◌, List, sym, ap, ap₂, subst, length, map, le_refl}
use Rattle.folder_spec.specs.State.{State}
use Rattle.folder_spec.specs.Event.{Event}
use Rattle.folder_spec.specs.Image.{IsImage, seen_now}
use Rattle.folder_spec.specs.Image as spec
use Rattle.folder_model.specs.Calls.{event_of}
use Rattle.folder_model.specs.Crash.{node_left, picked}
use Rattle.folder_model.specs.Memory.{state_of}
use Rattle.folder_model.specs.Nodes.{KeepsFronts}
use Rattle.folder_model.specs.Sound.{state_sound}
use Rattle.folder_model.specs.Steps.{AreSoundTables, state_from}
use Rattle.folder_model.proofs.Crashes.{crashed, crashed_holds, picked_is_image}
use Rattle.folder_model.specs.Tables.{names_of}
use Rattle.folder_model.proofs.mem.MemFolder.crash.Goals as goal

pub invariant_of-result : goal.invariant_of-result
invariant_of-result c =
    let self = c.args.self in
    let nodes = c.in_ok-nodes.nodes.items in
    let steps = c.steps_to-steps.result.items in
    let all : c.len-kept.result ≡ length steps = c.len-kept.ensures ∙ c.steps_to-steps.result.ok.0 in
    let left : nodes ≡ map (λ node. node_left c.args.pick.now.tail.items node) self.nodes.items =
    c.in_ok-nodes.ensures ∙ ap (λ tail. map (λ node. node_left tail node) self.nodes.items) c.as_slice.ensures.value in
    let h : KeepsFronts nodes × AreSoundTables (length nodes) (names_of self.base) steps =
    crashed_holds self.nodes.items (names_of self.base) self.steps.items self.kept c.args.pick.now.table c.args.pick.now.tail.items nodes steps left c.steps_to-steps.ensures self.fronts self.sound in
    record { within = rw all (le_refl (length steps)); fronts = h.0; sound = h.1 }

pub returns-clause-image : goal.returns-clause-image
returns-clause-image c =
    let self = c.args.self in
    let nodes = c.in_ok-nodes.nodes.items in
    let steps = c.steps_to-steps.result.items in
    let all : c.len-kept.result ≡ length steps = c.len-kept.ensures ∙ c.steps_to-steps.result.ok.0 in
    let left : nodes ≡ map (λ node. node_left c.args.pick.now.tail.items node) self.nodes.items =
    c.in_ok-nodes.ensures ∙ ap (λ tail. map (λ node. node_left tail node) self.nodes.items) c.as_slice.ensures.value in
    let state : state_from nodes (names_of self.base) steps c.len-kept.result ≡ spec.state_of (picked (state_of self) c.args.pick.now.table c.args.pick.now.tail.items) =
    ap (state_from nodes (names_of self.base) steps) all
    ∙ crashed self.nodes.items (names_of self.base) self.steps.items self.kept c.args.pick.now.table c.args.pick.now.tail.items nodes steps left c.steps_to-steps.ensures in
    subst (λ s. IsImage (state_of self) (seen_now s)) (sym state)
    (picked_is_image (state_of self) c.args.pick.now.table c.args.pick.now.tail.items (state_sound self.nodes.items (names_of self.base) self.steps.items self.kept self.fronts self.sound))

pub returns-clause-picked : goal.returns-clause-picked
returns-clause-picked c =
    let self = c.args.self in
    let nodes = c.in_ok-nodes.nodes.items in
    let steps = c.steps_to-steps.result.items in
    let all : c.len-kept.result ≡ length steps = c.len-kept.ensures ∙ c.steps_to-steps.result.ok.0 in
    let left : nodes ≡ map (λ node. node_left c.args.pick.now.tail.items node) self.nodes.items =
    c.in_ok-nodes.ensures ∙ ap (λ tail. map (λ node. node_left tail node) self.nodes.items) c.as_slice.ensures.value in
    ap₂ (λ (s : State) (log : List Event). record { state = s; log = log })
    (ap (state_from nodes (names_of self.base) steps) all
    ∙ crashed self.nodes.items (names_of self.base) self.steps.items self.kept c.args.pick.now.table c.args.pick.now.tail.items nodes steps left c.steps_to-steps.ensures)
    (ap (map event_of) c.new.ensures.items)
