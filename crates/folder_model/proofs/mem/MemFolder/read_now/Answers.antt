use Rattle.std.proofs.Common.{◌≡◌, ℕ, ◌<◌, ◌-◌, List, ◌++◌, ◌∙◌, sym, ap, subst, length, take, drop, min, slice_index_or}
use Rattle.folder_spec.specs.declared.Spot.TheVariants.{FileNode}
use Rattle.folder_spec.specs.State.{Node, present, HasFile}
use Rattle.folder_spec.specs.Event.{empty_node}
use Rattle.folder_spec.specs.View.{FileOf, found}
use Rattle.folder_spec.specs.Seen.{seen, ShowsFile}
use Rattle.folder_spec.proofs.Seen.{file_shown}
use Rattle.folder_model.specs.Answers.{Reads}
use Rattle.folder_model.specs.Memory.{state_of}
use Rattle.folder_model.proofs.StepLemmas.{any_default}
use Rattle.folder_model.proofs.States.{node_made}
use Rattle.folder_model.specs.Tables.{names_of}
use Rattle.folder_model.proofs.mem.MemFolder.read_now.Goals as goal

pub index-node-requires : goal.index-node-requires
index-node-requires c =
    let self = c.is_due-due.new.self in
    rw self.nodes.ok.0 (node_made self.nodes.items (names_of self.base) self.steps.items self.kept c.args.at.now c.in-FileNode.number self.sound (sym c.in-Ok.ensures ∙ c.in-FileNode.is))

pub returns-else-due-clause-answer : goal.returns-else-due-clause-answer
returns-else-due-clause-answer c =
    let self = c.is_due-due.new.self in
    let at = c.args.at.now in
    let number = c.in-FileNode.number in
    let here : present (state_of self) at ≡ FileNode number = sym c.in-Ok.ensures ∙ c.in-FileNode.is in
    let made : number < length self.nodes.items = node_made self.nodes.items (names_of self.base) self.steps.items self.kept at number self.sound here in
    let bytes : c.bytes.result.now ≡ (slice_index_or self.nodes.items number empty_node).now =
    c.bytes.ensures ∙ ap (λ (node : Node). node.now) (c.index-node.ensures ∙ any_default self.nodes.items number c.index-node.result.now empty_node made) in
    let now : List ℕ = (slice_index_or self.nodes.items number empty_node).now in
    let file : seen (state_of self) at ≡ FileOf now = ap (found (λ n. ((state_of self).nodes n).now)) here in
    let reads : Reads (seen (state_of self) at) c.args.start c.args.out.now c.read_from.new.out c.read_from.result = (
      now,
      file,
      c.read_from.ensures.count ∙ ap (λ bytes. min (length c.args.out.now) (length bytes - c.args.start)) bytes,
      c.read_from.ensures.front ∙ ap (λ bytes. take c.read_from.result (drop c.args.start bytes) ++ drop c.read_from.result c.args.out.now) bytes,
    ) in
    let both : ShowsFile (seen (state_of self)) at × Reads (seen (state_of self) at) c.args.start c.args.out.now c.read_from.new.out c.read_from.result = ((now, file), reads) in
    subst (λ s. ShowsFile (seen s) at × Reads (seen s at) c.args.start c.args.out.now c.read_from.new.out c.read_from.result) c.is_due-due.ensures.state both

pub returns-then-due-clause-answer : goal.returns-then-due-clause-answer
returns-then-due-clause-answer c =
    let here : present (state_of c.is_due-due.new.self) c.args.at.now ≡ FileNode c.in-FileNode.number = sym c.in-Ok.ensures ∙ c.in-FileNode.is in
    file_shown (state_of c.args.self.now) c.args.at.now (subst (λ s. HasFile (present s) c.args.at.now) c.is_due-due.ensures.state (c.in-FileNode.number, here))
