-- A file of which all bytes are kept stays.
use Rattle.std.proofs.Common.{◌≡◌, ◌∙◌, sym, ap, length, take, take_all, le_refl}
use Rattle.folder_spec.specs.State.{Node}
use Rattle.folder_model.proofs.Crashes.{clean_left}
use Rattle.folder_model.proofs.mem.node.FileBytes.crashed.Goals as goal

pub returns-then-self-len : goal.returns-then-self-len
returns-then-self-len c =
    let bytes = c.self.inside.bytes in
    let all : take c.self.inside.kept bytes.items ≡ bytes.items =
    ap (λ n. take n bytes.items) (c.if-self-len.true ∙ c.len.ensures ∙ bytes.ok.0) ∙ take_all (length bytes.items) bytes.items (le_refl (length bytes.items)) in
    clean_left c.args.tail.now c.args.self
    (sym (ap (λ (node : Node). node.kept) c.self.view_is) ∙ all ∙ ap (λ (node : Node). node.now) c.self.view_is)
