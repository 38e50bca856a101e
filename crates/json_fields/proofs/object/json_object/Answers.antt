use Rattle.std.proofs.Common.{sym, ◌∙◌}
use Rattle.json_fields.proofs.Objects.{object_in, nothing_in}
use Rattle.json_fields.proofs.object.json_object.Goals as goal

pub returns-in-Ok : goal.returns-in-Ok
returns-in-Ok c =
    let reads = c.in-Ok.ensures.ok in
    c.if_object.ensures ∙ sym (object_in _ _ reads.0 reads.1)

pub returns-else-is_memory : goal.returns-else-is_memory
returns-else-is_memory c =
    sym (nothing_in _ (c.in-Err.ensures.err (λ memory. let yes = c.is_memory.ensures.1 memory in let no = c.if-is_memory.false in cc)))
