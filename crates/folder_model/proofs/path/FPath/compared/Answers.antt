use Rattle.std.proofs.Common.{◌∙◌, sym}
use Rattle.std.specs.Cmp.Derive.Mapped.{lex_map}
use Rattle.std.specs.Rc.{rc_str_bytes}
use Rattle.folder_model.specs.Order.{part_cmp}
use Rattle.folder_model.proofs.path.FPath.compared.Goals as goal

pub returns : goal.returns
returns c =
    rw (← c.self.view_is, ← c.other.view_is, ← c.as_slice.ensures.value, ← c.as_slice-2.ensures.value)
    (c.cmp.ensures ∙ sym (lex_map (λ s. rc_str_bytes s) part_cmp c.as_slice.result.now c.as_slice-2.result.now))
