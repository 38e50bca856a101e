use Rattle.std.proofs.Common.{◌∙◌}
use Rattle.folder_model.proofs.Strings.{strings_eq}
use Rattle.folder_model.proofs.path.FPath.is.Goals as goal

pub returns : goal.returns
returns c =
    rw (← c.self.view_is, ← c.other.view_is, ← c.as_slice.ensures.value, ← c.as_slice-2.ensures.value)
    (c.eq.ensures ∙ strings_eq c.as_slice.result.now c.as_slice-2.result.now)
