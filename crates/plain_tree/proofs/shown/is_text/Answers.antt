use Rattle.std.proofs.Common.{◌∙◌}
use Rattle.plain_tree.proofs.Utf8.{is_ok-from_utf8}
use Rattle.plain_tree.proofs.shown.is_text.Goals as goal

pub returns : goal.returns
returns c = c.is_ok.ensures.value ∙ is_ok-from_utf8 _ _ _ _ c.from_utf8.ensures.cases
