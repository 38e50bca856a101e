use Rattle.vault_write.proofs.TreesShown.{old_or_new, old_before_last, new_alone}
use Rattle.vault_write.proofs.laws.edits_show_trees.Goals as goal

pub returns : goal.returns
returns c = record {
  during = old_or_new c.roots_show_their_own.ensures.edits c.roots_show_their_own.ensures.alike;
  first = old_before_last c.roots_show_their_own.ensures.edits c.roots_show_their_own.ensures.alike;
  settled = new_alone c.roots_show_their_own.ensures.edits c.roots_show_their_own.ensures.alike c.edits_are_published.ensures.alone;
}
