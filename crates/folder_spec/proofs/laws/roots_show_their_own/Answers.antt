use Rattle.folder_spec.proofs.Under.{under-agree, under-under, under-edits, under-edited_elsewhere, under-moved_elsewhere, root_outside}
use Rattle.folder_spec.proofs.laws.roots_show_their_own.Goals as goal

pub returns : goal.returns
returns c = record {
  alike = under-agree;
  nested = under-under;
  edits = under-edits;
  edited_elsewhere = under-edited_elsewhere;
  moved_elsewhere = under-moved_elsewhere;
  outside = root_outside;
}
