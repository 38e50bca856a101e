use Rattle.folder_spec.proofs.Edits.{publishes_nothing, published, directory_published, publishes_more, settled, settled_alone}
use Rattle.folder_spec.proofs.laws.edits_are_published.Goals as goal

pub returns : goal.returns
returns c = record {
  staged = publishes_nothing;
  renamed = published;
  directory = directory_published;
  more = publishes_more;
  settle = settled;
  alone = settled_alone;
}
