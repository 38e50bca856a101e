use Rattle.folder_spec.proofs.Edits.{publishes_joined, published_joined}
use Rattle.folder_spec.proofs.laws.edits_join.Goals as goal

pub returns : goal.returns
returns c = record { publishes = publishes_joined; published = published_joined }
