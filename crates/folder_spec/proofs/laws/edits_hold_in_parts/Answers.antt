use Rattle.folder_spec.proofs.Edits.{publishes_in_part, published_in_part, settled_in_part}
use Rattle.folder_spec.proofs.laws.edits_hold_in_parts.Goals as goal

pub returns : goal.returns
returns c = record { publishes = publishes_in_part; published = published_in_part; settled = settled_in_part }
