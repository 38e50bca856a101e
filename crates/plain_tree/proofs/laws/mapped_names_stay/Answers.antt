use Rattle.plain_tree.proofs.Mapping.{name_stays, path_stays}
use Rattle.plain_tree.proofs.laws.mapped_names_stay.Goals as goal

pub returns : goal.returns
returns c = record { name = name_stays; path = path_stays }
