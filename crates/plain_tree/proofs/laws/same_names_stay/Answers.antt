use Rattle.plain_tree.proofs.Mapping.{same_name, same_path}
use Rattle.plain_tree.proofs.laws.same_names_stay.Goals as goal

pub returns : goal.returns
returns c = record { name = same_name; path = same_path }
