use Rattle.demo_core.proofs.Allowed.{allowed, named}
use Rattle.demo_core.proofs.laws.names_of_items_are_allowed.Goals as goal

pub returns : goal.returns
returns c = record { named = named; allowed = allowed }
