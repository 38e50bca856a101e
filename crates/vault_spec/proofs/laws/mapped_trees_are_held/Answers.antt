use Rattle.vault_spec.proofs.MappedHeld.{both, held, one, part}
use Rattle.vault_spec.proofs.laws.mapped_trees_are_held.Goals as goal

pub returns : goal.returns
returns c = record { one = one; held = held; part = part; both = both }
