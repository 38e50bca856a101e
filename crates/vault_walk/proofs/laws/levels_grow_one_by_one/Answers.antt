use Rattle.vault_walk.proofs.Growing.{growth_begins, growth_gains, growth_visits}
use Rattle.vault_walk.proofs.laws.levels_grow_one_by_one.Goals as goal

pub returns : goal.returns
returns c = record { begins = growth_begins; gains = growth_gains; visits = growth_visits }
