use Rattle.vault_spec.proofs.Steps.{opened_alike, gained, gained_there}
use Rattle.vault_spec.proofs.laws.what_opens_follows_from_what_stands.Goals as goal

pub returns : goal.returns
returns c = record { alike = opened_alike; others = gained; there = gained_there }
