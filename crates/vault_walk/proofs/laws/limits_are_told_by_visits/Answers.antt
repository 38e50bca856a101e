use Rattle.vault_walk.proofs.Counting.{past_limit, within_limit}
use Rattle.vault_walk.proofs.laws.limits_are_told_by_visits.Goals as goal

pub returns : goal.returns
returns c = record { past = past_limit; within = within_limit }
