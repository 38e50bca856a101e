use Rattle.vault_spec.proofs.Plans.{stands_behind, stands_below, listed_stand, reached_from}
use Rattle.vault_spec.proofs.laws.what_stands_is_found_step_by_step.Goals as goal

pub returns : goal.returns
returns c = record { behind = stands_behind; listed = listed_stand; below = stands_below; step = reached_from }
