use Rattle.vault_walk.proofs.Walks.{lead_through}
use Rattle.vault_walk.proofs.Depths.{found_among, deep_waits}
use Rattle.vault_walk.proofs.Gathered.{each_once}
use Rattle.vault_walk.proofs.laws.visits_tell_of_the_vault.Goals as goal

pub returns : goal.returns
returns c =
    let behind = c.what_stands_is_found_step_by_step.ensures.behind in
    let through = lead_through c.what_stands_is_found_step_by_step.ensures.below in
    record { items = each_once behind through; findings = found_among behind through; depth = deep_waits }
