use Rattle.vault_walk.proofs.Walks.{lead_through, walk_begins, walk_never_begins, level_walked, way_reached}
use Rattle.vault_walk.proofs.Depths.{visited_is_reached}
use Rattle.vault_walk.proofs.laws.walks_go_by_levels.Goals as goal

pub returns : goal.returns
returns c =
    let behind = c.what_stands_is_found_step_by_step.ensures.behind in
    let through = lead_through c.what_stands_is_found_step_by_step.ensures.below in
    record {
      begins = walk_begins;
      never = walk_never_begins;
      goes_on = level_walked behind through;
      ends = visited_is_reached behind through;
      least = way_reached;
    }
