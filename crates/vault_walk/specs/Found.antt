-- Findings in order.
use Rattle.std.specs.Ordering.{nat_cmp, ordering_then}
use Rattle.std.specs.declared.cmp.Ordering.{Ordering}
use Rattle.folder_model.specs.Order.{path_cmp}
use Rattle.vault_walk.specs.declared.found.Found.{Found}

-- by path, part by part, and at one path by number
abbrev pub found_cmp : Found → Found → Ordering
found_cmp x y = ordering_then (path_cmp x.at y.at) (nat_cmp x.number y.number)
