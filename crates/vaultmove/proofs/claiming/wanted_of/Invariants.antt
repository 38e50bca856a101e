use Rattle.std.proofs.Common.{◌≡◌, flat_map, take}
use Rattle.vaultmove.specs.Claims.{claimed}
use Rattle.vaultmove.proofs.claiming.wanted_of.Given as goal

-- what the first claims of the row come to
abbrev pub invariant-loop-claim : goal.invariant-loop-claim
invariant-loop-claim l = l.wanted.items ≡ flat_map (claimed l.request l.journal) (take l.claim-index l.request.row.claims)
