use Rattle.std.proofs.Common.{◌≡◌, ℕ, ◌<◌, get_or}
use Rattle.aes_lanes.specs.Planes.{block_of}
use Rattle.aes_lanes.specs.PlaneList.{list_of, plane_key}
use Rattle.aes_lanes.specs.declared.planes.Planes.{Planes}
use Rattle.aes_lanes.proofs.plane_rounds.expand_planes.Given as goal

abbrev pub invariant-loop-round : goal.invariant-loop-round
invariant-loop-round l = (r k : ℕ) (none : Planes) → r < l.round → k < 16 → block_of (list_of (get_or l.keys r none)) k ≡ plane_key l.words r
