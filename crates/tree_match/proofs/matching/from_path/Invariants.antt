use Rattle.std.proofs.Common.{◌≡◌, length}
use Rattle.tree_match.specs.Pieces.{from_path}
use Rattle.tree_match.proofs.matching.from_path.Given as goal

abbrev pub invariant-passed : goal.invariant-passed
invariant-passed l = from_path l.path l.initial.rest ≡ from_path l.path l.rest

abbrev pub decreases-passed : goal.decreases-passed
decreases-passed l = length l.rest
