use Rattle.std.proofs.Common.{◌≡◌, ◌≤◌, ◌+◌, ◌*◌}
use Rattle.vector_rows.proofs.contents.feed_holes.Given as goal

-- at most 5,000 bytes a hole were fed
abbrev pub invariant-holes : goal.invariant-holes
invariant-holes l = l.decoder.taken ≤ 20000000 + 5000 * l.count
