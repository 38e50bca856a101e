use Rattle.std.proofs.Common.{◌≡◌, ◌≤◌, length}
use Rattle.vector_rows.proofs.contents.read_on.Given as goal

-- so many bytes of the file were fed
abbrev pub invariant-rounds : goal.invariant-rounds
invariant-rounds l = (l.at ≤ length l.file) × (l.decoder.taken ≡ l.at)
