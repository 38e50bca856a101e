use Rattle.std.proofs.Common.{◌≡◌, ◌≤◌, true}
use Rattle.vector_rows.proofs.contents.Making.add_all.Given as goal

-- at most so many chunks were added, under the same keys, and more may be
abbrev pub invariant-chunks : goal.invariant-chunks
invariant-chunks l = (l.self.encoder.number ≤ l.number) × (l.self.encoder.keys ≡ l.fn.self.encoder.keys) × (l.self.encoder.is_open ≡ true)
