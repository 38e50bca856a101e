-- Counts of faults that rise.
use Rattle.std.proofs.Common.{ℕ, ◌≤◌, arith, inl, inr}
use Rattle.port_model.specs.Counts.{CountRose}

-- a count that rose later has risen
pub rose_after : (a b c : ℕ) → a ≤ b → CountRose b c → CountRose a c
rose_after a b c grows (inl more) = inl (omega (arith, grows, more))
rose_after a b c grows (inr top) = inr top
