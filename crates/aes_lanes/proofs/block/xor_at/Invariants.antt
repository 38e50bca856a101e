use Rattle.std.proofs.Common.{◌≡◌, ℕ, ◌+◌, ◌<◌, ◌≤◌, bit_xor, slice_index}
use Rattle.aes_lanes.proofs.block.xor_at.Given as goal

abbrev pub invariant-loop-i : goal.invariant-loop-i
invariant-loop-i l = record {
  inside : (k : ℕ) → k < l.i → slice_index l.bytes (l.at + k) ≡ bit_xor (slice_index l.initial.bytes (l.at + k)) (slice_index l.block k);
  before : (k : ℕ) → k < l.at → slice_index l.bytes k ≡ slice_index l.initial.bytes k;
  after : (k : ℕ) → l.at + l.i ≤ k → slice_index l.bytes k ≡ slice_index l.initial.bytes k;
}
