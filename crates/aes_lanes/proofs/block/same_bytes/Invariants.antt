use Rattle.std.proofs.Common.{◌≡◌, ℕ, ◌<◌, slice_index}
use Rattle.aes_lanes.proofs.block.same_bytes.Given as goal

abbrev pub invariant-loop-i : goal.invariant-loop-i
invariant-loop-i l = record {
  same : l.differences ≡ 0 → (k : ℕ) → k < l.i → slice_index l.left k ≡ slice_index l.right k;
  none : ((k : ℕ) → k < l.i → slice_index l.left k ≡ slice_index l.right k) → l.differences ≡ 0;
}
