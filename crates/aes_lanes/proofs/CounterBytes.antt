-- Counter blocks are blocks, and a text in counter mode is of bytes.
use Rattle.std.proofs.Common.{◌≡◌, ℕ, zero, suc, ◌+◌, ◌-◌, ◌/◌, ◌%◌, ◌^◌, ◌≤◌, List, length, take, drop, inl, inr, arith, lit<, length-append}
use Rattle.std.specs.Int.{bytes_high_first}
use Rattle.std.proofs.lemmas.List.{get_or_past, length-take-le}
use Rattle.std.proofs.lemmas.Bool.{cases_lt}
use Rattle.std.specs.Fn.{iterate}
use lib.Bits.{xor_lt}
use Rattle.aes_lanes.specs.Bytes.{AreBytes, IsBlock}
use Rattle.aes_lanes.specs.Counter.{number_of, increment, counter_mode}
use Rattle.aes_lanes.proofs.Bytes.{bytes-append, bytes-take, bytes-high_first, length-high_first}
use Rattle.aes_lanes.specs.Laws.Counter.{length-counter_mode}
use Rattle.aes_lanes.proofs.CounterSteps.{slice_index-counter_mode}

pub IsBlock-increment : (width : ℕ) → width ≤ 16 → (block : List ℕ) → IsBlock block → IsBlock (increment width block)
unfolding increment
IsBlock-increment width most block b =
    let within : 16 - width ≤ length block = omega (arith, b.sixteen) in
    let count : ℕ = (number_of (drop (16 - width) block) + 1) % 256 ^ width in
    let last : List ℕ = bytes_high_first width count in
    record {
      sixteen = omega (arith, length-append (take (16 - width) block) last, length-take-le (16 - width) block within, length-high_first width count);
      bytes = bytes-append (take (16 - width) block) last (bytes-take (16 - width) block within b.bytes) (bytes-high_first width count);
    }

IsBlock-iterate : (next : List ℕ → List ℕ) → ((b : List ℕ) → IsBlock b → IsBlock (next b))
    → (n : ℕ) (block : List ℕ) → IsBlock block → IsBlock (iterate next n block)
IsBlock-iterate next stays zero block b = b
IsBlock-iterate next stays (suc n) block b = IsBlock-iterate next stays n (next block) (stays block b)

-- a text in counter mode, under a cipher that takes blocks to blocks
pub bytes-counter_mode : (width : ℕ) → width ≤ 16 → (image : List ℕ → List ℕ) → ((b : List ℕ) → length (image b) ≡ 16)
    → ((b : List ℕ) → IsBlock b → IsBlock (image b))
    → (start text : List ℕ) → IsBlock start → AreBytes text → AreBytes (counter_mode image (increment width) start text)
bytes-counter_mode width most image sixteen stays start text block bytes = λ i. elim (cases_lt i (length text)) [
  | inl lt ↦
      rw (slice_index-counter_mode image (increment width) sixteen start text i lt)
      (xor_lt 8 _ _ (bytes i) ((stays _ (IsBlock-iterate (increment width) (IsBlock-increment width most) (i / 16) start block)).bytes (i % 16)))
  | inr ge ↦
      let past : length (counter_mode image (increment width) start text) ≤ i = omega (arith, length-counter_mode image (increment width) sixteen start text) in
      rw (get_or_past (counter_mode image (increment width) start text) i 0 past) (lit< tt)
]
