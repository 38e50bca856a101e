-- Output filled block by block.
use Rattle.std.proofs.Common.{◌≡◌, ℕ, ◌+◌, ◌-◌, ◌*◌, ◌<◌, ◌≤◌, List, [], ◌++◌, length, refl, take, drop, ◌∙◌, sym, add-one, arith}
use Rattle.std.proofs.lemmas.List.{length-append, length-drop, length-take, places, same_lists, take_all}
use Rattle.std.specs.Int.{div_ceil}
use Rattle.kdf_suite.specs.Blocks.{joined}

-- a block written after the bytes in front, as far as there is room, and what follows it
written : (front next after : List ℕ) (len at end : ℕ) → length front ≡ at → at + 32 ≡ end → at ≤ len → length next ≡ 32 → length after ≡ len - end → take end (front ++ (take (len - at) next ++ after)) ≡ take (length (front ++ (take (len - at) next ++ after))) (front ++ next)
written front next after len at end front_size step room size after_size =
    same_lists _ _ (simp (length-append, length-take) (omega arith)) (λ k d h. grind (arith, places))

-- the first n blocks stand at the front of the output, as far as there is room
pub record IsFilled (block : ℕ → List ℕ) (out : List ℕ) (n : ℕ) : Type 0 where
  pub front : take (32 * n) out ≡ take (length out) (joined block n)
  pub long : length (joined block n) ≡ 32 * n

-- at the start nothing is filled
pub IsFilled-none : (block : ℕ → List ℕ) (out : List ℕ) → IsFilled block out 0
unfolding joined
IsFilled-none block out = record { front = sym (take_all (length out) [] (omega arith)); long = refl }

-- the front of the next block is written after the others
pub IsFilled-more : (block : ℕ → List ℕ) (out next : List ℕ) (n : ℕ) → 32 * n ≤ length out → length next ≡ 32 → next ≡ block n → IsFilled block out n → IsFilled block (take (32 * n) out ++ (take (length out - 32 * n) next ++ drop (32 * n + 32) out)) (n + 1)
unfolding joined
IsFilled-more block out next n room size is filled =
    let blocks = joined block n in
    let more : joined block (n + 1) ≡ blocks ++ next = rw (add-one, ← is) refl in
    let long = filled.long in
    let kept : take (32 * n) out ≡ blocks = filled.front ∙ take_all (length out) blocks (omega arith) in
    record {
      front = rw (more, kept) (written blocks next (drop (32 * n + 32) out) (length out) (32 * n) (32 * (n + 1)) long (omega arith) room size (simp length-drop (omega arith)));
      long = rw (more, length-append) (omega arith);
    }

-- each block but those past the end begins within the output
pub begins-within : (len n count : ℕ) → count ≡ div_ceil len 32 → n < count → 32 * n ≤ len
begins-within len n count is below = omega arith

-- all blocks are written
pub IsFilled-all : (block : ℕ → List ℕ) (out : List ℕ) (len count n : ℕ) → length out ≡ len → count ≡ div_ceil len 32 → count ≤ n → n ≤ count → IsFilled block out n → out ≡ take len (joined block (div_ceil len 32))
IsFilled-all block out len count n size is low high filled =
    let same : n ≡ div_ceil len 32 = omega arith in
    let end : length out ≤ 32 * n = omega arith in
    sym (take_all (32 * n) out end) ∙ filled.front ∙ rw (size, same)
