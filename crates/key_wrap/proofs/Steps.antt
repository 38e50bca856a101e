-- A step of key wrapping, and the step back.
use Rattle.std.proofs.Common.{◌≡◌, ℕ, ◌<◌, ◌≤◌, ◌/◌, ◌%◌, ◌^◌, ◌↔◌, List, [], ◌∷◌, ◌++◌, length, take, drop, slice_index, slice_set, bit_xor, sym, ap, ◌∙◌, arith, length-append}
use Rattle.std.specs.Int.{bytes_high_first}
use Rattle.std.proofs.lemmas.List.{take_at, drop_at, take-append-drop, length-take-le, length-drop}
use lib.Bits.{xor_zero_r}
use Rattle.aes_lanes.specs.Bytes.{IsBlock, xor_bytes}
use Rattle.aes_lanes.specs.Laws.Sums.{length-xor_bytes}
use Rattle.aes_lanes.specs.Laws.Sums.{xor_bytes-twice}
use Rattle.aes_lanes.specs.Laws.Sums.{gathered}
use Rattle.key_wrap.specs.Wrap.{numbered, step}
use Rattle.key_wrap.specs.Private.{IsState}
use Rattle.aes_lanes.proofs.Bytes.{bytes-drop, bytes-append, bytes-take, bytes-xor, bytes-high_first}
use Rattle.aes_lanes.specs.BlockCipher.{AreInverse}

-- the eight bytes of a number that is one byte
number-small : (t : ℕ) → t < 256 → bytes_high_first 8 t ≡ 0 ∷ 0 ∷ 0 ∷ 0 ∷ 0 ∷ 0 ∷ 0 ∷ t ∷ []
number-small t small =
    let a : t / 256 ^ 7 % 256 ≡ 0 = omega arith in
    let b : t / 256 ^ 6 % 256 ≡ 0 = omega arith in
    let c : t / 256 ^ 5 % 256 ≡ 0 = omega arith in
    let d : t / 256 ^ 4 % 256 ≡ 0 = omega arith in
    let e : t / 256 ^ 3 % 256 ≡ 0 = omega arith in
    let f : t / 256 ^ 2 % 256 ≡ 0 = omega arith in
    let g : t / 256 ^ 1 % 256 ≡ 0 = omega arith in
    let h : t % 256 ≡ t = omega arith in
    cc

-- a number that is one byte changes one byte
pub numbered-small : (t : ℕ) (b : List ℕ) → t < 256 → length b ≡ 16 → slice_set b 7 (bit_xor (slice_index b 7) t) ≡ numbered t b
unfolding numbered xor_bytes
numbered-small t b small sixteen =
    rw (number-small t small) (rw (gathered b 16 sixteen) (simp xor_zero_r))

half : (b : List ℕ) → length b ≡ 16 → length (take 8 b) ≡ 8
half b sixteen = length-take-le 8 b (omega arith)

pub numbered-twice : (t : ℕ) (b : List ℕ) → length b ≡ 16 → numbered t (numbered t b) ≡ b
unfolding numbered
numbered-twice t b sixteen =
    let eight = half b sixteen in
    let number : List ℕ = bytes_high_first 8 t in
    let first : List ℕ = xor_bytes (take 8 b) number in
    let long : length (take 8 b) ≤ length number = omega arith in
    let whole : length first ≡ 8 = length-xor_bytes (take 8 b) number long ∙ eight in
    rw (take_at first (drop 8 b) 8 whole, drop_at first (drop 8 b) 8 whole, xor_bytes-twice (take 8 b) number long) (take-append-drop 8 b)

pub IsBlock-numbered : (t : ℕ) (b : List ℕ) → IsBlock b → IsBlock (numbered t b)
unfolding numbered
IsBlock-numbered t b block =
    let eight = half b block.sixteen in
    let number : List ℕ = bytes_high_first 8 t in
    let first : List ℕ = xor_bytes (take 8 b) number in
    let long : length (take 8 b) ≤ length number = omega arith in
    let whole : length first ≡ 8 = length-xor_bytes (take 8 b) number long ∙ eight in
    let within : 8 ≤ length b = omega (arith, block.sixteen) in
    record {
      sixteen = omega (arith, length-append first (drop 8 b), whole, length-drop 8 b, block.sixteen);
      bytes =
          bytes-append first (drop 8 b)
          (bytes-xor (take 8 b) number (bytes-take 8 b within block.bytes) (bytes-high_first 8 t))
          (bytes-drop 8 b block.bytes);
    }

-- the first block of a state
IsBlock-front : (s : List ℕ) → IsState s → IsBlock (take 16 s)
IsBlock-front s state =
    let within : 16 ≤ length s = omega (arith, state.forty) in
    record { sixteen = length-take-le 16 s within; bytes = bytes-take 16 s within state.bytes }

pub IsState-step : (image preimage : List ℕ → List ℕ) (t : ℕ) (s : List ℕ) → AreInverse image preimage → IsState s → IsState (step image t s)
unfolding step
IsState-step image preimage t s cipher state =
    let b : List ℕ = numbered t (image (take 16 s)) in
    let block = IsBlock-numbered t _ (cipher.block _ (IsBlock-front s state)) in
    let within : 8 ≤ length b = omega (arith, block.sixteen) in
    let front : List ℕ = take 8 b ++ drop 16 s in
    record {
      forty =
          omega (arith, length-append front (drop 8 b), length-append (take 8 b) (drop 16 s), half b block.sixteen, length-drop 16 s, length-drop 8 b, block.sixteen, state.forty);
      bytes =
          bytes-append front (drop 8 b)
          (bytes-append (take 8 b) (drop 16 s) (bytes-take 8 b within block.bytes) (bytes-drop 16 s state.bytes))
          (bytes-drop 8 b block.bytes);
    }

-- the state before step t, from the one after it
unfoldable pub step_back : (List ℕ → List ℕ) → ℕ → List ℕ → List ℕ
step_back preimage t s =
    let front : List ℕ = take 32 s in
    preimage (numbered t (take 8 front ++ drop 32 s)) ++ drop 8 front

-- the step back undoes the step
pub step_back-step : (image preimage : List ℕ → List ℕ) (t : ℕ) (s : List ℕ) → AreInverse image preimage → IsState s → step_back preimage t (step image t s) ≡ s
unfolding step step_back
step_back-step image preimage t s cipher state =
    let start = IsBlock-front s state in
    let x : List ℕ = image (take 16 s) in
    let made = cipher.block _ start in
    let block = IsBlock-numbered t x made in
    let b : List ℕ = numbered t x in
    let p : List ℕ = take 8 b in
    let q : List ℕ = drop 16 s in
    let r : List ℕ = drop 8 b in
    let eight : length p ≡ 8 = half b block.sixteen in
    let most : length (p ++ q) ≡ 32 = omega (arith, length-append p q, eight, length-drop 16 s, state.forty) in
    rw (take_at (p ++ q) r 32 most, drop_at (p ++ q) r 32 most, take_at p q 8 eight, drop_at p q 8 eight, take-append-drop 8 b, numbered-twice t x made.sixteen, cipher.back (take 16 s) start)
    (take-append-drop 16 s)

-- the block that a step back starts with
back_block : (t : ℕ) (s : List ℕ) → IsState s → IsBlock (numbered t (take 8 (take 32 s) ++ drop 32 s))
back_block t s state =
    let within : 32 ≤ length s = omega (arith, state.forty) in
    let front : List ℕ = take 32 s in
    let inside : 8 ≤ length front = omega (arith, length-take-le 32 s within) in
    let p : List ℕ = take 8 front in
    let r : List ℕ = drop 32 s in
    IsBlock-numbered t (p ++ r) (record {
      sixteen = omega (arith, length-append p r, length-take-le 8 front inside, length-drop 32 s, state.forty);
      bytes = bytes-append p r (bytes-take 8 front inside (bytes-take 32 s within state.bytes)) (bytes-drop 32 s state.bytes);
    })

pub IsState-step_back : (image preimage : List ℕ → List ℕ) (t : ℕ) (s : List ℕ) → AreInverse image preimage → IsState s → IsState (step_back preimage t s)
unfolding step_back
IsState-step_back image preimage t s cipher state =
    let within : 32 ≤ length s = omega (arith, state.forty) in
    let front : List ℕ = take 32 s in
    let q : List ℕ = drop 8 front in
    let before : List ℕ = preimage (numbered t (take 8 front ++ drop 32 s)) in
    let block = cipher.block_back _ (back_block t s state) in
    record {
      forty = omega (arith, length-append before q, block.sixteen, length-drop 8 front, length-take-le 32 s within);
      bytes = bytes-append before q block.bytes (bytes-drop 8 front (bytes-take 32 s within state.bytes));
    }

-- the step undoes the step back
pub step-step_back : (image preimage : List ℕ → List ℕ) (t : ℕ) (s : List ℕ) → AreInverse image preimage → IsState s → step image t (step_back preimage t s) ≡ s
unfolding step step_back
step-step_back image preimage t s cipher state =
    let front : List ℕ = take 32 s in
    let p : List ℕ = take 8 front in
    let q : List ℕ = drop 8 front in
    let r : List ℕ = drop 32 s in
    let within : 32 ≤ length s = omega (arith, state.forty) in
    let inside : 8 ≤ length front = omega (arith, length-take-le 32 s within) in
    let eight : length p ≡ 8 = length-take-le 8 front inside in
    let joined : length (p ++ r) ≡ 16 = omega (arith, length-append p r, eight, length-drop 32 s, state.forty) in
    let block = back_block t s state in
    let w : List ℕ = numbered t (p ++ r) in
    let whole : length (preimage w) ≡ 16 = (cipher.block_back w block).sixteen in
    rw (take_at (preimage w) q 16 whole, drop_at (preimage w) q 16 whole, cipher.forth w block, numbered-twice t (p ++ r) joined, take_at p r 8 eight, drop_at p r 8 eight, take-append-drop 8 front)
    (take-append-drop 32 s)

-- a state is the one before step t just where the step back gives it
pub step-iff : (image preimage : List ℕ → List ℕ) (t : ℕ) (s result : List ℕ) → AreInverse image preimage → IsState s → result ≡ step_back preimage t s
    → (before : List ℕ) → IsState before → (step image t before ≡ s) ↔ (before ≡ result)
step-iff image preimage t s result cipher state made before first = (
  λ after. sym (step_back-step image preimage t before cipher first) ∙ ap (step_back preimage t) after ∙ sym made,
  λ same. ap (step image t) (same ∙ made) ∙ step-step_back image preimage t s cipher state,
)
