-- Counter mode keeps a text's length and undoes itself.
use Rattle.std.proofs.Common.{◌≡◌, ℕ, zero, suc, ◌≤◌, ◌+◌, ◌*◌, ◌/◌, List, length, refl, ap, ◌∙◌, arith, length-append}
use Rattle.aes_lanes.specs.Bytes.{xor_bytes}
use Rattle.aes_lanes.specs.Counter.{key_stream, counter_mode}
use Rattle.aes_lanes.specs.Laws.Sums.{length-xor_bytes, xor_bytes-twice}

-- for a block cipher, whose images have sixteen bytes
pub length-key_stream : (image next : List ℕ → List ℕ) → ((b : List ℕ) → length (image b) ≡ 16)
    → (block : List ℕ) (n : ℕ) → length (key_stream image next block n) ≡ 16 * n
unfolding key_stream
length-key_stream image next sixteen block zero = refl
length-key_stream image next sixteen block (suc n) =
    omega (arith, length-append (image block) (key_stream image next (next block) n), sixteen block, length-key_stream image next sixteen (next block) n)

pub length-counter_mode : (image next : List ℕ → List ℕ) → ((b : List ℕ) → length (image b) ≡ 16)
    → (start text : List ℕ) → length (counter_mode image next start text) ≡ length text
unfolding counter_mode
length-counter_mode image next sixteen start text =
    let stream : List ℕ = key_stream image next start ((length text + 15) / 16) in
    let long : length text ≤ length stream = omega (arith, length-key_stream image next sixteen start ((length text + 15) / 16)) in
    length-xor_bytes text stream long

-- a text that goes through counter mode twice
pub counter_mode-twice : (image next : List ℕ → List ℕ) → ((b : List ℕ) → length (image b) ≡ 16)
    → (start text : List ℕ) → counter_mode image next start (counter_mode image next start text) ≡ text
unfolding counter_mode
counter_mode-twice image next sixteen start text =
    let n : ℕ = (length text + 15) / 16 in
    let stream : ℕ → List ℕ = key_stream image next start in
    let long : length text ≤ length (stream n) = omega (arith, length-key_stream image next sixteen start n) in
    let same : length (xor_bytes text (stream n)) ≡ length text = length-xor_bytes text (stream n) long in
    ap (λ m. xor_bytes (xor_bytes text (stream n)) (stream ((m + 15) / 16))) same ∙ xor_bytes-twice text (stream n) long
