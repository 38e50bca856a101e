use Rattle.std.proofs.Common.{◌≡◌, ℕ, ◌*◌, ◌/◌, ◌%◌, ◌^◌, ap, ◌∙◌, arith, bit_xor}
use Rattle.std.proofs.lemmas.Nat.{shl-shr}
use Rattle.aes_lanes.specs.Field.{sbox}
use Rattle.aes_lanes.specs.Planes.{bit_of}
use Rattle.aes_lanes.proofs.Circuits.{byte_of-gates, values, sbox_gates, sbox-by_gates}
use Rattle.aes_lanes.proofs.gates.gates_of.Goals as goal

-- no gate takes the value of ones, so that each number serves for it which has the bit
one : (k : ℕ) → bit_of k (2 ^ k) ≡ 1
one k =
    let once : 2 ^ k ≡ 1 * 2 ^ k = omega arith in
    ap (λ n. n / 2 ^ k % 2) once ∙ ap (λ n. n % 2) (shl-shr 1 k)

pub returns : goal.returns
unfolding values sbox_gates
returns c k lt =
    let x = c.args.bits in
    byte_of-gates sbox_gates 9 4 5 1 3 0 2 8 (λ x. bit_xor (sbox x) 0x63) sbox-by_gates x.b0 x.b1 x.b2 x.b3 x.b4 x.b5 x.b6 x.b7 (2 ^ k) k (one k)
