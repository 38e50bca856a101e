-- EME, the wide-block mode of Halevi and Rogaway ("A Parallelizable Enciphering Mode"), as gocryptfs uses it. A block is
-- sixteen bytes. Deciphering is the same with the inverse cipher at each place but in the first mask.
use Rattle.std.specs.Prelude.{ℕ, ◌*◌, ◌/◌, ◌%◌, ◌^◌, List, [], ◌∷◌, map, fold, replicate, bit_xor}
use Rattle.std.specs.Int.{w128, from_le_bytes, to_le_bytes}
use Rattle.aes_lanes.specs.Bytes.{xor_bytes}
use Rattle.aes_lanes.specs.Cipher.{aes256, inverse_aes256}

-- a block times two: each byte shifted to the left by one bit with the carry into the next byte, and a carry out of the
-- last byte added as 0x87 to the first
unfoldable pub times_two : List ℕ → List ℕ
times_two block = let n = from_le_bytes w128 block in to_le_bytes w128 (bit_xor (n * 2 % 2 ^ 128) (n / 2 ^ 127 * 0x87))

-- blocks with masks added: a first one to the first block, and to each next block the mask before times two
unfoldable pub with_masks : List ℕ → List (List ℕ) → List (List ℕ)
with_masks mask [] = []
with_masks mask (block ∷ blocks) = xor_bytes block mask ∷ with_masks (times_two mask) blocks

-- blocks added to a first one
abbrev pub sum_from : List ℕ → List (List ℕ) → List ℕ
sum_from first blocks = fold (λ sum block. xor_bytes sum block) first blocks

-- CCC_1 to CCC_m, of PPP_1 to PPP_m: CCC_j is PPP_j + M times 2^(j-1) for j from 2 on, and CCC_1 is MC, the tweak and
-- CCC_2 to CCC_m added up
unfoldable pub ccc_of : List ℕ → List ℕ → List ℕ → List (List ℕ) → List (List ℕ)
ccc_of tweak mc m [] = []
ccc_of tweak mc m (first ∷ rest) =
    let others = with_masks (times_two m) rest in
    sum_from (xor_bytes mc tweak) others ∷ others

-- the blocks P_1 to P_m through EME, with f as the block function and L_1 as the first mask
unfoldable pub eme_by : (List ℕ → List ℕ) → List ℕ → List ℕ → List (List ℕ) → List (List ℕ)
eme_by f l tweak p =
    let ppp : List (List ℕ) = map f (with_masks l p) in
    let mp : List ℕ = sum_from tweak ppp in
    let mc : List ℕ = f mp in
    let m : List ℕ = xor_bytes mp mc in
    let ccc : List (List ℕ) = ccc_of tweak mc m ppp in
    with_masks l (map f ccc)

-- the first mask L_1: the zero block's image times two
abbrev pub first_mask : List ℕ → List ℕ
first_mask key = times_two (aes256 key (replicate 16 0))

-- EME over AES-256 under a key and a tweak, and its inverse
abbrev pub eme256 : List ℕ → List ℕ → List (List ℕ) → List (List ℕ)
eme256 key tweak blocks = eme_by (aes256 key) (first_mask key) tweak blocks

abbrev pub inverse_eme256 : List ℕ → List ℕ → List (List ℕ) → List (List ℕ)
inverse_eme256 key tweak blocks = eme_by (inverse_aes256 key) (first_mask key) tweak blocks
