-- EME's two directions undo each other: what is masked and mixed once more is as it was.
use Rattle.std.proofs.Common.{◌≡◌, ℕ, zero, suc, ◌*◌, ◌/◌, ◌%◌, ◌^◌, ◌<◌, ◌≤◌, bit_xor, List, [], ◌∷◌, length, map, slice_index, refl, ap, ◌∙◌, arith, lit<}
use Rattle.std.specs.List.{All}
use Rattle.std.specs.Int.{w128, bytes_low_first, from_le_bytes}
use Rattle.std.proofs.lemmas.List.{length-map}
use Rattle.std.proofs.lemmas.List.Elements.{All-nil, All-cons, All-head, All-tail, All-map, All-weaker}
use Rattle.aes_lanes.specs.Bytes.{IsBlock, xor_bytes}
use Rattle.aes_lanes.proofs.Bytes.{byte_at-lt}
use Rattle.aes_lanes.specs.Laws.Sums.{xor_bytes-twice, xor_bytes-swap, xor_bytes-regroup}
use Rattle.aes_lanes.specs.Laws.Rounds.{IsBlock-xor}
use Rattle.aes_lanes.specs.BlockCipher.{AreInverse}
use Rattle.eme_mode.specs.Eme.{times_two, with_masks, sum_from, ccc_of, eme_by}

-- a double is a block
length-bytes_low_first : (i k n : ℕ) → length (bytes_low_first i k n) ≡ k
length-bytes_low_first i zero n = refl
length-bytes_low_first i (suc k) n = ap suc (length-bytes_low_first (suc i) k n)

bytes_low_first-lt : (i k n j : ℕ) → slice_index (bytes_low_first i k n) j < 256
bytes_low_first-lt i zero n j = lit< tt
bytes_low_first-lt i (suc k) n zero = byte_at-lt i n
bytes_low_first-lt i (suc k) n (suc j) = bytes_low_first-lt (suc i) k n j

IsBlock-bytes_low_first : (n : ℕ) → IsBlock (bytes_low_first 0 16 n)
IsBlock-bytes_low_first n = record { sixteen = length-bytes_low_first 0 16 n; bytes = bytes_low_first-lt 0 16 n }

pub IsBlock-times_two : (block : List ℕ) → IsBlock (times_two block)
unfolding times_two
IsBlock-times_two block =
    let n = from_le_bytes w128 block in
    IsBlock-bytes_low_first (bit_xor (n * 2 % 2 ^ 128) (n / 2 ^ 127 * 0x87))

-- two blocks
xor-twice : (a b : List ℕ) → IsBlock a → IsBlock b → xor_bytes (xor_bytes a b) b ≡ a
xor-twice a b is_a is_b =
    let long : length a ≤ length b = omega (arith, is_a.sixteen, is_b.sixteen) in
    xor_bytes-twice a b long

xor-around : (a b : List ℕ) → IsBlock a → IsBlock b → xor_bytes b (xor_bytes a b) ≡ a
xor-around a b is_a is_b = xor_bytes-swap b (xor_bytes a b) ∙ xor-twice a b is_a is_b

-- masks
length-masked : (mask : List ℕ) (blocks : List (List ℕ)) → length (with_masks mask blocks) ≡ length blocks
unfolding with_masks
length-masked mask [] = refl
length-masked mask (block ∷ blocks) = ap suc (length-masked (times_two mask) blocks)

IsBlock-masked : (mask : List ℕ) (blocks : List (List ℕ)) → IsBlock mask → All IsBlock blocks → All IsBlock (with_masks mask blocks)
unfolding with_masks
IsBlock-masked mask [] m bs = All-nil IsBlock
IsBlock-masked mask (block ∷ blocks) m bs =
    All-cons IsBlock _ _ (IsBlock-xor block mask (All-head IsBlock _ _ bs) m)
    (IsBlock-masked (times_two mask) blocks (IsBlock-times_two mask) (All-tail IsBlock _ _ bs))

masked-twice : (mask : List ℕ) (blocks : List (List ℕ)) → IsBlock mask → All IsBlock blocks → with_masks mask (with_masks mask blocks) ≡ blocks
unfolding with_masks
masked-twice mask [] m bs = refl
masked-twice mask (block ∷ blocks) m bs =
    ap (λ b. b ∷ with_masks (times_two mask) (with_masks (times_two mask) blocks)) (xor-twice block mask (All-head IsBlock _ _ bs) m)
    ∙ ap (λ bs. block ∷ bs) (masked-twice (times_two mask) blocks (IsBlock-times_two mask) (All-tail IsBlock _ _ bs))

-- sums
IsBlock-sum_from : (first : List ℕ) (blocks : List (List ℕ)) → IsBlock first → All IsBlock blocks → IsBlock (sum_from first blocks)
IsBlock-sum_from first [] b bs = b
IsBlock-sum_from first (block ∷ blocks) b bs =
    IsBlock-sum_from (xor_bytes first block) blocks (IsBlock-xor first block b (All-head IsBlock _ _ bs)) (All-tail IsBlock _ _ bs)

sum_from-xor : (a b : List ℕ) (blocks : List (List ℕ)) → sum_from (xor_bytes a b) blocks ≡ xor_bytes a (sum_from b blocks)
sum_from-xor a b [] = refl
sum_from-xor a b (block ∷ blocks) =
    ap (λ first. sum_from first blocks) (xor_bytes-regroup a b block) ∙ sum_from-xor a (xor_bytes b block) blocks

sum_from-twice : (first : List ℕ) (blocks : List (List ℕ)) → IsBlock first → All IsBlock blocks
    → sum_from (sum_from first blocks) blocks ≡ first
sum_from-twice first [] b bs = refl
sum_from-twice first (block ∷ blocks) b bs =
    let is_block = All-head IsBlock _ _ bs in
    let sum : List ℕ = sum_from (xor_bytes first block) blocks in
    let twice : sum_from sum blocks ≡ xor_bytes first block =
    sum_from-twice (xor_bytes first block) blocks (IsBlock-xor first block b is_block) (All-tail IsBlock _ _ bs) in
    ap (λ s. sum_from s blocks) (xor_bytes-swap sum block) ∙ sum_from-xor block sum blocks ∙ ap (xor_bytes block) twice
    ∙ xor-around first block b is_block

-- of two blocks that begin a sum, one added to it and the sum taken once more leaves the other
sum_from-around : (a b : List ℕ) (blocks : List (List ℕ)) → IsBlock a → IsBlock b → All IsBlock blocks
    → sum_from (xor_bytes b (sum_from (xor_bytes a b) blocks)) blocks ≡ a
sum_from-around a b blocks is_a is_b bs =
    sum_from-xor b (sum_from (xor_bytes a b) blocks) blocks
    ∙ ap (xor_bytes b) (sum_from-twice (xor_bytes a b) blocks (IsBlock-xor a b is_a is_b) bs)
    ∙ xor-around a b is_a is_b

-- CCC of PPP, by MP and MC, and by the block function
abbrev mixed : List ℕ → List ℕ → List ℕ → List (List ℕ) → List (List ℕ)
mixed tweak mp mc blocks = ccc_of tweak mc (xor_bytes mp mc) blocks

abbrev mixed_by : (List ℕ → List ℕ) → List ℕ → List (List ℕ) → List (List ℕ)
mixed_by f tweak blocks = mixed tweak (sum_from tweak blocks) (f (sum_from tweak blocks)) blocks

length-mixed : (tweak mp mc : List ℕ) (blocks : List (List ℕ)) → length (mixed tweak mp mc blocks) ≡ length blocks
unfolding ccc_of
length-mixed tweak mp mc [] = refl
length-mixed tweak mp mc (first ∷ rest) = ap suc (length-masked (times_two (xor_bytes mp mc)) rest)

IsBlock-others : (mp mc : List ℕ) (rest : List (List ℕ)) → All IsBlock rest → All IsBlock (with_masks (times_two (xor_bytes mp mc)) rest)
IsBlock-others mp mc rest bs = IsBlock-masked _ rest (IsBlock-times_two (xor_bytes mp mc)) bs

IsBlock-mixed : (tweak mp mc : List ℕ) (blocks : List (List ℕ)) → IsBlock tweak → IsBlock mc → All IsBlock blocks
    → All IsBlock (mixed tweak mp mc blocks)
unfolding ccc_of
IsBlock-mixed tweak mp mc [] is_tweak is_mc bs = All-nil IsBlock
IsBlock-mixed tweak mp mc (first ∷ rest) is_tweak is_mc bs =
    let others = IsBlock-others mp mc rest (All-tail IsBlock _ _ bs) in
    All-cons IsBlock _ _ (IsBlock-sum_from (xor_bytes mc tweak) _ (IsBlock-xor mc tweak is_mc is_tweak) others) others

-- what was mixed has MC as its sum with the tweak
sum_from-mixed : (tweak mp mc first : List ℕ) (rest : List (List ℕ)) → IsBlock tweak → IsBlock mc → All IsBlock rest
    → sum_from tweak (mixed tweak mp mc (first ∷ rest)) ≡ mc
unfolding ccc_of
sum_from-mixed tweak mp mc first rest is_tweak is_mc bs =
    sum_from-around mc tweak (with_masks (times_two (xor_bytes mp mc)) rest) is_mc is_tweak (IsBlock-others mp mc rest bs)

-- mixing once more, with MP and MC exchanged
mixed-twice : (tweak mp mc first : List ℕ) (rest : List (List ℕ)) → IsBlock tweak → IsBlock first → All IsBlock rest
    → mp ≡ sum_from tweak (first ∷ rest) → mixed tweak mc mp (mixed tweak mp mc (first ∷ rest)) ≡ first ∷ rest
unfolding ccc_of
mixed-twice tweak mp mc first rest is_tweak is_first bs sum =
    let others : with_masks (times_two (xor_bytes mc mp)) (with_masks (times_two (xor_bytes mp mc)) rest) ≡ rest =
    rw (xor_bytes-swap mc mp) (masked-twice _ rest (IsBlock-times_two (xor_bytes mp mc)) bs) in
    let back : sum_from (xor_bytes mp tweak) rest ≡ first =
    rw (xor_bytes-swap mp tweak, sum, xor_bytes-swap tweak first) (sum_from-around first tweak rest is_first is_tweak bs) in
    rw (others, back) refl

mixed_by-undone : (f g : List ℕ → List ℕ) → AreInverse f g → (tweak : List ℕ) (blocks : List (List ℕ)) → IsBlock tweak → All IsBlock blocks
    → mixed_by g tweak (mixed_by f tweak blocks) ≡ blocks
unfolding ccc_of
mixed_by-undone f g undo tweak [] is_tweak bs = refl
mixed_by-undone f g undo tweak (first ∷ rest) is_tweak bs =
    let mp : List ℕ = sum_from tweak (first ∷ rest) in
    let is_mp : IsBlock mp = IsBlock-sum_from tweak (first ∷ rest) is_tweak bs in
    let is_rest : All IsBlock rest = All-tail IsBlock _ _ bs in
    let mixed_once : List (List ℕ) = mixed tweak mp (f mp) (first ∷ rest) in
    let sum : sum_from tweak mixed_once ≡ f mp = sum_from-mixed tweak mp (f mp) first rest is_tweak (undo.block mp is_mp) is_rest in
    ap (λ s. mixed tweak s (g s) mixed_once) sum ∙ ap (λ s. mixed tweak (f mp) s mixed_once) (undo.back mp is_mp)
    ∙ mixed-twice tweak mp (f mp) first rest is_tweak (All-head IsBlock _ _ bs) is_rest refl

IsBlock-mixed_by : (f : List ℕ → List ℕ) → ((b : List ℕ) → IsBlock b → IsBlock (f b)) → (tweak : List ℕ) (blocks : List (List ℕ))
    → IsBlock tweak → All IsBlock blocks → All IsBlock (mixed_by f tweak blocks)
IsBlock-mixed_by f keeps tweak blocks is_tweak bs =
    IsBlock-mixed tweak _ _ blocks is_tweak (keeps _ (IsBlock-sum_from tweak blocks is_tweak bs)) bs

-- the block function on each block
IsBlock-map : (f : List ℕ → List ℕ) → ((b : List ℕ) → IsBlock b → IsBlock (f b)) → (blocks : List (List ℕ)) → All IsBlock blocks
    → All IsBlock (map f blocks)
IsBlock-map f keeps blocks bs = All-map IsBlock f blocks (All-weaker IsBlock (λ b. IsBlock (f b)) keeps blocks bs)

map-undone : (f g : List ℕ → List ℕ) → AreInverse f g → (blocks : List (List ℕ)) → All IsBlock blocks → map g (map f blocks) ≡ blocks
map-undone f g undo [] bs = refl
map-undone f g undo (block ∷ blocks) bs =
    ap (λ b. b ∷ map g (map f blocks)) (undo.back block (All-head IsBlock _ _ bs))
    ∙ ap (λ bs. block ∷ bs) (map-undone f g undo blocks (All-tail IsBlock _ _ bs))

-- the two functions exchanged
pub turned : (f g : List ℕ → List ℕ) → AreInverse f g → AreInverse g f
turned f g undo = record { block = undo.block_back; block_back = undo.block; back = undo.forth; forth = undo.back }

-- EME
pub length-eme_by : (f : List ℕ → List ℕ) (mask tweak : List ℕ) (blocks : List (List ℕ)) → length (eme_by f mask tweak blocks) ≡ length blocks
unfolding eme_by
length-eme_by f mask tweak blocks =
    let called : List (List ℕ) = map f (with_masks mask blocks) in
    length-masked mask (map f (mixed_by f tweak called)) ∙ length-map (mixed_by f tweak called) f ∙ length-mixed tweak _ _ called
    ∙ length-map (with_masks mask blocks) f ∙ length-masked mask blocks

pub IsBlock-eme_by : (f : List ℕ → List ℕ) → ((b : List ℕ) → IsBlock b → IsBlock (f b)) → (mask tweak : List ℕ) (blocks : List (List ℕ))
    → IsBlock mask → IsBlock tweak → All IsBlock blocks → All IsBlock (eme_by f mask tweak blocks)
unfolding eme_by
IsBlock-eme_by f keeps mask tweak blocks is_mask is_tweak bs =
    let called = IsBlock-map f keeps _ (IsBlock-masked mask blocks is_mask bs) in
    IsBlock-masked mask _ is_mask (IsBlock-map f keeps _ (IsBlock-mixed_by f keeps tweak _ is_tweak called))

pub eme_by-undone : (f g : List ℕ → List ℕ) → AreInverse f g → (mask tweak : List ℕ) (blocks : List (List ℕ))
    → IsBlock mask → IsBlock tweak → All IsBlock blocks → eme_by g mask tweak (eme_by f mask tweak blocks) ≡ blocks
unfolding eme_by
eme_by-undone f g undo mask tweak blocks is_mask is_tweak bs =
    let are_masked = IsBlock-masked mask blocks is_mask bs in
    let called : List (List ℕ) = map f (with_masks mask blocks) in
    let are_called : All IsBlock called = IsBlock-map f undo.block _ are_masked in
    let mixed_once : List (List ℕ) = mixed_by f tweak called in
    let are_mixed : All IsBlock mixed_once = IsBlock-mixed_by f undo.block tweak called is_tweak are_called in
    ap (λ bs. with_masks mask (map g (mixed_by g tweak (map g bs)))) (masked-twice mask _ is_mask (IsBlock-map f undo.block mixed_once are_mixed))
    ∙ ap (λ bs. with_masks mask (map g (mixed_by g tweak bs))) (map-undone f g undo mixed_once are_mixed)
    ∙ ap (λ bs. with_masks mask (map g bs)) (mixed_by-undone f g undo tweak called is_tweak are_called)
    ∙ ap (with_masks mask) (map-undone f g undo _ are_masked)
    ∙ masked-twice mask blocks is_mask bs
