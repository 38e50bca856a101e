-- The masks as a loop adds them, and EME as the code goes through it.
use Rattle.std.proofs.Common.{◌≡◌, ℕ, suc, ◌+◌, ◌<◌, List, [], ◌∷◌, ◌++◌, length, take, drop, set, get_or, map, refl, sym, ap, ◌∙◌, arith, append_assoc}
use Rattle.std.proofs.Math.Seq.{take-suc-set, drop-cons}
use Rattle.std.proofs.lemmas.List.{drop-set-lt, nil_from_length}
use Rattle.aes_lanes.specs.Bytes.{xor_bytes}
use Rattle.eme_mode.specs.Eme.{times_two, with_masks, sum_from, ccc_of, eme_by}

-- one block more has its mask
pub masked-next : (whole blocks : List (List ℕ)) (i : ℕ) (mask next block d : List ℕ)
    → whole ≡ take i blocks ++ with_masks mask (drop i blocks) → i < length blocks → block ≡ xor_bytes (get_or blocks i d) mask
    → next ≡ times_two mask → whole ≡ take (i + 1) (set blocks i block) ++ with_masks next (drop (i + 1) (set blocks i block))
unfolding with_masks
masked-next whole blocks i mask next block d so_far within is doubling =
    let after : i + 1 ≡ suc i = omega arith in
    let first : drop i blocks ≡ get_or blocks i d ∷ drop (i + 1) blocks = drop-cons blocks i d within ∙ ap (λ k. get_or blocks i d ∷ drop k blocks) (sym after) in
    let rest : drop (i + 1) (set blocks i block) ≡ drop (i + 1) blocks = drop-set-lt (i + 1) blocks i block (omega arith) in
    let front : take (i + 1) (set blocks i block) ≡ take i blocks ++ block ∷ [] = ap (λ k. take k (set blocks i block)) after ∙ take-suc-set blocks i block within in
    let now : whole ≡ take i blocks ++ (block ∷ with_masks next (drop (i + 1) blocks)) = so_far ∙ rw (first, is, doubling) refl in
    now ∙ sym (ap (λ f. f ++ with_masks next (drop (i + 1) (set blocks i block))) front
    ∙ append_assoc (take i blocks) (block ∷ []) (with_masks next (drop (i + 1) (set blocks i block)))
    ∙ ap (λ bs. take i blocks ++ (block ∷ with_masks next bs)) rest)

-- no block is left
pub masked-nil : (mask : List ℕ) → with_masks mask [] ≡ []
unfolding with_masks
masked-nil mask = refl

-- the blocks of which the first is the sum of the others
pub mixed-cons : (tweak mp mc first step start sum : List ℕ) (blocks rest others : List (List ℕ))
    → blocks ≡ first ∷ rest → step ≡ xor_bytes mp mc → others ≡ with_masks (times_two step) rest
    → start ≡ xor_bytes mc tweak → sum ≡ sum_from start others → sum ∷ others ≡ ccc_of tweak mc (xor_bytes mp mc) blocks
unfolding ccc_of
mixed-cons tweak mp mc first step start sum blocks rest others parts step_is others_is start_is sum_is =
    rw (parts, sum_is, others_is, start_is, step_is) refl

pub mixed-nil : (tweak mp mc : List ℕ) (blocks : List (List ℕ)) → length blocks ≡ 0 → blocks ≡ ccc_of tweak mc (xor_bytes mp mc) blocks
unfolding ccc_of
mixed-nil tweak mp mc blocks none = rw (nil_from_length blocks none) refl

-- the steps of EME one after the other
pub eme-steps : (f : List ℕ → List ℕ) (mask tweak sum inner : List ℕ) (blocks masked_once called mixed_once called_again last : List (List ℕ))
    → masked_once ≡ with_masks mask blocks → called ≡ map f masked_once → sum ≡ sum_from tweak called → inner ≡ f sum
    → mixed_once ≡ ccc_of tweak inner (xor_bytes sum inner) called → called_again ≡ map f mixed_once → last ≡ with_masks mask called_again
    → last ≡ eme_by f mask tweak blocks
unfolding eme_by
eme-steps f mask tweak sum inner blocks masked_once called mixed_once called_again last one two three four five six seven =
    seven ∙ rw (six, five, four, three, two, one) refl
