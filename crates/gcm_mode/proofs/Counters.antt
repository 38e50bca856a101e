-- The last four bytes of a block as a number.
use Rattle.std.proofs.Common.{◌≡◌, ℕ, ◌+◌, ◌*◌, ◌^◌, ◌%◌, ◌<◌, List, [], ◌∷◌, ◌++◌, length, get_or, take, drop, sym, ap, ◌∙◌, arith}
use Rattle.std.proofs.lemmas.List.{drop_more, drop_all}
use Rattle.std.specs.Int.{w32, from_be_bytes, to_be_bytes}
use Rattle.aes_lanes.specs.Counter.{number_of, increment, increment32}

last_four : (block : List ℕ) → length block ≡ 16 → drop 12 block ≡ get_or block 12 0 ∷ get_or block 13 0 ∷ get_or block 14 0 ∷ get_or block 15 0 ∷ []
last_four block whole =
    let a : 12 < length block = omega arith in
    let b : 13 < length block = omega arith in
    let c : 14 < length block = omega arith in
    let d : 15 < length block = omega arith in
    drop_more block 12 0 a
    ∙ ap (λ s. get_or block 12 0 ∷ s) (drop_more block 13 0 b
    ∙ ap (λ s. get_or block 13 0 ∷ s) (drop_more block 14 0 c
    ∙ ap (λ s. get_or block 14 0 ∷ s) (drop_more block 15 0 d
    ∙ ap (λ s. get_or block 15 0 ∷ s) (drop_all 16 block (omega arith)))))

pub increment32-is : (block tail : List ℕ) (count : ℕ) → length block ≡ 16 → count ≡ from_be_bytes w32 (get_or block 12 0 ∷ get_or block 13 0 ∷ get_or block 14 0 ∷ get_or block 15 0 ∷ []) → tail ≡ to_be_bytes w32 ((count + 1) % 2 ^ 32) → take 12 block ++ (tail ++ drop 4 (drop 12 block)) ≡ increment32 block
unfolding increment number_of
increment32-is block tail count whole number bytes =
    let last = last_four block whole in
    let sum : (((0 + get_or block 12 0) * 256 + get_or block 13 0) * 256 + get_or block 14 0) * 256 + get_or block 15 0 ≡ count = omega (arith, number) in
    rw (last, bytes) (sym (ap (λ (n : ℕ). take 12 block ++ to_be_bytes w32 ((n + 1) % 2 ^ 32)) sum))
