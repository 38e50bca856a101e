-- Bytes cut into blocks of sixteen, and blocks joined.
use Rattle.std.proofs.Common.{◌≡◌, ℕ, zero, suc, ◌+◌, ◌*◌, ◌/◌, ◌%◌, ◌≤◌, List, [], ◌∷◌, ◌++◌, length, take, drop, inl, inr, refl, sym, ap, ◌∙◌, arith, lit<, length-append}
use Rattle.std.specs.List.{All}
use Rattle.std.specs.Simd.{first_chunks}
use Rattle.std.proofs.lemmas.List.{get_or-drop, get_or-take, get_or_past, take_at, drop_at, take-append-drop, length-take-le, length-drop, nil_from_length}
use Rattle.std.proofs.lemmas.List.Elements.{All-nil, All-cons, All-head, All-tail}
use Rattle.std.proofs.lemmas.Bool.{cases_lt}
use Rattle.base64.specs.GeneralPurpose.{IsBytes}
use Rattle.aes_lanes.specs.Bytes.{IsBlock}
use Rattle.vault_names.specs.Gocryptfs.{blocks_of, bytes_of}

IsBytes-drop : (n : ℕ) (xs : List ℕ) → IsBytes xs → IsBytes (drop n xs)
IsBytes-drop n xs bytes = λ k. rw (get_or-drop n xs k 0) (bytes (n + k))

IsBytes-take : (n : ℕ) (xs : List ℕ) → n ≤ length xs → IsBytes xs → IsBytes (take n xs)
IsBytes-take n xs within bytes = λ k. elim (cases_lt k n) [
  | inl lt ↦ rw (get_or-take n xs k 0 lt) (bytes k)
  | inr ge ↦
      let past : length (take n xs) ≤ k = omega (arith, length-take-le n xs within) in
      rw (get_or_past (take n xs) k 0 past) (lit< tt)
]

pub IsBytes-append : (xs ys : List ℕ) → IsBytes xs → IsBytes ys → IsBytes (xs ++ ys)
IsBytes-append [] ys left right k = right k
IsBytes-append (x ∷ xs) ys left right zero = left zero
IsBytes-append (x ∷ xs) ys left right (suc k) = IsBytes-append xs ys (λ i. left (suc i)) right k

-- chunks are joined
bytes_of-first_chunks : (n k : ℕ) (xs : List ℕ) → length xs ≡ k * n → bytes_of (first_chunks n k xs) ≡ xs
bytes_of-first_chunks n zero xs size =
    let none : length xs ≡ 0 = omega arith in
    sym (nil_from_length xs none)
bytes_of-first_chunks n (suc k) xs size =
    let rest : length (drop n xs) ≡ k * n = omega (arith, length-drop n xs) in
    ap (λ ys. take n xs ++ ys) (bytes_of-first_chunks n k (drop n xs) rest) ∙ take-append-drop n xs

-- each chunk is a block
IsBlock-first_chunks : (n k : ℕ) (xs : List ℕ) → n ≡ 16 → length xs ≡ k * n → IsBytes xs → All IsBlock (first_chunks n k xs)
IsBlock-first_chunks n zero xs sixteen size bytes = All-nil IsBlock
IsBlock-first_chunks n (suc k) xs sixteen size bytes =
    let within : n ≤ length xs = omega arith in
    let rest : length (drop n xs) ≡ k * n = omega (arith, length-drop n xs) in
    All-cons IsBlock _ _ (record {
      sixteen = length-take-le n xs within ∙ sixteen;
      bytes = IsBytes-take n xs within bytes;
    }) (IsBlock-first_chunks n k (drop n xs) sixteen rest (IsBytes-drop n xs bytes))

-- joined blocks are cut again
first_chunks-bytes_of : (n : ℕ) (blocks : List (List ℕ)) → n ≡ 16 → All IsBlock blocks → first_chunks n (length blocks) (bytes_of blocks) ≡ blocks
first_chunks-bytes_of n [] sixteen are = refl
first_chunks-bytes_of n (block ∷ blocks) sixteen are =
    let size : length block ≡ n = (All-head IsBlock _ _ are).sixteen ∙ sym sixteen in
    rw (take_at block (bytes_of blocks) n size, drop_at block (bytes_of blocks) n size)
    (ap (λ bs. block ∷ bs) (first_chunks-bytes_of n blocks sixteen (All-tail IsBlock _ _ are)))

pub length-bytes_of : (blocks : List (List ℕ)) → All IsBlock blocks → length (bytes_of blocks) ≡ 16 * length blocks
length-bytes_of [] are = refl
length-bytes_of (block ∷ blocks) are =
    omega (arith, length-append block (bytes_of blocks), (All-head IsBlock _ _ are).sixteen, length-bytes_of blocks (All-tail IsBlock _ _ are))

pub IsBytes-bytes_of : (blocks : List (List ℕ)) → All IsBlock blocks → IsBytes (bytes_of blocks)
IsBytes-bytes_of [] are = λ k. lit< tt
IsBytes-bytes_of (block ∷ blocks) are =
    IsBytes-append block (bytes_of blocks) (All-head IsBlock _ _ are).bytes (IsBytes-bytes_of blocks (All-tail IsBlock _ _ are))

pub length-first_chunks : (n k : ℕ) (xs : List ℕ) → length (first_chunks n k xs) ≡ k
length-first_chunks n zero xs = refl
length-first_chunks n (suc k) xs = ap suc (length-first_chunks n k (drop n xs))

-- whole blocks of bytes
pub bytes_of-blocks_of : (xs : List ℕ) → length xs % 16 ≡ 0 → bytes_of (blocks_of xs) ≡ xs
bytes_of-blocks_of xs whole = bytes_of-first_chunks 16 (length xs / 16) xs (omega arith)

pub IsBlock-blocks_of : (xs : List ℕ) → length xs % 16 ≡ 0 → IsBytes xs → All IsBlock (blocks_of xs)
IsBlock-blocks_of xs whole bytes = IsBlock-first_chunks 16 (length xs / 16) xs refl (omega arith) bytes

pub blocks_of-bytes_of : (blocks : List (List ℕ)) → All IsBlock blocks → blocks_of (bytes_of blocks) ≡ blocks
blocks_of-bytes_of blocks are =
    let count : length (bytes_of blocks) / 16 ≡ length blocks = omega (arith, length-bytes_of blocks are) in
    ap (λ k. first_chunks 16 k (bytes_of blocks)) count ∙ first_chunks-bytes_of 16 blocks refl are
