-- Bytes cut into pieces: the first piece, one piece more, and the bytes that pieces join to.
use Rattle.std.proofs.Common.{◌≡◌, ℕ, zero, suc, ◌*◌, ◌<◌, ◌≤◌, List, [], ◌∷◌, ◌++◌, length, take, drop, refl, sym, ap, ◌∙◌, arith, length-append, length-drop}
use Rattle.std.specs.List.{concat}
use Rattle.std.proofs.lemmas.List.{take-append-le, drop-append-le, take_all, drop_all, nil_from_length, take-append-drop}
use Rattle.chunk_files.specs.Pieces.{first_pieces, pieces}

-- enough is enough
first_pieces-enough : (m n size : ℕ) (bytes : List ℕ) → 0 < size → length bytes ≤ m → length bytes ≤ n
    → first_pieces m size bytes ≡ first_pieces n size bytes
unfolding first_pieces
first_pieces-enough zero zero size bytes some a b = refl
first_pieces-enough zero (suc n) size [] some a b = refl
first_pieces-enough zero (suc n) size (x ∷ xs) some a b = absurd (omega arith)
first_pieces-enough (suc m) zero size [] some a b = refl
first_pieces-enough (suc m) zero size (x ∷ xs) some a b = absurd (omega arith)
first_pieces-enough (suc m) (suc n) size [] some a b = refl
first_pieces-enough (suc m) (suc n) size (x ∷ xs) some a b =
    let rest : List ℕ = drop size (x ∷ xs) in
    let shorter : length rest ≤ m = omega (arith, length-drop size (x ∷ xs)) in
    let shorter' : length rest ≤ n = omega (arith, length-drop size (x ∷ xs)) in
    ap (λ (ps : List (List ℕ)). take size (x ∷ xs) ∷ ps) (first_pieces-enough m n size rest some shorter shorter')

pub pieces-nil : (size : ℕ) (bytes : List ℕ) → length bytes ≡ 0 → pieces size bytes ≡ []
unfolding pieces first_pieces
pieces-nil size [] none = refl
pieces-nil size (x ∷ xs) none = absurd (omega arith)

-- bytes are their first piece and the pieces of the rest
pub pieces-next : (size : ℕ) (bytes : List ℕ) → 0 < size → 0 < length bytes → pieces size bytes ≡ take size bytes ∷ pieces size (drop size bytes)
unfolding pieces first_pieces
pieces-next size [] some more = absurd (omega arith)
pieces-next size (x ∷ xs) some more =
    let rest : List ℕ = drop size (x ∷ xs) in
    let shorter : length rest ≤ length xs = omega (arith, length-drop size (x ∷ xs)) in
    ap (λ (ps : List (List ℕ)). take size (x ∷ xs) ∷ ps) (first_pieces-enough (length xs) (length rest) size rest some shorter (omega arith))

-- a piece of its own
pub pieces-one : (size : ℕ) (bytes : List ℕ) → 0 < length bytes → length bytes ≤ size → pieces size bytes ≡ bytes ∷ []
pieces-one size bytes more last =
    let none : drop size bytes ≡ [] = drop_all size bytes last in
    pieces-next size bytes (omega arith) more
    ∙ ap (λ (first : List ℕ). first ∷ pieces size (drop size bytes)) (take_all size bytes last)
    ∙ ap (λ (ps : List (List ℕ)). bytes ∷ ps) (pieces-nil size (drop size bytes) (ap length none))

-- whole pieces, and bytes behind them
pub pieces-append : (n size : ℕ) (xs ys : List ℕ) → 0 < size → length xs ≡ size * n → pieces size (xs ++ ys) ≡ pieces size xs ++ pieces size ys
pieces-append zero size xs ys some whole =
    let none : xs ≡ [] = nil_from_length xs (omega arith) in
    rw (none, pieces-nil size [] refl) refl
pieces-append (suc n) size xs ys some whole =
    let long : size ≤ length xs = omega arith in
    let more : 0 < length (xs ++ ys) = omega (arith, length-append xs ys) in
    let rest : length (drop size xs) ≡ size * n = omega (arith, length-drop size xs) in
    pieces-next size (xs ++ ys) some more
    ∙ rw (take-append-le size xs ys long, drop-append-le size xs ys long, pieces-append n size (drop size xs) ys some rest)
    (ap (λ (ps : List (List ℕ)). ps ++ pieces size ys) (sym (pieces-next size xs some (omega arith))))

pub length-pieces : (n size : ℕ) (bytes : List ℕ) → 0 < size → length bytes ≡ size * n → length (pieces size bytes) ≡ n
length-pieces zero size bytes some whole = ap length (pieces-nil size bytes (omega arith))
length-pieces (suc n) size bytes some whole =
    let rest : length (drop size bytes) ≡ size * n = omega (arith, length-drop size bytes) in
    ap length (pieces-next size bytes some (omega arith)) ∙ ap suc (length-pieces n size (drop size bytes) some rest)

concat-first_pieces : (most size : ℕ) (bytes : List ℕ) → 0 < size → length bytes ≤ most → concat (first_pieces most size bytes) ≡ bytes
unfolding first_pieces
concat-first_pieces zero size [] some within = refl
concat-first_pieces zero size (x ∷ xs) some within = absurd (omega arith)
concat-first_pieces (suc most) size [] some within = refl
concat-first_pieces (suc most) size (x ∷ xs) some within =
    let shorter : length (drop size (x ∷ xs)) ≤ most = omega (arith, length-drop size (x ∷ xs)) in
    ap (λ (r : List ℕ). take size (x ∷ xs) ++ r) (concat-first_pieces most size (drop size (x ∷ xs)) some shorter) ∙ take-append-drop size (x ∷ xs)

pub concat-pieces : (size : ℕ) (bytes : List ℕ) → 0 < size → concat (pieces size bytes) ≡ bytes
unfolding pieces
concat-pieces size bytes some = concat-first_pieces (length bytes) size bytes some (omega arith)
