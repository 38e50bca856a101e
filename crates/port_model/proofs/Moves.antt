-- What is moved to the front of a buffer, and what is written piece by piece.
use Rattle.std.proofs.Common.{◌≡◌, ℕ, ◌+◌, ◌-◌, ◌≤◌, List, ◌++◌, length, take, drop, sym, ◌∙◌, ap, subst, arith, length-drop}
use Rattle.std.proofs.lemmas.List.{take_rest, take-append-drop, drop-drop, length-take-le}
use Rattle.std.proofs.Math.Seq.{take-append_seam, take-add}
use Rattle.std.specs.Prelude.{Option}
use Rattle.std.specs.Io.KnownBytes.{Appends}
use Rattle.std.proofs.KnownBytes.{Appends-trans}

-- the bytes left are those that now stand before the rest of the buffer, and those behind them
pub moved_to_front : (bytes out front : List ℕ) (at n : ℕ) → front ≡ take n (take (length bytes - at) (drop at bytes)) → n ≤ length bytes - at
    → drop at bytes ≡ take n (front ++ drop n out) ++ drop (at + n) bytes
moved_to_front bytes out front at n copied within =
    let taken : front ≡ take n (drop at bytes) = copied ∙ ap (take n) (take_rest bytes at) in
    let room : n ≤ length (drop at bytes) = omega (arith, length-drop at bytes) in
    let long : length front ≡ n = ap length taken ∙ length-take-le n (drop at bytes) room in
    let seam : take n (front ++ drop n out) ≡ front = ap (λ k. take k (front ++ drop n out)) (sym long) ∙ take-append_seam front (drop n out) in
    sym (ap (λ f. f ++ drop (at + n) bytes) (seam ∙ taken) ∙ ap (λ rest. take n (drop at bytes) ++ rest) (sym (drop-drop n at bytes)) ∙ take-append-drop n (drop at bytes))

-- the bytes left are those of the buffer that was filled with the first of them, and those behind them
pub moved_whole : (bytes out : List ℕ) (at n : ℕ) → out ≡ take n (take (length bytes - at) (drop at bytes)) → drop at bytes ≡ out ++ drop (at + n) bytes
moved_whole bytes out at n copied =
    let taken : out ≡ take n (drop at bytes) = copied ∙ ap (take n) (take_rest bytes at) in
    sym (ap (λ (front : List ℕ). front ++ drop (at + n) bytes) taken ∙ ap (λ (rest : List ℕ). take n (drop at bytes) ++ rest) (sym (drop-drop n at bytes)) ∙ take-append-drop n (drop at bytes))

-- a writer that took the front of a piece, and then more of it
pub Appends-more : (a b c : Option (List ℕ)) (piece : List ℕ) (at n : ℕ) → Appends a b (take at piece)
    → Appends b c (take n (take (length piece - at) (drop at piece))) → Appends a c (take (at + n) piece)
Appends-more a b c piece at n before more =
    let joined : take at piece ++ take n (take (length piece - at) (drop at piece)) ≡ take (at + n) piece = ap (λ rest. take at piece ++ take n rest) (take_rest piece at) ∙ sym (take-add at n piece) in
    subst (Appends a c) joined (Appends-trans a b c _ _ before more)
