-- Bytes put behind others into an array.
use Rattle.std.proofs.Common.{◌≡◌, ◌∙◌, ◌++◌, ◌+◌, ◌-◌, List, ℕ, drop, take, length, ap, ap₂, arith, append-nil, length-append}
use Rattle.std.proofs.lemmas.List.{drop_all, drop_at, take_at}
use Rattle.std.proofs.lemmas.Slice.{take-put_mid}
use borrow.Rule.Slice.PartMut.{put_mid}

-- to its end
pub put-behind : (n k : ℕ) (xs zs ys : List ℕ) → length xs ≡ n → length zs ≡ k → put_mid n k (xs ++ zs) ys ≡ xs ++ ys
put-behind n k xs zs ys size rest =
    ap₂ (λ (a b : List ℕ). a ++ (ys ++ b)) (take_at xs zs n size) (ap (drop k) (drop_at xs zs n size) ∙ drop_all k zs (omega (arith, rest)))
    ∙ ap (λ (b : List ℕ). xs ++ b) (append-nil ys)

-- and to a place before its end
pub put-within : (n end : ℕ) (xs zs ys : List ℕ) → length xs ≡ n → n + length ys ≡ end → take end (put_mid n (end - n) (xs ++ zs) ys) ≡ xs ++ ys
put-within n end xs zs ys size whole =
    take-put_mid n (end - n) (xs ++ zs) ys end (omega (arith, whole)) (omega (arith, size, length-append xs zs))
    ∙ ap (λ (a : List ℕ). a ++ ys) (take_at xs zs n size)
