-- Bytes drawn one after the other.
use Rattle.std.proofs.Common.{◌≡◌, ℕ, zero, suc, List, [], ◌∷◌, ◌++◌, length, None, Some, refl, sym, ◌∙◌, ap, take, set, ◌<◌, ◌+◌, subst}
use Rattle.std.specs.Prelude.{Option}
use Rattle.std.specs.List.{slice_get}
use Rattle.std.proofs.lemmas.List.{take_more_set}
use Rattle.port_model.specs.Draws.{ByteStream, bytes_then, Draws}

bytes_then-append : (xs ys : List ℕ) (rest : ByteStream) (place : ℕ) → bytes_then (xs ++ ys) rest place ≡ bytes_then xs (bytes_then ys rest) place
bytes_then-append [] ys rest place = refl
bytes_then-append (x ∷ xs) ys rest zero = refl
bytes_then-append (x ∷ xs) ys rest (suc place) = bytes_then-append xs ys rest place

bytes_then-same : (xs : List ℕ) (one other : ByteStream) → ((place : ℕ) → one place ≡ other place) → (place : ℕ) → bytes_then xs one place ≡ bytes_then xs other place
bytes_then-same [] one other same place = same place
bytes_then-same (x ∷ xs) one other same zero = refl
bytes_then-same (x ∷ xs) one other same (suc place) = bytes_then-same xs one other same place

pub Draws-nil : (stream : Option ByteStream) → Draws stream stream []
Draws-nil None = tt
Draws-nil (Some bytes) = λ place. refl

pub Draws-trans : (first second third : Option ByteStream) (xs ys : List ℕ) → Draws first second xs → Draws second third ys → Draws first third (xs ++ ys)
Draws-trans None None None xs ys p q = tt
Draws-trans None None (Some t) xs ys p q = absurd q
Draws-trans None (Some s) third xs ys p q = absurd p
Draws-trans (Some r) None third xs ys p q = absurd p
Draws-trans (Some r) (Some s) None xs ys p q = absurd q
Draws-trans (Some r) (Some s) (Some t) xs ys p q =
    λ place. p place ∙ bytes_then-same xs s (bytes_then ys t) q place ∙ sym (bytes_then-append xs ys t place)

-- streams that begin with as many bytes and are alike begin with the same
alike : (xs ys : List ℕ) (one other : ByteStream) → ((place : ℕ) → bytes_then xs one place ≡ bytes_then ys other place) → length xs ≡ length ys → xs ≡ ys
alike [] [] one other same long = refl
alike [] (y ∷ ys) one other same long = cc
alike (x ∷ xs) [] one other same long = cc
alike (x ∷ xs) (y ∷ ys) one other same long =
    let head : x ≡ y = let both : Some x ≡ Some y = same zero in cc in
    let short : length xs ≡ length ys = cc in
    let tail : xs ≡ ys = alike xs ys one other (λ place. same (suc place)) short in
    cc

pub Draws-determined : (before : ByteStream) (one other : Option ByteStream) (xs ys : List ℕ) → Draws (Some before) one xs → Draws (Some before) other ys → length xs ≡ length ys → xs ≡ ys
Draws-determined before None other xs ys p q long = absurd p
Draws-determined before (Some s) None xs ys p q long = absurd q
Draws-determined before (Some s) (Some t) xs ys p q long = alike xs ys s t (λ place. sym (p place) ∙ q place) long

-- the front of a list is drawn from it
pub Draws-list : (xs ys : List ℕ) → Draws (Some (slice_get (xs ++ ys))) (Some (slice_get ys)) xs
Draws-list [] ys place = refl
Draws-list (x ∷ xs) ys zero = refl
Draws-list (x ∷ xs) ys (suc place) = Draws-list xs ys place

pub Draws-front : (all xs ys : List ℕ) → all ≡ xs ++ ys → Draws (Some (slice_get all)) (Some (slice_get ys)) xs
Draws-front all xs ys e place = ap (λ (l : List ℕ). slice_get l place) e ∙ Draws-list xs ys place

-- a buffer that is filled byte by byte
pub Draws-more : (first second third : Option ByteStream) (out : List ℕ) (at byte : ℕ) → at < length out
    → Draws first second (take at out) → Draws second third (byte ∷ []) → Draws first third (take (at + 1) (set out at byte))
Draws-more first second third out at byte within p q =
    subst (Draws first third) (sym (take_more_set out at byte within)) (Draws-trans first second third (take at out) (byte ∷ []) p q)
