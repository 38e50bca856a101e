-- What a source gives as a content.
use Rattle.std.proofs.Common.{arith, ◌≡◌, ◌≤◌, ◌+◌, ◌-◌, ℕ, zero, suc, Bool, true, false, List, [], ◌++◌, length, take, Option, Some, None, Result, Ok, Err, IfErr, ◌⊎◌, refl, sym, subst, ap, ◌∙◌, inl, inr, nat_le, if◌then◌else◌}
use Rattle.std.proofs.lemmas.List.{length-append, length-take-le}
use Rattle.std.proofs.lemmas.Bool.Decides.{leb_tells}
use Rattle.std.proofs.Math.Dec.{leb-zero}
use Rattle.std.proofs.Math.Seq.{take-append-add}
use Rattle.std.specs.Io.KnownBytes.{Consumes, IsAtEnd}
use Rattle.vault_faults.specs.declared.fault.Limit.TheVariants.{Input}
use Rattle.item_making.specs.Ending.{Whole, TooLong}
use Rattle.content_writing.specs.Content.{ends, bytes_before, within, coming_from, Gives, IsContentFault}
use Rattle.item_making.specs.declared.fault.PutFault.{PutFault}
use Rattle.item_making.specs.declared.fault.PutFault.TheVariants as puts

le_behind : (k a b : ℕ) → nat_le (k + a) (k + b) ≡ nat_le a b
le_behind k a b = elim (leb_tells (k + a) (k + b)) [
  | inl x ↦ elim (leb_tells a b) [ inl y ↦ x.0 ∙ sym y.0 | inr y ↦ absurd (omega (arith, x.1, y.1)) ]
  | inr x ↦ elim (leb_tells a b) [ inl y ↦ absurd (omega (arith, x.1, y.1)) | inr y ↦ x.0 ∙ sym y.0 ]
]

by_tests : (p ys : List ℕ) (size room : ℕ) (b c : Bool) → b ≡ c → take size (p ++ ys) ≡ p ++ take room ys
    → (if b then record { bytes = p ++ ys; ending = Whole } else record { bytes = take size (p ++ ys); ending = TooLong Input })
    ≡ bytes_before p (if c then record { bytes = ys; ending = Whole } else record { bytes = take room ys; ending = TooLong Input })
by_tests p ys size room true true same front = refl
by_tests p ys size room false false same front = ap (λ x. record { bytes = x; ending = TooLong Input }) front
by_tests p ys size room true false same front = cc
by_tests p ys size room false true same front = cc

-- behind some bytes that there is room for
within_behind : (p ys : List ℕ) (room : ℕ) → within (length p + room) (p ++ ys) ≡ bytes_before p (within room ys)
within_behind p ys room =
    let size : length (p ++ ys) ≡ length p + length ys = length-append p ys in
    by_tests p ys (length p + room) room (nat_le (length (p ++ ys)) (length p + room)) (nat_le (length ys) room)
    (ap (λ k. nat_le k (length p + room)) size ∙ le_behind (length p) (length ys) room) (take-append-add p ys room)

within_none : (room : ℕ) → within room [] ≡ ends Whole
within_none room = ap (λ b. if b then record { bytes = []; ending = Whole } else record { bytes = take room []; ending = TooLong Input }) (leb-zero room)

-- some bytes are taken, for which there is room; or none, at the end
pub taken : (room n : ℕ) (out : List ℕ) (left left' : Option (List ℕ)) → n ≤ room → n ≤ length out → Consumes left left' (take n out) → (n ≡ 0 → IsAtEnd left')
    → Gives (Ok n) out (coming_from room false left) (coming_from (room - n) false left')
taken room n out None left' small fits moved end = tt
taken room n out (Some xs) None small fits moved end = absurd moved
taken room zero out (Some xs) (Some ys) small fits moved end =
    let none : ys ≡ [] = end refl in
    let first : within room xs ≡ ends Whole = ap (within room) (moved ∙ none) ∙ within_none room in
    (first, ap (within (room - 0)) none ∙ within_none (room - 0) ∙ sym first)
taken room (suc n) out (Some xs) (Some ys) small fits moved end =
    let size : length (take (suc n) out) ≡ suc n = length-take-le (suc n) out fits in
    let all : room ≡ length (take (suc n) out) + (room - suc n) = omega (arith, size, small) in
    ap (within room) moved ∙ ap (λ k. within k (take (suc n) out ++ ys)) all ∙ within_behind (take (suc n) out) ys (room - suc n)

-- an input fails or passes its limit, and no more
pub source_fault : {T : Type 0} (result : Result T PutFault) → IfErr result (λ fault. (fault ≡ puts.Limit Input) ⊎ (fault ≡ puts.Source)) → IfErr result (λ fault. IsContentFault None fault)
source_fault (Ok value) is = tt
source_fault (Err fault) (inl is) = subst (IsContentFault None) (sym is) refl
source_fault (Err fault) (inr is) = subst (IsContentFault None) (sym is) refl
