-- What tests tell.
use Rattle.std.proofs.Common.{◌≡◌, ℕ, ◌<◌, ◌==◌, ◌&&◌, Bool, true, false, List, length, inl, inr, refl, arith}
use Rattle.std.proofs.lemmas.Bool.Decides.{eqb_tells}

pub both-true : (a b : Bool) → (a && b) ≡ true → (a ≡ true) × (b ≡ true)
both-true true true all = (refl, refl)
both-true true false all = cc
both-true false b all = cc

pub some-bytes : (bytes : List ℕ) → 0 < length bytes → (length bytes == 0) ≡ false
some-bytes bytes more = elim (eqb_tells (length bytes) 0) [ inl none ↦ absurd (omega arith) | inr some ↦ some.0 ]
