-- Bytes without the newlines and blanks at their end.
use Rattle.std.proofs.Common.{◌≡◌, ℕ, ◌&&◌, List, [], ◌∷◌, ◌++◌, Bool, true, false, cond, length, refl, sym, ap, ap₂, ◌∙◌}
use Rattle.std.specs.List.{list_all}
use Rattle.std.proofs.lemmas.List.{nil_from_length}
use Rattle.cryptomator_conf.specs.Jwt.{is_blank, trimmed}

all-push : (p : ℕ → Bool) (xs : List ℕ) (y : ℕ) → p y ≡ true → list_all p (xs ++ y ∷ []) ≡ list_all p xs
all-push p [] y does = rw does refl
all-push p (x ∷ xs) y does = ap (λ b. p x && b) (all-push p xs y does)

and-false : (b : Bool) → (b && false) ≡ false
and-false true = refl
and-false false = refl

none-push : (p : ℕ → Bool) (xs : List ℕ) (y : ℕ) → p y ≡ false → list_all p (xs ++ y ∷ []) ≡ false
none-push p [] y fails = rw fails refl
none-push p (x ∷ xs) y fails = ap (λ b. p x && b) (none-push p xs y fails) ∙ and-false (p x)

-- a blank at the end is dropped
pub trimmed-blank : (front : List ℕ) (last : ℕ) → is_blank last ≡ true → trimmed (front ++ last ∷ []) ≡ trimmed front
unfolding trimmed
trimmed-blank [] last blank = ap (λ b. cond b [] (last ∷ [])) (all-push is_blank [] last blank)
trimmed-blank (x ∷ xs) last blank =
    ap₂ (λ b t. cond b [] (x ∷ t)) (all-push is_blank (x ∷ xs) last blank) (trimmed-blank xs last blank)

-- and all is kept where another byte is last
pub trimmed-kept : (front : List ℕ) (last : ℕ) → is_blank last ≡ false → trimmed (front ++ last ∷ []) ≡ front ++ last ∷ []
unfolding trimmed
trimmed-kept [] last other = ap (λ b. cond b [] (last ∷ [])) (none-push is_blank [] last other)
trimmed-kept (x ∷ xs) last other =
    ap (λ b. cond b [] (x ∷ trimmed (xs ++ last ∷ []))) (none-push is_blank (x ∷ xs) last other) ∙ ap (λ t. x ∷ t) (trimmed-kept xs last other)

trimmed-nil : trimmed [] ≡ []
unfolding trimmed
trimmed-nil = refl

pub trimmed-none : (bytes : List ℕ) → length bytes ≡ 0 → bytes ≡ trimmed bytes
trimmed-none bytes none = nil_from_length bytes none ∙ sym trimmed-nil ∙ ap trimmed (sym (nil_from_length bytes none))
