-- A list whose rest is replaced, as a slice from a place on is written back.
use Rattle.std.proofs.Common.{◌≡◌, ℕ, ◌-◌, List, ◌++◌, take, drop, length, ap, ◌∙◌, arith}
use Rattle.std.proofs.lemmas.List.{append-nil, drop_all, length-drop}

pub put_rest : {A : Type 0} (xs new : List A) (i : ℕ) → take i xs ++ (new ++ drop (length xs - i) (drop i xs)) ≡ take i xs ++ new
put_rest xs new i =
    ap (λ l. take i xs ++ (new ++ l)) (drop_all (length xs - i) (drop i xs) (omega (arith, length-drop i xs)))
    ∙ ap (λ l. take i xs ++ l) (append-nil new)
