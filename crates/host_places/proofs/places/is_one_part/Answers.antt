use Rattle.std.proofs.Common.{◌≡◌, ℕ, Bool, true, false, List, [], ◌∷◌, ◌==◌, ◌&&◌, ◌||◌, not, refl, sym, ap, ◌∙◌}
use Rattle.std.specs.List.{list_all, list_any}
use Rattle.host_places.proofs.places.is_one_part.Goals as goal
use Rattle.host_places.proofs.places.is_one_part.Goals.{then-contains, else-contains}

-- no byte is a slash or zero where none is a slash and none is zero
has_neither : (xs : List ℕ) → not (list_any (λ b. b == 47) xs || list_any (λ b. b == 0) xs) ≡ list_all (λ b. not (b == 47 || b == 0)) xs
has_neither [] = refl
has_neither (x ∷ xs) = one (x == 47) (x == 0) (list_any (λ b. b == 47) xs) (list_any (λ b. b == 0) xs) (list_all (λ b. not (b == 47 || b == 0)) xs) (has_neither xs)
  where
    one : (p q a b all : Bool) → not (a || b) ≡ all → not ((p || a) || (q || b)) ≡ (not (p || q) && all)
    one true q a b all rest = refl
    one false true true b all rest = refl
    one false true false b all rest = refl
    one false false a b all rest = rest

pub returns : goal.returns
returns c =
    let part = c.args.part.now in
    let slash : c.contains.result ≡ list_any (λ b. b == 47) part = c.contains.ensures.value ∙ ap (list_any (λ b. b == 47)) c.as_bytes-bytes.ensures.value in
    elim c.if-contains.branch [
      | then-contains w ↦ ap not (w.result-is ∙ w.if-contains.true) ∙ ap (λ a. not (a || list_any (λ b. b == 0) part)) (sym w.if-contains.true ∙ slash) ∙ has_neither part
      | else-contains w ↦
          let zero : w.contains-else-contains.result ≡ list_any (λ b. b == 0) part =
          w.contains-else-contains.ensures.value ∙ ap (list_any (λ b. b == 0)) c.as_bytes-bytes.ensures.value in
          ap not (w.result-is ∙ zero) ∙ ap (λ a. not (a || list_any (λ b. b == 0) part)) (sym w.if-contains.false ∙ slash) ∙ has_neither part
    ]
