use Rattle.std.proofs.Common.{◌≡◌, ◌≤◌, ◌+◌, ◌-◌, ℕ, List, take, drop, sym, ap, ◌∙◌, arith}
use Rattle.std.proofs.Math.Nat.{min-le_right}
use Rattle.std.proofs.lemmas.List.{drop-take, drop-drop}
use Rattle.vault_write.proofs.held.Held.give.Goals as goal

shifted : (start count end : ℕ) (xs : List ℕ) → count ≤ end - start → take (end - (start + count)) (drop (start + count) xs) ≡ drop count (take (end - start) (drop start xs))
shifted start count end xs within =
    let left : count + (end - (start + count)) ≡ end - start = omega (arith, within) in
    ap (take (end - (start + count))) (sym (drop-drop count start xs))
    ∙ sym (drop-take count (end - (start + count)) (drop start xs))
    ∙ ap (λ (n : ℕ). drop count (take n (drop start xs))) left

pub returns-clause-left : goal.returns-clause-left
returns-clause-left c =
    let count : ℕ = c.min-count.result in
    let few : count ≤ c.self.inside.end - c.self.inside.start = omega (arith, c.min-count.ensures, min-le_right c.args.most (c.self.inside.end - c.self.inside.start)) in
    shifted c.self.inside.start count c.self.inside.end c.self.inside.chunk few ∙ ap (drop count) c.self.view_is
