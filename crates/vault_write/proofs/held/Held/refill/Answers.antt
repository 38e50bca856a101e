use Rattle.std.proofs.Common.{◌≡◌, ◌≤◌, ◌-◌, ℕ, List, [], length, take, drop, Some, IfErr, Err, Ok, refl, sym, ap, ◌∙◌, subst, arith}
use Rattle.std.proofs.lemmas.List.{length-take-le, length-drop}
use Rattle.std.proofs.lemmas.Result.{err_from_is_err_and}
use Rattle.vault_read.specs.Contents.{still}
use Rattle.content_writing.specs.Content.{IsContentFault}
use Rattle.vault_write.specs.ContentsComing.{held_before}
use Rattle.item_making.specs.Faults.{of_cat}
use Rattle.vault_write.specs.HeldChunks.{Refills}
use Rattle.vault_write.proofs.Exits.{at_fault}
use Rattle.vault_write.proofs.Refills.{reader_fault, refilled, unfilled}
use Rattle.vault_write.proofs.held.Held.refill.Goals as goal

held_size : (start end : ℕ) (chunk : List ℕ) → end ≤ length chunk → length (take (end - start) (drop start chunk)) ≡ end - start
held_size start end chunk within = length-take-le (end - start) (drop start chunk) (omega (arith, length-drop start chunk, within))

none_held : (start end : ℕ) (chunk held : List ℕ) → end ≤ start → take (end - start) (drop start chunk) ≡ held → held ≡ []
none_held start end chunk held none is =
    let k : end - start ≡ 0 = omega (arith, none) in
    sym is ∙ ap (λ (n : ℕ). take n (drop start chunk)) k

pub returns-then-self-clause-refills : goal.returns-then-self-clause-refills
returns-then-self-clause-refills g c = λ v seen bytes file. (
  refl,
  λ none. absurd (omega (arith, c.if-self.true, held_size c.self.inside.start c.self.inside.end c.self.inside.chunk c.self.invariant.1, ap length (c.self.view_is ∙ none))),
)

pub returns-in_err-self-inside-clause-refills : goal.returns-in_err-self-inside-clause-refills
returns-in_err-self-inside-clause-refills g c =
    let none : c.args.self.now ≡ [] = none_held c.self.inside.start c.self.inside.end c.self.inside.chunk c.args.self.now c.if-self.false c.self.view_is in
    let p = err_from_is_err_and c.from_residual.result c.from_residual.ensures.1 in
    let at = c.args.reader.now.at in
    rw (p.1, p.2)
    (λ v seen bytes file.
    subst (λ (h : List ℕ). Refills [] (held_before at h (still c.args.reader.now.decoding bytes)) (held_before at [] (still c.next.new.self.decoding bytes)) (Err (of_cat c.in_err-self-inside.field-0.0))) (sym none)
    (unfilled at c.in_err-self-inside.field-0.0 c.next.new.out (still c.args.reader.now.decoding bytes) (still c.next.new.self.decoding bytes)
    (c.in_err-self-inside.ensures.gives v seen bytes file)))

pub returns-clause-refills : goal.returns-clause-refills
returns-clause-refills g c =
    let none : c.args.self.now ≡ [] = none_held c.self.inside.start c.self.inside.end c.self.inside.chunk c.args.self.now c.if-self.false c.self.view_is in
    let at = c.args.reader.now.at in
    let n : ℕ = c.in_ok-self-inside.field-0 in
    let e = c.in_ok-self-inside.ensures in
    let front : take (n - 0) (drop 0 c.next.new.out) ≡ take n c.next.new.out = ap (λ (k : ℕ). take k c.next.new.out) (let k : n - 0 ≡ n = omega arith in k) in
    λ v seen bytes file.
    subst (λ (held : List ℕ). Refills held (held_before at c.args.self.now (still c.args.reader.now.decoding bytes)) (held_before at held (still c.next.new.self.decoding bytes)) (Ok tt)) (sym front)
    (subst (λ (h : List ℕ). Refills (take n c.next.new.out) (held_before at h (still c.args.reader.now.decoding bytes)) (held_before at (take n c.next.new.out) (still c.next.new.self.decoding bytes)) (Ok tt))
    (sym none)
    (refilled at n c.next.new.out (still c.args.reader.now.decoding bytes) (still c.next.new.self.decoding bytes) e.size (e.gives v seen bytes file)))

pub returns-in_err-self-inside-clause-fault : goal.returns-in_err-self-inside-clause-fault
returns-in_err-self-inside-clause-fault g c =
    at_fault (λ r. IfErr r (λ fault. IsContentFault (Some c.args.reader.now.at) fault)) c.from_residual.result (of_cat c.in_err-self-inside.field-0.0) c.from_residual.ensures.1
    (reader_fault c.args.reader.now.at c.in_err-self-inside.field-0.0 c.in_err-self-inside.ensures.fault)
