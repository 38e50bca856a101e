use Rattle.std.proofs.Common.{◌≡◌, ◌∙◌, ◌≤◌, ℕ, List, length, take, min, eqb, sym, ap, ap₂, subst, arith}
use Rattle.std.proofs.lemmas.Bool.{false≢true}
use Rattle.std.proofs.lemmas.Result.{err_from_is_err_and}
use Rattle.folder_spec.specs.Seen.{IsSeen}
use Rattle.vault_read.specs.Contents.{still}
use Rattle.tree_match.specs.Comparing.{Is, compared, content_of}
use Rattle.tree_match.specs.Pieces.{uncompared}
use Rattle.tree_match.proofs.Fronts.{ended, go_on, part, passed, stops_first, stops_second}
use Rattle.tree_match.proofs.comparing.compare.Goals as goal

pub returns-in_err-fill-clause-compares : goal.returns-in_err-fill-clause-compares
returns-in_err-fill-clause-compares g c =
    let i = c.pieces.invariant in
    let p = err_from_is_err_and c.from_residual.result c.from_residual.ensures.1 in
    rw (p.1, p.2)
    (λ v seen x y file_a file_b.
    stops_first (compared (uncompared c.args.a.now x) (uncompared c.args.b.now y)) (uncompared c.pieces.a x) (uncompared c.pieces.b y) (i.same v seen x y file_a file_b) c.in_err-fill.field-0.0
    (c.in_err-fill.ensures.stops v (subst (λ t. IsSeen t v) (sym i.told) seen) x (ap v i.a_at ∙ file_a)))

pub returns-in_err-fill-2-clause-compares : goal.returns-in_err-fill-2-clause-compares
returns-in_err-fill-2-clause-compares g c =
    let i = c.pieces.invariant in
    let e = c.in_ok-fill.ensures in
    let p = err_from_is_err_and c.from_residual-in_err-fill-2.result c.from_residual-in_err-fill-2.ensures.1 in
    rw (p.1, p.2)
    (λ v seen x y file_a file_b.
    let at_loop = subst (λ t. IsSeen t v) (sym i.told) seen in
    let at_second = subst (λ t. IsSeen t v) (sym (e.looks.told ∙ i.told)) seen in
    let here = ap v i.a_at ∙ file_a in
    let a = c.fill.new.self in
    stops_second (compared (uncompared c.args.a.now x) (uncompared c.args.b.now y)) c.pieces.a.at a.ahead (uncompared c.pieces.a x) (content_of a.at (still a.decoding x)) (uncompared c.pieces.b y)
    (i.same v seen x y file_a file_b) (e.same v at_loop x here) (λ none. e.ended none v at_loop x here) c.in_err-fill-2.field-0.0
    (c.in_err-fill-2.ensures.stops v at_second y (ap v i.b_at ∙ file_b)))

pub returns-then-count-eq0-clause-compares : goal.returns-then-count-eq0-clause-compares
returns-then-count-eq0-clause-compares g c = λ v seen x y file_a file_b.
    let i = c.pieces.invariant in
    let e = c.in_ok-fill.ensures in
    let f = c.in_ok-fill-2.ensures in
    let at_loop = subst (λ t. IsSeen t v) (sym i.told) seen in
    let at_second = subst (λ t. IsSeen t v) (sym (e.looks.told ∙ i.told)) seen in
    let here = ap v i.a_at ∙ file_a in
    let there = ap v i.b_at ∙ file_b in
    let a = c.fill.new.self in
    let b = c.fill-in-pieces.new.self in
    let none : min (length a.ahead) (length b.ahead) ≡ 0 =
    ap₂ (λ (xs ys : List ℕ). min (length xs) (length ys)) (sym c.ahead.ensures.value) (sym c.ahead-in-pieces.ensures.value) ∙ sym c.min-count.ensures ∙ c.if-count-eq0.true in
    i.same v seen x y file_a file_b
    ∙ ended c.pieces.a.at c.pieces.b.at a.ahead b.ahead (uncompared c.pieces.a x) (uncompared c.pieces.b y) (content_of a.at (still a.decoding x)) (content_of b.at (still b.decoding y))
    (e.same v at_loop x here) (f.same v at_second y there) (λ empty. e.ended empty v at_loop x here) (λ empty. f.ended empty v at_second y there) none
    ∙ ap₂ (λ (xs ys : List ℕ). Is (eqb (length xs) (length ys))) (sym c.ahead-then-count-eq0.ensures.value) (sym c.ahead-then-count-eq0-2.ensures.value)

pub returns-then-not-begin_alike-clause-compares : goal.returns-then-not-begin_alike-clause-compares
returns-then-not-begin_alike-clause-compares g c = λ v seen x y file_a file_b.
    let i = c.pieces.invariant in
    let e = c.in_ok-fill.ensures in
    let f = c.in_ok-fill-2.ensures in
    let at_loop = subst (λ t. IsSeen t v) (sym i.told) seen in
    let at_second = subst (λ t. IsSeen t v) (sym (e.looks.told ∙ i.told)) seen in
    let a = c.fill.new.self in
    let b = c.fill-in-pieces.new.self in
    let n = c.min-count.result in
    let few : n ≤ length a.ahead = omega (arith, c.min-count.ensures, ap length c.ahead.ensures.value) in
    let less : n ≤ length b.ahead = omega (arith, c.min-count.ensures, ap length c.ahead-in-pieces.ensures.value) in
    i.same v seen x y file_a file_b
    ∙ ap₂ compared (e.same v at_loop x (ap v i.a_at ∙ file_a)) (f.same v at_second y (ap v i.b_at ∙ file_b))
    ∙ part n a.ahead b.ahead (content_of a.at (still a.decoding x)) (content_of b.at (still b.decoding y)) few less
    (λ same. false≢true
    (sym c.if-not-begin_alike.true ∙ c.begin_alike.ensures.1 (ap (take n) c.ahead-in-pieces-2.ensures.value ∙ same ∙ sym (ap (take n) c.ahead-in-pieces-3.ensures.value))))

pub pieces-preserved : goal.pieces-preserved
pieces-preserved g c =
    let i = c.pieces.invariant in
    let e = c.in_ok-fill.ensures in
    let f = c.in_ok-fill-2.ensures in
    let a = c.fill.new.self in
    let b = c.fill-in-pieces.new.self in
    let n = c.min-count.result in
    let alike : take n a.ahead ≡ take n b.ahead =
    sym (ap (take n) c.ahead-in-pieces-2.ensures.value) ∙ c.begin_alike.ensures.0 c.if-not-begin_alike.false ∙ ap (take n) c.ahead-in-pieces-3.ensures.value in
    record {
      told = f.looks.told ∙ e.looks.told ∙ i.told;
      a_at = c.pass.ensures.at ∙ e.at ∙ i.a_at;
      b_at = c.pass-in-pieces.ensures.at ∙ f.at ∙ i.b_at;
      a_file = λ v seen. rw (c.pass.ensures.at, c.pass.ensures.decoding) (e.suits v (subst (λ t. IsSeen t v) (sym i.told) seen));
      b_file = λ v seen. rw (c.pass-in-pieces.ensures.at, c.pass-in-pieces.ensures.decoding) (f.suits v (subst (λ t. IsSeen t v) (sym (e.looks.told ∙ i.told)) seen));
      same = λ v seen x y file_a file_b.
          let at_loop = subst (λ t. IsSeen t v) (sym i.told) seen in
          let at_second = subst (λ t. IsSeen t v) (sym (e.looks.told ∙ i.told)) seen in
          i.same v seen x y file_a file_b
          ∙ ap₂ compared (e.same v at_loop x (ap v i.a_at ∙ file_a)) (f.same v at_second y (ap v i.b_at ∙ file_b))
          ∙ go_on n a.ahead b.ahead (content_of a.at (still a.decoding x)) (content_of b.at (still b.decoding y)) alike
          ∙ sym (ap₂ compared (passed a c.pass.new.self n c.pass.ensures.at c.pass.ensures.decoding c.pass.ensures.ahead x)
          (passed b c.pass-in-pieces.new.self n c.pass-in-pieces.ensures.at c.pass-in-pieces.ensures.decoding c.pass-in-pieces.ensures.ahead y));
      grows = omega (arith, i.grows, e.looks.blames.grows, f.looks.blames.grows);
    }
