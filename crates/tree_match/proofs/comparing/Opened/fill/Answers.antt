use Rattle.std.proofs.Common.{◌≡◌, ◌∙◌, ◌-◌, ◌<◌, [], ℕ, length, take, sym, ap, ap₂, arith}
use Rattle.std.proofs.lemmas.Result.{err_from_is_err_and}
use Rattle.std.proofs.lemmas.List.{length-take}
use Rattle.folder_spec.specs.Path.{Path}
use Rattle.vault_read.specs.Contents.{still}
use Rattle.tree_match.specs.Comparing.{content_of}
use Rattle.tree_match.specs.Pieces.{Opened, uncompared}
use Rattle.tree_match.proofs.ReadAhead.{length_between, none_between, read_bytes, read_end, read_fault, uncompared_none}
use Rattle.tree_match.proofs.comparing.Opened.fill.Goals as goal

pub returns-then-self-clause-ended : goal.returns-then-self-clause-ended
returns-then-self-clause-ended g c = λ none.
    let s = c.self.inside in
    let ahead = ap (λ (o : Opened). length o.ahead) c.self.view_is in
    absurd (omega (arith, c.if-self.true, ap length none, ahead, length_between s.start s.end s.chunk c.self.invariant.1))

pub returns-in_err-self-inside-clause-stops : goal.returns-in_err-self-inside-clause-stops
returns-in_err-self-inside-clause-stops g c =
    let s = c.self.inside in
    let p = err_from_is_err_and c.from_residual.result c.from_residual.ensures.1 in
    let none : c.args.self.now.ahead ≡ [] = ap (λ (o : Opened). o.ahead) (sym c.self.view_is) ∙ none_between s.start s.end s.chunk c.if-self.false in
    rw (p.1, p.2)
    (λ v seen file is.
    rw (uncompared_none c.args.self.now file none, ← c.self.view_is)
    (read_fault s.reader.at c.in_err-self-inside.field-0.0 c.next.new.out (still s.reader.decoding file) (still c.next.new.self.decoding file)
    (c.in_err-self-inside.ensures.gives v seen file (ap (λ (o : Opened). v o.at) c.self.view_is ∙ is))))

pub returns-clause-same : goal.returns-clause-same
returns-clause-same g c = λ v seen file is.
    let s = c.self.inside in
    let n = c.in_ok-self-inside.field-0 in
    let whole : n - 0 ≡ n = omega arith in
    let none : c.args.self.now.ahead ≡ [] = ap (λ (o : Opened). o.ahead) (sym c.self.view_is) ∙ none_between s.start s.end s.chunk c.if-self.false in
    let gives = c.in_ok-self-inside.ensures.gives v seen file (ap (λ (o : Opened). v o.at) c.self.view_is ∙ is) in
    uncompared_none c.args.self.now file none
    ∙ ap (λ (o : Opened). content_of o.at (still o.decoding file)) (sym c.self.view_is)
    ∙ read_bytes s.reader.at n c.next.new.out (still s.reader.decoding file) (still c.next.new.self.decoding file) gives
    ∙ ap₂ (λ (m : ℕ) (a : Path). uncompared (record { at = a; decoding = c.next.new.self.decoding; ahead = take m c.next.new.out }) file) (sym whole) (sym c.in_ok-self-inside.ensures.at)

pub returns-clause-ended : goal.returns-clause-ended
returns-clause-ended g c = λ empty v seen file is.
    let s = c.self.inside in
    let n = c.in_ok-self-inside.field-0 in
    let whole : n - 0 ≡ n = omega arith in
    let none : c.args.self.now.ahead ≡ [] = ap (λ (o : Opened). o.ahead) (sym c.self.view_is) ∙ none_between s.start s.end s.chunk c.if-self.false in
    let gives = c.in_ok-self-inside.ensures.gives v seen file (ap (λ (o : Opened). v o.at) c.self.view_is ∙ is) in
    uncompared_none c.args.self.now file none
    ∙ rw (← c.self.view_is) (read_end s.reader.at n c.next.new.out (still s.reader.decoding file) (still c.next.new.self.decoding file) c.in_ok-self-inside.ensures.size gives (ap (λ (m : ℕ). take m c.next.new.out) (sym whole) ∙ empty))

pub returns-clause-left : goal.returns-clause-left
returns-clause-left g c = λ some few.
    let s = c.self.inside in
    let n = c.in_ok-self-inside.field-0 in
    let whole : n - 0 ≡ n = omega arith in
    let e = c.in_ok-self-inside.ensures in
    let size = length-take (n - 0) c.next.new.out in
    let number = ap (λ (o : Opened). o.decoding.number) c.self.view_is in
    let more : 0 < n = omega (arith, some, size) in
    omega (arith, some, few, size, number, e.number more, e.few)
