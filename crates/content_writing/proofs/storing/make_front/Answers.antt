use Rattle.std.proofs.Common.{◌≡◌, ◌<◌, ◌++◌, ℕ, List, [], length, take, Err, Ok, true, false, sym, ap, ◌∙◌, subst, arith}
use Rattle.std.proofs.lemmas.List.{append-nil}
use Rattle.std.proofs.lemmas.Result.{err_from_is_err_and}
use Rattle.chunk_files.specs.Encoding.{Encoding, begins_bare}
use Rattle.content_writing.specs.Streaming.{MakesFront}
use Rattle.content_writing.proofs.StoredParts.{IsHeaded, front_bare, front_sealed, front_undrawn, headed, no_bytes, seal_undrawn, sealed, some_bytes}
use Rattle.content_writing.proofs.storing.make_front.Goals as goal

pub returns-in_err-header-clause-made : goal.returns-in_err-header-clause-made
returns-in_err-header-clause-made g c =
    let s = g.R.Randoms.left c.args.random.now in
    let s' = g.R.Randoms.left c.begin.new.random in
    let fault = c.in_err-header.field-0.0 in
    let p = err_from_is_err_and c.from_residual.result c.from_residual.ensures.1 in
    rw (p.1, p.2)
    (subst (λ (made : List ℕ). MakesFront c.args.keys c.args.plain.now s s' c.begin.new.self made (Err fault)) (sym c.clear.ensures)
    (front_undrawn c.args.keys c.args.plain.now s s' c.begin.new.self (g.R.Randoms.faults c.args.random.now) (g.R.Randoms.faults c.begin.new.random) fault
    (λ bare. (let clash : false ≡ true = c.in_err-header.ensures.bare_never_fails (ap (begins_bare c.args.keys) c.is_empty-empty.ensures ∙ bare) in cc)) c.in_err-header.ensures.fault))

pub returns-then-empty-clause-made : goal.returns-then-empty-clause-made
returns-then-empty-clause-made g c =
    let b = c.in_ok-header.ensures in
    let n : ℕ = c.in_ok-header.header in
    let made : List ℕ = take n c.begin.new.out in
    let s = g.R.Randoms.left c.args.random.now in
    let s1 = g.R.Randoms.left c.begin.new.random in
    let pushed : c.push.new.self ≡ made = c.push.ensures ∙ ap (λ (f : List ℕ). f ++ take n c.bytes.result.now) c.clear.ensures ∙ ap (take n) c.bytes.ensures.value in
    let h : IsHeaded c.args.keys true s s1 made c.begin.new.self =
    subst (λ e. IsHeaded c.args.keys e s s1 made c.begin.new.self) c.if-empty.true
    (headed c.args.keys c.is_empty-empty.result s s1 c.draws_compose.ensures.none made c.begin.new.self b.begun (λ bare. ap g.R.Randoms.left (b.bare_draws_nothing bare)) b.bare_file b.header) in
    subst (λ (file : List ℕ). MakesFront c.args.keys c.args.plain.now s s1 c.begin.new.self file (Ok tt)) (sym pushed)
    (front_bare c.args.keys c.args.plain.now s s1 made c.begin.new.self (no_bytes c.args.plain.now (sym c.is_empty-empty.ensures ∙ c.if-empty.true)) h)

pub returns-in_err-size-clause-made : goal.returns-in_err-size-clause-made
returns-in_err-size-clause-made g c =
    let b = c.in_ok-header.ensures in
    let n : ℕ = c.in_ok-header.header in
    let made : List ℕ = take n c.begin.new.out in
    let s = g.R.Randoms.left c.args.random.now in
    let s1 = g.R.Randoms.left c.begin.new.random in
    let s2 = g.R.Randoms.left c.chunk.new.random in
    let fault = c.in_err-size.field-0.0 in
    let p = err_from_is_err_and c.from_residual-in_err-size.result c.from_residual-in_err-size.ensures.1 in
    let pushed : c.push.new.self ≡ made = c.push.ensures ∙ ap (λ (f : List ℕ). f ++ take n c.bytes.result.now) c.clear.ensures ∙ ap (take n) c.bytes.ensures.value in
    let h : IsHeaded c.args.keys false s s1 made c.begin.new.self =
    subst (λ e. IsHeaded c.args.keys e s s1 made c.begin.new.self) c.if-empty.false
    (headed c.args.keys c.is_empty-empty.result s s1 c.draws_compose.ensures.none made c.begin.new.self b.begun (λ bare. ap g.R.Randoms.left (b.bare_draws_nothing bare)) b.bare_file b.header) in
    let some : 0 < length c.args.plain.now = some_bytes c.args.plain.now (sym c.is_empty-empty.ensures ∙ c.if-empty.false) in
    rw (p.1, p.2)
    (subst (λ (file : List ℕ). MakesFront c.args.keys c.args.plain.now s s2 c.chunk.new.self file (Err fault)) (append-nil made ∙ sym pushed)
    (front_sealed c.args.keys c.args.plain.now made [] s s1 s2 c.begin.new.self c.chunk.new.self (Err fault) c.draws_compose.ensures.composed some
    (omega (arith, ap (λ (e : Encoding). e.number) c.in_err-size.ensures.fault_changes_nothing)) h
    (seal_undrawn c.made_is_a_front.ensures c.begin.new.self c.chunk.new.self c.args.plain.now s1 s2 some (g.R.Randoms.faults c.begin.new.random) (g.R.Randoms.faults c.chunk.new.random) fault
    c.in_err-size.ensures.fault)))

pub returns-clause-made : goal.returns-clause-made
returns-clause-made g c =
    let b = c.in_ok-header.ensures in
    let e = c.in_ok-size.ensures in
    let n : ℕ = c.in_ok-header.header in
    let size : ℕ = c.in_ok-size.size in
    let made : List ℕ = take n c.begin.new.out in
    let stored : List ℕ = take size c.chunk.new.out in
    let s = g.R.Randoms.left c.args.random.now in
    let s1 = g.R.Randoms.left c.begin.new.random in
    let s2 = g.R.Randoms.left c.chunk.new.random in
    let pushed : c.push.new.self ≡ made = c.push.ensures ∙ ap (λ (f : List ℕ). f ++ take n c.bytes.result.now) c.clear.ensures ∙ ap (take n) c.bytes.ensures.value in
    let all : c.push-2.new.self ≡ made ++ stored = c.push-2.ensures ∙ ap (λ (f : List ℕ). f ++ take size c.bytes-2.result.now) pushed ∙ ap (λ (f : List ℕ). made ++ take size f) c.bytes-2.ensures.value in
    let h : IsHeaded c.args.keys false s s1 made c.begin.new.self =
    subst (λ e. IsHeaded c.args.keys e s s1 made c.begin.new.self) c.if-empty.false
    (headed c.args.keys c.is_empty-empty.result s s1 c.draws_compose.ensures.none made c.begin.new.self b.begun (λ bare. ap g.R.Randoms.left (b.bare_draws_nothing bare)) b.bare_file b.header) in
    let some : 0 < length c.args.plain.now = some_bytes c.args.plain.now (sym c.is_empty-empty.ensures ∙ c.if-empty.false) in
    subst (λ (file : List ℕ). MakesFront c.args.keys c.args.plain.now s s2 c.chunk.new.self file (Ok tt)) (sym all)
    (front_sealed c.args.keys c.args.plain.now made stored s s1 s2 c.begin.new.self c.chunk.new.self (Ok tt) c.draws_compose.ensures.composed some
    (omega (arith, ap (λ (x : Encoding). x.number) e.next)) h
    (sealed c.made_is_a_front.ensures c.begin.new.self c.chunk.new.self c.args.plain.now s1 s2 some size c.chunk.new.out e.goes_on e.next e.size e.drawn))
