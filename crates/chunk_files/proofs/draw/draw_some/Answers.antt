use Rattle.std.proofs.Common.{◌≡◌, ℕ, List, [], replicate, true, sym, ap, ◌∙◌, subst, refl}
use Rattle.std.proofs.lemmas.Result.{err_from_is_err_and}
use Rattle.port_model.specs.Draws.{Draws}
use Rattle.chunk_files.specs.Gocryptfs.{go_format}
use Rattle.chunk_files.specs.Zeros.{is_all_zero}
use Rattle.chunk_files.proofs.StoredChunks.{zero-zeros}
use Rattle.chunk_files.proofs.draw.draw_some.Goals as goal

pub returns-then-all_zero-clause-fault : goal.returns-then-all_zero-clause-fault
returns-then-all_zero-clause-fault g c = λ key.
    let bytes = c.in_ok-bytes.bytes in
    let none : is_all_zero bytes ≡ true = sym c.if-all_zero.ensures in
    let zeros : bytes ≡ replicate 16 0 = zero-zeros bytes none ∙ ap (λ (n : ℕ). replicate n 0) c.in_ok-bytes.ensures.size in
    (refl, subst (λ (b : List ℕ). Draws (g.R.Randoms.left c.args.random.now) (g.R.Randoms.left c.draw.new.random) b) zeros c.in_ok-bytes.ensures.drawn)

pub returns-in_err-bytes-clause-fault : goal.returns-in_err-bytes-clause-fault
returns-in_err-bytes-clause-fault g c = λ key.
    let p = err_from_is_err_and c.from_residual.result c.from_residual.ensures.1 in
    rw (p.1, p.2) (c.in_err-bytes.ensures.fault (go_format key) [])
