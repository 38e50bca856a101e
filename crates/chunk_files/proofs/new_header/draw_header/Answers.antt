use Rattle.std.proofs.Common.{[], ◌∷◌}
use Rattle.std.proofs.lemmas.Result.{err_from_is_err_and}
use Rattle.chunk_files.proofs.FailedDraws.{fails-later}
use Rattle.chunk_files.proofs.new_header.draw_header.Goals as goal

pub returns-in_err-nonce-clause-fault : goal.returns-in_err-nonce-clause-fault
returns-in_err-nonce-clause-fault g c = λ f.
    let p = err_from_is_err_and c.from_residual.result c.from_residual.ensures.1 in
    rw (p.1, p.2) (c.in_err-nonce.ensures.fault f (32 ∷ []))

pub returns-in_err-key-clause-fault : goal.returns-in_err-key-clause-fault
returns-in_err-key-clause-fault g c = λ f.
    let p = err_from_is_err_and c.from_residual-in_err-key.result c.from_residual-in_err-key.ensures.1 in
    rw (p.1, p.2)
    (fails-later c.draws_compose.ensures.composed f _ (32 ∷ []) c.in_ok-nonce.nonce _ _ _ _ _ _ c.in_err-key.field-0.0 c.in_ok-nonce.ensures.drawn c.in_ok-nonce.ensures.size c.in_ok-nonce.ensures.counted.grows
    c.in_err-key.ensures.random (c.in_err-key.ensures.fault f []))
