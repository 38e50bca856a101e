use Rattle.std.proofs.Common.{take}
use Rattle.std.proofs.lemmas.Result.{err_from_is_err_and}
use Rattle.chunk_files.proofs.Beginnings.{gcm-seals, started-cm}
use Rattle.chunk_files.proofs.new_header.make_cm.Goals as goal

pub returns-clause-header : goal.returns-clause-header
returns-clause-header g c keys empty gcm vault =
    let d = c.in_ok-nonce.ensures in
    rw c.rekey.ensures
    (started-cm keys 12 _ (gcm-seals keys gcm) empty _ _ _ _ c.new_plain.result (take c.seal-length.result c.seal-length.new.self) d.drawn d.nonce d.key c.new_plain.ensures
    (rw vault c.seal-length.ensures.stored))

pub returns-in_err-nonce-clause-fault : goal.returns-in_err-nonce-clause-fault
returns-in_err-nonce-clause-fault g c = λ f.
    let p = err_from_is_err_and c.from_residual.result c.from_residual.ensures.1 in
    rw (p.1, p.2) (c.in_err-nonce.ensures.fault f)
