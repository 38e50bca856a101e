use Rattle.std.proofs.Common.{take}
use Rattle.std.proofs.lemmas.Result.{err_from_is_err_and}
use Rattle.chunk_files.proofs.Beginnings.{ctr-seals, started-cm}
use Rattle.chunk_files.proofs.new_header.make_ctr.Goals as goal

pub returns-clause-header : goal.returns-clause-header
returns-clause-header g c keys empty ctr vault mac =
    let d = c.in_ok-nonce.ensures in
    rw c.renew.ensures
    (started-cm keys 16 _ (ctr-seals keys ctr) empty _ _ _ _ c.new_plain.result (take c.seal_tagged-length.result c.seal_tagged-length.new.self) d.drawn d.nonce d.key c.new_plain.ensures
    (rw (vault, mac) c.seal_tagged-length.ensures.stored))

pub returns-in_err-nonce-clause-fault : goal.returns-in_err-nonce-clause-fault
returns-in_err-nonce-clause-fault g c = λ f.
    let p = err_from_is_err_and c.from_residual.result c.from_residual.ensures.1 in
    rw (p.1, p.2) (c.in_err-nonce.ensures.fault f)
