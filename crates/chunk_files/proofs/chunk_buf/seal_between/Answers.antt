use Rattle.std.proofs.Common.{◌≡◌, ◌≤◌, ◌∙◌, length, sym, ap, arith}
use Rattle.gcm_mode.specs.Gcm.{Sealed}
use Rattle.chunk_files.proofs.BufferSeals.{sealed-between}
use Rattle.chunk_files.proofs.KeptBehind.{length-part, part-kept}
use Rattle.chunk_files.proofs.chunk_buf.seal_between.Goals as goal

pub returns-clause-sealed : goal.returns-clause-sealed
returns-clause-sealed c = λ text front.
    sealed-between _ _ _ text c.args.buffer.now c.seal.new.text c.seal.result c.args.end (c.sealed_texts_are_bytes.ensures.as_long _) front c.requires.end (omega (arith, c.told-buffer, c.requires.within)) c.seal.ensures

pub returns-clause-behind : goal.returns-clause-behind
returns-clause-behind c =
    let within : c.args.end ≤ length c.args.buffer.now = omega (arith, c.told-buffer, c.requires.within) in
    let long = ap (λ (s : Sealed). length s.text) (sym c.seal.ensures) ∙ c.sealed_texts_are_bytes.ensures.as_long _ _ _ _ in
    part-kept (length c.args.nonce.now) c.args.end c.args.buffer.now c.seal.new.text c.requires.end within
    (long ∙ length-part (length c.args.nonce.now) c.args.end c.args.buffer.now c.requires.end within)
