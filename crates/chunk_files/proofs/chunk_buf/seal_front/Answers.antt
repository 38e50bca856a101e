use Rattle.std.proofs.Common.{◌+◌, length, arith}
use Rattle.chunk_files.proofs.KeptBehind.{sealed-kept}
use Rattle.chunk_files.proofs.chunk_buf.seal_front.Goals as goal

pub returns-clause-behind : goal.returns-clause-behind
returns-clause-behind c =
    sealed-kept _ _ _ _ (length c.args.nonce.now + length c.args.text.now + 16) c.args.buffer.now c.copy_at.new.buffer c.copy_at-2.new.buffer c.seal_between-tag.new.buffer c.copy_at-3.new.buffer
    (omega arith) (omega arith) (omega arith) (omega (arith, c.seal_between-tag.ensures.tag)) c.copy_at.ensures.behind c.copy_at-2.ensures.behind c.seal_between-tag.ensures.behind c.copy_at-3.ensures.behind
