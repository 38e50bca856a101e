use Rattle.std.proofs.Common.{◌+◌, length, arith}
use Rattle.chunk_files.proofs.KeptBehind.{sealed-kept}
use Rattle.chunk_files.proofs.chunk_buf.seal_tagged_front.Goals as goal

pub returns-clause-behind : goal.returns-clause-behind
returns-clause-behind c =
    sealed-kept _ _ _ _ (16 + length c.args.text.now + 32) c.args.buffer.now c.copy_at.new.buffer c.copy_at-2.new.buffer c.tag_between-tag.new.buffer c.copy_at-3.new.buffer
    (omega (arith, c.told-nonce)) (omega arith) (omega arith) (omega (arith, c.tag_between-tag.ensures.tag)) c.copy_at.ensures.behind c.copy_at-2.ensures.behind c.tag_between-tag.ensures.behind c.copy_at-3.ensures.behind
