use Rattle.std.proofs.Common.{◌+◌, length, ap, arith}
use Rattle.chunk_files.proofs.KeptBehind.{part-kept}
use Rattle.chunk_files.proofs.chunk_buf.copy_at.Goals as goal

pub returns-clause-behind : goal.returns-clause-behind
returns-clause-behind c =
    part-kept c.args.at (c.args.at + length c.args.bytes.now) c.args.buffer.now c.copy_from_slice.new.self (omega arith) (omega (arith, c.told-buffer, c.requires)) (omega (arith, ap length c.copy_from_slice.ensures.after))
