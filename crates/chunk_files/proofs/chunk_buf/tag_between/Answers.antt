use Rattle.std.proofs.Common.{◌≤◌, ◌∙◌, length, ap, arith}
use Rattle.chunk_files.proofs.BufferSeals.{tagged-between}
use Rattle.chunk_files.proofs.KeptBehind.{length-part, part-kept}
use Rattle.chunk_files.proofs.Tagging.{length-ctr128}
use Rattle.chunk_files.proofs.chunk_buf.tag_between.Goals as goal

pub returns-clause-sealed : goal.returns-clause-sealed
returns-clause-sealed c = λ text front.
    tagged-between c.args.key.now c.args.mac.now c.args.associated.now c.args.nonce.now text c.args.buffer.now c.ctr128_xor.new.bytes c.long_tag_of.result c.args.end (omega (arith, c.told-nonce)) front c.requires.end
    (omega (arith, c.told-buffer, c.requires.within)) c.ctr128_xor.ensures c.long_tag_of.ensures

pub returns-clause-behind : goal.returns-clause-behind
returns-clause-behind c =
    let within : c.args.end ≤ length c.args.buffer.now = omega (arith, c.told-buffer, c.requires.within) in
    part-kept 16 c.args.end c.args.buffer.now c.ctr128_xor.new.bytes c.requires.end within
    (ap length c.ctr128_xor.ensures ∙ length-ctr128 c.args.key.now c.args.nonce.now _ ∙ length-part 16 c.args.end c.args.buffer.now c.requires.end within)
