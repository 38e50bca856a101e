use Rattle.std.proofs.Common.{ℕ, arith, length-take}
use Rattle.chunk_files.proofs.decoder.Decoder.feed.Goals as goal

pub push-requires : goal.push-requires
push-requires c = omega (arith, length-take {A = ℕ} c.min-count.result c.args.piece.now, c.len-room.ensures.count, c.len-room.ensures.most)
