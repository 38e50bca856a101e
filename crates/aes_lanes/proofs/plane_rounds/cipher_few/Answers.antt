use Rattle.std.proofs.Common.{arith}
use Rattle.aes_lanes.specs.Private.{ciphered}
use Rattle.aes_lanes.proofs.MapParts.{map_over_padded}
use Rattle.aes_lanes.proofs.plane_rounds.cipher_few.Goals as goal

pub returns : goal.returns
returns c = λ words keys.
    map_over_padded (ciphered c.args.direction c.args.rounds words) c.args.blocks.now c.copy_from_slice.new.self _ c.cipher_sixteen.new.blocks _ _
    c.copy_from_slice-2.ensures.after c.copy_from_slice.ensures.after (c.cipher_sixteen.ensures words keys) (omega arith)
