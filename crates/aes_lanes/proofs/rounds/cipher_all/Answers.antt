use Rattle.std.proofs.Common.{◌≡◌, ℕ, ◌+◌, ◌*◌, ◌/◌, ◌++◌, ◌∙◌, ap, arith, drop, length, map, take}
use Rattle.aes_lanes.specs.Private.{ciphered}
use Rattle.aes_lanes.proofs.MapParts.{map_over_part, map_over_rest}
use Rattle.aes_lanes.proofs.Rests.{put_rest}
use Rattle.aes_lanes.proofs.rounds.cipher_all.Goals as goal

pub loop-set-preserved : goal.loop-set-preserved
loop-set-preserved c = λ words planes.
    let f = ciphered c.args.direction c.args.rounds words in
    let next : 16 * c.loop-set.set + 16 ≡ 16 * (c.loop-set.set + 1) = omega arith in
    map_over_part f c.args.blocks.now c.loop-set.blocks (16 * c.loop-set.set) _ 16 (omega arith) (c.loop-set.invariant words planes)
    (c.cipher_at.ensures words planes)
    ∙ ap (λ n. map f (take n c.args.blocks.now) ++ drop n c.args.blocks.now) next

pub returns : goal.returns
returns c = λ words keys planes.
    let blocks = c.args.blocks.now in
    let done : ℕ = 16 * (length blocks / 16) in
    put_rest c.loop-set.blocks c.cipher_rest.new.blocks done
    ∙ map_over_rest (ciphered c.args.direction c.args.rounds words) blocks c.loop-set.blocks (16 * c.loop-set.set) c.cipher_rest.new.blocks done
    (omega arith) (omega arith) (c.loop-set.invariant words planes) (c.cipher_rest.ensures words keys planes)
