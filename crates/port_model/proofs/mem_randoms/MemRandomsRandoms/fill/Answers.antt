use Rattle.std.proofs.Common.{◌<◌, length, Some, arith}
use Rattle.port_model.specs.Words.{left_of_words}
use Rattle.port_model.proofs.Draws.{Draws-more}
use Rattle.port_model.proofs.mem_randoms.MemRandomsRandoms.fill.Goals as goal

pub loop-byte-preserved : goal.loop-byte-preserved
loop-byte-preserved g c =
    let within : c.loop-byte.byte-index < length c.loop-byte.out = omega arith in
    let stream = g.G.Rng.stream in
    Draws-more (Some (left_of_words c.args.self.now.word c.args.self.now.given (stream c.args.self.now.generator)))
    (Some (left_of_words c.loop-byte.self.word c.loop-byte.self.given (stream c.loop-byte.self.generator)))
    (Some (left_of_words c.next_byte.new.self.word c.next_byte.new.self.given (stream c.next_byte.new.self.generator)))
    c.loop-byte.out c.loop-byte.byte-index c.next_byte.result within c.loop-byte.invariant c.next_byte.ensures
