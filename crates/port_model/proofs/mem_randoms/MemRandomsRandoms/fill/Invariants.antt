use Rattle.std.proofs.Common.{Some, take}
use Rattle.port_model.specs.Draws.{Draws}
use Rattle.port_model.specs.Words.{left_of_words}
use Rattle.port_model.proofs.mem_randoms.MemRandomsRandoms.fill.Given as goal

-- the front of the buffer was drawn
abbrev pub invariant-loop-byte : goal.invariant-loop-byte
invariant-loop-byte g l =
    Draws (Some (left_of_words l.initial.self.word l.initial.self.given (g.G.Rng.stream l.initial.self.generator)))
    (Some (left_of_words l.self.word l.self.given (g.G.Rng.stream l.self.generator)))
    (take l.byte-index l.out)
