use Rattle.port_model.proofs.Words.{word_taken}
use Rattle.port_model.proofs.mem_randoms.MemRandoms.have_byte.Goals as goal

pub returns-then-self-ge-WORD_SIZE-clause-same : goal.returns-then-self-ge-WORD_SIZE-clause-same
returns-then-self-ge-WORD_SIZE-clause-same g c =
    word_taken c.args.self.now.word c.args.self.now.given c.next_u32-self.result _ _ c.if-self-ge-WORD_SIZE.true c.next_u32-self.ensures
