use Rattle.std.proofs.Common.{◌∙◌, ap, arith}
use Rattle.demo_core.specs.Demonstration.{bytes_from}
use Rattle.demo_core.proofs.Giving.{piece_steps}
use Rattle.demo_core.proofs.bytes.MadeBytesContent.piece.Goals as goal

pub returns-clause-gives : goal.returns-clause-gives
returns-clause-gives g c found stands =
    let self = c.args.self.now in
    piece_steps self.seed self.number self.given self.left c.min-count.result c.fill.new.out c.split_at_mut-front.result.1.now
    (omega (arith, c.min-count.ensures)) (λ none. omega (arith, c.min-count.ensures, none, c.requires.some))
    (c.fill.ensures ∙ ap (λ n. bytes_from self.seed self.number self.given n) (c.split_at_mut-front.ensures.front_len))
