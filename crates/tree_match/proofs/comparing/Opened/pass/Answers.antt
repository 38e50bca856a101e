use Rattle.std.proofs.Common.{◌∙◌, ◌≤◌, ◌+◌, length, drop, ap, arith}
use Rattle.tree_match.specs.Pieces.{Opened}
use Rattle.tree_match.proofs.ReadAhead.{between_passed, length_between}
use Rattle.tree_match.proofs.comparing.Opened.pass.Goals as goal

pub returns-clause-ahead : goal.returns-clause-ahead
returns-clause-ahead c =
    let s = c.self.inside in
    let ahead = ap (λ (o : Opened). o.ahead) c.self.view_is in
    let few : s.start + c.args.count ≤ s.end = omega (arith, c.requires, ap length ahead, length_between s.start s.end s.chunk c.self.invariant.1, c.self.invariant.0) in
    between_passed s.start s.end c.args.count s.chunk few ∙ ap (drop c.args.count) ahead
