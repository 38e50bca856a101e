use Rattle.std.proofs.Common.{sym, ◌∙◌}
use Rattle.vault_write.specs.Founding.{DrawsSome}
use Rattle.vault_write.proofs.Drawn.{at_random, some_none, some_zeros}
use Rattle.vault_write.proofs.drawing.draw_some.Goals as goal

pub returns-in_err-bytes-clause-draws : goal.returns-in_err-bytes-clause-draws
returns-in_err-bytes-clause-draws g c =
    at_random (DrawsSome (g.R.Randoms.left c.args.random.now) (g.R.Randoms.left c.draw.new.random)) c.from_residual.result c.from_residual.ensures.1 c.in_err-bytes.ensures.fault
    (some_none (g.R.Randoms.left c.args.random.now) (g.R.Randoms.left c.draw.new.random) c.in_err-bytes.ensures.nothing)

pub returns-then-are_zeros-clause-draws : goal.returns-then-are_zeros-clause-draws
returns-then-are_zeros-clause-draws g c =
    some_zeros (g.R.Randoms.left c.args.random.now) (g.R.Randoms.left c.draw.new.random) c.in_ok-bytes.bytes (record { size = c.in_ok-bytes.ensures.size; small = c.in_ok-bytes.ensures.small }) c.in_ok-bytes.ensures.drawn (sym c.are_zeros.ensures ∙ c.if-are_zeros.true)
