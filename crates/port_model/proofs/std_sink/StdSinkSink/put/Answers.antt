use Rattle.std.proofs.Common.{arith, ℕ, length-drop, length-take}
use Rattle.port_model.proofs.Moves.{Appends-more}
use Rattle.port_model.proofs.std_sink.StdSinkSink.put.Goals as goal

pub loop-at-preserved : goal.loop-at-preserved
loop-at-preserved g c = (
  omega (arith, c.in-Ok.ensures.bound, length-drop {A = ℕ}, length-take {A = ℕ}),
  Appends-more _ _ _ c.args.piece.now c.loop-at.at c.in-Ok.n c.loop-at.invariant.1 c.in-Ok.ensures.bytes,
  c.loop-at.invariant.2,
)
