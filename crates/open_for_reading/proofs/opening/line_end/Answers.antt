use Rattle.std.proofs.Common.{sym, ap, arith}
use Rattle.std.proofs.lemmas.List.Sums.{position_or_len_is}
use Rattle.open_for_reading.specs.Opening.{is_newline}
use Rattle.open_for_reading.proofs.opening.line_end.Goals as goal

pub returns-else-bytes-end-ne10 : goal.returns-else-bytes-end-ne10
returns-else-bytes-end-ne10 c =
    sym (position_or_len_is is_newline c.args.bytes.now c.loop-end.end 0 c.loop-end.invariant.within c.loop-end.invariant.before (λ within. ap is_newline c.if-bytes-end-ne10.false))

pub returns-after-loop-end : goal.returns-after-loop-end
returns-after-loop-end c =
    sym (position_or_len_is is_newline c.args.bytes.now c.loop-end.end 0 c.loop-end.invariant.within c.loop-end.invariant.before
    (λ within. absurd (omega (arith, within, c.loop-end-test.false))))
