use Rattle.std.proofs.Common.{arith, ◌-◌, ◌∙◌, ap, length, take, drop, slice_set, slice_index_or}
use Rattle.folder_model.proofs.States.{read_one}
use Rattle.folder_model.proofs.mem.node.read_from.Goals as goal

pub loop-i-preserved : goal.loop-i-preserved
loop-i-preserved c =
    let rest = take (length c.args.bytes.now - c.args.start) (drop c.args.start c.args.bytes.now) in
    ap (λ out. slice_set out c.loop-i.i (slice_index_or rest c.loop-i.i 0)) c.loop-i.invariant
    ∙ read_one rest c.args.out.now c.loop-i.i 0 (omega (arith, c.loop-i-test.true, c.min-count.ensures)) (omega (arith, c.loop-i-test.true, c.min-count.ensures))
