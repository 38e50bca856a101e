use Rattle.std.proofs.Common.{ap, arith, below_more, slice_index}
use Rattle.std.proofs.lemmas.Bool.{eqb-true, eq-eqb}
use Rattle.std.proofs.lemmas.List.{ext_get_or}
use Rattle.aes_lanes.specs.Laws.Sums.{bit_or-zero, bit_or-none, bit_xor-zero}
use Rattle.aes_lanes.proofs.block.same_bytes.Goals as goal

pub loop-i-preserved : goal.loop-i-preserved
loop-i-preserved c = record {
  same = λ zero.
      let parts = bit_or-zero _ _ zero in
      below_more _ _ (c.loop-i.invariant.same parts.0) (bit_xor-zero _ _ parts.1);
  none = λ each.
      bit_or-none _ _ _ (c.loop-i.invariant.none (λ k lt. each k (omega arith))) (each c.loop-i.i (omega arith));
}

pub returns : goal.returns
returns c = (
  λ zero.
      ext_get_or 0 _ _ c.if-left-right.false
      (λ k lt. c.loop-i.invariant.same (eqb-true _ _ zero) k (omega arith)),
  λ same. eq-eqb _ _ (c.loop-i.invariant.none (λ k lt. ap (λ l. slice_index l k) same)),
)
