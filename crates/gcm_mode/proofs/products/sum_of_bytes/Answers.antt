use Rattle.std.proofs.Common.{◌≤◌, length, bit_xor, ap, sym, ◌∙◌, arith, lit<}
use Rattle.gcm_mode.specs.Pairs.{lane}
use Rattle.gcm_mode.proofs.Lanes.{IsPair-splat, IsPair-sum, lane-none, lane-sum}
use Rattle.gcm_mode.proofs.ProductSums.{bytes_sum-end, bytes_sum-more, bytes_sum-start}
use Rattle.gcm_mode.proofs.products.sum_of_bytes.Goals as goal

pub loop-i-init : goal.loop-i-init
loop-i-init c = (
  IsPair-splat 0 (lit< tt),
  λ k two. bytes_sum-start c.args.b k c.args.pairs.now c.args.blocks.now _ (lane-none k two),
)

pub loop-i-preserved : goal.loop-i-preserved
loop-i-preserved c =
    let sum = c.loop-i.sum in
    let more = c.bytes_of-more in (
      IsPair-sum sum more.result c.loop-i.invariant.0 more.ensures.pair,
      λ k two.
          bytes_sum-more c.args.b k c.loop-i.i (lane k sum) _ c.args.pairs.now c.args.blocks.now _ _ (omega arith) (omega arith)
          c.index-pairs-i.is c.index-blocks-i.is
          (lane-sum k sum more.result two c.loop-i.invariant.0 more.ensures.pair ∙ ap (bit_xor (lane k sum)) (more.ensures.lanes k two))
          ∙ c.loop-i.invariant.1 k two,
    )

pub returns : goal.returns
returns c =
    let past : length c.args.pairs.now ≤ c.loop-i.i = omega arith in
    record {
      pair = c.loop-i.invariant.0;
      lanes = λ l two. sym (bytes_sum-end c.args.b l c.loop-i.i (lane l c.loop-i.sum) c.args.pairs.now c.args.blocks.now past) ∙ c.loop-i.invariant.1 l two;
    }
