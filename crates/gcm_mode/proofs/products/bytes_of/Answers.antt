use Rattle.std.proofs.Common.{ap, get_or}
use Rattle.gcm_mode.specs.declared.vectors.Row.{Row}
use Rattle.gcm_mode.proofs.Lanes.{IsPair-sum}
use Rattle.gcm_mode.proofs.RowBytes.{lane-looked}
use Rattle.gcm_mode.proofs.products.bytes_of.Goals as goal

pub returns : goal.returns
returns c =
    let pair = c.args.pair.now in
    let row = get_or pair.rows c.args.b c.index-pair-b.result in
    let high = c.look-high in
    let low = c.look-low in
    record {
      pair = IsPair-sum high.result low.result high.ensures.pair low.ensures.pair;
      lanes = λ l two. lane-looked c.args.b l pair.powers pair.rows row c.args.blocks.now high.result low.result c.requires.b two c.requires.rows (ap (λ (r : Row). get_or pair.rows c.args.b r) c.index-pair-b.is)
          high.ensures.pair low.ensures.pair (λ p lt. high.ensures.each l p two lt) (λ p lt. low.ensures.each l p two lt);
    }
