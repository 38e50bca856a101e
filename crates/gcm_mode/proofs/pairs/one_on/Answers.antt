use Rattle.gcm_mode.proofs.Lanes.{IsPair-one_on, one_on-first, one_on-next}
use Rattle.gcm_mode.proofs.pairs.one_on.Goals as goal

pub returns : goal.returns
returns c = record {
  pair = IsPair-one_on c.args.before c.args.v c.requires.before c.requires.v;
  first = λ l two. one_on-first c.args.before c.args.v l two c.requires.before;
  others = λ l p two lt. one_on-next c.args.before c.args.v l p two lt c.requires.before;
}
