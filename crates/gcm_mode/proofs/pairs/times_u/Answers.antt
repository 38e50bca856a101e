use Rattle.gcm_mode.proofs.Lanes.{IsPair-sum}
use Rattle.gcm_mode.proofs.Shifts.{IsPair-reductions, lane-times_u}
use Rattle.gcm_mode.proofs.pairs.times_u.Goals as goal

pub returns : goal.returns
returns c =
    let v = c.args.v in
    let half = c.shifted-half.ensures in
    let facts = IsPair-reductions v c.requires in
    record {
      pair = IsPair-sum c.shifted-half.result _ half.pair facts;
      lanes = λ l two. lane-times_u l v c.shifted-half.result two c.requires half.pair (half.lanes l two);
    }
