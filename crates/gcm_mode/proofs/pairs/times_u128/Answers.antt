use Rattle.std.proofs.Common.{bit_xor, ap, ap₂, ◌∙◌}
use Rattle.std.specs.Simd.Lanes.{zip2}
use Rattle.gcm_mode.specs.Pairs.{lane}
use Rattle.gcm_mode.proofs.Lanes.{IsPair-sum, lane-sum}
use Rattle.gcm_mode.proofs.pairs.times_u128.Goals as goal

pub returns : goal.returns
returns c =
    let v = c.args.v in
    let a = c.shifted-once.result in
    let b = c.shifted-twice.result in
    let d = c.shifted-seven_times.result in
    let pair_a = c.shifted-once.ensures.pair in
    let pair_b = c.shifted-twice.ensures.pair in
    let pair_d = c.shifted-seven_times.ensures.pair in
    let first = IsPair-sum v a c.requires pair_a in
    let second = IsPair-sum (zip2 bit_xor v a) b first pair_b in
    record {
      pair = IsPair-sum (zip2 bit_xor (zip2 bit_xor v a) b) d second pair_d;
      lanes = λ l two.
          lane-sum l (zip2 bit_xor (zip2 bit_xor v a) b) d two second pair_d
          ∙ ap₂ bit_xor (lane-sum l (zip2 bit_xor v a) b two first pair_b
          ∙ ap₂ bit_xor (lane-sum l v a two c.requires pair_a ∙ ap (bit_xor (lane l v)) (c.shifted-once.ensures.lanes l two)) (c.shifted-twice.ensures.lanes l two))
          (c.shifted-seven_times.ensures.lanes l two);
    }
