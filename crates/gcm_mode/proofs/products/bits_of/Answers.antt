use Rattle.gcm_mode.proofs.products.bits_of.Goals as goal

pub invariant_of-result : goal.invariant_of-result
invariant_of-result c = record {
  eight_pair = c.requires;
  four_pair = c.times_u-four.ensures.pair;
  two_pair = c.times_u-two.ensures.pair;
  one_pair = c.times_u-one.ensures.pair;
}
