use Rattle.gcm_mode.proofs.Lanes.{IsPair-look, look-each, nibbles_within}
use Rattle.gcm_mode.proofs.pairs.look.Goals as goal

pub swizzle : goal.swizzle
swizzle c = nibbles_within c.args.nibbles c.requires.nibbles

pub returns : goal.returns
returns c = record {
  pair = IsPair-look c.args.table c.args.nibbles c.requires.table c.requires.nibbles;
  each = λ l p two lt. look-each c.args.table c.args.nibbles l p c.requires.nibbles two lt;
}
