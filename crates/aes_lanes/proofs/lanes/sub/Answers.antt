use Rattle.std.proofs.Common.{map, ap, ◌∙◌}
use Rattle.std.proofs.lemmas.Simd.{map-map}
use Rattle.aes_lanes.specs.Field.{affine_map, inverse, sbox}
use Rattle.aes_lanes.proofs.lanes.sub.Goals as goal

pub returns : goal.returns
unfolding sbox
returns c = c.affine_map.ensures ∙ ap (map affine_map) c.inverse.ensures ∙ map-map affine_map inverse c.args.v
