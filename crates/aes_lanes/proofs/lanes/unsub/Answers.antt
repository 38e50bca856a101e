use Rattle.std.proofs.Common.{map, ap, ◌∙◌}
use Rattle.std.proofs.lemmas.Simd.{map-map}
use Rattle.aes_lanes.specs.Field.{inverse_affine_map, inverse, inverse_sbox}
use Rattle.aes_lanes.proofs.lanes.unsub.Goals as goal

pub returns : goal.returns
unfolding inverse_sbox
returns c = c.inverse.ensures ∙ ap (map inverse) c.inverse_affine_map.ensures ∙ map-map inverse inverse_affine_map c.args.v
