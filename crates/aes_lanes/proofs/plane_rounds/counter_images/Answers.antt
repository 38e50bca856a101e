use Rattle.std.proofs.Common.{ap, ◌∙◌}
use Rattle.aes_lanes.specs.Cipher.{cipher}
use Rattle.aes_lanes.proofs.plane_rounds.counter_images.Goals as goal

pub returns-clause-images : goal.returns-clause-images
returns-clause-images c = λ words k keys lt.
    c.scatter.ensures.blocks k lt ∙ c.encrypted.ensures words k keys lt ∙ ap (cipher c.args.rounds words) (c.counter_planes.ensures k lt)
