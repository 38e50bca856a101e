use Rattle.std.proofs.Common.{◌∙◌, sym, ap, arith}
use Rattle.aes_lanes.specs.Bytes.{xor_bytes}
use Rattle.aes_lanes.specs.PlaneList.{sixty_threes}
use Rattle.aes_lanes.proofs.Masks.{plane_key-first, plane_key-later}
use Rattle.aes_lanes.proofs.plane_rounds.key_planes.Goals as goal

pub returns-then-round-eq0 : goal.returns-then-round-eq0
returns-then-round-eq0 c k lt =
    c.gather_same-planes.ensures k lt ∙ c.key_block.ensures ∙ plane_key-first c.args.words.now c.args.round (omega arith)

pub returns-else-round-eq0 : goal.returns-else-round-eq0
returns-else-round-eq0 c k lt =
    c.add_63.ensures k lt ∙ ap (λ b. xor_bytes b sixty_threes) (c.gather_same-planes.ensures k lt ∙ c.key_block.ensures)
    ∙ sym (plane_key-later c.args.words.now c.args.round (omega arith))
