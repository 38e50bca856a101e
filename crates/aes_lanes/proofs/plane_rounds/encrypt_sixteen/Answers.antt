use Rattle.std.proofs.Common.{◌∙◌, ◌<◌, [], map, length, sym, ap, arith}
use Rattle.std.proofs.lemmas.List.{ext_get_or, get_or-map, length-map}
use Rattle.aes_lanes.specs.Cipher.{cipher}
use Rattle.aes_lanes.proofs.plane_rounds.encrypt_sixteen.Goals as goal

pub returns : goal.returns
returns c = λ words keys.
    let blocks = c.args.blocks.now in
    let image = cipher c.args.rounds words in
    ext_get_or [] c.scatter.result (map image blocks)
    (c.scatter.ensures.sixteen ∙ sym (length-map blocks image ∙ c.told-blocks))
    (λ k lt.
    let few : k < 16 = omega (arith, c.scatter.ensures.sixteen) in
    let in_blocks : k < length blocks = omega (arith, c.told-blocks) in
    c.scatter.ensures.blocks k few ∙ c.encrypted.ensures words k keys few ∙ ap image (c.gather.ensures k few)
    ∙ sym (get_or-map image blocks k [] [] in_blocks))
