use Rattle.std.proofs.Common.{◌≡◌, ◌+◌, ◌-◌, ◌++◌, ◌∙◌, map, take, drop, ap, ap₂, arith}
use Rattle.std.proofs.lemmas.List.{drop-drop}
use Rattle.aes_lanes.specs.Private.{ciphered}
use Rattle.aes_lanes.proofs.plane_rounds.cipher_at.Goals as goal

pub returns : goal.returns
returns c = λ words keys.
    let blocks = c.args.blocks.now in
    let at = c.args.at in
    let f = ciphered c.args.direction c.args.rounds words in
    let sixteen : at + 16 - at ≡ 16 = omega arith in
    let ends : at + (at + 16 - at) ≡ at + 16 = omega arith in
    ap₂ (λ ys zs. take at blocks ++ (ys ++ zs))
    (c.copy_from_slice-2.ensures.after ∙ c.cipher_sixteen.ensures words keys
    ∙ ap (map f) (c.copy_from_slice.ensures.after ∙ ap (λ n. take n (drop at blocks)) sixteen))
    (drop-drop (at + 16 - at) at blocks ∙ ap (λ n. drop n blocks) ends)
