use Rattle.std.proofs.Common.{get_or, [], refl, ap, ◌∙◌, append-nil}
use Rattle.aes_lanes.specs.Cipher.{aes256}
use Rattle.key_wrap.specs.Wrap.{numbered, step}
use Rattle.key_wrap.proofs.step.Goals as goal

pub returns : goal.returns
unfolding step
returns c =
    let front = c.joined.ensures ∙ append-nil _ ∙ c.split_at.ensures.front in
    let image = ap (λ l. get_or l 0 []) c.encrypt_blocks.ensures ∙ ap (aes256 c.args.kek.now) front in
    let block = c.numbered-block.ensures ∙ ap (numbered c.args.t) image in
    c.joined-2.ensures ∙ rw (c.joined-front.ensures, c.split_at-2.ensures.front, c.split_at-2.ensures.back, c.split_at.ensures.back, block) refl
