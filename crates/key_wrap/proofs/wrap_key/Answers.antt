use Rattle.std.proofs.Common.{◌≡◌, ◌+◌, ◌++◌, refl, ap, sym, ◌∙◌, add-one, arith}
use Rattle.aes_lanes.specs.Cipher.{aes256}
use Rattle.key_wrap.specs.Wrap.{step, steps, initial_value}
use Rattle.key_wrap.proofs.Wraps.{wrapped-steps}
use Rattle.key_wrap.proofs.wrap_key.Goals as goal

pub loop-done-init : goal.loop-done-init
unfolding steps
loop-done-init c = c.joined-state.ensures

pub loop-done-preserved : goal.loop-done-preserved
unfolding steps
loop-done-preserved c =
    c.step-next.ensures ∙ ap (step (aes256 c.args.kek.now) (c.loop-done.done + 1)) c.loop-done.invariant ∙ rw add-one refl

pub returns : goal.returns
returns c =
    let all : c.loop-done.done ≡ 24 = omega arith in
    c.loop-done.invariant ∙ ap (λ n. steps (aes256 c.args.kek.now) n (initial_value ++ c.args.key.now)) all
    ∙ sym (wrapped-steps (aes256 c.args.kek.now) c.args.key.now c.told-key)
