use Rattle.std.proofs.Common.{◌≡◌, get_or, [], refl, ap, ◌∙◌}
use Rattle.aes_lanes.specs.Cipher.{aes256, inverse_aes256}
use Rattle.key_wrap.specs.Wrap.{numbered}
use Rattle.key_wrap.specs.Private.{IsState}
use Rattle.aes_lanes.specs.Laws.Cipher.{aes-undone}
use Rattle.key_wrap.proofs.Steps.{step_back, IsState-step_back, step-iff}
use Rattle.key_wrap.proofs.unstep.Goals as goal

-- the result is the step back
step_back-is : (c : goal.After-joined-2) → c.joined-2.result ≡ step_back (inverse_aes256 c.args.kek.now) c.args.t c.args.state.now
unfolding step_back
step_back-is c =
    let image = c.numbered.ensures ∙ ap (numbered c.args.t) c.joined.ensures in
    let block = ap (λ l. get_or l 0 []) c.decrypt_blocks.ensures ∙ ap (inverse_aes256 c.args.kek.now) image in
    c.joined-2.ensures ∙ rw (block, c.split_at-2.ensures.front, c.split_at-2.ensures.back, c.split_at.ensures.front, c.split_at.ensures.back) refl

pub returns : goal.returns
returns c =
    let image = aes256 c.args.kek.now in
    let preimage = inverse_aes256 c.args.kek.now in
    let cipher = aes-undone 8 c.args.kek.now in
    let state : IsState c.args.state.now = record { forty = c.told-state; bytes = c.fits-state } in
    let made = step_back-is c in
    record {
      state = rw made (IsState-step_back image preimage c.args.t c.args.state.now cipher state);
      undone = step-iff image preimage c.args.t c.args.state.now c.joined-2.result cipher state made;
    }
