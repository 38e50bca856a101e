use Rattle.std.proofs.Common.{◌≡◌, suc, ◌-◌, ◌+◌, sym, ◌∙◌, arith, append-nil}
use Rattle.aes_lanes.specs.Cipher.{aes256, inverse_aes256}
use Rattle.aes_lanes.specs.Laws.Cipher.{aes-undone}
use Rattle.key_wrap.proofs.Wraps.{steps-back, steps-undone, value-unwrapped, key-unwrapped}
use Rattle.key_wrap.proofs.unwrap_key.Goals as goal

pub loop-undone-preserved : goal.loop-undone-preserved
loop-undone-preserved c =
    let key = c.args.kek.now in
    let next : 24 - c.loop-undone.undone ≡ suc (24 - (c.loop-undone.undone + 1)) = omega arith in
    record {
      state = c.unstep-before.ensures.state;
      undone =
          steps-back (aes256 key) (inverse_aes256 key) (24 - c.loop-undone.undone) (24 - (c.loop-undone.undone + 1)) c.args.wrapped.now c.loop-undone.state c.unstep-before.result (aes-undone 8 key) next c.loop-undone.invariant.undone c.unstep-before.ensures.undone;
    }

pub returns-then-not-same_bytes-clause-bad_wrap : goal.returns-then-not-same_bytes-clause-bad_wrap
returns-then-not-same_bytes-clause-bad_wrap c = λ key is_key unwraps.
    let none : 24 - c.loop-undone.undone ≡ 0 = omega arith in
    let undone = steps-undone (aes256 c.args.kek.now) _ _ _ none c.loop-undone.invariant.undone in
    let value = value-unwrapped _ _ _ key undone is_key unwraps in
    let same = c.same_bytes.ensures.1 (c.split_at.ensures.front ∙ value) in
    cc

pub returns-clause-unwrapped : goal.returns-clause-unwrapped
returns-clause-unwrapped c =
    let none : 24 - c.loop-undone.undone ≡ 0 = omega arith in
    let undone = steps-undone (aes256 c.args.kek.now) _ _ _ none c.loop-undone.invariant.undone in
    let value = sym c.split_at.ensures.front ∙ c.same_bytes.ensures.0 c.if-not-same_bytes.false in
    let key = c.joined.ensures ∙ append-nil _ ∙ c.split_at.ensures.back in
    rw key (key-unwrapped _ _ _ undone c.loop-undone.invariant.state value)
