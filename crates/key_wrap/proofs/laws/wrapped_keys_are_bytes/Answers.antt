use Rattle.key_wrap.proofs.Wraps.{IsState-wrapped}
use Rattle.key_wrap.proofs.laws.wrapped_keys_are_bytes.Goals as goal

pub returns : goal.returns
returns c = record {
  forty = λ kek key is_key. (IsState-wrapped kek key is_key).forty;
  bytes = λ kek key is_key. (IsState-wrapped kek key is_key).bytes;
}
