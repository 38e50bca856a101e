use Rattle.std.proofs.Common.{refl}
use Rattle.key_wrap.proofs.Wraps.{unwraps_once}
use Rattle.key_wrap.proofs.laws.unwrapping_undoes_wrapping.Goals as goal

pub returns : goal.returns
returns c = record {
  some = λ kek key is_key none. none key is_key refl;
  same = λ kek key other is_key is_other unwraps. unwraps_once kek _ other key is_other is_key unwraps refl;
}
