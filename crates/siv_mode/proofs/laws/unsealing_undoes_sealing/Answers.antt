use Rattle.std.proofs.Common.{refl}
use Rattle.siv_mode.proofs.Seals.{length-siv_encrypt, opens_once}
use Rattle.siv_mode.proofs.laws.unsealing_undoes_sealing.Goals as goal

pub returns : goal.returns
returns c = record {
  longer = λ mac ctr is_mac is_ctr. length-siv_encrypt mac ctr is_mac.sixteen (c.texts_keep_their_length.ensures.in_sixteen_bytes ctr is_ctr.sixteen);
  some = λ mac ctr strings plain none. none plain refl;
  same = λ mac ctr is_mac is_ctr strings plain other opens.
      opens_once mac ctr is_mac.sixteen (c.counter_mode_undoes_itself.ensures.in_sixteen_bytes ctr is_ctr.sixteen) strings _ other plain opens refl;
}
