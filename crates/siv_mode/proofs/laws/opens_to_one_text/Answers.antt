use Rattle.siv_mode.proofs.Seals.{opens_once}
use Rattle.siv_mode.proofs.laws.opens_to_one_text.Goals as goal

pub returns : goal.returns
returns c = λ mac ctr is_mac is_ctr. opens_once mac ctr is_mac.sixteen (c.counter_mode_undoes_itself.ensures.in_sixteen_bytes ctr is_ctr.sixteen)
