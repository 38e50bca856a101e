use Rattle.siv_mode.proofs.SealedBytes.{bytes-siv_encrypt}
use Rattle.siv_mode.proofs.laws.sealed_texts_are_bytes.Goals as goal

pub returns : goal.returns
returns c = λ mac ctr is_mac is_ctr. bytes-siv_encrypt mac ctr is_mac.block (c.bytes_stay_bytes.ensures.in_sixteen_bytes ctr is_ctr.sixteen is_ctr.block)
