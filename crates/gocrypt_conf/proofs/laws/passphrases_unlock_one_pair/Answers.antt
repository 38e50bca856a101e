use Rattle.std.proofs.Common.{sym, ap, ◌∙◌}
use Rattle.gocrypt_conf.specs.Keys.{keys_of}
use Rattle.gocrypt_conf.proofs.Sealing.{holds_once}
use Rattle.gocrypt_conf.proofs.laws.passphrases_unlock_one_pair.Goals as goal

pub returns : goal.returns
returns c = λ conf pass keys other one two.
    one.gives ∙ ap keys_of (holds_once c.sealed_texts_are_bytes.ensures.sixteen c.opens_to_one_text.ensures _ _ _ one.master two.master one.seals two.seals) ∙ sym two.gives
