use Rattle.gocrypt_conf.proofs.ReadBack.{made_returns}
use Rattle.gocrypt_conf.proofs.laws.made_texts_give_back_their_keys.Goals as goal

pub returns : goal.returns
returns c =
    let sealed = c.sealed_texts_are_bytes.ensures in
    made_returns sealed.sixteen (record { text = sealed.text; as_long = sealed.as_long; tag = sealed.tag }) c.base64_is_plain.ensures
    c.base64_has_its_size.ensures
