use Rattle.std.proofs.Common.{encode_utf8_all, sym, ap, ◌∙◌}
use Rattle.std.specs.Str.{chars}
use Rattle.std.proofs.lemmas.Result.{IfOk-weaker}
use Rattle.unicode_normalization.specs.Forms.{nfc}
use Rattle.cryptomator_conf.proofs.Passphrase.{passphrase-text, passphrase-bytes}
use Rattle.cryptomator_conf.proofs.keys.passphrase.Goals as goal

pub returns-in_ok-to_nfc-in-Ok : goal.returns-in_ok-to_nfc-in-Ok
returns-in_ok-to_nfc-in-Ok c =
    let text = c.in-Ok.ensures.cases in
    ap (λ v. v.items) c.into_bytes.ensures.value ∙ c.in_ok-to_nfc-in-Ok.ensures
    ∙ ap (λ t. encode_utf8_all (nfc (chars t))) text.0 ∙ sym (passphrase-text c.args.pass.now text.1)

pub returns-in-Err : goal.returns-in-Err
returns-in-Err c =
    IfOk-weaker c.from_slice.result _ _ (λ used same. same ∙ sym (passphrase-bytes c.args.pass.now c.in-Err.ensures.cases.0)) c.from_slice.ensures.items
