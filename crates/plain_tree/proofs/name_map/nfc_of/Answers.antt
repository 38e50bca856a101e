use Rattle.std.proofs.Common.{encode_utf8_all, sym, ap, ◌∙◌}
use Rattle.std.specs.Str.{chars}
use Rattle.std.proofs.lemmas.Result.{IfOk-weaker}
use Rattle.unicode_normalization.specs.Forms.{nfc}
use Rattle.plain_tree.proofs.Mapping.{nfc_of_text, nfc_of_bytes}
use Rattle.plain_tree.proofs.name_map.nfc_of.Goals as goal

pub returns-in_ok-to_nfc-in-Ok : goal.returns-in_ok-to_nfc-in-Ok
returns-in_ok-to_nfc-in-Ok c =
    let text = c.in-Ok.ensures.cases in
    ap (λ v. v.items) c.into_bytes.ensures.value ∙ c.in_ok-to_nfc-in-Ok.ensures
    ∙ ap (λ t. encode_utf8_all (nfc (chars t))) text.0 ∙ sym (nfc_of_text c.args.bytes.now text.1)

pub returns-in-Err : goal.returns-in-Err
returns-in-Err c =
    IfOk-weaker c.from_slice.result _ _ (λ mapped same. same ∙ sym (nfc_of_bytes c.args.bytes.now c.in-Err.ensures.cases.0)) c.from_slice.ensures.items
