use Rattle.std.proofs.Common.{◌≡◌, [], ◌∷◌, length, true, false, Err, sym, ap, ◌∙◌, arith}
use Rattle.std.proofs.lemmas.Result.{IfOk-weaker}
use Rattle.base64.specs.GeneralPurpose.{IsBytes}
use Rattle.plain_tree.specs.Names.{is_name}
use Rattle.vault_names.specs.Cryptomator.{keys_of, siv_under}
use Rattle.aes_lanes.specs.Cipher.{aes256}
use Rattle.vault_names.proofs.CmNames.{images, sealed-bytes, sealed-once, sealed-text, text-sealed}
use Rattle.vault_names.proofs.cryptomator.read_under.Goals as goal

pub returns-in_default-clause-not_stored : goal.returns-in_default-clause-not_stored
returns-in_default-clause-not_stored c = λ fault name is.
    let id : IsBytes c.args.id.now = λ k. omega (arith, c.type_inv.id k) in
    let sealed = sealed-bytes c.directions_undo_each_other.ensures c.sealed_texts_are_bytes.ensures (keys_of c.args.siv.now) c.args.id.now name id is.named in
    let none = rw c.in_default.is at c.in_ok-sealed.ensures in
    none _ sealed (sealed-text (keys_of c.args.siv.now) c.args.id.now name c.args.text.now is)

pub returns-in-Ok-clause-name : goal.returns-in-Ok-clause-name
returns-in-Ok-clause-name c =
    let opened = rw c.as_slice.ensures.value at c.in-Ok.ensures.opened in
    let text = rw c.in-Some.is at c.in_ok-sealed.ensures in
    IfOk-weaker c.named.result _ _
    (λ name is. text-sealed (keys_of c.args.siv.now) c.args.id.now name c.args.text.now c.in-Some.sealed.items is.1 (ap (siv_under (keys_of c.args.siv.now) (c.args.id.now ∷ [])) is.0 ∙ opened) text.1)
    c.named.ensures.name

pub returns-in-Ok-clause-not_stored : goal.returns-in-Ok-clause-not_stored
returns-in-Ok-clause-not_stored c = λ fault name is.
    let id : IsBytes c.args.id.now = λ k. omega (arith, c.type_inv.id k) in
    let sealed = sealed-bytes c.directions_undo_each_other.ensures c.sealed_texts_are_bytes.ensures (keys_of c.args.siv.now) c.args.id.now name id is.named in
    let text = rw c.in-Some.is at c.in_ok-sealed.ensures in
    let seals = sealed-once _ c.in-Some.sealed.items c.args.text.now sealed text.0 (sealed-text (keys_of c.args.siv.now) c.args.id.now name c.args.text.now is) text.1 in
    let opened = rw c.as_slice.ensures.value at c.in-Ok.ensures.opened in
    let is_image = images c.directions_undo_each_other.ensures in
    let once = c.opens_to_one_text.ensures (aes256 c.args.siv.now.mac) (aes256 c.args.siv.now.ctr) (is_image c.args.siv.now.mac) (is_image c.args.siv.now.ctr) in
    let same : name ≡ c.in-Ok.name.items = once (c.args.id.now ∷ []) c.in-Some.sealed.items name c.in-Ok.name.items seals opened in
    let refused = rw fault at c.named.ensures.not_stored in
    let wrong : true ≡ false = sym is.named ∙ ap is_name same ∙ refused in
    cc

pub returns-in-Err-Short-clause-not_stored : goal.returns-in-Err-Short-clause-not_stored
returns-in-Err-Short-clause-not_stored c = λ fault name is.
    let id : IsBytes c.args.id.now = λ k. omega (arith, c.type_inv.id k) in
    let sealed = sealed-bytes c.directions_undo_each_other.ensures c.sealed_texts_are_bytes.ensures (keys_of c.args.siv.now) c.args.id.now name id is.named in
    let text = rw c.in-Some.is at c.in_ok-sealed.ensures in
    let seals = sealed-once _ c.in-Some.sealed.items c.args.text.now sealed text.0 (sealed-text (keys_of c.args.siv.now) c.args.id.now name c.args.text.now is) text.1 in
    let is_image = images c.directions_undo_each_other.ensures in
    let longer = c.unsealing_undoes_sealing.ensures.longer (aes256 c.args.siv.now.mac) (aes256 c.args.siv.now.ctr) (is_image c.args.siv.now.mac) (is_image c.args.siv.now.ctr) in
    let short = rw c.as_slice.ensures.value at c.in-Err-Short.ensures.short.0 (ap Err c.in-Err-Short.field-0-is) in
    absurd (omega (arith, short, longer (c.args.id.now ∷ []) name, ap length seals))

pub returns-in-Err-BadTag-clause-not_stored : goal.returns-in-Err-BadTag-clause-not_stored
returns-in-Err-BadTag-clause-not_stored c = λ fault name is.
    let id : IsBytes c.args.id.now = λ k. omega (arith, c.type_inv.id k) in
    let sealed = sealed-bytes c.directions_undo_each_other.ensures c.sealed_texts_are_bytes.ensures (keys_of c.args.siv.now) c.args.id.now name id is.named in
    let text = rw c.in-Some.is at c.in_ok-sealed.ensures in
    let seals = sealed-once _ c.in-Some.sealed.items c.args.text.now sealed text.0 (sealed-text (keys_of c.args.siv.now) c.args.id.now name c.args.text.now is) text.1 in
    let nothing = rw c.as_slice.ensures.value at c.in-Err-BadTag.ensures.bad_tag (ap Err c.in-Err-BadTag.field-0-is) in
    nothing name seals
