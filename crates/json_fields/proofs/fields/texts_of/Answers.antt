use Rattle.std.proofs.Common.{sym, ap, ◌∙◌, option_map}
use Rattle.json_fields.proofs.Texts.{after, no_text_at_item}
use Rattle.json_fields.proofs.fields.texts_of.Goals as goal

pub returns-in_default : goal.returns-in_default
returns-in_default c =
    let none = sym c.as_str.ensures ∙ ap (option_map (λ s. s.now)) c.in_default.is in
    sym (c.loop-item.invariant ∙ ap (after _) (no_text_at_item _ _ c.item-item.result c.loop-item-test.true c.item-item.is none))
