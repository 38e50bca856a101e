use Rattle.std.proofs.Common.{◌∷◌, ◌++◌, [], codes, sym, ap, ◌∙◌}
use Rattle.command_answers.proofs.NamingLines.{naming_line}
use Rattle.command_answers.proofs.reporting.naming_line.Goals as goal

pub returns : goal.returns
returns c = λ naming.
    c.in_ok-push_str.ensures.bytes
    ∙ ap (λ text. text ++ 10 ∷ []) (c.in_ok-text.ensures ∙ ap (λ message. codes "vaultmove: " ++ message) (c.as_str.ensures.value ∙ c.in_ok-message.ensures naming))
    ∙ sym (naming_line c.args.answer.now naming)
