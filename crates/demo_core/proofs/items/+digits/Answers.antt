use Rattle.std.proofs.Common.{◌∙◌, ◌∷◌, ◌++◌, ◌+◌, ◌%◌, [], ap}
use Rattle.demo_core.proofs.Naming.{digits_none, digits_more}
use Rattle.demo_core.proofs.items.+digits.Goals as goal

pub returns-then-count-eq0 : goal.returns-then-count-eq0
returns-then-count-eq0 t c = c.new.ensures.items ∙ digits_none c.args.count c.args.n c.if-count-eq0.true

pub returns : goal.returns
returns t c =
    c.in_ok-push.ensures.items ∙ ap (λ front. front ++ (48 + c.args.n % 10) ∷ []) c.in_ok-bytes.ensures ∙ digits_more c.args.count c.args.n c.if-count-eq0.false
