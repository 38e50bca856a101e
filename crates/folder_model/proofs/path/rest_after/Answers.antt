use Rattle.std.proofs.Common.{sym, ◌∙◌}
use Rattle.std.proofs.lemmas.List.{take_rest}
use Rattle.folder_model.proofs.Strings.{rest_is, rest_is_not, rest_is_none}
use Rattle.folder_model.proofs.path.rest_after.Goals as goal

pub returns-then-depth-path : goal.returns-then-depth-path
returns-then-depth-path c = rest_is_none c.args.path.now c.args.front.now c.if-depth-path.true

pub returns-then-eq : goal.returns-then-eq
returns-then-eq c =
    rw take_rest (rest_is c.args.path.now c.args.front.now c.if-depth-path.false (sym c.eq.ensures ∙ c.if-eq.true))

pub returns-else-eq : goal.returns-else-eq
returns-else-eq c = rest_is_not c.args.path.now c.args.front.now c.if-depth-path.false (sym c.eq.ensures ∙ c.if-eq.false)
