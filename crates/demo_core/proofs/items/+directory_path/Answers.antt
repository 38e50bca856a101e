use Rattle.std.proofs.Common.{◌∙◌, ◌++◌, ◌∷◌, ◌-◌, [], ap}
use Rattle.std.proofs.lemmas.Result.{IfOk-weaker}
use Rattle.demo_core.specs.Demonstration.{directory_path}
use Rattle.demo_core.proofs.Naming.{directory_path_at_root, directory_path_below}
use Rattle.demo_core.proofs.items.+directory_path.Goals as goal

pub returns-then-count-eq0 : goal.returns-then-count-eq0
returns-then-count-eq0 t c = IfOk-weaker c.child.result _ _
    (λ path is. is ∙ ap (λ above. above ++ c.in_ok-name.name ∷ []) c.root-root.ensures ∙ ap (λ name. [] ++ name ∷ []) c.in_ok-name.ensures
    ∙ directory_path_at_root c.args.count c.if-count-eq0.true) c.child.ensures

pub returns : goal.returns
returns t c = IfOk-weaker c.child-2.result _ _
    (λ path is. is ∙ ap (λ above. above ++ c.in_ok-name.name ∷ []) c.in_ok-above.ensures ∙ ap (λ name. directory_path (c.args.count - 1) ++ name ∷ []) c.in_ok-name.ensures
    ∙ directory_path_below c.args.count c.if-count-eq0.false) c.child-2.ensures
