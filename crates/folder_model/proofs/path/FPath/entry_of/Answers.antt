use Rattle.std.proofs.Common.{◌≡◌, None, Some, [], ◌∷◌, ◌++◌, sym, ap, ◌∙◌, subst}
use Rattle.folder_spec.specs.Path.{below}
use Rattle.folder_spec.proofs.Paths.{not_below, below_is}
use Rattle.folder_model.proofs.Strings.{path_of, no_entry, one_string}
use Rattle.folder_model.proofs.path.FPath.entry_of.Goals as goal

pub returns-in_err-rest : goal.returns-in_err-rest
returns-in_err-rest c =
    let none : below c.args.at.now c.args.self.now ≡ None =
    rw (← c.self.view_is, ← c.at.view_is, ← c.as_slice.ensures.value, ← c.as_slice-2.ensures.value) c.in_err-rest.ensures in
    rw c.from_residual.ensures (λ a e. not_below c.args.at.now (a ∷ []) (subst (λ p. below c.args.at.now p ≡ None) e none))

pub returns-then-rest-ne1 : goal.returns-then-rest-ne1
returns-then-rest-ne1 c = no_entry c.args.at.now c.args.self.now c.in_ok-rest.rest.now c.if-rest-ne1.true
    (rw (← c.self.view_is, ← c.at.view_is, ← c.as_slice.ensures.value, ← c.as_slice-2.ensures.value) c.in_ok-rest.ensures)

pub returns : goal.returns
returns c =
    let some : below c.args.at.now c.args.self.now ≡ Some (path_of c.in_ok-rest.rest.now) =
    rw (← c.self.view_is, ← c.at.view_is, ← c.as_slice.ensures.value, ← c.as_slice-2.ensures.value) c.in_ok-rest.ensures in
    below_is c.args.at.now c.args.self.now (path_of c.in_ok-rest.rest.now) some
    ∙ ap (λ rest. c.args.at.now ++ rest)
    (one_string c.in_ok-rest.rest.now c.index-rest-0.result c.if-rest-ne1.false c.index-rest-0.is ∙ ap (λ name. name ∷ []) (sym c.as_str.ensures.value))
