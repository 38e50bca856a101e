use Rattle.std.proofs.Common.{◌≡◌, ◌≢◌, ◌∙◌, sym, ap}
use Rattle.std.proofs.lemmas.List.{nil_from_length}
use Rattle.std.specs.declared.cmp.Ordering.TheVariants.{Less}
use Rattle.plain_tree.specs.Order.{path_cmp}
use Rattle.vault_spec.specs.Plan.{Planned}
use Rattle.tree_match.specs.Pieces.{from_path}
use Rattle.tree_match.proofs.Merging.{from_path_less, from_path_none, from_path_stays}
use Rattle.tree_match.proofs.matching.from_path.Goals as goal

pub passed-preserved : goal.passed-preserved
passed-preserved c =
    let path = c.args.path.now in
    let first = c.in-Some.first.now in
    let less : path_cmp first.path path ≡ Less = ap (λ (x : Planned). path_cmp x.path path) (sym c.first.view_is) ∙ sym c.cmp.ensures ∙ c.in-Less.is in
    c.passed.invariant ∙ ap (from_path path) c.in-Some.ensures.cases.0 ∙ from_path_less path first c.in-Some.others.now less

pub returns-in_default-cmp : goal.returns-in_default-cmp
returns-in_default-cmp c =
    let path = c.args.path.now in
    let first = c.in-Some.first.now in
    let late : path_cmp first.path path ≢ Less = λ less. c.in_default-cmp.not-Less (c.cmp.ensures ∙ ap (λ (x : Planned). path_cmp x.path path) c.first.view_is ∙ less) in
    c.in-Some.ensures.cases.0 ∙ sym (c.passed.invariant ∙ ap (from_path path) c.in-Some.ensures.cases.0 ∙ from_path_stays path first c.in-Some.others.now late)

pub returns : goal.returns
returns c =
    let path = c.args.path.now in
    let none = nil_from_length c.passed.rest.now c.in_default.ensures.cases in
    none ∙ sym (c.passed.invariant ∙ ap (from_path path) none ∙ from_path_none path)
