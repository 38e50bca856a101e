use Rattle.std.proofs.Common.{◌∙◌, ◌+◌, drop, sym, ap, refl, not, option_copied}
use Rattle.std.proofs.lemmas.List.{drop_all}
use Rattle.vault_spec.specs.Plan.{Planned}
use Rattle.tree_match.specs.Matching.{first_further}
use Rattle.tree_match.specs.declared.answer.Match.TheVariants.{Contained}
use Rattle.tree_match.proofs.Differing.{further_end, further_found, further_none}
use Rattle.tree_match.proofs.Merging.{looks_up, merges_all, none_lent, some_lent}
use Rattle.tree_match.proofs.matching.further.Goals as goal

pub loop-other-init : goal.loop-other-init
loop-other-init c = λ a b. record { merges = merges_all c.args.others.now c.args.items.now b a; same = refl }

pub returns-then-is_none : goal.returns-then-is_none
returns-then-is_none c = λ a b.
    let items = c.args.items.now in
    let k = c.loop-other.other-index in
    let i = c.loop-other.invariant a b in
    let x = c.other-item.result in
    let named = ap (λ (y : Planned). y.path) c.other.view_is in
    let look = looks_up c.args.others.now items c.loop-other.rest.now c.from_path-rest.result.now k x c.other.inside.path (option_copied c.first_at.result)
    c.loop-other-test.true c.other-item.is named c.from_path-rest.ensures c.first_at.ensures i.merges in
    let none = none_lent c.first_at.result (c.is_none.ensures ∙ ap not c.if-is_none.true) in
    sym
    (i.same ∙ ap (first_further items) look.front ∙ further_none items x (drop (k + 1) c.args.others.now) (look.found_is ∙ none)
    ∙ ap Contained (sym named ∙ sym c.in_ok-copy.ensures))

pub loop-other-preserved : goal.loop-other-preserved
loop-other-preserved c = λ a b.
    let items = c.args.items.now in
    let k = c.loop-other.other-index in
    let i = c.loop-other.invariant a b in
    let x = c.other-item.result in
    let named = ap (λ (y : Planned). y.path) c.other.view_is in
    let look = looks_up c.args.others.now items c.loop-other.rest.now c.from_path-rest.result.now k x c.other.inside.path (option_copied c.first_at.result)
    c.loop-other-test.true c.other-item.is named c.from_path-rest.ensures c.first_at.ensures i.merges in
    let some = some_lent c.first_at.result (c.is_none.ensures ∙ ap not c.if-is_none.false) in
    record {
      merges = look.merges;
      same = i.same ∙ ap (first_further items) look.front ∙ further_found items x some.0 (drop (k + 1) c.args.others.now) (look.found_is ∙ some.1);
    }

pub returns : goal.returns
returns c = λ a b.
    let i = c.loop-other.invariant a b in
    sym (i.same ∙ ap (first_further c.args.items.now) (drop_all c.loop-other.other-index c.args.others.now c.loop-other-test.false) ∙ further_end c.args.items.now)
