use Rattle.std.proofs.Common.{◌≡◌, ◌∙◌, ◌+◌, List, Option, drop, sym, ap, ap₂, subst, refl, arith, option_copied, Contains}
use Rattle.std.proofs.lemmas.List.{drop_all}
use Rattle.std.proofs.lemmas.Result.{err_from_is_err_and}
use Rattle.folder_spec.specs.Seen.{IsSeen}
use Rattle.folder_spec.specs.View.{View}
use Rattle.plain_tree.specs.Names as plain
use Rattle.vault_spec.specs.Plan.{Planned}
use Rattle.vault_spec.specs.Vault.{format_of}
use Rattle.vault_walk.specs.Survey.{IsOrdered}
use Rattle.tree_match.specs.Comparing.{Outcome, Is, Stops, IsFault}
use Rattle.tree_match.specs.Matching.{first_differing, first_further, held_by, item_with, matched}
use Rattle.tree_match.specs.declared.answer.How.{How}
use Rattle.tree_match.specs.declared.answer.Match.TheVariants.{Differs}
use Rattle.tree_match.proofs.Differing.{differs_one, holds_none, holds_one, stops_one}
use Rattle.tree_match.proofs.Merging.{found_in, looks_up, merges_all}
use Rattle.tree_match.proofs.matching.compare_items.Goals as goal

pub loop-item-init : goal.loop-item-init
loop-item-init g c = record {
  told = refl;
  grows = omega arith;
  merges = λ v seen.
      merges_all c.as_slice-items.result.now c.as_slice-others.result.now (subst IsOrdered (sym c.as_slice-items.ensures) (c.requires.a v seen).ordered)
      (subst IsOrdered (sym c.as_slice-others.ensures) (c.requires.b v seen).ordered);
  same = λ v seen. refl;
}

pub difference-requires-clause-item : goal.difference-requires-clause-item
difference-requires-clause-item g c = λ v seen file.
    let i = c.loop-item.invariant in
    let x = c.item-item.result in
    let at : Contains c.as_slice-items.result.now x = (c.loop-item.item-index, c.loop-item-test.true, sym c.item-item.is) in
    (c.requires.a v (subst (λ t. IsSeen t v) i.told seen)).files x (subst (λ (xs : List Planned). Contains xs x) c.as_slice-items.ensures at) file

pub difference-requires-clause-other : goal.difference-requires-clause-other
difference-requires-clause-other g c = λ v seen y is file.
    let i = c.loop-item.invariant in
    let x = c.item-item.result in
    let k = c.loop-item.item-index in
    let items = c.as_slice-items.result.now in
    let others = c.as_slice-others.result.now in
    let rest = c.from_path-rest.result.now in
    let before = subst (λ t. IsSeen t v) i.told seen in
    let named = ap (λ (z : Planned). z.path) c.item.view_is in
    let look = looks_up items others c.loop-item.rest.now rest k x c.item.inside.path (option_copied c.first_at-other.result)
    c.loop-item-test.true c.item-item.is named c.from_path-rest.ensures c.first_at-other.ensures (i.merges v before) in
    (c.requires.b v before).files y (subst (λ (xs : List Planned). Contains xs y) c.as_slice-others.ensures (found_in x.path others y (look.found_is ∙ is))) file

pub returns-in_err-how-clause-answers : goal.returns-in_err-how-clause-answers
returns-in_err-how-clause-answers g c =
    let p = err_from_is_err_and c.from_residual.result c.from_residual.ensures.1 in
    rw (p.1, p.2)
    (λ v seen.
    let i = c.loop-item.invariant in
    let x = c.item-item.result in
    let k = c.loop-item.item-index in
    let items = c.as_slice-items.result.now in
    let others = c.as_slice-others.result.now in
    let rest = c.from_path-rest.result.now in
    let a = (format_of c.args.a.now.vault).content in
    let b = (format_of c.args.b.now.vault).content in
    let held = λ (z : Planned). held_by a b v z (item_with z.path others) in
    let last = Is (first_further items others) in
    let fault = c.in_err-how.field-0.0 in
    let named = ap (λ (z : Planned). z.path) c.item.view_is in
    let look = looks_up items others c.loop-item.rest.now rest k x c.item.inside.path (option_copied c.first_at-other.result)
    c.loop-item-test.true c.item-item.is named c.from_path-rest.ensures c.first_at-other.ensures (i.merges v seen) in
    let same : held x ≡ held_by a b v x (option_copied c.first_at-other.result) = ap (held_by a b v x) look.found_is in
    let whole = ap₂ (λ (xs ys : List Planned). matched a xs b ys v) (sym c.as_slice-items.ensures) (sym c.as_slice-others.ensures)
    ∙ i.same v seen ∙ ap (λ (xs : List Planned). first_differing held xs last) look.front in
    stops_one held last (matched a c.args.a_plan.now.items b c.args.b_plan.now.items v) x (drop (k + 1) items) whole fault
    (subst (λ (o : Outcome (Option How)). IsFault (λ at ending. o ≡ Stops at ending) fault) (sym same) (c.in_err-how.ensures.answers v (subst (λ t. IsSeen t v) (sym i.told) seen))))

pub returns-in-Some-clause-answers : goal.returns-in-Some-clause-answers
returns-in-Some-clause-answers g c = λ v seen.
    let i = c.loop-item.invariant in
    let x = c.item-item.result in
    let k = c.loop-item.item-index in
    let items = c.as_slice-items.result.now in
    let others = c.as_slice-others.result.now in
    let rest = c.from_path-rest.result.now in
    let a = (format_of c.args.a.now.vault).content in
    let b = (format_of c.args.b.now.vault).content in
    let held = λ (z : Planned). held_by a b v z (item_with z.path others) in
    let last = Is (first_further items others) in
    let named = ap (λ (z : Planned). z.path) c.item.view_is in
    let look = looks_up items others c.loop-item.rest.now rest k x c.item.inside.path (option_copied c.first_at-other.result)
    c.loop-item-test.true c.item-item.is named c.from_path-rest.ensures c.first_at-other.ensures (i.merges v seen) in
    let same : held x ≡ held_by a b v x (option_copied c.first_at-other.result) = ap (held_by a b v x) look.found_is in
    ap₂ (λ (xs ys : List Planned). matched a xs b ys v) (sym c.as_slice-items.ensures) (sym c.as_slice-others.ensures)
    ∙ i.same v seen ∙ ap (λ (xs : List Planned). first_differing held xs last) look.front
    ∙ differs_one held last x (drop (k + 1) items) c.in-Some.how (same ∙ c.in_ok-how.ensures.answers v (subst (λ t. IsSeen t v) (sym i.told) seen) ∙ ap Is c.in-Some.is)
    ∙ ap (λ (q : plain.Path). Is (Differs q c.in-Some.how)) (sym named ∙ sym c.in_ok-copy.ensures)

pub loop-item-preserved : goal.loop-item-preserved
loop-item-preserved g c =
    let i = c.loop-item.invariant in
    let x = c.item-item.result in
    let k = c.loop-item.item-index in
    let items = c.as_slice-items.result.now in
    let others = c.as_slice-others.result.now in
    let rest = c.from_path-rest.result.now in
    let e = c.in_ok-how.ensures in
    let named = ap (λ (z : Planned). z.path) c.item.view_is in
    let look = λ (v : View) (seen : IsSeen (g.F.Folder.told c.args.folder.now) v).
    looks_up items others c.loop-item.rest.now rest k x c.item.inside.path (option_copied c.first_at-other.result)
    c.loop-item-test.true c.item-item.is named c.from_path-rest.ensures c.first_at-other.ensures (i.merges v seen) in
    record {
      told = e.looks.told ∙ i.told;
      grows = omega (arith, i.grows, e.looks.blames.grows);
      merges = λ v seen.
          (look v seen).merges;
      same = λ v seen.
          let a = (format_of c.args.a.now.vault).content in
          let b = (format_of c.args.b.now.vault).content in
          let held = λ (z : Planned). held_by a b v z (item_with z.path others) in
          let last = Is (first_further items others) in
          let same : held x ≡ held_by a b v x (option_copied c.first_at-other.result) = ap (held_by a b v x) (look v seen).found_is in
          i.same v seen ∙ ap (λ (xs : List Planned). first_differing held xs last) (look v seen).front
          ∙ holds_one held last x (drop (k + 1) items) (same ∙ e.answers v (subst (λ t. IsSeen t v) (sym i.told) seen) ∙ ap Is c.in_default.is);
    }

pub returns-clause-answers : goal.returns-clause-answers
returns-clause-answers g c = λ v seen.
    let i = c.loop-item.invariant in
    let k = c.loop-item.item-index in
    let items = c.as_slice-items.result.now in
    let others = c.as_slice-others.result.now in
    let a = (format_of c.args.a.now.vault).content in
    let b = (format_of c.args.b.now.vault).content in
    let held = λ (z : Planned). held_by a b v z (item_with z.path others) in
    let last = Is (first_further items others) in
    ap₂ (λ (xs ys : List Planned). matched a xs b ys v) (sym c.as_slice-items.ensures) (sym c.as_slice-others.ensures)
    ∙ i.same v seen ∙ ap (λ (xs : List Planned). first_differing held xs last) (drop_all k items c.loop-item-test.false) ∙ holds_none held last
    ∙ ap Is
    (sym (c.in_ok-further.ensures (subst IsOrdered (sym c.as_slice-items.ensures) (c.requires.a v seen).ordered) (subst IsOrdered (sym c.as_slice-others.ensures) (c.requires.b v seen).ordered)))
