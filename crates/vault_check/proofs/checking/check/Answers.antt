use Rattle.std.proofs.Common.{◌≡◌, ◌++◌, ◌∙◌, Contains, Err, map, ap, sym, subst}
use Rattle.vault_walk.specs.Surveyed.{placed, told}
use Rattle.folder_spec.specs.Path.{Path}
use Rattle.std.proofs.lemmas.Result.{err_from_is_err_and}
use Rattle.folder_spec.specs.Seen.{IsSeen, under}
use Rattle.vault_spec.specs.Alike.{place_of}
use Rattle.vault_spec.specs.Vault.{format_of}
use Rattle.vault_faults.specs.declared.fault.Limit.TheVariants as limit
use Rattle.vault_check.specs.declared.fault.CheckFault.TheVariants as check
use Rattle.vault_check.specs.Answers.{IsCheckFault, of_walk}
use Rattle.vault_check.specs.Contents.{EndsFirst, IsContentFault, TellsDamage}
use Rattle.vault_check.proofs.Damages.{contents_there, none_too_long, too_long}
use Rattle.folder_model.proofs.ByFault.{at_fault, one_fault}
use Rattle.vault_check.proofs.Faults.{content_fault, survey_fault}
use Rattle.vault_check.proofs.Planned.{IsContentIn, content_listed, content_within}
use Rattle.vault_check.proofs.Reports.{all_differ, all_reported}
use Rattle.std.specs.List.{filter_map}
use Rattle.std.specs.List.Sorted.{IsPermutation}
use Rattle.vault_check.specs.Contents.{content_of}
use Rattle.vault_check.specs.Orders.{AreDifferent}
use Rattle.vault_check.proofs.checking.check.Goals as goal

pub damaged_contents-requires : goal.damaged_contents-requires
damaged_contents-requires g c = λ v seen at there.
    let root = c.args.vault.now.root in
    let f = format_of c.args.vault.now.vault in
    let s = c.in_ok-plan.ensures.survey v (subst (λ t. IsSeen t v) c.in_ok-plan.ensures.looks.told seen) in
    contents_there root f v s.plan c.as_slice.result.now s.is.once (c.as_slice.ensures ∙ s.items_are) c.in_ok-contents.contents.items c.in_ok-contents.ensures
    (λ path p is. c.files_have_their_contents.ensures c.args.vault.now.vault (under root v) path p is) at (subst (λ xs. Contains xs at) c.as_slice-2.ensures.value there)

pub returns-clause-short : goal.returns-clause-short
returns-clause-short g c = λ v seen at.
    let root = c.args.vault.now.root in
    let f = format_of c.args.vault.now.vault in
    let s = c.in_ok-plan.ensures.survey v seen in
    none_too_long root f v s.plan c.as_slice.result.now s.is.once (c.as_slice.ensures ∙ s.items_are) c.in_ok-contents.contents.items c.in_ok-contents.ensures
    (λ front dir name leads. c.what_stands_is_found_step_by_step.ensures.behind f (under root v) front dir name leads) c.in_ok-damaged.damaged.items
    (subst (λ xs. TellsDamage f v xs c.in_ok-damaged.damaged.items) c.as_slice-2.ensures.value
    (c.in_ok-damaged.ensures.damaged v (subst (λ t. IsSeen t v) (sym c.in_ok-plan.ensures.looks.told) seen))) at

pub returns-in_err-damaged-clause-length : goal.returns-in_err-damaged-clause-length
returns-in_err-damaged-clause-length g c = λ at is v seen.
    let root = c.args.vault.now.root in
    let f = format_of c.args.vault.now.vault in
    let s = c.in_ok-plan.ensures.survey v seen in
    let p = err_from_is_err_and c.from_residual-in_err-damaged.result c.from_residual-in_err-damaged.ensures.1 in
    let same : p.0 ≡ check.Limit (limit.Length at) = (let whole = sym p.1 ∙ is in cc) in
    let first = c.in_err-damaged.ensures.length at (ap Err (sym p.2 ∙ same)) v (subst (λ t. IsSeen t v) (sym c.in_ok-plan.ensures.looks.told) seen) in
    too_long root f v s.plan c.as_slice.result.now s.is.once (c.as_slice.ensures ∙ s.items_are) c.in_ok-contents.contents.items c.in_ok-contents.ensures
    (λ path some q stands. c.what_stands_is_found_step_by_step.ensures.below f (under root v) path q some (ap place_of stands))
    (λ front dir name leads. c.what_stands_is_found_step_by_step.ensures.behind f (under root v) front dir name leads) at
    (subst (λ xs. EndsFirst f v xs at) c.as_slice-2.ensures.value first)

pub returns-clause-report : goal.returns-clause-report
returns-clause-report g c = λ v seen.
    let root = c.args.vault.now.root in
    let f = format_of c.args.vault.now.vault in
    let s = c.in_ok-plan.ensures.survey v seen in
    let contents = c.in_ok-contents.contents.items in
    let damaged = c.in_ok-damaged.damaged.items in
    let planned : c.as_slice.result.now ≡ map (placed root) s.plan = c.as_slice.ensures ∙ s.items_are in
    let tells : TellsDamage f v contents damaged =
    subst (λ xs. TellsDamage f v xs damaged) c.as_slice-2.ensures.value
    (c.in_ok-damaged.ensures.damaged v (subst (λ t. IsSeen t v) (sym c.in_ok-plan.ensures.looks.told) seen)) in
    let from_content : (q : Path) → Contains contents q → (at : Path) × IsContentIn f (under root v) at × (q ≡ root ++ at) = λ q there.
    content_within root f (under root v) s.plan s.is.once
    (λ path some at stands. c.what_stands_is_found_step_by_step.ensures.below f (under root v) path at some (ap place_of stands)) q
    (subst (λ xs. Contains (filter_map content_of xs) q) planned ((c.in_ok-contents.ensures.each q).0 there)) in
    let to_content : (at : Path) → IsContentIn f (under root v) at → Contains contents (root ++ at) = λ at content.
    (c.in_ok-contents.ensures.each (root ++ at)).1 (subst (λ xs. Contains (filter_map content_of xs) (root ++ at)) (sym planned)
    (content_listed root f (under root v) s.plan s.is.once at content
    (λ front dir name leads. c.what_stands_is_found_step_by_step.ensures.behind f (under root v) front dir name leads))) in
    let both : c.append.new.self.items ≡ map (told root) s.found ++ damaged =
    c.in_ok-append.ensures.items ∙ ap (λ xs. xs ++ damaged) s.findings_are in
    let different : AreDifferent (map (told root) s.found ++ damaged) =
    all_differ root f v s.found s.is.findings contents damaged tells from_content to_content c.in_ok-contents.ensures.ordered in
    let k = all_reported root f v s.found s.is.findings contents damaged tells from_content to_content c.findings_in_order.result.items
    (subst (λ xs. IsPermutation xs c.findings_in_order.result.items) both c.findings_in_order.ensures.same)
    (c.findings_in_order.ensures.ordered (subst AreDifferent (sym both) different)) in
    record { all = k.0; notes = s.notes; are = k.1; notes_are = s.is.notes_are; findings_told = k.2; notes_told = s.notes_are }

pub returns-in_err-plan-clause-fault : goal.returns-in_err-plan-clause-fault
returns-in_err-plan-clause-fault g c = at_fault c.from_residual.result IsCheckFault (of_walk c.in_err-plan.field-0.0) c.from_residual.ensures.1 (survey_fault c.in_err-plan.field-0.0 c.in_err-plan.ensures.fault)

pub returns-in_err-damaged-clause-items : goal.returns-in_err-damaged-clause-items
returns-in_err-damaged-clause-items g c = λ is v seen.
    absurd (subst IsContentFault (one_fault c.from_residual-in_err-damaged.result c.in_err-damaged.field-0.0 (check.Limit limit.Items) c.from_residual-in_err-damaged.ensures.1 is) c.in_err-damaged.ensures.fault)

pub returns-in_err-damaged-clause-depth : goal.returns-in_err-damaged-clause-depth
returns-in_err-damaged-clause-depth g c = λ is v seen.
    absurd (subst IsContentFault (one_fault c.from_residual-in_err-damaged.result c.in_err-damaged.field-0.0 (check.Limit limit.Depth) c.from_residual-in_err-damaged.ensures.1 is) c.in_err-damaged.ensures.fault)

pub returns-in_err-damaged-clause-fault : goal.returns-in_err-damaged-clause-fault
returns-in_err-damaged-clause-fault g c = at_fault c.from_residual-in_err-damaged.result IsCheckFault c.in_err-damaged.field-0.0 c.from_residual-in_err-damaged.ensures.1 (content_fault c.in_err-damaged.field-0.0 c.in_err-damaged.ensures.fault)
