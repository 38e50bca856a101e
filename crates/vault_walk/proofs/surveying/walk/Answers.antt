use Rattle.std.proofs.Common.{◌≡◌, subst}
use Rattle.folder_spec.specs.Seen.{under}
use Rattle.vault_spec.specs.Vault.{format_of}
use Rattle.vault_walk.specs.Surveyed.{IsFirstFinding, IsSurveyFault, IsWalkFault}
use Rattle.vault_walk.specs.declared.fault.WalkFault.TheVariants as fault
use Rattle.folder_model.proofs.ByFault.{at_fault, one_fault}
use Rattle.vault_walk.proofs.Answering.{walk_fault}
use Rattle.vault_walk.proofs.FirstFindings.{clean_where, first_finding}
use Rattle.vault_walk.proofs.PlanOrder.{placed_in_order}
use Rattle.vault_walk.proofs.surveying.walk.Goals as goal

pub returns-in_err-plan-clause-not_clean : goal.returns-in_err-plan-clause-not_clean
returns-in_err-plan-clause-not_clean g c = λ finding same v is.
    absurd (subst IsSurveyFault (one_fault c.from_residual.result c.in_err-plan.field-0.0 (fault.NotClean finding) c.from_residual.ensures.1 same) c.in_err-plan.ensures.fault)

pub returns-in_err-plan-clause-limits_first : goal.returns-in_err-plan-clause-limits_first
returns-in_err-plan-clause-limits_first g c = λ finding same v is.
    absurd (subst IsSurveyFault (one_fault c.from_residual.result c.in_err-plan.field-0.0 (fault.NotClean finding) c.from_residual.ensures.1 same) c.in_err-plan.ensures.fault)

pub returns-in_err-plan-clause-fault : goal.returns-in_err-plan-clause-fault
returns-in_err-plan-clause-fault g c =
    at_fault c.from_residual.result IsWalkFault c.in_err-plan.field-0.0 c.from_residual.ensures.1 (walk_fault c.in_err-plan.field-0.0 c.in_err-plan.ensures.fault)

pub returns-in-Some-clause-not_clean : goal.returns-in-Some-clause-not_clean
returns-in-Some-clause-not_clean g c finding same v is =
    let root = c.args.vault.now.root in
    let f = format_of c.args.vault.now.vault in
    let more = c.in-Some.ensures in
    let its : c.in-Some.first ≡ finding = cc in
    subst (IsFirstFinding root f (under root v)) its (first_finding root f (under root v) c.in_ok-plan.field-0 (c.in_ok-plan.ensures.survey v is) c.in-Some.first more.0 more.1)

pub returns-in-None-clause-clean : goal.returns-in-None-clause-clean
returns-in-None-clause-clean g c v is =
    clean_where c.args.vault.now.root (format_of c.args.vault.now.vault) (under c.args.vault.now.root v) c.in_ok-plan.field-0 (c.in_ok-plan.ensures.survey v is) c.in-None.ensures

pub returns-in-None-clause-plan : goal.returns-in-None-clause-plan
returns-in-None-clause-plan g c v is own =
    c.in_ok-plan.ensures.plan v is
    (clean_where c.args.vault.now.root (format_of c.args.vault.now.vault) (under c.args.vault.now.root v) c.in_ok-plan.field-0 (c.in_ok-plan.ensures.survey v is) c.in-None.ensures) own

pub returns-in-None-clause-each : goal.returns-in-None-clause-each
returns-in-None-clause-each g c v is =
    let s = c.in_ok-plan.ensures.survey v is in record { plan = s.plan; once = s.is.once; ordered = s.is.ordered; items_are = s.items_are }

pub returns-in-None-clause-ordered : goal.returns-in-None-clause-ordered
returns-in-None-clause-ordered g c v is = placed_in_order c.args.vault.now.root (c.in_ok-plan.ensures.survey v is).plan c.in_ok-plan.field-0.plan.items (c.in_ok-plan.ensures.survey v is).items_are (c.in_ok-plan.ensures.survey v is).is.ordered
