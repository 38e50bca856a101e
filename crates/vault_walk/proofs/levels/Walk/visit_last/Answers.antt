use Rattle.std.proofs.Common.{sym, ap, ◌∙◌, subst}
use Rattle.folder_spec.specs.Seen.{under}
use Rattle.vault_spec.specs.Vault.{format_of}
use Rattle.vault_walk.specs.Report.{IsReport}
use Rattle.vault_walk.specs.Walking.{Way}
use Rattle.vault_walk.proofs.LevelSteps.{no_members, some_members}
use Rattle.vault_walk.proofs.levels.Walk.visit_last.Goals as goal

pub returns-then-not-is_empty-clause-answers : goal.returns-then-not-is_empty-clause-answers
returns-then-not-is_empty-clause-answers g c = (
  c.in_ok-report.ensures.counts,
  (
    c.in_ok-report.report,
    some_members c.in_ok-report.report (sym c.is_empty.ensures ∙ c.if-not-is_empty.true),
    λ v is. subst (λ d. IsReport (format_of c.args.vault.now.vault) (under c.args.vault.now.root v) d c.in_ok-report.report) (ap (λ (w : Way). w.dir) c.way.view_is) (c.in_ok-report.ensures.report v is),
  ),
)

pub returns-clause-visits : goal.returns-clause-visits
returns-clause-visits g c = (
  c.in_ok-report.report,
  c.in_ok-settle.ensures,
  no_members c.in_ok-report.report (sym c.is_empty.ensures ∙ c.if-not-is_empty.false),
  λ v is. subst (λ d. IsReport (format_of c.args.vault.now.vault) (under c.args.vault.now.root v) d c.in_ok-report.report) (ap (λ (w : Way). w.dir) c.way.view_is) (c.in_ok-report.ensures.report v is),
)
