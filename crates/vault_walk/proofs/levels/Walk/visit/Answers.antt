use Rattle.std.proofs.Common.{sym, ap, ◌∙◌, subst}
use Rattle.folder_spec.specs.Seen.{under}
use Rattle.vault_spec.specs.Vault.{format_of}
use Rattle.vault_walk.specs.Report.{IsReport}
use Rattle.vault_walk.specs.Walking.{Way}
use Rattle.vault_walk.proofs.LevelSteps.{fits_more, past_room, within_room}
use Rattle.vault_walk.proofs.levels.Walk.visit.Goals as goal

pub returns-then-not-has_room-clause-answers : goal.returns-then-not-has_room-clause-answers
returns-then-not-has_room-clause-answers g c = (
  c.in_ok-report.ensures.counts,
  (
    c.in_ok-report.report,
    past_room c.args.self.now c.in_ok-report.report c.len.result (sym c.has_room.ensures ∙ c.if-not-has_room.true) c.len.ensures,
    λ v is.
        subst (λ d. IsReport (format_of c.args.vault.now.vault) (under c.args.vault.now.root v) d c.in_ok-report.report) (ap (λ (w : Way). w.dir) c.way.view_is) (c.in_ok-report.ensures.report v is),
  ),
)

pub returns-clause-visits : goal.returns-clause-visits
returns-clause-visits g c = (
  c.in_ok-report.report,
  c.in_ok-keep.ensures,
  λ v is. subst (λ d. IsReport (format_of c.args.vault.now.vault) (under c.args.vault.now.root v) d c.in_ok-report.report) (ap (λ (w : Way). w.dir) c.way.view_is) (c.in_ok-report.ensures.report v is),
)

pub returns-clause-fits : goal.returns-clause-fits
returns-clause-fits g c =
    let visited = c.in_ok-keep.ensures in
    fits_more c.args.vault.now.vault c.args.way.path c.in_ok-report.report.members.items c.args.self.now visited.between c.args.next.now.items c.keep.new.next.items c.in_ok-report.ensures.fits
    visited.gained

pub returns-clause-size : goal.returns-clause-size
returns-clause-size g c =
    within_room c.args.self.now c.keep.new.self c.args.way c.in_ok-report.report c.args.next.now.items c.keep.new.next.items c.len.result c.in_ok-keep.ensures (sym c.has_room.ensures ∙ c.if-not-has_room.false) c.len.ensures
