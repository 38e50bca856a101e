use Rattle.std.proofs.Common.{◌∷◌, [], ◌++◌, sym, ap, ◌∙◌, subst, take, arith}
use Rattle.std.specs.Prelude.{Contains}
use Rattle.std.proofs.lemmas.List.{take_more}
use Rattle.std.proofs.lemmas.List.Elements.{Contains-get_or}
use Rattle.folder_spec.specs.Listing.{Item}
use Rattle.folder_spec.specs.Seen.{IsSeen, under}
use Rattle.vault_spec.specs.Vault.{format_of}
use Rattle.vault_walk.specs.Report.{HasAdded, HasReported, IsReportOf}
use Rattle.vault_walk.specs.declared.report.Report.{Report}
use Rattle.vault_walk.proofs.DirectoryReports.{one_more_reported}
use Rattle.vault_walk.proofs.report.reports_of.Goals as goal

pub add_entry-requires-clause-listed : goal.add_entry-requires-clause-listed
add_entry-requires-clause-listed g c v is =
    let entries = c.args.entries.now in
    let e : Item = c.entry-item.result in
    c.requires.listed v (subst (λ t. IsSeen t v) c.loop-entry.invariant.told is) e
    (subst (Contains entries) (sym c.entry-item.is) (Contains-get_or entries c.loop-entry.entry-index e c.loop-entry-test.true))

pub loop-entry-preserved : goal.loop-entry-preserved
loop-entry-preserved g c =
    let vault = c.args.vault.now.vault in
    let f = format_of vault in
    let dir = c.args.dir.now in
    let entries = c.args.entries.now in
    let i = c.loop-entry.entry-index in
    let e : Item = c.entry-item.result in
    let before : Report = c.loop-entry.report in
    let after : Report = c.add_entry.new.report in
    let counts = c.in_ok-add_entry.ensures.counts in
    record {
      told = c.in_ok-add_entry.ensures.told ∙ c.loop-entry.invariant.told;
      grows = omega (arith, c.loop-entry.invariant.grows, counts);
      fits = c.in_ok-add_entry.ensures.fits c.loop-entry.invariant.fits;
      reported = λ v is.
          let w = under c.args.vault.now.root v in
          let added : HasAdded (IsReportOf f w dir e.name) before after = c.in_ok-add_entry.ensures.report v (subst (λ t. IsSeen t v) (sym c.loop-entry.invariant.told) is) in
          subst (λ es. HasReported f w dir es after)
          (sym (take_more entries i e c.loop-entry-test.true ∙ ap (λ x. take i entries ++ x ∷ []) (sym c.entry-item.is)))
          (one_more_reported f w dir (take i entries) e before added.more after (c.loop-entry.invariant.reported v is) added.right added.members added.found);
    }
