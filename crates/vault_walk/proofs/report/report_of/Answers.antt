use Rattle.std.proofs.Common.{sym, ap, subst}
use Rattle.std.specs.Prelude.{Contains, List}
use Rattle.folder_spec.specs.Listing.{Item, IsListing}
use Rattle.folder_spec.specs.Seen.{IsSeen, under}
use Rattle.vault_spec.specs.Format.{Directory}
use Rattle.vault_spec.specs.Vault.{format_of}
use Rattle.vault_walk.specs.Report.{HasReported}
use Rattle.vault_walk.proofs.DirectoryReports.{all_reported, listed_in}
use Rattle.vault_walk.proofs.Finds.{finds_right}
use Rattle.vault_walk.proofs.report.report_of.Goals as goal

pub reports_of-requires-clause-listed : goal.reports_of-requires-clause-listed
reports_of-requires-clause-listed g c v is entry there =
    let vault = c.args.vault.now.vault in
    let w = under c.args.vault.now.root v in
    let dir : Directory = c.args.dir.now in
    let entries : List Item = c.in_ok-entries.entries.items in
    let listing : IsListing w dir.folder entries
    = subst (λ p. IsListing w p entries) (ap (λ (d : Directory). d.folder) c.dir.view_is)
    (subst (λ r. IsListing (under r v) c.dir.inside.folder entries) c.root.ensures (c.in_ok-entries.ensures.listing v (subst (λ t. IsSeen t v) c.in_ok-entries.ensures.told is))) in
    listed_in (format_of vault) (finds_right vault) w dir entries listing entry (subst (λ es. Contains es entry) c.as_slice.ensures.value there)

pub returns-clause-report : goal.returns-clause-report
returns-clause-report g c v is =
    let vault = c.args.vault.now.vault in
    let f = format_of vault in
    let w = under c.args.vault.now.root v in
    let dir : Directory = c.args.dir.now in
    let entries : List Item = c.in_ok-entries.entries.items in
    let report = c.in_ok-report.report in
    let listing : IsListing w dir.folder entries
    = subst (λ p. IsListing w p entries) (ap (λ (d : Directory). d.folder) c.dir.view_is)
    (subst (λ r. IsListing (under r v) c.dir.inside.folder entries) c.root.ensures (c.in_ok-entries.ensures.listing v is)) in
    let has : HasReported f w dir entries report
    = subst (λ es. HasReported f w dir es report) c.as_slice.ensures.value (c.in_ok-report.ensures.report v (subst (λ t. IsSeen t v) (sym c.in_ok-entries.ensures.told) is)) in
    all_reported f (finds_right vault) w dir entries listing report has
