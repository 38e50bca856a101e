use Rattle.std.proofs.Common.{sym, ap, ◌∙◌, subst}
use Rattle.folder_spec.specs.Listing as folder
use Rattle.folder_spec.specs.Path.{Part}
use Rattle.folder_spec.specs.Seen.{IsSeen, under}
use Rattle.folder_spec.specs.View.{kind_found}
use Rattle.vault_spec.specs.Findings.{IsEntryOf}
use Rattle.vault_spec.specs.Vault.{format_of}
use Rattle.vault_walk.specs.Report.{FitMembers}
use Rattle.vault_walk.proofs.report.add_main.Goals as goal

pub add_named-requires : goal.add_named-requires
add_named-requires g c v is =
    let listed = c.requires.listed v (subst (λ t. IsSeen t v) c.in_ok-named.ensures.told is) in
    ap (λ (x : folder.Item). x.kind) c.entry.view_is ∙ sym listed.kind ∙ ap (λ p. kind_found (under c.args.vault.now.root v p)) (sym c.requires.place)

pub returns-in_ok-add_unnamed-in-None-clause-report :
    goal.returns-in_ok-add_unnamed-in-None-clause-report
returns-in_ok-add_unnamed-in-None-clause-report g c v is =
    let w = under c.args.vault.now.root v in
    let name_is = c.as_str.ensures.value ∙ ap (λ (x : folder.Item). x.name) c.entry.view_is in
    c.in_ok-add_unnamed-in-None.ensures.report w c.requires.place (c.requires.listed v is)
    (λ name of. c.in_ok-named.ensures.none c.in-None.is v is name (subst (λ (e : Part). IsEntryOf (format_of c.args.vault.now.vault) w c.args.dir.now e name) (sym name_is) of))

pub returns-in_ok-add_unnamed-in-None-clause-fits :
    goal.returns-in_ok-add_unnamed-in-None-clause-fits
returns-in_ok-add_unnamed-in-None-clause-fits g c fits = subst (FitMembers c.args.vault.now.vault) (sym c.in_ok-add_unnamed-in-None.ensures.members) fits
