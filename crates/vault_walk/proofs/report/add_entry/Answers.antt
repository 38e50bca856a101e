use Rattle.std.proofs.Common.{◌≡◌, refl, sym, ap, ◌∙◌, subst}
use Rattle.std.proofs.lemmas.Result.{on_ok_weaker}
use Rattle.folder_spec.specs.Listing as folder
use Rattle.folder_spec.specs.Path.{child}
use Rattle.folder_spec.specs.Seen.{IsSeen, under}
use Rattle.vault_spec.specs.Format.{Directory}
use Rattle.vault_spec.specs.Vault.{format_of}
use Rattle.vault_walk.specs.declared.report.Report.{Report}
use Rattle.vault_walk.proofs.SideFindings.{both_added}
use Rattle.vault_walk.proofs.report.add_entry.Goals as goal

pub add_main-requires-clause-place : goal.add_main-requires-clause-place
add_main-requires-clause-place g c =
    c.in_ok-at.ensures ∙ ap (λ (d : Directory). child d.folder c.as_str.result.now) c.dir.view_is
    ∙ ap (child c.args.dir.now.folder) (c.as_str.ensures.value ∙ ap (λ (x : folder.Item). x.name) c.entry.view_is)

pub returns-clause-report : goal.returns-clause-report
returns-clause-report g c =
    let f = format_of c.args.vault.now.vault in
    let root = c.args.vault.now.root in
    let dir : Directory = c.args.dir.now in
    let entry : folder.Item = c.args.entry.now in
    let place : c.in_ok-at.at ≡ child dir.folder entry.name
    = c.in_ok-at.ensures ∙ ap (λ (d : Directory). child d.folder c.as_str.result.now) c.dir.view_is
    ∙ ap (child dir.folder) (c.as_str.ensures.value ∙ ap (λ (x : folder.Item). x.name) c.entry.view_is) in
    let before : Report = c.args.report.now in
    let middle : Report = record { members = c.args.report.now.members; found = c.add_found.new.found } in
    let after : Report = c.add_main.new.report in
    on_ok_weaker c.add_main.result (λ added v is.
    both_added f (under root v) dir entry c.in_ok-at.at place before middle after c.in_ok-side.side
    (c.in_ok-side.ensures.finding v is (c.requires.listed v is)) refl c.in_ok-add_found.ensures
    (added v (subst (λ t. IsSeen t v) (sym c.in_ok-side.ensures.told) is)))
    c.add_main.ensures.report
