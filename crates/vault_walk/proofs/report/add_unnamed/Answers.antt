use Rattle.std.proofs.Common.{◌≡◌, ◌&&◌, ◌||◌, true, false, [], Some, sym, ap, ◌∙◌, append-nil}
use Rattle.std.proofs.lemmas.Result.{on_ok_weaker}
use Rattle.folder_spec.specs.Listing as folder
use Rattle.folder_spec.specs.Path.{child}
use Rattle.folder_spec.specs.View.{kind_found}
use Rattle.vault_read.specs.Opened.{kind_of}
use Rattle.vault_spec.specs.Format.{Directory, is_file}
use Rattle.vault_spec.specs.Vault.{format_of}
use Rattle.vault_walk.specs.Names.{is_fixed_by, is_full_by, unnamed_by}
use Rattle.vault_walk.specs.Report.{found_by}
use Rattle.vault_walk.proofs.Finds.{finds_right}
use Rattle.vault_walk.proofs.UnnamedEntries.{belongs_if, belongs_only_if, listed_stands, main_belongs, main_stray, unnamed_is}
use Rattle.vault_walk.proofs.report.add_unnamed.Goals as goal

pub returns-then-belongs-clause-report : goal.returns-then-belongs-clause-report
returns-then-belongs-clause-report c w place listed none =
    let vault = c.args.vault.now.vault in
    let dir : Directory = c.args.dir.now in
    let entry : folder.Item = c.args.entry.now in
    let there = w (child dir.folder entry.name) in
    let name_is = c.as_str-name.ensures.value ∙ ap (λ (x : folder.Item). x.name) c.entry.view_is in
    let kind_is : c.entry.inside.kind ≡ kind_found there = ap (λ (x : folder.Item). x.kind) c.entry.view_is ∙ sym listed.kind in
    let test : (is_file there && (is_fixed_by (kind_of vault) dir.folder entry.name || is_full_by (kind_of vault) entry.name)) ≡ true
    = ap (λ k. is_file there && (is_fixed_by k dir.folder entry.name || is_full_by k entry.name)) (sym c.kind-kind.ensures)
    ∙ ap (λ n. is_file there && (is_fixed_by c.kind-kind.result dir.folder n || is_full_by c.kind-kind.result n)) (sym name_is)
    ∙ ap (λ (d : Directory). is_file there && (is_fixed_by c.kind-kind.result d.folder c.as_str-name.result.now || is_full_by c.kind-kind.result c.as_str-name.result.now)) (sym c.dir.view_is)
    ∙ sym (c.belongs.ensures there kind_is) ∙ c.if-belongs.true in
    record {
      more = record { members = []; found = [] };
      right = main_belongs (format_of vault) (finds_right vault) w dir entry.name none (listed_stands w dir entry listed) (belongs_if vault w dir entry.name test);
      members = sym (append-nil c.args.report.now.members.items);
      found = sym (append-nil c.args.report.now.found.items);
    }

pub returns-clause-report : goal.returns-clause-report
returns-clause-report c =
    on_ok_weaker c.add_found.result (λ added w place listed none.
    let vault = c.args.vault.now.vault in
    let dir : Directory = c.args.dir.now in
    let entry : folder.Item = c.args.entry.now in
    let there = w (child dir.folder entry.name) in
    let name_is = c.as_str-name.ensures.value ∙ ap (λ (x : folder.Item). x.name) c.entry.view_is in
    let kind_is : c.entry.inside.kind ≡ kind_found there = ap (λ (x : folder.Item). x.kind) c.entry.view_is ∙ sym listed.kind in
    let test : (is_file there && (is_fixed_by (kind_of vault) dir.folder entry.name || is_full_by (kind_of vault) entry.name)) ≡ false
    = ap (λ k. is_file there && (is_fixed_by k dir.folder entry.name || is_full_by k entry.name)) (sym c.kind-kind.ensures)
    ∙ ap (λ n. is_file there && (is_fixed_by c.kind-kind.result dir.folder n || is_full_by c.kind-kind.result n)) (sym name_is)
    ∙ ap (λ (d : Directory). is_file there && (is_fixed_by c.kind-kind.result d.folder c.as_str-name.result.now || is_full_by c.kind-kind.result c.as_str-name.result.now)) (sym c.dir.view_is)
    ∙ sym (c.belongs.ensures there kind_is) ∙ c.if-belongs.false in
    let finding_is : c.unnamed-finding.result ≡ (format_of vault).unnamed entry.name there
    = c.unnamed-finding.ensures there kind_is ∙ ap (λ k. unnamed_by k c.as_str-name.result.now there) c.kind-kind.ensures ∙ ap (λ n. unnamed_by (kind_of vault) n there) name_is
    ∙ unnamed_is vault entry.name there in
    record {
      more = record { members = []; found = found_by c.args.at.now (Some c.unnamed-finding.result) };
      right = main_stray (format_of vault) (finds_right vault) w dir entry.name none (listed_stands w dir entry listed) c.args.at.now c.unnamed-finding.result place
          (belongs_only_if vault w dir entry.name test) finding_is;
      members = sym (append-nil c.args.report.now.members.items);
      found = added;
    })
    c.add_found.ensures
