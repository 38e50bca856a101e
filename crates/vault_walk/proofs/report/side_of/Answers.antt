use Rattle.std.proofs.Common.{◌≡◌, ◌++◌, true, false, is_some, refl, sym, ap, ◌∙◌, subst}
use Rattle.folder_spec.specs.Listing as folder
use Rattle.folder_spec.specs.Path.{Part, child}
use Rattle.folder_spec.specs.Seen.{IsSeen, under}
use Rattle.folder_spec.specs.View.{kind_found}
use Rattle.folder_spec.specs.declared.Kind.TheVariants as kinds
use Rattle.vault_read.specs.Opened.{kind_of}
use Rattle.vault_read.specs.declared.vault.VaultKind.TheVariants as kinds_of
use Rattle.vault_spec.specs.Findings.{IsEntryOf, IsFullTextOf}
use Rattle.vault_spec.specs.Format.{Directory}
use Rattle.vault_spec.specs.Gocryptfs.{full_name}
use Rattle.vault_spec.specs.Vault.{format_of}
use Rattle.vault_walk.specs.Names.{is_full_by}
use Rattle.vault_walk.specs.Report.{IsSideOf}
use Rattle.vault_walk.proofs.FullNames.{one_entry, is_full_is, full_beside}
use Rattle.vault_walk.proofs.SideNames.{not_true, not_false, side_none, side_orphan, side_right}
use Rattle.vault_walk.proofs.report.side_of.Goals as goal

pub returns-in_default-clause-finding : goal.returns-in_default-clause-finding
returns-in_default-clause-finding g c v is in_folder =
    side_none (format_of c.args.vault.now.vault) (under c.args.vault.now.root v) c.args.dir.now c.args.file.now in_folder
    (λ e. absurd (c.in_default.not-File (ap (λ (x : folder.Item). x.kind) c.file.view_is ∙ e)))

pub returns-in_default-entry_of_full-clause-finding : goal.returns-in_default-entry_of_full-clause-finding
returns-in_default-entry_of_full-clause-finding g c v is in_folder =
    let vault = c.args.vault.now.vault in
    let w = under c.args.vault.now.root v in
    let file : folder.Item = c.args.file.now in
    let name_is = c.as_str.ensures.value ∙ ap (λ (x : folder.Item). x.name) c.file.view_is in
    let none : false ≡ (format_of vault).is_full file.name
    = ap is_some (sym c.in_default-entry_of_full.is) ∙ c.entry_of_full.ensures.full ∙ ap (λ k. is_full_by k c.as_str.result.now) c.kind.ensures ∙ ap (is_full_by (kind_of vault)) name_is ∙ is_full_is vault file.name in
    side_none (format_of vault) w c.args.dir.now file in_folder (λ e. sym none)

pub returns-in_default-2-clause-finding : goal.returns-in_default-2-clause-finding
returns-in_default-2-clause-finding g c v is in_folder =
    let vault = c.args.vault.now.vault in
    let f = format_of vault in
    let w = under c.args.vault.now.root v in
    let dir : Directory = c.args.dir.now in
    let file : folder.Item = c.args.file.now in
    let entry = c.in-Some.entry.now in
    let name_is = c.as_str.ensures.value ∙ ap (λ (x : folder.Item). x.name) c.file.view_is in
    let full : true ≡ f.is_full file.name
    = ap is_some (sym c.in-Some.is) ∙ c.entry_of_full.ensures.full ∙ ap (λ k. is_full_by k c.as_str.result.now) c.kind.ensures ∙ ap (is_full_by (kind_of vault)) name_is ∙ is_full_is vault file.name in
    let its = rw c.in-Some.is at c.entry_of_full.ensures.entry in
    let is_file : file.kind ≡ kinds.File = ap (λ (x : folder.Item). x.kind) (sym c.file.view_is) ∙ c.in-File.is in
    let wrong : (other : Part) → ¬ IsFullTextOf f w dir file.name other
    = λ other right.
    let same = one_entry vault (sym c.kind.ensures ∙ its.0) w dir file.name entry (sym name_is ∙ its.1) other right in
    c.in_ok-named.ensures.none c.in_default-2.is v is right.name (subst (λ e. IsEntryOf f w dir e right.name) same right.of) in
    side_orphan f w dir file in_folder is_file (sym full) wrong

pub returns-then-not-named-clause-finding : goal.returns-then-not-named-clause-finding
returns-then-not-named-clause-finding g c v is in_folder =
    let vault = c.args.vault.now.vault in
    let f = format_of vault in
    let w = under c.args.vault.now.root v in
    let dir : Directory = c.args.dir.now in
    let file : folder.Item = c.args.file.now in
    let entry = c.in-Some.entry.now in
    let name_is = c.as_str.ensures.value ∙ ap (λ (x : folder.Item). x.name) c.file.view_is in
    let full : true ≡ f.is_full file.name
    = ap is_some (sym c.in-Some.is) ∙ c.entry_of_full.ensures.full ∙ ap (λ k. is_full_by k c.as_str.result.now) c.kind.ensures ∙ ap (is_full_by (kind_of vault)) name_is ∙ is_full_is vault file.name in
    let its = rw c.in-Some.is at c.entry_of_full.ensures.entry in
    let is_file : file.kind ≡ kinds.File = ap (λ (x : folder.Item). x.kind) (sym c.file.view_is) ∙ c.in-File.is in
    let one = rw c.in-Some-2.is at c.in_ok-named.ensures.one in
    let long = rw c.in-Some-2.is at c.in_ok-named.ensures.long in
    let short : c.in-Some-2.named.long ≡ false = not_true c.in-Some-2.named.long c.if-not-named.true in
    let wrong : (other : Part) → ¬ IsFullTextOf f w dir file.name other
    = λ other right.
    let same = one_entry vault (sym c.kind.ensures ∙ its.0) w dir file.name entry (sym name_is ∙ its.1) other right in
    let name = one v is right.name (subst (λ e. IsEntryOf f w dir e right.name) same right.of) in
    let clash : true ≡ false = sym right.long ∙ ap (λ n. is_some (f.stored dir.key n).full) name ∙ sym long ∙ short in
    cc clash in
    side_orphan f w dir file in_folder is_file (sym full) wrong

pub returns-clause-finding : goal.returns-clause-finding
returns-clause-finding g c v is in_folder =
    let vault = c.args.vault.now.vault in
    let f = format_of vault in
    let w = under c.args.vault.now.root v in
    let dir : Directory = c.args.dir.now in
    let file : folder.Item = c.args.file.now in
    let entry = c.in-Some.entry.now in
    let name_is = c.as_str.ensures.value ∙ ap (λ (x : folder.Item). x.name) c.file.view_is in
    let full : true ≡ f.is_full file.name
    = ap is_some (sym c.in-Some.is) ∙ c.entry_of_full.ensures.full ∙ ap (λ k. is_full_by k c.as_str.result.now) c.kind.ensures ∙ ap (is_full_by (kind_of vault)) name_is ∙ is_full_is vault file.name in
    let its = rw c.in-Some.is at c.entry_of_full.ensures.entry in
    let kind : kind_of vault ≡ kinds_of.Gocryptfs = sym c.kind.ensures ∙ its.0 in
    let file_is : file.name ≡ full_name entry = sym name_is ∙ its.1 in
    let name_of = rw c.in-Some-2.is at c.in_ok-named.ensures.name in
    let long = rw c.in-Some-2.is at c.in_ok-named.ensures.long in
    let is_long : c.in-Some-2.named.long ≡ true = not_false c.in-Some-2.named.long c.if-not-named.false in
    let right : IsFullTextOf f w dir file.name entry
    = record { name = c.in-Some-2.named.name; of = name_of v is; long = sym long ∙ is_long; beside = full_beside vault kind file.name entry file_is } in
    let at_is : c.in_ok-at.at ≡ child dir.folder entry = c.in_ok-at.ensures ∙ ap (λ (d : Directory). child d.folder entry) c.dir.view_is in
    let there = w (child dir.folder entry) in
    let kind_is : c.in_ok-kind.kind ≡ kind_found there
    = c.in_ok-kind.ensures.kind v (subst (λ t. IsSeen t v) (sym c.in_ok-named.ensures.told) is) ∙ ap (λ r. kind_found (v (r ++ c.in_ok-at.at))) c.root.ensures
    ∙ ap (λ p. kind_found (w p)) at_is in
    subst (IsSideOf f w dir file) (sym (c.idle_by.ensures there kind_is))
    (side_right f w dir file in_folder entry right (sym full) (one_entry vault kind w dir file.name entry file_is) there refl)
