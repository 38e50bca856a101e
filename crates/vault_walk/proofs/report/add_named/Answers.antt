use Rattle.std.proofs.Common.{◌++◌, ◌∷◌, [], refl, sym, ap, ◌∙◌, subst}
use Rattle.folder_spec.specs.Seen.{IsSeen, under}
use Rattle.vault_read.specs.Items.{item_of}
use Rattle.vault_spec.specs.Vault.{format_of}
use Rattle.vault_walk.specs.Report.{AreInside, found_by, lack_by, leaf_found, leaf_members}
use Rattle.vault_walk.specs.declared.report.What.TheVariants as what
use Rattle.vault_walk.proofs.EntryReports.{lead_fits, leaf_fits, main_directory, main_leaf}
use Rattle.vault_walk.proofs.Finds.{finds_right}
use Rattle.vault_walk.proofs.report.add_named.Goals as goal

pub found_inside-requires : goal.found_inside-requires
found_inside-requires g c v is = c.requires v (subst (λ t. IsSeen t v) c.in_ok-item.ensures.told is)

pub returns-in_ok-add_directory-in-Directory-clause-report :
    goal.returns-in_ok-add_directory-in-Directory-clause-report
returns-in_ok-add_directory-in-Directory-clause-report g c v is dir entry place listed named =
    let vault = c.args.vault.now.vault in
    let w = under c.args.vault.now.root v in
    let at = c.args.at in
    let inside = c.in_ok-found.found.items in
    let lead = c.in_ok-lead-in-Directory.lead in
    let item_is = c.in_ok-item.ensures.item v is (c.requires v is) in
    let seen = subst (λ t. IsSeen t v) (sym c.in_ok-item.ensures.told) is in
    let lead_is = c.in_ok-lead-in-Directory.ensures.lead v (subst (λ t. IsSeen t v) (sym c.in_ok-found.ensures.told) seen) in
    record {
      more = record { members = (record { name = c.args.named.name; at = at; what = what.Dir lead }) ∷ []; found = inside ++ found_by at (lack_by lead) };
      right = main_directory (format_of vault) (finds_right vault) w dir entry.name at c.args.named place named lead inside (sym item_is ∙ ap item_of c.in-Directory.is) lead_is
          (subst (λ i. AreInside (format_of vault) w at c.args.named.long i inside) item_is (c.in_ok-found.ensures.found v seen));
      members = c.in_ok-add_directory-in-Directory.ensures.members;
      found = c.in_ok-add_directory-in-Directory.ensures.found;
    }

pub returns-in_ok-add_directory-in-Directory-clause-fits :
    goal.returns-in_ok-add_directory-in-Directory-clause-fits
returns-in_ok-add_directory-in-Directory-clause-fits g c =
    lead_fits c.args.vault.now.vault c.args.at c.args.named.name c.in_ok-lead-in-Directory.lead c.args.report.now.members.items c.add_directory.new.report.members.items
    c.in_ok-add_directory-in-Directory.ensures.members c.in_ok-lead-in-Directory.ensures.fits

pub returns-in_ok-add_leaf-in_default-clause-report :
    goal.returns-in_ok-add_leaf-in_default-clause-report
returns-in_ok-add_leaf-in_default-clause-report g c v is dir entry place listed named =
    let vault = c.args.vault.now.vault in
    let w = under c.args.vault.now.root v in
    let at = c.args.at in
    let item = c.in_ok-item.item in
    let inside = c.in_ok-found.found.items in
    let item_is = c.in_ok-item.ensures.item v is (c.requires v is) in
    record {
      more = record { members = leaf_members at c.args.named.name item; found = leaf_found at item inside };
      right = main_leaf (format_of vault) (finds_right vault) w dir entry.name at c.args.named place named entry item inside refl listed c.in_default.not-Directory item_is
          (subst (λ i. AreInside (format_of vault) w at c.args.named.long i inside) item_is
          (c.in_ok-found.ensures.found v (subst (λ t. IsSeen t v) (sym c.in_ok-item.ensures.told) is)));
      members = c.in_ok-add_leaf-in_default.ensures.members;
      found = c.in_ok-add_leaf-in_default.ensures.found;
    }

pub returns-in_ok-add_leaf-in_default-clause-fits :
    goal.returns-in_ok-add_leaf-in_default-clause-fits
returns-in_ok-add_leaf-in_default-clause-fits g c =
    leaf_fits c.args.vault.now.vault c.args.at c.args.named.name c.in_ok-item.item c.args.report.now.members.items c.add_leaf.new.report.members.items
    c.in_ok-add_leaf-in_default.ensures.members
