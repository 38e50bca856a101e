use Rattle.std.proofs.Common.{◌≡◌, List, false, true, sym, ap, ◌∙◌, subst}
use Rattle.std.specs.List.{list_any}
use Rattle.folder_spec.specs.Listing.{Item, IsListing}
use Rattle.folder_spec.specs.Seen.{under}
use Rattle.vault_read.specs.Opened.{kind_of}
use Rattle.vault_spec.specs.Vault.{format_of}
use Rattle.vault_spec.specs.declared.Finding.{Finding}
use Rattle.vault_walk.specs.Apart.{IsApartOf, is_more, shelf_by}
use Rattle.vault_walk.specs.Names.{role_of}
use Rattle.std.proofs.Common.{Some}
use Rattle.vault_walk.proofs.Aparts.{apart_loose, apart_reached, apart_shelf}
use Rattle.vault_walk.proofs.apart.finding_at.Goals as goal

pub returns-then-contains-clause-finding : goal.returns-then-contains-clause-finding
returns-then-contains-clause-finding g c v is reached role =
    apart_reached (format_of c.args.vault.now.vault) (under c.args.vault.now.root v) c.args.at.now (sym role ∙ ap role_of c.in-ContentFolder.is)
    ((reached c.args.at.now).0 (sym c.contains.ensures ∙ c.if-contains.true))

pub returns-in_ok-entries-in-Shelf-clause-finding :
    goal.returns-in_ok-entries-in-Shelf-clause-finding
returns-in_ok-entries-in-Shelf-clause-finding g c v is reached role =
    let f = format_of c.args.vault.now.vault in
    let w = under c.args.vault.now.root v in
    let at = c.args.at.now in
    let entries : List Item = c.in_ok-entries-in-Shelf.entries.items in
    let listing : IsListing w at entries = subst (λ r. IsListing (under r v) at entries) c.root.ensures (c.in_ok-entries-in-Shelf.ensures.listing v is) in
    subst (IsApartOf f w at) (sym (c.shelf_finding.ensures ∙ ap shelf_by c.as_slice.ensures.value)) (apart_shelf f w at entries listing (sym role ∙ ap role_of c.in-Shelf.is))

pub returns-in_ok-entries-in-ContentFolder-clause-finding :
    goal.returns-in_ok-entries-in-ContentFolder-clause-finding
returns-in_ok-entries-in-ContentFolder-clause-finding g c v is reached role =
    let vault = c.args.vault.now.vault in
    let f = format_of vault in
    let w = under c.args.vault.now.root v in
    let at = c.args.at.now in
    let entries : List Item = c.in_ok-entries-in-ContentFolder.entries.items in
    let listing : IsListing w at entries = subst (λ r. IsListing (under r v) at entries) c.root-in-ContentFolder.ensures (c.in_ok-entries-in-ContentFolder.ensures.listing v is) in
    let more_is : c.holds_more-more.result ≡ list_any (is_more (kind_of vault) at) entries
    = c.holds_more-more.ensures ∙ ap (λ k. list_any (is_more k at) c.as_slice-in-ContentFolder.result.now) c.kind.ensures ∙ ap (list_any (is_more (kind_of vault) at)) c.as_slice-in-ContentFolder.ensures.value in
    subst (λ (k : Finding). IsApartOf f w at (Some k)) (sym c.loose_finding.ensures)
    (apart_loose vault w at entries listing (sym role ∙ ap role_of c.in-ContentFolder.is)
    (λ there. let clash : false ≡ true = sym c.if-contains.false ∙ c.contains.ensures ∙ (reached at).1 there in cc clash)
    c.holds_more-more.result more_is)
