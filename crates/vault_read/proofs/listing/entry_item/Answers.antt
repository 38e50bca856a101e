use Rattle.std.proofs.Common.{◌≡◌, ◌++◌, IfSome, ap, ◌∙◌, sym, subst, subst₂}
use Rattle.folder_spec.specs.Path.{Path, child}
use Rattle.folder_spec.specs.Seen.{IsSeen, under}
use Rattle.vault_spec.specs.Format.{Directory}
use Rattle.vault_spec.specs.Vault.{format_of}
use Rattle.vault_read.specs.Items.{item_of}
use Rattle.vault_read.specs.Listing.{IsItemOf, item_path}
use Rattle.vault_read.proofs.Entries.{found_item, found_place, no_item}
use Rattle.vault_read.proofs.listing.entry_item.Goals as goal

pub returns-clause-item : goal.returns-clause-item
returns-clause-item g c v is =
    let f = format_of c.args.vault.now.vault in
    let w = under c.args.vault.now.root v in
    let dir : Directory = c.args.dir.now in
    let entry = c.args.entry.now in
    let named = c.in-Some.named in
    let of = rw c.in-Some.is at c.in_ok-named.ensures.name in
    let one = rw c.in-Some.is at c.in_ok-named.ensures.one in
    let long = rw c.in-Some.is at c.in_ok-named.ensures.long in
    let at_is : c.in_ok-at.at ≡ child dir.folder entry = c.in_ok-at.ensures ∙ ap (λ (d : Directory). child d.folder entry) c.dir.view_is in
    let item_is : item_of c.in_ok-item.item ≡ f.item named.long (under (child dir.folder entry) w)
    = c.in_ok-item.ensures.item v (subst (λ t. IsSeen t v) (sym c.in_ok-named.ensures.told) is) ∙ ap (λ (p : Path). f.item named.long (under p w)) at_is in
    subst (IsItemOf f w dir entry) (sym c.in_ok-found.ensures.item)
    (found_item c.args.vault.now.vault w dir entry named.long named.name (item_of c.in_ok-item.item) (of v is) (one v is) long item_is)

pub returns-clause-place : goal.returns-clause-place
returns-clause-place g c =
    let f = format_of c.args.vault.now.vault in
    let root = c.args.vault.now.root in
    let dir : Directory = c.args.dir.now in
    let entry = c.args.entry.now in
    let named = c.in-Some.named in
    let of = rw c.in-Some.is at c.in_ok-named.ensures.name in
    let long = rw c.in-Some.is at c.in_ok-named.ensures.long in
    let at_is : c.in_ok-at.at ≡ child dir.folder entry = c.in_ok-at.ensures ∙ ap (λ (d : Directory). child d.folder entry) c.dir.view_is in
    found_place (g.F.Folder.told c.args.folder.now) c.args.vault.now.vault root dir entry named.long named.name (item_of c.in_ok-item.item) c.in_ok-found.found of long
    (λ v is. c.in_ok-item.ensures.item v (subst (λ t. IsSeen t v) (sym c.in_ok-named.ensures.told) is) ∙ ap (λ (p : Path). f.item named.long (under p (under root v))) at_is)
    c.in_ok-found.ensures.item
    (subst₂ (λ r p. IfSome c.in_ok-found.found (λ one. one.at ≡ r ++ item_path p (item_of c.in_ok-item.item))) c.root.ensures at_is c.in_ok-found.ensures.place)

pub returns-in_default-clause-item : goal.returns-in_default-clause-item
returns-in_default-clause-item g c v is =
    no_item c.args.vault.now.vault (under c.args.vault.now.root v) c.args.dir.now c.args.entry.now (c.in_ok-named.ensures.none c.in_default.is v is)
