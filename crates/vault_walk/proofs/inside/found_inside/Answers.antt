use Rattle.std.proofs.Common.{◌≡◌, sym, ap, ◌∙◌, subst}
use Rattle.folder_spec.specs.Listing.{IsListing}
use Rattle.folder_spec.specs.Seen.{under}
use Rattle.folder_spec.specs.View.{kind_found}
use Rattle.vault_read.specs.Items.{item_of}
use Rattle.vault_read.specs.Opened.{kind_of}
use Rattle.vault_read.specs.declared.vault.VaultKind.TheVariants as kind
use Rattle.vault_spec.specs.Cryptomator.{inner_role}
use Rattle.vault_spec.specs.Vault.{format_of}
use Rattle.vault_walk.specs.Extras.{extras}
use Rattle.vault_walk.specs.Report.{AreInside}
use Rattle.vault_walk.proofs.ExtraEntries.{inside_cm}
use Rattle.vault_walk.proofs.inside.found_inside.Goals as goal

pub entries_of_kind-requires : goal.entries_of_kind-requires
entries_of_kind-requires g c v is =
    subst (λ r. c.args.kind ≡ kind_found (under r v c.args.at.now)) (sym c.root.ensures) (c.requires v is)

pub returns-in_ok-extras-in-Cryptomator-clause-found :
    goal.returns-in_ok-extras-in-Cryptomator-clause-found
returns-in_ok-extras-in-Cryptomator-clause-found g c v is =
    let vault = c.args.vault.now.vault in
    let root = c.args.vault.now.root in
    let w = under root v in
    let at = c.args.at.now in
    let long = c.args.long in
    let item = item_of c.args.item in
    let entries = c.in_ok-entries-in-Cryptomator.entries.items in
    let e : kind_of vault ≡ kind.Cryptomator = sym c.kind.ensures ∙ c.in-Cryptomator.is in
    let listing : IsListing w at entries
    = subst (λ r. IsListing (under r v) at entries) c.root.ensures (c.in_ok-entries-in-Cryptomator.ensures.listing v is) in
    subst (AreInside (format_of vault) w at long item)
    (sym (c.in_ok-extras-in-Cryptomator.ensures w (subst (IsListing w at) (sym c.as_slice.ensures.value) listing) ∙ ap (extras (inner_role long item) w at) c.as_slice.ensures.value))
    (inside_cm vault e w at entries long item listing)
