use Rattle.std.proofs.Common.{sym, subst}
use Rattle.folder_spec.specs.Listing.{IsListing}
use Rattle.folder_spec.specs.Seen.{under}
use Rattle.vault_walk.proofs.apart.places_in.Goals as goal

pub returns-clause-roles : goal.returns-clause-roles
returns-clause-roles g c v is level =
    c.in_ok-places.ensures.roles (under c.args.vault.now.root v)
    (subst (IsListing (under c.args.vault.now.root v) c.args.at.now) (sym c.as_slice.ensures.value)
    (subst (λ r. IsListing (under r v) c.args.at.now c.in_ok-entries.entries.items) c.root.ensures (c.in_ok-entries.ensures.listing v is)))
    level

pub returns-clause-all : goal.returns-clause-all
returns-clause-all g c v is =
    c.in_ok-places.ensures.all (under c.args.vault.now.root v)
    (subst (IsListing (under c.args.vault.now.root v) c.args.at.now) (sym c.as_slice.ensures.value)
    (subst (λ r. IsListing (under r v) c.args.at.now c.in_ok-entries.entries.items) c.root.ensures (c.in_ok-entries.ensures.listing v is)))
