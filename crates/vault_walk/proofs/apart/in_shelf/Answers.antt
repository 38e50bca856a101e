use Rattle.std.proofs.Common.{sym, ap, ◌∙◌}
use Rattle.folder_spec.specs.Seen.{under}
use Rattle.vault_walk.specs.Names.{role_of}
use Rattle.vault_walk.specs.declared.apart.Place.{Place}
use Rattle.vault_walk.proofs.RolePlaces.{shelf_level}
use Rattle.vault_walk.proofs.apart.in_shelf.Goals as goal

pub returns-in_ok-places-in-Shelf-clause-roles : goal.returns-in_ok-places-in-Shelf-clause-roles
returns-in_ok-places-in-Shelf-clause-roles g c v is role =
    let shelf : Place = c.args.shelf.now in
    c.in_ok-places-in-Shelf.ensures.roles v is (shelf_level shelf.at (under c.args.vault.now.root v shelf.at) (sym role ∙ ap role_of c.in-Shelf.is))
