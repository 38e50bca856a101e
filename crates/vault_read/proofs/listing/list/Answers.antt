use Rattle.std.proofs.Common.{sym, subst}
use Rattle.folder_spec.specs.Seen.{IsSeen, under}
use Rattle.vault_spec.specs.Listing.{AreListed}
use Rattle.vault_spec.specs.Vault.{format_of}
use Rattle.vault_read.proofs.Gathering.{folder_stands}
use Rattle.vault_read.proofs.listing.list.Goals as goal

pub found_in-requires-clause-folder : goal.found_in-requires-clause-folder
found_in-requires-clause-folder g c v is =
    folder_stands (format_of c.args.vault.now.vault) (under c.args.vault.now.root v) c.args.path.now c.in_ok-entered.entered.at c.in_ok-entered.entered.dir
    (c.in_ok-entered.ensures.stands v (subst (λ t. IsSeen t v) c.in_ok-entered.ensures.looks.told is))

pub returns-clause-items : goal.returns-clause-items
returns-clause-items g c v is =
    let f = format_of c.args.vault.now.vault in
    let w = under c.args.vault.now.root v in
    let dir = c.in_ok-entered.entered.dir in (
      dir,
      (c.what_is_found_stands.ensures.enters f w c.args.path.now dir).1 (record { at = c.in_ok-entered.entered.at; stands = c.in_ok-entered.ensures.stands v is }),
      subst (AreListed f w dir) (sym c.in_ok-items.ensures) (c.in_ok-found.ensures.items v (subst (λ t. IsSeen t v) (sym c.in_ok-entered.ensures.looks.told) is)).listed,
    )
