use Rattle.std.proofs.Common.{◌≡◌, sym, ◌∙◌, subst}
use Rattle.std.specs.Prelude.{Contains, List}
use Rattle.folder_spec.specs.Seen.{IsSeen, under}
use Rattle.vault_read.specs.Opened.{kind_of}
use Rattle.vault_read.specs.declared.vault.VaultKind.TheVariants as kind
use Rattle.vault_spec.specs.Vault.{format_of}
use Rattle.vault_walk.specs.Apart.{AreFoundAt}
use Rattle.vault_walk.specs.declared.apart.Place.{Place}
use Rattle.vault_walk.specs.declared.found.Found.{Found}
use Rattle.vault_walk.proofs.Aparts.{found_at_all, roles_are}
use Rattle.vault_walk.proofs.apart.found_apart.Goals as goal

pub returns-in_ok-found-in-Cryptomator-clause-found :
    goal.returns-in_ok-found-in-Cryptomator-clause-found
returns-in_ok-found-in-Cryptomator-clause-found g c v is reached =
    let vault = c.args.vault.now.vault in
    let w = under c.args.vault.now.root v in
    let e : kind_of vault ≡ kind.Cryptomator = sym c.kind.ensures ∙ c.in-Cryptomator.is in
    let places : List Place = c.in_ok-places-in-Cryptomator.places.items in
    let found : List Found = c.in_ok-found-in-Cryptomator.found.items in
    let roles = roles_are vault e w places (c.in_ok-places-in-Cryptomator.ensures.roles v is) in
    found_at_all vault e w places found (c.in_ok-places-in-Cryptomator.ensures.all v is)
    (subst (λ ps. AreFoundAt (format_of vault) w ps found) c.as_slice.ensures.value
    (c.in_ok-found-in-Cryptomator.ensures.found v (subst (λ t. IsSeen t v) (sym c.in_ok-places-in-Cryptomator.ensures.told) is) reached
    (λ place there. roles place (subst (λ ps. Contains ps place) c.as_slice.ensures.value there))))
