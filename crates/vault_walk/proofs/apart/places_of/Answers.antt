use Rattle.std.proofs.Common.{◌≡◌, ◌∷◌, [], ◌++◌, sym, ap, ◌∙◌, subst}
use Rattle.std.specs.Prelude.{List}
use Rattle.folder_spec.specs.Path.{Path, child}
use Rattle.folder_spec.specs.Seen.{IsSeen, under}
use Rattle.vault_spec.specs.Cryptomator.{top}
use Rattle.vault_walk.specs.Apart.{HaveRoles, HoldAll, HoldInShelves, HoldRoles, IsLevelAt}
use Rattle.vault_walk.specs.declared.apart.Level.TheVariants as level
use Rattle.vault_walk.specs.declared.apart.Place.{Place}
use Rattle.vault_walk.proofs.Folders.{folders_under, seen_folders}
use Rattle.vault_walk.proofs.RolePlaces.{all_roles, both_roles}
use Rattle.vault_walk.proofs.apart.places_of.Goals as goal

pub returns-clause-roles : goal.returns-clause-roles
returns-clause-roles g c v is =
    let w = under c.args.vault.now.root v in
    let roots : List Place = c.in_ok-places.places.items in
    let tops : List Place = c.in_ok-tops.tops.items in
    let shelved : List Place = c.in_ok-shelved.shelved.items in
    let seen = subst (λ t. IsSeen t v) (sym c.in_ok-places.ensures.told) is in
    let later = subst (λ t. IsSeen t v) (sym c.in_ok-tops.ensures.told) seen in
    let root_is : IsLevelAt level.Root c.base-root.result = c.base-root.ensures in
    let top_is : IsLevelAt level.Top c.in_ok-top.top = c.in_ok-top.ensures ∙ ap (λ (p : Path). child p top) c.base-root.ensures in
    let tops_roles : HaveRoles w tops = c.in_ok-tops.ensures.roles v seen top_is in
    subst (HaveRoles w) (sym (c.in_ok-append-2.ensures.items ∙ ap (λ ps. ps ++ shelved) c.in_ok-append.ensures.items))
    (both_roles w (roots ++ tops) shelved (both_roles w roots tops (c.in_ok-places.ensures.roles v is root_is) tops_roles)
    (c.in_ok-shelved.ensures.roles v later (subst (HaveRoles w) (sym c.as_slice.ensures.value) tops_roles)))

pub returns-clause-all : goal.returns-clause-all
returns-clause-all g c v is =
    let w = under c.args.vault.now.root v in
    let roots : List Place = c.in_ok-places.places.items in
    let tops : List Place = c.in_ok-tops.tops.items in
    let shelved : List Place = c.in_ok-shelved.shelved.items in
    let seen = subst (λ t. IsSeen t v) (sym c.in_ok-places.ensures.told) is in
    let later = subst (λ t. IsSeen t v) (sym c.in_ok-tops.ensures.told) seen in
    let top_is : c.in_ok-top.top ≡ top ∷ [] = c.in_ok-top.ensures ∙ ap (λ (p : Path). child p top) c.base-root.ensures in
    let in_root : HoldAll w [] roots = subst (λ p. HoldAll w p roots) c.base-root.ensures (c.in_ok-places.ensures.all v is) in
    let in_top : HoldAll w (top ∷ []) tops = subst (λ p. HoldAll w p tops) top_is (c.in_ok-tops.ensures.all v seen) in
    let in_shelves : HoldInShelves w tops shelved = subst (λ ts. HoldInShelves w ts shelved) c.as_slice.ensures.value (c.in_ok-shelved.ensures.all v later) in
    let folders = folders_under c.args.vault.now.root v (seen_folders (g.F.Folder.told c.args.folder.now) (g.met.F.Folder.sound c.args.folder.now) v is) in
    subst (HoldRoles w) (sym (c.in_ok-append-2.ensures.items ∙ ap (λ ps. ps ++ shelved) c.in_ok-append.ensures.items))
    (all_roles w folders roots tops shelved (c.in_ok-tops.ensures.roles v seen top_is) in_root in_top in_shelves)
