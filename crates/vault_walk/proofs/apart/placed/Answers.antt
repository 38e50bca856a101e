use Rattle.std.proofs.Common.{◌≡◌, ◌∷◌, [], ◌++◌, sym, ap, ◌∙◌, subst, take}
use Rattle.std.specs.Prelude.{Contains, List}
use Rattle.std.proofs.lemmas.List.{take_more, take_all}
use Rattle.std.proofs.lemmas.List.Elements.{Contains-get_or}
use Rattle.folder_spec.specs.Listing.{Item}
use Rattle.folder_spec.specs.Path.{child}
use Rattle.vault_spec.specs.Cryptomator.{cm_role}
use Rattle.vault_walk.specs.Apart.{HaveRoles, IsPlaced}
use Rattle.vault_walk.specs.Names.{role_of}
use Rattle.vault_walk.specs.declared.apart.Place.{Place}
use Rattle.vault_walk.proofs.ExtraEntries.{listed_kind}
use Rattle.vault_walk.proofs.RolePlaces.{one_role_more, placed_all, placed_more}
use Rattle.vault_walk.proofs.apart.placed.Goals as goal

pub loop-entry-preserved : goal.loop-entry-preserved
loop-entry-preserved c =
    let entries = c.args.entries.now in
    let at = c.args.at.now in
    let i = c.loop-entry.entry-index in
    let e : Item = c.entry-item.result in
    let place : Place = c.in_ok-place.place in
    let places : List Place = c.loop-entry.places.items in
    record {
      roles = λ v listing level.
          let among : Contains entries e = subst (Contains entries) (sym c.entry-item.is) (Contains-get_or entries i e c.loop-entry-test.true) in
          let its : role_of place.role ≡ cm_role (child at e.name) (v (child at e.name))
          = c.in_ok-place.ensures.role (v (child at e.name)) (listed_kind v at entries listing e among) level in
          subst (HaveRoles v) (sym c.in_ok-push.ensures.items)
          (one_role_more v places place (c.loop-entry.invariant.roles v listing level) (its ∙ ap (λ p. cm_role p (v p)) (sym c.in_ok-place.ensures.at)));
      all = λ entry there.
          subst (λ ps. IsPlaced ps (child at entry.name)) (sym c.in_ok-push.ensures.items)
          (placed_more places place (take i entries) e at c.loop-entry.invariant.all c.in_ok-place.ensures.at entry
          (subst (λ es. Contains es entry) (take_more entries i e c.loop-entry-test.true ∙ ap (λ x. take i entries ++ x ∷ []) (sym c.entry-item.is)) there));
    }

pub returns-clause-all : goal.returns-clause-all
returns-clause-all c v listing =
    placed_all v c.args.at.now c.args.entries.now c.loop-entry.places.items listing
    (λ entry there. c.loop-entry.invariant.all entry (subst (λ es. Contains es entry) (sym (take_all c.loop-entry.entry-index c.args.entries.now c.loop-entry-test.false)) there))
