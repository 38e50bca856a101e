use Rattle.std.proofs.Common.{◌∷◌, [], ◌++◌, sym, ap, ◌∙◌, subst, take, arith, ◌+◌}
use Rattle.std.specs.Prelude.{Contains, List}
use Rattle.std.proofs.lemmas.List.{take_more, take_all}
use Rattle.std.proofs.lemmas.List.Elements.{Contains-get_or}
use Rattle.folder_spec.specs.Seen.{IsSeen, under}
use Rattle.vault_walk.specs.Apart.{HaveRoles, HoldInShelves}
use Rattle.vault_walk.specs.declared.apart.Place.{Place}
use Rattle.vault_walk.proofs.RolePlaces.{both_roles, more_shelves}
use Rattle.vault_walk.proofs.apart.in_shelves.Goals as goal

pub loop-shelf-preserved : goal.loop-shelf-preserved
loop-shelf-preserved g c =
    let tops : List Place = c.args.tops.now in
    let i = c.loop-shelf.shelf-index in
    let shelf : Place = c.shelf-item.result in
    let places : List Place = c.loop-shelf.places.items in
    let more : List Place = c.in_ok-more.more.items in
    let counts = c.in_ok-more.ensures.counts in
    record {
      told = c.in_ok-more.ensures.told ∙ c.loop-shelf.invariant.told;
      grows = omega (arith, c.loop-shelf.invariant.grows, counts);
      roles = λ v is roles.
          let w = under c.args.vault.now.root v in
          let among : Contains tops shelf = subst (Contains tops) (sym c.shelf-item.is) (Contains-get_or tops i shelf c.loop-shelf-test.true) in
          subst (HaveRoles w) (sym c.in_ok-append.ensures.items)
          (both_roles w places more (c.loop-shelf.invariant.roles v is roles) (c.in_ok-more.ensures.roles v (subst (λ t. IsSeen t v) (sym c.loop-shelf.invariant.told) is) (roles shelf among)));
      all = λ v is.
          let w = under c.args.vault.now.root v in
          subst (HoldInShelves w (take (i + 1) tops)) (sym c.in_ok-append.ensures.items)
          (subst (λ ss. HoldInShelves w ss (places ++ more)) (sym (take_more tops i shelf c.loop-shelf-test.true ∙ ap (λ x. take i tops ++ x ∷ []) (sym c.shelf-item.is)))
          (more_shelves w (take i tops) shelf places more (c.loop-shelf.invariant.all v is) (c.in_ok-more.ensures.all v (subst (λ t. IsSeen t v) (sym c.loop-shelf.invariant.told) is))));
    }

pub returns-clause-all : goal.returns-clause-all
returns-clause-all g c v is =
    subst (λ ss. HoldInShelves (under c.args.vault.now.root v) ss c.loop-shelf.places.items)
    (take_all c.loop-shelf.shelf-index c.args.tops.now c.loop-shelf-test.false) (c.loop-shelf.invariant.all v is)
