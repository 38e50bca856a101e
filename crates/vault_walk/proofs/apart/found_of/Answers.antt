use Rattle.std.proofs.Common.{◌∷◌, [], ◌++◌, ◌+◌, Option, sym, ap, ◌∙◌, subst, take, arith}
use Rattle.std.specs.Prelude.{Contains, List}
use Rattle.std.proofs.lemmas.List.{take_more, take_all}
use Rattle.std.proofs.lemmas.List.Elements.{Contains-get_or}
use Rattle.folder_spec.specs.Seen.{IsSeen, under}
use Rattle.vault_spec.specs.Vault.{format_of}
use Rattle.vault_spec.specs.declared.Finding.{Finding}
use Rattle.vault_walk.specs.Apart.{AreFoundAt, IsApartOf}
use Rattle.vault_walk.specs.Report.{found_by}
use Rattle.vault_walk.specs.declared.apart.Place.{Place}
use Rattle.vault_walk.specs.declared.found.Found.{Found}
use Rattle.vault_walk.proofs.Aparts.{more_at_places}
use Rattle.vault_walk.proofs.apart.found_of.Goals as goal

pub loop-place-preserved : goal.loop-place-preserved
loop-place-preserved g c =
    let f = format_of c.args.vault.now.vault in
    let places : List Place = c.args.places.now in
    let i = c.loop-place.place-index in
    let place : Place = c.place-item.result in
    let found : List Found = c.loop-place.found.items in
    let finding : Option Finding = c.in_ok-finding.finding in
    let counts = c.in_ok-finding.ensures.counts in
    record {
      told = c.in_ok-finding.ensures.told ∙ c.loop-place.invariant.told;
      grows = omega (arith, c.loop-place.invariant.grows, counts);
      found = λ v is reached roles.
          let w = under c.args.vault.now.root v in
          let among : Contains places place = subst (Contains places) (sym c.place-item.is) (Contains-get_or places i place c.loop-place-test.true) in
          let its : IsApartOf f w place.at finding
          = c.in_ok-finding.ensures.finding v (subst (λ t. IsSeen t v) (sym c.loop-place.invariant.told) is) reached (roles place among) in
          subst (AreFoundAt f w (take (i + 1) places)) (sym c.in_ok-add_found.ensures)
          (subst (λ ps. AreFoundAt f w ps (found ++ found_by place.at finding)) (sym (take_more places i place c.loop-place-test.true ∙ ap (λ x. take i places ++ x ∷ []) (sym c.place-item.is)))
          (more_at_places f w (take i places) place found finding (c.loop-place.invariant.found v is reached roles) its));
    }

pub returns-clause-found : goal.returns-clause-found
returns-clause-found g c v is reached roles =
    subst (λ ps. AreFoundAt (format_of c.args.vault.now.vault) (under c.args.vault.now.root v) ps c.loop-place.found.items)
    (take_all c.loop-place.place-index c.args.places.now c.loop-place-test.false) (c.loop-place.invariant.found v is reached roles)
