use Rattle.std.proofs.Common.{◌≡◌, ◌∷◌, [], ◌++◌, Bool, true, false, Option, refl, sym, ap, ◌∙◌, take}
use Rattle.std.specs.Bool.{then_some}
use Rattle.std.specs.List.{flat_map}
use Rattle.std.proofs.lemmas.List.{flat_map_more, take_all, take_more}
use Rattle.folder_spec.specs.Path.{Path}
use Rattle.vault_spec.specs.declared.Finding.{Finding}
use Rattle.vault_spec.specs.declared.Finding.TheVariants.{DirIdTwice}
use Rattle.vault_walk.specs.Apart.{shared_at, shared_in}
use Rattle.vault_walk.specs.Report.{found_by}
use Rattle.vault_walk.specs.declared.twice.Target.{Target}
use Rattle.vault_walk.proofs.twice.shared.Goals as goal

found_if : (shares : Bool) (at : Path) → found_by at (then_some shares DirIdTwice) ≡ shared_at shares at
found_if true at = refl
found_if false at = refl

pub loop-target-preserved : goal.loop-target-preserved
loop-target-preserved c =
    let targets = c.args.targets.now in
    let i = c.loop-target.target-index in
    let t : Target = c.target-item.result in
    let again = c.args.again.now in
    let found = c.loop-target.found.items in
    c.in_ok-add_found.ensures
    ∙ ap (λ (o : Option Finding). found ++ found_by t.at o) c.then_some-twice.ensures
    ∙ ap (λ xs. found ++ xs) (found_if c.contains.result t.at)
    ∙ ap (λ b. found ++ shared_at b t.at) c.contains.ensures
    ∙ ap (λ xs. xs ++ shared_in again t) c.loop-target.invariant
    ∙ flat_map_more (shared_in again) [] (take i targets) t
    ∙ ap (flat_map (shared_in again)) (sym (take_more targets i t c.loop-target-test.true ∙ ap (λ x. take i targets ++ x ∷ []) (sym c.target-item.is)))

pub returns : goal.returns
returns c = c.loop-target.invariant ∙ ap (flat_map (shared_in c.args.again.now)) (take_all c.loop-target.target-index c.args.targets.now c.loop-target-test.false)
