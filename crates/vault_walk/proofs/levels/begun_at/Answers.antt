use Rattle.std.proofs.Common.{◌≡◌, ◌∷◌, [], ap, ◌∙◌, subst}
use Rattle.std.specs.Prelude.{Contains}
use Rattle.vault_read.specs.Opened.{FitsKey}
use Rattle.vault_read.specs.Stands.{FitsDirectory}
use Rattle.vault_spec.specs.Standing.{Dir}
use Rattle.vault_walk.specs.Levels.{HasGained}
use Rattle.vault_walk.specs.Walking.{Way}
use Rattle.vault_walk.proofs.Begins.{root_waits}
use Rattle.vault_walk.proofs.Flats.{only_one}
use Rattle.vault_walk.proofs.levels.begun_at.Goals as goal

pub returns-in_ok-wait-in-Ok-clause-walks : goal.returns-in_ok-wait-in-Ok-clause-walks
returns-in_ok-wait-in-Ok-clause-walks c f v root =
    let new = c.new-walk.ensures in
    let way : Way = record { path = c.root.result; dir = c.in-Ok.dir } in
    root_waits f v c.new-walk.result c.wait-in-Ok.new.self c.args.at way c.wait-in-Ok.new.waiting.items new.visits new.items new.found new.targets new.seen c.root.ensures
    (subst (λ next. HasGained c.new-walk.result c.wait-in-Ok.new.self next [] [] (way ∷ []) c.wait-in-Ok.new.waiting.items) c.new-waiting.ensures.items c.in_ok-wait-in-Ok.ensures)
    (root ∙ ap (λ d. Dir c.args.at d) c.in-Ok.is)

pub returns-in_ok-wait-in-Ok-clause-fits : goal.returns-in_ok-wait-in-Ok-clause-fits
returns-in_ok-wait-in-Ok-clause-fits c vault fit way there =
    let first : Way = record { path = c.root.result; dir = c.in-Ok.dir } in
    let later = c.wait-in-Ok.new.waiting.items in
    let gained : HasGained c.new-walk.result c.wait-in-Ok.new.self [] [] [] (first ∷ []) later
    = subst (λ next. HasGained c.new-walk.result c.wait-in-Ok.new.self next [] [] (first ∷ []) later) c.new-waiting.ensures.items c.in_ok-wait-in-Ok.ensures in
    let same : first ≡ way = only_one first way (gained.from way (subst (λ ws. Contains ws way) gained.later_is there)) in
    subst (λ (w : Way). FitsKey vault w.dir.key) same (subst (FitsDirectory vault) c.in-Ok.is fit)
