use Rattle.std.proofs.Common.{◌∷◌, [], OnOk, sym, subst}
use Rattle.vault_spec.specs.Format.{Directory}
use Rattle.vault_walk.specs.Levels.{target_at, targets_to, ways_to, HasGained}
use Rattle.vault_walk.specs.Walking.{Way}
use Rattle.vault_walk.proofs.Gains.{gained_more, on_more}
use Rattle.vault_walk.proofs.levels.Walk.add_lead.Goals as goal

pub returns-in_ok-add_target-in-To : goal.returns-in_ok-add_target-in-To
returns-in_ok-add_target-in-To c =
    let dir : Directory = c.in-To.dir in
    let next = c.args.next.now.items in
    let later = c.wait.new.waiting.items in
    let way : Way = record { path = c.args.path.now; dir = dir } in
    subst (λ l. OnOk c.wait.result (HasGained c.args.self.now c.wait.new.self next [] (targets_to c.args.at.now l) (ways_to c.args.path.now l) later)) (sym c.in-To.is)
    (on_more c.wait.result
    (gained_more c.args.self.now c.add_target-in-To.new.self c.wait.new.self next next later [] [] (target_at c.args.at.now dir ∷ []) [] [] (way ∷ []) (c.in_ok-add_target-in-To.ensures next))
    c.wait.ensures)
