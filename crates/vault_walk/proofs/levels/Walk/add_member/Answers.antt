use Rattle.std.proofs.Common.{◌∷◌, [], ◌++◌, OnOk, sym, subst}
use Rattle.plain_tree.specs.Names as plain
use Rattle.vault_spec.specs.Plan.{Planned}
use Rattle.vault_walk.specs.Levels.{kind_by, targets_of, targets_to, ways_of, ways_to, HasGained}
use Rattle.vault_walk.specs.declared.report.What.{What}
use Rattle.vault_walk.specs.declared.report.What.TheVariants as what
use Rattle.vault_walk.proofs.Gains.{gained_item, on_more}
use Rattle.vault_walk.proofs.levels.Walk.add_member.Goals as goal

pub returns : goal.returns
returns c =
    let self = c.args.self.now in
    let after = c.add_item-in-Dir.new.self in
    let next = c.args.next.now.items in
    let later = c.add_lead.new.next.items in
    let at = c.args.member.at in
    let path : plain.Path = c.args.path.now ++ c.args.member.name ∷ [] in
    let lead = c.in-Dir.lead in
    let item : Planned = record { path = path; node = kind_by (what.Dir lead); at = at } in
    subst (λ (w : What). OnOk c.add_item-in-Dir.result (HasGained self after next ((record { path = path; node = kind_by w; at = at }) ∷ []) (targets_of at w) (ways_of path w) later)) (sym c.in-Dir.is)
    (on_more c.add_item-in-Dir.result
    (λ last. gained_item self c.add_lead.new.self after next later item (targets_to at lead) (ways_to path lead)
    (subst (λ p. HasGained self c.add_lead.new.self next [] (targets_to at lead) (ways_to p lead) later) c.in_ok-path.ensures c.in_ok-add_lead-in-Dir.ensures) last)
    (subst (λ p. OnOk c.add_item-in-Dir.result (HasGained c.add_lead.new.self after later ((record { path = p; node = kind_by (what.Dir lead); at = at }) ∷ []) [] [] later)) c.in_ok-path.ensures (c.add_item-in-Dir.ensures later)))
