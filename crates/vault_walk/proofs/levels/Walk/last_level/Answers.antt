use Rattle.std.proofs.Common.{[], ℕ, sym, ◌∙◌, subst, arith, ⊎_elim}
use Rattle.std.specs.Prelude.{Contains}
use Rattle.std.proofs.lemmas.List.Elements.{Contains-push_cases}
use Rattle.std.proofs.lemmas.Result.{err_from_is_err_and}
use Rattle.folder_spec.specs.Seen.{IsSeen, under}
use Rattle.vault_spec.specs.Vault.{format_of}
use Rattle.vault_walk.specs.Levels.{IsAtLevel}
use Rattle.vault_walk.specs.Survey.{depth_limit}
use Rattle.vault_walk.specs.Walking.{Way, HoldsItem}
use Rattle.vault_walk.proofs.Answering.{answers_on}
use Rattle.vault_walk.proofs.Depths.{deep_waits}
use Rattle.vault_walk.proofs.LevelSteps.{holds_none, holds_some, level_ends, level_visited, settled_visited, split_among}
use Rattle.vault_walk.proofs.Turns.{vec_turn, vec_end}
use Rattle.vault_walk.proofs.Walks.{lead_through}
use Rattle.vault_walk.proofs.levels.Walk.last_level.Goals as goal

pub loop-way-preserved : goal.loop-way-preserved
loop-way-preserved g c =
    let gives = c.into_iter-way-iterator.ensures.into_iter_gives in
    let turn = vec_turn c.args.waiting.items c.into_iter-way-iterator.result gives.0 (gives.1 ∙ c.args.waiting.ok.0) c.loop-way.yielded c.loop-way.way-iterator c.loop-way.yielded_by c.next.result c.next.new.self
    c.next.ensures.steps c.in-Some.way c.in-Some.is in
    let inv = c.loop-way.invariant in
    let counts = c.in_ok-visit_last.ensures.answers in
    let visits = c.in_ok-visit_last.ensures.visits in
    let after = c.visit_last.new.self in
    let walk = c.loop-way.self in
    let settled_items = visits.1.items_stay in
    record {
      told = c.in_ok-visit_last.ensures.told ∙ inv.told;
      counts = omega (arith, inv.counts, counts);
      items = settled_items ∙ inv.items;
      level = λ v is h.
          level_visited (format_of c.args.vault.now.vault) (under c.args.vault.now.root v) c.in-Some.way visits.0 (visits.3 v (subst (λ t. IsSeen t v) (sym inv.told) is)) depth_limit c.args.self.now.visits.items
          c.args.waiting.items c.loop-way.yielded turn.0 walk [] turn.1 (inv.level v is h) c.what_stands_is_found_step_by_step.ensures.behind after [] (settled_visited walk after c.in-Some.way visits.0 [] visits.1 visits.2);
      none = λ v is way there.
          let none_here = holds_none (format_of c.args.vault.now.vault) (under c.args.vault.now.root v) c.in-Some.way visits.0 (visits.3 v (subst (λ t. IsSeen t v) (sym inv.told) is)) visits.2 in
          ⊎_elim
          (λ old. inv.none v is way old)
          (λ same. subst (λ (w : Way). ¬ HoldsItem (format_of c.args.vault.now.vault) (under c.args.vault.now.root v) w) same none_here)
          (Contains-push_cases c.loop-way.yielded c.in-Some.way way there);
    }

pub returns-in_err-visit_last-clause-answers : goal.returns-in_err-visit_last-clause-answers
returns-in_err-visit_last-clause-answers g c =
    let gives = c.into_iter-way-iterator.ensures.into_iter_gives in
    let turn = vec_turn c.args.waiting.items c.into_iter-way-iterator.result gives.0 (gives.1 ∙ c.args.waiting.ok.0) c.loop-way.yielded c.loop-way.way-iterator c.loop-way.yielded_by c.next.result c.next.new.self
    c.next.ensures.steps c.in-Some.way c.in-Some.is in
    let inv = c.loop-way.invariant in
    let p = err_from_is_err_and c.from_residual.result c.from_residual.ensures.1 in
    rw (p.1, p.2)
    (answers_on ℕ ℕ _ _ _ _ (g.F.Folder.faults c.args.folder.now) (g.F.Folder.faults c.loop-way.folder) (g.F.Folder.faults c.visit_last.new.folder) c.in_err-visit_last.field-0.0
    (λ none. none)
    (λ m v is h. (deep_waits (format_of c.args.vault.now.vault) (under c.args.vault.now.root v) c.args.self.now.visits.items c.args.waiting.items h.walked).1 (
      c.in-Some.way,
      split_among c.args.waiting.items c.loop-way.yielded turn.0 c.in-Some.way turn.1,
      holds_some (format_of c.args.vault.now.vault) (under c.args.vault.now.root v) c.in-Some.way m.0 (m.2 v (subst (λ t. IsSeen t v) (sym inv.told) is)) m.1,
    ))
    inv.counts c.in_err-visit_last.ensures.answers)

pub returns-clause-walks : goal.returns-clause-walks
returns-clause-walks g c v is h =
    let gives = c.into_iter-way-iterator.ensures.into_iter_gives in
    let behind = c.what_stands_is_found_step_by_step.ensures.behind in
    let through = lead_through c.what_stands_is_found_step_by_step.ensures.below in
    let whole = vec_end c.args.waiting.items c.into_iter-way-iterator.result gives.0 (gives.1 ∙ c.args.waiting.ok.0) c.loop-way.yielded c.loop-way.way-iterator c.loop-way.yielded_by c.next.result c.next.new.self
    c.next.ensures.steps c.in-None.is in
    let f = format_of c.args.vault.now.vault in
    let w = under c.args.vault.now.root v in
    let before = c.args.self.now.visits.items in
    level_ends behind through f w depth_limit before c.args.waiting.items c.loop-way.self []
    (subst (λ visited. IsAtLevel f w depth_limit before c.args.waiting.items visited c.loop-way.self []) whole (c.loop-way.invariant.level v is h))

pub returns-clause-shallow : goal.returns-clause-shallow
returns-clause-shallow g c v is h deep =
    let gives = c.into_iter-way-iterator.ensures.into_iter_gives in
    let whole = vec_end c.args.waiting.items c.into_iter-way-iterator.result gives.0 (gives.1 ∙ c.args.waiting.ok.0) c.loop-way.yielded c.loop-way.way-iterator c.loop-way.yielded_by c.next.result c.next.new.self
    c.next.ensures.steps c.in-None.is in
    let one = (deep_waits (format_of c.args.vault.now.vault) (under c.args.vault.now.root v) c.args.self.now.visits.items c.args.waiting.items h.walked).0 deep in
    c.loop-way.invariant.none v is one.0 (subst (λ ws. Contains ws one.0) (sym whole) one.1) one.2
