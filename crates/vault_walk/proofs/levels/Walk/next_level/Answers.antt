use Rattle.std.proofs.Common.{[], ℕ, refl, sym, ◌∙◌, subst, arith}
use Rattle.std.specs.Prelude.{Contains}
use Rattle.std.proofs.lemmas.Result.{err_from_is_err_and}
use Rattle.folder_spec.specs.Seen.{IsSeen, under}
use Rattle.vault_spec.specs.Vault.{format_of}
use Rattle.vault_walk.specs.Levels.{IsAtLevel}
use Rattle.vault_walk.proofs.Answering.{answers_on}
use Rattle.vault_walk.proofs.Flats.{none_within}
use Rattle.vault_walk.proofs.LevelSteps.{level_begins, level_ends, level_past, level_visited, split_among}
use Rattle.vault_walk.proofs.Turns.{vec_turn, vec_end}
use Rattle.vault_walk.proofs.Walks.{lead_through}
use Rattle.vault_walk.proofs.levels.Walk.next_level.Goals as goal

pub loop-way-init : goal.loop-way-init
loop-way-init g c = record {
  told = refl;
  counts = omega arith;
  fits = λ way there. absurd (none_within way (subst (λ ws. Contains ws way) c.new-next.ensures.items there));
  size = λ s. s;
  level = λ v is steps h.
      subst (IsAtLevel (format_of c.args.vault.now.vault) (under c.args.vault.now.root v) steps c.args.self.now.visits.items c.args.waiting.items [] c.args.self.now) (sym c.new-next.ensures.items)
      (level_begins (format_of c.args.vault.now.vault) (under c.args.vault.now.root v) steps c.args.self.now c.args.waiting.items h);
}

pub visit-requires : goal.visit-requires
visit-requires g c =
    let gives = c.into_iter-way-iterator.ensures.into_iter_gives in
    let turn = vec_turn c.args.waiting.items c.into_iter-way-iterator.result gives.0 (gives.1 ∙ c.args.waiting.ok.0) c.loop-way.yielded c.loop-way.way-iterator c.loop-way.yielded_by c.next.result c.next.new.self
    c.next.ensures.steps c.in-Some.way c.in-Some.is in
    c.requires c.in-Some.way (split_among c.args.waiting.items c.loop-way.yielded turn.0 c.in-Some.way turn.1)

pub loop-way-preserved : goal.loop-way-preserved
loop-way-preserved g c =
    let gives = c.into_iter-way-iterator.ensures.into_iter_gives in
    let turn = vec_turn c.args.waiting.items c.into_iter-way-iterator.result gives.0 (gives.1 ∙ c.args.waiting.ok.0) c.loop-way.yielded c.loop-way.way-iterator c.loop-way.yielded_by c.next.result c.next.new.self
    c.next.ensures.steps c.in-Some.way c.in-Some.is in
    let inv = c.loop-way.invariant in
    let counts = c.in_ok-visit.ensures.answers in
    let visits = c.in_ok-visit.ensures.visits in
    record {
      told = c.in_ok-visit.ensures.told ∙ inv.told;
      counts = omega (arith, inv.counts, counts);
      fits = c.in_ok-visit.ensures.fits inv.fits;
      size = λ s. c.in_ok-visit.ensures.size;
      level = λ v is steps h.
          level_visited (format_of c.args.vault.now.vault) (under c.args.vault.now.root v) c.in-Some.way visits.0 (visits.2 v (subst (λ t. IsSeen t v) (sym inv.told) is)) steps c.args.self.now.visits.items
          c.args.waiting.items c.loop-way.yielded turn.0 c.loop-way.self c.loop-way.next.items turn.1 (inv.level v is steps h) c.what_stands_is_found_step_by_step.ensures.behind c.visit.new.self c.visit.new.next.items visits.1;
    }

pub returns-in_err-visit-clause-answers : goal.returns-in_err-visit-clause-answers
returns-in_err-visit-clause-answers g c =
    let gives = c.into_iter-way-iterator.ensures.into_iter_gives in
    let turn = vec_turn c.args.waiting.items c.into_iter-way-iterator.result gives.0 (gives.1 ∙ c.args.waiting.ok.0) c.loop-way.yielded c.loop-way.way-iterator c.loop-way.yielded_by c.next.result c.next.new.self
    c.next.ensures.steps c.in-Some.way c.in-Some.is in
    let inv = c.loop-way.invariant in
    let p = err_from_is_err_and c.from_residual.result c.from_residual.ensures.1 in
    rw (p.1, p.2)
    (answers_on ℕ ℕ _ _ _ _ (g.F.Folder.faults c.args.folder.now) (g.F.Folder.faults c.loop-way.folder) (g.F.Folder.faults c.visit.new.folder) c.in_err-visit.field-0.0
    (λ m v is steps below h. level_past (format_of c.args.vault.now.vault) (under c.args.vault.now.root v) c.in-Some.way m.0 (m.2 v (subst (λ t. IsSeen t v) (sym inv.told) is)) steps c.args.self.now.visits.items
    c.args.waiting.items c.loop-way.yielded turn.0 c.loop-way.self c.loop-way.next.items turn.1 (inv.level v is steps h) below m.1)
    (λ none. none) inv.counts c.in_err-visit.ensures.answers)

pub returns-clause-walks : goal.returns-clause-walks
returns-clause-walks g c v is steps h =
    let gives = c.into_iter-way-iterator.ensures.into_iter_gives in
    let behind = c.what_stands_is_found_step_by_step.ensures.behind in
    let through = lead_through c.what_stands_is_found_step_by_step.ensures.below in
    let whole = vec_end c.args.waiting.items c.into_iter-way-iterator.result gives.0 (gives.1 ∙ c.args.waiting.ok.0) c.loop-way.yielded c.loop-way.way-iterator c.loop-way.yielded_by c.next.result c.next.new.self
    c.next.ensures.steps c.in-None.is in
    let f = format_of c.args.vault.now.vault in
    let w = under c.args.vault.now.root v in
    let before = c.args.self.now.visits.items in
    level_ends behind through f w steps before c.args.waiting.items c.loop-way.self c.loop-way.next.items
    (subst (λ visited. IsAtLevel f w steps before c.args.waiting.items visited c.loop-way.self c.loop-way.next.items) whole (c.loop-way.invariant.level v is steps h))
