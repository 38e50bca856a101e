use Rattle.std.proofs.Common.{◌≡◌, ◌+◌, ◌∷◌, ◌∙◌, drop, arith, sym, subst, inl, refl}
use Rattle.folder_spec.specs.State.{Table, IsAmong}
use Rattle.folder_model.specs.Steps.{replay, tables_after}
use Rattle.folder_model.specs.Tables.{names_of}
use Rattle.folder_model.proofs.StepLemmas.{next_step, step_done}
use Rattle.folder_model.proofs.mem.table.absorb_front.Goals as goal

pub absorb-requires : goal.absorb-requires
absorb-requires c = c.requires (names_of c.loop-done.table) (c.loop-done.invariant.2 (names_of c.loop-done.table) (inl refl))

pub returns-in-Err-clause-last : goal.returns-in-Err-clause-last
returns-in-Err-clause-last c =
    subst (λ t. replay t (drop c.loop-done.done c.args.steps.now) ≡ replay (names_of c.args.table.now) c.args.steps.now) (sym c.in-Err.ensures.err) c.loop-done.invariant.1

pub returns-in-Err-clause-tables : goal.returns-in-Err-clause-tables
returns-in-Err-clause-tables c =
    subst (λ t. (v : Table) → IsAmong v (t ∷ tables_after t (drop c.loop-done.done c.args.steps.now)) → IsAmong v (names_of c.args.table.now ∷ tables_after (names_of c.args.table.now) c.args.steps.now))
    (sym c.in-Err.ensures.err) c.loop-done.invariant.2

pub loop-done-preserved : goal.loop-done-preserved
loop-done-preserved c =
    let steps = c.args.steps.now in
    let t : Table = names_of c.loop-done.table in
    let u : Table = names_of c.absorb.new.self in
    let next : drop c.loop-done.done steps ≡ c.index-steps-done.result ∷ drop (c.loop-done.done + 1) steps =
    next_step steps c.loop-done.done c.index-steps-done.result c.loop-done-test.true c.index-steps-done.is in
    let done : (replay u (drop (c.loop-done.done + 1) steps) ≡ replay t (drop c.loop-done.done steps))
    × ((v : Table) → IsAmong v (u ∷ tables_after u (drop (c.loop-done.done + 1) steps)) → IsAmong v (t ∷ tables_after t (drop c.loop-done.done steps))) =
    step_done t u (drop c.loop-done.done steps) (drop (c.loop-done.done + 1) steps) c.index-steps-done.result next c.in-Ok.ensures.ok in (
      omega (arith, c.loop-done-test.true),
      done.0 ∙ c.loop-done.invariant.1,
      λ v among. c.loop-done.invariant.2 v (done.1 v among),
    )
