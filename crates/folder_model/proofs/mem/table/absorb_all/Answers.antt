use Rattle.std.proofs.Common.{◌∷◌, List, drop, subst, rules}
use Rattle.folder_spec.specs.State.{Table, IsAmong}
use Rattle.folder_model.specs.declared.mem.step.Step.{Step}
use Rattle.folder_model.specs.Steps.{tables_after}
use Rattle.folder_model.specs.Tables.{names_of}
use Rattle.folder_model.proofs.mem.table.absorb_all.Goals as goal

pub absorb_front-done-requires : goal.absorb_front-done-requires
absorb_front-done-requires c = rw c.as_slice.ensures.value c.requires

pub returns-clause-tables : goal.returns-clause-tables
returns-clause-tables c =
    let u : Table = names_of c.absorb_front-done.new.table in
    let t : Table = names_of c.args.table.now in
    subst (λ (ss : List Step). (v : Table) → IsAmong v (u ∷ tables_after u ss) → IsAmong v (t ∷ tables_after t c.args.steps.now.items)) (search rules)
    (subst (λ (ss : List Step). (v : Table) → IsAmong v (u ∷ tables_after u (drop c.absorb_front-done.result ss)) → IsAmong v (t ∷ tables_after t ss)) c.as_slice.ensures.value
    c.absorb_front-done.ensures.tables)
