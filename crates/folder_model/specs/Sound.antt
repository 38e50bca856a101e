-- What a folder in memory tells is sound.
use Rattle.std.specs.Prelude.{◌≡◌, ℕ, suc, List, [], ◌∷◌, ◌++◌, length, drop, slice_index_or, Some}
use Rattle.std.specs.Option.{unwrap_or}
use Rattle.std.proofs.Common.{inr, sym, ap, ◌∙◌, subst, take-append-drop}
use Rattle.folder_spec.specs.State.{Table, Node, IsAmong, IsSound}
use Rattle.folder_spec.specs.Event.{Event, Told, empty_node}
use Rattle.folder_model.specs.declared.mem.step.Step.{Step}
use Rattle.folder_model.specs.Nodes.{KeepsFronts}
use Rattle.folder_model.specs.Steps.{step_table, tables_after, kept_table, state_from, AreSoundTables}

-- the kept table and the later ones are among the tables
pub among_all : (base : Table) (steps : List Step) (kept : ℕ) (t : Table)
    → IsAmong t (kept_table base steps kept ∷ tables_after (kept_table base steps kept) (drop kept steps)) → IsAmong t (base ∷ tables_after base steps)
among_all base steps ℕ.zero t among = among
among_all base [] (suc kept) t among = among
among_all base (s ∷ steps) (suc kept) t among = inr (among_all (step_table base s) steps kept t among)

-- a state is sound where its tables are and each node begins with what is kept
pub state_sound : (nodes : List Node) (base : Table) (steps : List Step) (kept : ℕ) → KeepsFronts nodes → AreSoundTables (length nodes) base steps
    → IsSound (state_from nodes base steps kept)
state_sound nodes base steps kept fronts tables = record {
  tables = λ t among. tables t (among_all base steps kept t among);
  nodes = λ n.
      let node = slice_index_or nodes n empty_node in
      (drop (length node.kept) node.now, sym (take-append-drop (length node.kept) node.now) ∙ ap (λ front. front ++ drop (length node.kept) node.now) (fronts n));
}

abbrev pub told_from : List Node → Table → List Step → ℕ → List Event → Told
told_from nodes base steps kept log = record { state = state_from nodes base steps kept; log = log }

pub told_sound : (nodes : List Node) (base : Table) (steps : List Step) (kept : ℕ) (log : List Event) → KeepsFronts nodes → AreSoundTables (length nodes) base steps
    → (a : Told) → Some (told_from nodes base steps kept log) ≡ Some a → IsSound a.state
told_sound nodes base steps kept log fronts sound a is =
    subst (λ (b : Told). IsSound b.state) (ap (λ o. unwrap_or o (told_from nodes base steps kept log)) is) (state_sound nodes base steps kept fronts sound)
