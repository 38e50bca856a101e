-- The image that a pick names is an image, and what a folder in memory is after the crash.
use Rattle.std.proofs.Common.{◌≡◌, ℕ, suc, ◌+◌, true, false, List, [], ◌∷◌, ◌++◌, length, take, drop, map, slice_index_or, refl, sym, ap, ap₂, ◌∙◌, subst, inl, inr, cond, take_all, drop_of_length-le, le_refl, bytes_eq}
use Rattle.std.proofs.lemmas.Slice.Eq.{bytes_eq-Decides}
use Rattle.std.proofs.lemmas.List.{length-map}
use Rattle.std.proofs.Math.Seq.{take-add}
use mathlib.Core.Path.{fun_ext}
use Rattle.folder_spec.specs.State.{Table, Node, State, last_of, IsAmong, IsTableOf, BeginsWith, IsSound}
use Rattle.folder_spec.specs.Event.{empty_node}
use Rattle.folder_spec.specs.Image.{Image, IsLeftOf, IsImage}
use Rattle.folder_spec.specs.Image as spec
use Rattle.folder_spec.proofs.Images.{image_is_sound}
use Rattle.folder_model.specs.declared.mem.step.Step.{Step}
use Rattle.folder_model.specs.Crash.{table_at, bytes_left, node_left, picked}
use Rattle.folder_model.specs.Nodes.{KeepsFronts}
use Rattle.folder_model.specs.Sound.{state_sound}
use Rattle.folder_model.specs.Steps.{step_table, replay, tables_after, kept_table, state_from, AreSoundTables}
use Rattle.folder_model.proofs.StepLemmas.{last_of-tables, replay-append}
use Rattle.folder_model.proofs.States.{fronts_of}

-- the picked table is one of the state's
pub table_at_is : (s : State) (number : ℕ) → IsTableOf s (table_at s number)
table_at_is s number = among s.kept s.later number
  where
    among : (t : Table) (later : List Table) (number : ℕ) → IsAmong (slice_index_or (t ∷ later) number (last_of t later)) (t ∷ later)
    among t later ℕ.zero = inl refl
    among t [] (suc number) = inl refl
    among t (u ∷ later) (suc number) = inr (among u later number)

pub left_is : (node : Node) (tail : List ℕ) → BeginsWith node.now node.kept → IsLeftOf node (bytes_left tail node)
left_is node tail begins =
    elim (bytes_eq node.now node.kept) as (λ b. bytes_eq node.now node.kept ≡ b → IsLeftOf node (cond b node.now (node.kept ++ tail))) [
      | true ↦ λ e. record { begins = begins; whole = λ _. refl }
      | false ↦ λ e. record {
        begins = (tail, refl);
        whole = λ clean. let yes_ : bytes_eq node.now node.kept ≡ true = (bytes_eq-Decides node.now node.kept).1 clean in cc;
      }
    ] refl

pub picked_is_image : (s : State) (number : ℕ) (tail : List ℕ) → IsSound s → IsImage s (picked s number tail)
picked_is_image s number tail sound = record {
  table = table_at_is s number;
  bytes = λ n. left_is (s.nodes n) tail (sound.nodes n);
  made = refl;
}

-- the table of a number is that after so many more steps
replay_to : (t : Table) (steps : List Step) (number : ℕ) → slice_index_or (t ∷ tables_after t steps) number (replay t steps) ≡ replay t (take number steps)
replay_to t steps ℕ.zero = refl
replay_to t [] (suc number) = refl
replay_to t (s ∷ steps) (suc number) = replay_to (step_table t s) steps number

pub table_at_number : (nodes : List Node) (base : Table) (steps : List Step) (kept number : ℕ)
    → table_at (state_from nodes base steps kept) number ≡ replay base (take (kept + number) steps)
table_at_number nodes base steps kept number =
    let t = kept_table base steps kept in
    ap (λ d. slice_index_or (t ∷ tables_after t (drop kept steps)) number d) (last_of-tables t (drop kept steps))
    ∙ replay_to t (drop kept steps) number
    ∙ sym (replay-append base (take kept steps) (take number (drop kept steps)))
    ∙ ap (replay base) (sym (take-add kept number steps))

-- a file of which all bytes are kept stays
pub clean_left : (tail : List ℕ) (node : Node) → node.kept ≡ node.now → node ≡ node_left tail node
clean_left tail node same = rw ((bytes_eq-Decides node.now node.kept).1 (sym same)) (ap (λ kept. record { now = node.now; kept = kept }) same)

nodes_left : (nodes : List Node) (tail : List ℕ) (n : ℕ) → slice_index_or (map (λ node. node_left tail node) nodes) n empty_node ≡ node_left tail (slice_index_or nodes n empty_node)
nodes_left [] tail ℕ.zero = refl
nodes_left [] tail (suc n) = refl
nodes_left (x ∷ nodes) tail ℕ.zero = refl
nodes_left (x ∷ nodes) tail (suc n) = nodes_left nodes tail n

-- where all steps are kept, nothing is later
all_kept : (nodes : List Node) (base : Table) (steps : List Step)
    → state_from nodes base steps (length steps) ≡ record { nodes = λ n. slice_index_or nodes n empty_node; made = length nodes; kept = replay base steps; later = [] }
all_kept nodes base steps =
    ap₂ (λ front back. record { nodes = λ n. slice_index_or nodes n empty_node; made = length nodes; kept = replay base front; later = tables_after (replay base front) back })
    (take_all (length steps) steps (le_refl (length steps))) (drop_of_length-le steps (le_refl (length steps)))

pub crashed : (nodes : List Node) (base : Table) (steps : List Step) (kept number : ℕ) (tail : List ℕ) (new_nodes : List Node) (new_steps : List Step)
    → new_nodes ≡ map (λ node. node_left tail node) nodes → new_steps ≡ take (kept + number) steps
    → state_from new_nodes base new_steps (length new_steps) ≡ spec.state_of (picked (state_from nodes base steps kept) number tail)
crashed nodes base steps kept number tail new_nodes new_steps nodes_are steps_are =
    ap₂ (λ ns ss. state_from ns base ss (length ss)) nodes_are steps_are
    ∙ all_kept (map (λ node. node_left tail node) nodes) base (take (kept + number) steps)
    ∙ ap₂ (λ (f : ℕ → Node) made. record { nodes = f; made = made; kept = replay base (take (kept + number) steps); later = [] })
    (fun_ext (nodes_left nodes tail)) (length-map nodes (λ node. node_left tail node))
    ∙ ap (λ t. record { nodes = λ n. node_left tail (slice_index_or nodes n empty_node); made = length nodes; kept = t; later = [] })
    (sym (table_at_number nodes base steps kept number))

-- some of the steps make some of the tables
first_tables : (base : Table) (steps : List Step) (n : ℕ) (t : Table) → IsAmong t (base ∷ tables_after base (take n steps)) → IsAmong t (base ∷ tables_after base steps)
first_tables base steps ℕ.zero t (inl e) = inl e
first_tables base steps ℕ.zero t (inr none) = absurd none
first_tables base [] (suc n) t among = among
first_tables base (s ∷ steps) (suc n) t (inl e) = inl e
first_tables base (s ∷ steps) (suc n) t (inr more) = inr (first_tables (step_table base s) steps n t more)

-- the invariants after the crash
pub crashed_holds : (nodes : List Node) (base : Table) (steps : List Step) (kept number : ℕ) (tail : List ℕ) (new_nodes : List Node) (new_steps : List Step)
    → new_nodes ≡ map (λ node. node_left tail node) nodes → new_steps ≡ take (kept + number) steps
    → KeepsFronts nodes → AreSoundTables (length nodes) base steps
    → KeepsFronts new_nodes × AreSoundTables (length new_nodes) base new_steps
crashed_holds nodes base steps kept number tail new_nodes new_steps nodes_are steps_are fronts tables =
    let sound : IsSound (state_from nodes base steps kept) = state_sound nodes base steps kept fronts tables in
    let left : IsSound (state_from new_nodes base new_steps (length new_steps)) =
    subst IsSound (sym (crashed nodes base steps kept number tail new_nodes new_steps nodes_are steps_are))
    (image_is_sound (state_from nodes base steps kept) (picked (state_from nodes base steps kept) number tail) sound (picked_is_image (state_from nodes base steps kept) number tail sound)) in
    let made : length nodes ≡ length new_nodes = sym (ap length nodes_are ∙ length-map nodes (λ node. node_left tail node)) in (
      fronts_of new_nodes base new_steps (length new_steps) left,
      subst (λ n. AreSoundTables n base new_steps) made
          (λ t among. tables t (first_tables base steps (kept + number) t (subst (λ ss. IsAmong t (base ∷ tables_after base ss)) steps_are among))),
    )
