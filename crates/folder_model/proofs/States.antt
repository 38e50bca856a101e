-- The state of a folder in memory after each of its changes.
use Rattle.std.proofs.Common.{◌≡◌, ◌≢◌, ℕ, suc, ◌+◌, ◌<◌, ◌≤◌, Bool, true, false, cond, nat_eq, List, [], ◌∷◌, ◌++◌, length, take, drop, set, get_or, slice_index_or, refl, sym, ap, ap₂, ◌∙◌, subst, arith, take_all, take-append-drop, drop_of_length-le, le_refl, length-set, length-append, get_or-set_same, get_or-set_other, eqb-true, append-nil, Result, Ok, Err, OnErr, OnOk, is_ok, ◌⊎◌, ⊎_elim, inl, inr}
use Rattle.std.proofs.lemmas.List.{take-append-le, drop-append-le}
use Rattle.std.proofs.lemmas.Bool.{eqb-false}
use mathlib.Core.Path.{fun_ext}
use Rattle.folder_spec.specs.declared.Spot.{Spot}
use Rattle.folder_spec.specs.declared.Spot.TheVariants.{Nothing, Directory, FileNode, Odd}
use Rattle.folder_spec.specs.Path.{Path}
use Rattle.folder_spec.specs.State.{Table, Node, State, present, put_node, IsAmong, IsSoundTable, IsSound, BeginsWith}
use Rattle.folder_spec.proofs.Tables.{present_is_table, among-new}
use Rattle.folder_spec.proofs.Sound.{changed_sound}
use Rattle.folder_spec.specs.Event.{Call, MakeDir, Append, Sync, Rename, RemoveFile, RemoveDir, fallen, grown, IsFree, Create, Settle, changed, with_table, with_file, empty_node}
use Rattle.folder_model.specs.declared.mem.step.Step.{Step}
use Rattle.folder_model.specs.declared.mem.step.Step.TheVariants.{Put}
use Rattle.folder_model.specs.Sound.{among_all, state_sound}
use Rattle.folder_model.specs.Tables.{HasParents}
use Rattle.folder_model.specs.Steps.{step_table, replay, tables_after, kept_table, state_from, AreSoundTables}
use Rattle.folder_model.specs.Nodes.{KeepsFront, KeepsFronts}
use Rattle.folder_model.proofs.StepLemmas.{last_of-tables, replay-append, tables_after-push}

-- the present table is that after all steps
pub present_is : (nodes : List Node) (base : Table) (steps : List Step) (kept : ℕ) → present (state_from nodes base steps kept) ≡ replay base steps
present_is nodes base steps kept =
    last_of-tables (kept_table base steps kept) (drop kept steps)
    ∙ sym (replay-append base (take kept steps) (drop kept steps))
    ∙ ap (replay base) (take-append-drop kept steps)

-- one step more
pub step_pushed : (nodes : List Node) (base : Table) (steps : List Step) (kept : ℕ) (s : Step) → kept ≤ length steps
    → state_from nodes base (steps ++ s ∷ []) kept ≡ with_table (state_from nodes base steps kept) (step_table (present (state_from nodes base steps kept)) s)
step_pushed nodes base steps kept s within =
    ap₂ (λ front back. with_front nodes front back) (take-append-le kept steps (s ∷ []) within) (drop-append-le kept steps (s ∷ []) within)
    ∙ ap (λ later. record { nodes = λ n. slice_index_or nodes n empty_node; made = length nodes; kept = kept_table base steps kept; later = later })
    (tables_after-push (kept_table base steps kept) (drop kept steps) s
    ∙ ap (λ t. tables_after (kept_table base steps kept) (drop kept steps) ++ step_table t s ∷ []) (sym (last_of-tables (kept_table base steps kept) (drop kept steps))))
  where
    with_front : List Node → List Step → List Step → State
    with_front nodes front back = record {
      nodes = λ n. slice_index_or nodes n empty_node;
      made = length nodes;
      kept = replay base front;
      later = tables_after (replay base front) back;
    }

-- past the nodes that are made every node is empty
empty_past : (nodes : List Node) → slice_index_or nodes (length nodes) empty_node ≡ empty_node
empty_past [] = refl
empty_past (x ∷ nodes) = empty_past nodes

empty_pushed : (nodes : List Node) (n : ℕ) → slice_index_or (nodes ++ empty_node ∷ []) n empty_node ≡ slice_index_or nodes n empty_node
empty_pushed [] ℕ.zero = refl
empty_pushed [] (suc n) = refl
empty_pushed (x ∷ nodes) ℕ.zero = refl
empty_pushed (x ∷ nodes) (suc n) = empty_pushed nodes n

-- a new node
pub nodes_pushed : (nodes : List Node)
    → ◌≡◌ {A = ℕ → Node} (λ n. slice_index_or (nodes ++ empty_node ∷ []) n empty_node) (put_node (λ n. slice_index_or nodes n empty_node) (length nodes) empty_node)
nodes_pushed nodes = fun_ext (λ n. at n (nat_eq (length nodes) n) refl)
  where
    at : (n : ℕ) (b : Bool) → nat_eq (length nodes) n ≡ b
        → slice_index_or (nodes ++ empty_node ∷ []) n empty_node ≡ cond (nat_eq (length nodes) n) empty_node (slice_index_or nodes n empty_node)
    at n true e = rw e (empty_pushed nodes n ∙ ap (λ k. slice_index_or nodes k empty_node) (sym (eqb-true (length nodes) n e)) ∙ empty_past nodes)
    at n false e = rw e (empty_pushed nodes n)

-- a node that is changed
pub nodes_set : (nodes : List Node) (n : ℕ) (node : Node) → n < length nodes
    → ◌≡◌ {A = ℕ → Node} (λ k. slice_index_or (set nodes n node) k empty_node) (put_node (λ k. slice_index_or nodes k empty_node) n node)
nodes_set nodes n node made = fun_ext (λ k. at k (nat_eq n k) refl)
  where
    at : (k : ℕ) (b : Bool) → nat_eq n k ≡ b → slice_index_or (set nodes n node) k empty_node ≡ cond (nat_eq n k) node (slice_index_or nodes k empty_node)
    at k true e = rw e (ap (λ j. slice_index_or (set nodes n node) j empty_node) (sym (eqb-true n k e)) ∙ get_or-set_same nodes n node empty_node made)
    at k false e = rw e (let apart : k ≢ n = λ same. eqb-false n k e (sym same) in get_or-set_other nodes n k node empty_node apart)

pub file_changed : (nodes : List Node) (base : Table) (steps : List Step) (kept n : ℕ) (change : Node → Node) → n < length nodes
    → state_from (set nodes n (change (slice_index_or nodes n empty_node))) base steps kept ≡ with_file (state_from nodes base steps kept) (FileNode n) change
file_changed nodes base steps kept n change made =
    ap₂ (λ (f : ℕ → Node) made. record { nodes = f; made = made; kept = kept_table base steps kept; later = tables_after (kept_table base steps kept) (drop kept steps) })
    (nodes_set nodes n (change (slice_index_or nodes n empty_node)) made) (length-set nodes n (change (slice_index_or nodes n empty_node)))

pub created : (nodes : List Node) (base : Table) (steps : List Step) (kept : ℕ) (p : Path) → kept ≤ length steps
    → state_from (nodes ++ empty_node ∷ []) base (steps ++ Put p (FileNode (length nodes)) ∷ []) kept ≡ changed (state_from nodes base steps kept) (Create p)
created nodes base steps kept p within =
    ap₂ (λ (f : ℕ → Node) made. record { nodes = f; made = made; kept = kept_table base (steps ++ Put p (FileNode (length nodes)) ∷ []) kept; later = tables_after (kept_table base (steps ++ Put p (FileNode (length nodes)) ∷ []) kept) (drop kept (steps ++ Put p (FileNode (length nodes)) ∷ [])) })
    (nodes_pushed nodes) (length-append nodes (empty_node ∷ []) ∙ suc_is (length nodes))
    ∙ ap (λ (s : State). record { nodes = put_node (λ n. slice_index_or nodes n empty_node) (length nodes) empty_node; made = suc (length nodes); kept = s.kept; later = s.later })
    (step_pushed nodes base steps kept (Put p (FileNode (length nodes))) within)
  where
    suc_is : (n : ℕ) → n + 1 ≡ suc n
    suc_is n = omega arith

pub settled : (nodes : List Node) (base new_base : Table) (steps new_steps : List Step) (kept : ℕ) → replay new_base new_steps ≡ replay base steps
    → state_from nodes new_base new_steps (length new_steps) ≡ changed (state_from nodes base steps kept) Settle
settled nodes base new_base steps new_steps kept same =
    ap₂ (λ front back. record { nodes = λ n. slice_index_or nodes n empty_node; made = length nodes; kept = replay new_base front; later = tables_after (replay new_base front) back })
    (take_all (length new_steps) new_steps (le_refl (length new_steps))) (drop_of_length-le new_steps (le_refl (length new_steps)))
    ∙ ap (λ t. record { nodes = λ n. slice_index_or nodes n empty_node; made = length nodes; kept = t; later = [] }) (same ∙ sym (present_is nodes base steps kept))

-- what stands has a directory above it, in each table
pub have_parents : (made : ℕ) (base : Table) (steps : List Step) → AreSoundTables made base steps → (t : Table) → IsAmong t (base ∷ tables_after base steps) → HasParents t
have_parents made base steps sound t among = (sound t among).parents

pub fronts_of : (nodes : List Node) (base : Table) (steps : List Step) (kept : ℕ) → IsSound (state_from nodes base steps kept) → KeepsFronts nodes
fronts_of nodes base steps kept sound n =
    let node = slice_index_or nodes n empty_node in
    let begins : BeginsWith node.now node.kept = sound.nodes n in
    ap (take (length node.kept)) begins.1 ∙ take-append-le (length node.kept) node.kept begins.0 (le_refl (length node.kept)) ∙ take_all (length node.kept) node.kept (le_refl (length node.kept))

-- the tables after one step more are sound where the new one is
pub one_more_sound : (made : ℕ) (base : Table) (steps : List Step) (s : Step) → AreSoundTables made base steps → IsSoundTable made (step_table (replay base steps) s)
    → AreSoundTables made base (steps ++ s ∷ [])
one_more_sound made base steps s sound new t among = elim (among_more base steps s t among) as (λ _. IsSoundTable made t) [
  | inl old ↦ sound t old
  | inr e ↦ subst (IsSoundTable made) (sym e) new
]
  where
    among_more : (base : Table) (steps : List Step) (s : Step) (t : Table) → IsAmong t (base ∷ tables_after base (steps ++ s ∷ []))
        → IsAmong t (base ∷ tables_after base steps) ⊎ (t ≡ step_table (replay base steps) s)
    among_more base [] s t (inl e) = inl (inl e)
    among_more base [] s t (inr (inl e)) = inr e
    among_more base [] s t (inr (inr none)) = absurd none
    among_more base (x ∷ steps) s t (inl e) = inl (inl e)
    among_more base (x ∷ steps) s t (inr more) = ⊎_elim (λ k. inl (inr k)) (λ e. inr e) (among_more (step_table base x) steps s t more)

-- the last table of a state that a step was added to is sound
pub new_table_sound : (nodes : List Node) (base : Table) (steps : List Step) (kept : ℕ) (s : Step)
    → IsSound (with_table (state_from nodes base steps kept) (step_table (present (state_from nodes base steps kept)) s))
    → IsSoundTable (length nodes) (step_table (replay base steps) s)
new_table_sound nodes base steps kept s sound =
    let t = step_table (present (state_from nodes base steps kept)) s in
    subst (λ u. IsSoundTable (length nodes) (step_table u s)) (present_is nodes base steps kept)
    (sound.tables t (inr (among-new t (tables_after (kept_table base steps kept) (drop kept steps)))))

-- the invariants after a push of a step, whether there was room for it or not
pub pushed_holds : (nodes : List Node) (base : Table) (steps new : List Step) (kept : ℕ) (s : Step) (b : Bool) → new ≡ cond b (steps ++ s ∷ []) steps → kept ≤ length steps
    → AreSoundTables (length nodes) base steps → IsSound (with_table (state_from nodes base steps kept) (step_table (present (state_from nodes base steps kept)) s))
    → (kept ≤ length new) × AreSoundTables (length nodes) base new
pushed_holds nodes base steps new kept s true e within sound pushed = (
  rw e (let longer : length (steps ++ s ∷ []) ≡ length steps + 1 = length-append steps (s ∷ []) in omega (arith, longer, within)),
  subst (AreSoundTables (length nodes) base) (sym e) (one_more_sound (length nodes) base steps s sound (new_table_sound nodes base steps kept s pushed)),
)
pushed_holds nodes base steps new kept s false e within sound pushed =
    (rw e within, subst (AreSoundTables (length nodes) base) (sym e) sound)

-- there was room
pub was_pushed : {T E : Type 0} (r : Result T E) (capacity len : ℕ) → OnErr r (capacity ≤ len) → len + 1 ≤ capacity → is_ok r ≡ true
was_pushed (Ok x) capacity len full room = refl
was_pushed (Err e) capacity len full room = absurd (omega (arith, full, room))

pub all_pushed : {T E X : Type 0} (r : Result T E) (new xs : List X) (x : X) → new ≡ cond (is_ok r) (xs ++ x ∷ []) xs → is_ok r ≡ true → new ≡ xs ++ x ∷ []
all_pushed r new xs x e ok = rw ok at e

-- one node more has been made
more_made : (made : ℕ) (base : Table) (steps : List Step) → AreSoundTables made base steps → AreSoundTables (suc made) base steps
more_made made base steps sound t among =
    let its : IsSoundTable made t = sound t among in
    record { base = its.base; parents = its.parents; alone = its.alone; is_made = λ p n at_p. (let less : n < made = its.is_made p n at_p in omega (arith, less)) }

-- the invariants after a new file
pub created_holds : (nodes new_nodes : List Node) (base : Table) (steps new_steps : List Step) (kept : ℕ) (at : Path)
    → new_nodes ≡ nodes ++ empty_node ∷ [] → new_steps ≡ steps ++ Put at (FileNode (length nodes)) ∷ []
    → kept ≤ length steps → KeepsFronts nodes → AreSoundTables (length nodes) base steps → IsFree (present (state_from nodes base steps kept)) at
    → (kept ≤ length new_steps) × KeepsFronts new_nodes × AreSoundTables (length new_nodes) base new_steps
created_holds nodes new_nodes base steps new_steps kept at e k within fronts sound free =
    let step = Put at (FileNode (length nodes)) in
    let s = state_from nodes base steps kept in
    let new : IsSound (changed s (Create at)) = changed_sound s (Create at) (state_sound nodes base steps kept fronts sound) free in
    let all : IsSound (state_from (nodes ++ empty_node ∷ []) base (steps ++ step ∷ []) kept) =
    subst IsSound (sym (created nodes base steps kept at within)) new in
    let t = step_table (present s) step in
    let last : IsSoundTable (suc (length nodes)) (step_table (replay base steps) step) =
    subst (λ u. IsSoundTable (suc (length nodes)) (step_table u step)) (present_is nodes base steps kept)
    (new.tables t (inr (among-new t (tables_after (kept_table base steps kept) (drop kept steps))))) in
    let made : suc (length nodes) ≡ length (nodes ++ empty_node ∷ []) = (let one : length (nodes ++ empty_node ∷ []) ≡ length nodes + 1 = length-append nodes (empty_node ∷ []) in omega (arith, one)) in (
      subst (λ ss. kept ≤ length ss) (sym k) (let longer : length (steps ++ step ∷ []) ≡ length steps + 1 = length-append steps (step ∷ []) in omega (arith, longer, within)),
      subst KeepsFronts (sym e) (fronts_of (nodes ++ empty_node ∷ []) base (steps ++ step ∷ []) kept all),
      subst (AreSoundTables (length new_nodes) base) (sym k)
          (subst (λ (ns : List Node). AreSoundTables (length ns) base (steps ++ step ∷ [])) (sym e)
          (subst (λ n. AreSoundTables n base (steps ++ step ∷ [])) made
          (one_more_sound (suc (length nodes)) base steps step (more_made (length nodes) base steps sound) last))),
    )

-- a node that stands somewhere has been made
pub node_made : (nodes : List Node) (base : Table) (steps : List Step) (kept : ℕ) (at : Path) (n : ℕ) → AreSoundTables (length nodes) base steps
    → present (state_from nodes base steps kept) at ≡ FileNode n → n < length nodes
node_made nodes base steps kept at n sound here =
    (sound (present (state_from nodes base steps kept)) (among_all base steps kept (present (state_from nodes base steps kept)) (present_is_table (state_from nodes base steps kept)))).is_made at n here

-- the invariants after a change of a node
pub node_holds : (nodes : List Node) (base : Table) (steps : List Step) (kept n : ℕ) (node : Node) → n < length nodes → KeepsFront node → KeepsFronts nodes
    → AreSoundTables (length nodes) base steps → KeepsFronts (set nodes n node) × AreSoundTables (length (set nodes n node)) base steps
node_holds nodes base steps kept n node made front fronts sound = (
  λ k. subst (λ (f : ℕ → Node). KeepsFront (f k)) (sym (nodes_set nodes n node made))
      (elim (nat_eq n k) as (λ b. KeepsFront (cond b node (slice_index_or nodes k empty_node))) [ true ↦ front | false ↦ fronts k ]),
  subst (λ made. AreSoundTables made base steps) (sym (length-set nodes n node)) sound,
)

-- the state after it
pub node_changed : (nodes : List Node) (base : Table) (steps : List Step) (kept n : ℕ) (at : Path) (old new : Node) (change : Node → Node) → n < length nodes
    → present (state_from nodes base steps kept) at ≡ FileNode n → old ≡ slice_index_or nodes n old → new ≡ change old
    → state_from (set nodes n new) base steps kept ≡ with_file (state_from nodes base steps kept) (present (state_from nodes base steps kept) at) change
node_changed nodes base steps kept n at old new change made here is e =
    ap (λ node. state_from (set nodes n node) base steps kept) (e ∙ ap change (is ∙ any_default nodes n old empty_node made))
    ∙ file_changed nodes base steps kept n change made
    ∙ ap (λ x. with_file (state_from nodes base steps kept) x change) (sym here)
  where
    any_default : (xs : List Node) (n : ℕ) (a b : Node) → n < length xs → slice_index_or xs n a ≡ slice_index_or xs n b
    any_default [] n a b h = absurd (omega (arith, h))
    any_default (x ∷ xs) ℕ.zero a b h = refl
    any_default (x ∷ xs) (suc n) a b h = any_default xs n a b (omega (arith, h))

pub on_ok : {T E : Type 0} (r : Result T E) (P Q : Type 0) → OnOk r P → (P → Q) → OnOk r Q
on_ok (Ok x) P Q p then_ = then_ p
on_ok (Err e) P Q p then_ = tt

-- a call that fails and has added nothing changes nothing
pub fallen_zero : (s : State) (call : Call) → fallen s call 0 ≡ s
fallen_zero s (Append p piece) = by_spot (present s p)
  where
    same_node : (n k : ℕ) (b : Bool) → nat_eq n k ≡ b → cond b (grown [] (s.nodes n)) (s.nodes k) ≡ s.nodes k
    same_node n k true e = ap (λ bytes. record { now = bytes; kept = (s.nodes n).kept }) (append-nil (s.nodes n).now) ∙ ap s.nodes (eqb-true n k e)
    same_node n k false e = refl

    by_spot : (x : Spot) → with_file s x (grown []) ≡ s
    by_spot Nothing = refl
    by_spot Directory = refl
    by_spot Odd = refl
    by_spot (FileNode n) = ap (λ (f : ℕ → Node). record s { nodes = f }) (fun_ext (λ k. same_node n k (nat_eq n k) refl))
fallen_zero s (MakeDir p) = refl
fallen_zero s (Create p) = refl
fallen_zero s (Sync p) = refl
fallen_zero s Settle = refl
fallen_zero s (Rename old new) = refl
fallen_zero s (RemoveFile p) = refl
fallen_zero s (RemoveDir p) = refl

-- one byte more is read
pub read_one : (rest out : List ℕ) (i d : ℕ) → i < length rest → i < length out
    → set (take i rest ++ drop i out) i (get_or rest i d) ≡ take (i + 1) rest ++ drop (i + 1) out
read_one rest out i d in_rest in_out = by_suc rest out i in_rest in_out ∙ ap (λ n. take n rest ++ drop n out) (next i)
  where
    next : (i : ℕ) → suc i ≡ i + 1
    next i = omega arith

    by_suc : (rest out : List ℕ) (i : ℕ) → i < length rest → i < length out → set (take i rest ++ drop i out) i (get_or rest i d) ≡ take (suc i) rest ++ drop (suc i) out
    by_suc [] out i h k = absurd (omega (arith, h))
    by_suc (r ∷ rest) [] i h k = absurd (omega (arith, k))
    by_suc (r ∷ rest) (o ∷ out) ℕ.zero h k = refl
    by_suc (r ∷ rest) (o ∷ out) (suc i) h k = ap (λ xs. r ∷ xs) (by_suc rest out i (omega (arith, h)) (omega (arith, k)))
