-- An entry of another kind is placed in a folder of which nothing is pending.
use Rattle.std.proofs.Common.{◌≡◌, ◌≢◌, ℕ, ◌<◌, ◌≤◌, ◌-◌, List, [], ◌∷◌, length, drop, refl, sym, ap, ◌∙◌, subst, inl, inr, arith, length-drop, drop_of_length-le}
use Rattle.folder_spec.specs.declared.Spot.TheVariants.{Nothing, Directory, FileNode, Odd}
use Rattle.folder_spec.specs.Path.{Part, Path, child}
use Rattle.folder_spec.specs.State.{Table, Node, State, present, put, IsSoundTable, IsSound}
use Rattle.folder_spec.specs.Event.{IsFree, Settle, with_table, changed}
use Rattle.folder_spec.proofs.Paths.{one_or_not, child-apart}
use Rattle.folder_spec.proofs.Sound.{new_dir_sound, with_table_sound}
use Rattle.folder_spec.proofs.Tables.{put-same, put-other, present_is_table, last_of-push}
use Rattle.folder_model.specs.declared.mem.step.Step.{Step}
use Rattle.folder_model.specs.Memory.{with_other}
use Rattle.folder_model.specs.Steps.{tables_after, kept_table, state_from}

module _ (made : ℕ) (t : Table) (p : Path) (sound : IsSoundTable made t) (free : IsFree t p) where
  with_directory : IsSoundTable made (put t p Directory)
  with_directory = new_dir_sound made t p sound free

  not_base : p ≢ []
  not_base e = let base : t [] ≡ Directory = sound.base in let there : t [] ≡ Nothing = subst (λ q. t q ≡ Nothing) e free.0 in cc

  -- elsewhere it makes no difference what is placed
  elsewhere : (q : Path) → p ≢ q → put t p Directory q ≡ put t p Odd q
  elsewhere q apart = put-other t p Directory q apart ∙ sym (put-other t p Odd q apart)

  as_before : (q : Path) (n : ℕ) → put t p Odd q ≡ FileNode n → t q ≡ FileNode n
  as_before q n at_q = elim (one_or_not p q) as (λ _. t q ≡ FileNode n) [
    | inl e ↦ let new : put t p Odd q ≡ Odd = subst (λ r. put t p Odd r ≡ Odd) e (put-same t p Odd) in cc
    | inr k ↦ sym (put-other t p Odd q k.0) ∙ at_q
  ]

  put_parents : (q : Path) (a : Part) → put t p Odd (child q a) ≢ Nothing → put t p Odd q ≡ Directory
  put_parents q a stands = elim (one_or_not p (child q a)) as (λ _. put t p Odd q ≡ Directory) [
    | inl at_new ↦
        let directory : put t p Directory (child q a) ≡ Directory = subst (λ r. put t p Directory r ≡ Directory) at_new (put-same t p Directory) in
        let above : put t p Directory q ≡ Directory = with_directory.parents q a (λ e. cc) in
        sym (elsewhere q (λ e. child-apart q a (sym at_new ∙ e))) ∙ above
    | inr k ↦
        let stood : t (child q a) ≢ Nothing = λ e. stands (put-other t p Odd (child q a) k.0 ∙ e) in
        let above : t q ≡ Directory = sound.parents q a stood in
        put-other t p Odd q (λ e. let none : t q ≡ Nothing = subst (λ r. t r ≡ Nothing) e free.0 in cc) ∙ above
  ]

  pub new_other_sound : IsSoundTable made (put t p Odd)
  new_other_sound = record {
    base = put-other t p Odd [] not_base ∙ sound.base;
    parents = put_parents;
    alone = λ q r n at_q at_r. sound.alone q r n (as_before q n at_q) (as_before r n at_r);
    is_made = λ q n at_q. sound.is_made q n (as_before q n at_q);
  }

pub other_sound : (s : State) (p : Path) → IsSound s → IsFree (present s) p → IsSound (with_table s (put (present s) p Odd))
other_sound s p sound free =
    with_table_sound s (put (present s) p Odd) sound (new_other_sound s.made (present s) p (sound.tables (present s) (present_is_table s)) free)

-- it is there as if it had been kept before
pub other_settled : (s : State) (p : Path) → changed (with_table s (put (present s) p Odd)) Settle ≡ with_other s p
other_settled s p =
    ap (λ t. record { nodes = s.nodes; made = s.made; kept = t; later = [] }) (last_of-push s.kept s.later (put (present s) p Odd))

none_left : (t : Table) (steps : List Step) → tables_after t steps ≡ [] → steps ≡ []
none_left t [] none = refl
none_left t (s ∷ steps) none = cc

-- no table is later where all steps are kept, and only there
pub later_none : (nodes : List Node) (base : Table) (steps : List Step) (kept : ℕ) → length steps ≤ kept → (state_from nodes base steps kept).later ≡ []
later_none nodes base steps kept all = ap (tables_after (kept_table base steps kept)) (drop_of_length-le steps all)

pub later_some : (nodes : List Node) (base : Table) (steps : List Step) (kept : ℕ) → kept < length steps → (state_from nodes base steps kept).later ≡ [] → ⊥
later_some nodes base steps kept fewer none =
    let left : drop kept steps ≡ [] = none_left (kept_table base steps kept) (drop kept steps) none in
    let number : length steps - kept ≡ 0 = sym (length-drop kept steps) ∙ ap length left in
    omega (arith, fewer, number)
