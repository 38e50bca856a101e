-- Name tables as ordered maps.
use Rattle.std.proofs.Common.{◌≡◌, ◌≢◌, ◌⊎◌, ℕ, suc, ◌<◌, Bool, true, false, cond, List, [], ◌∷◌, ◌++◌, length, Option, Some, None, Contains, refl, sym, ap, ◌∙◌, subst, inl, inr, arith, append-nil, append_assoc}
use Rattle.std.specs.Ordering.{is_eq}
use Rattle.std.specs.BTreeMap.{BTreeMap, get, keys, is_at}
use Rattle.std.specs.Map.{lookup, keys_of}
use Rattle.std.specs.Cmp.Lexicographic.{lists_ties, texts_ties}
use mathlib.Core.Path.{fun_ext}
use Rattle.folder_spec.specs.declared.Spot.{Spot}
use Rattle.folder_spec.specs.declared.Spot.TheVariants.{Nothing, Directory}
use Rattle.folder_spec.specs.Path.{Part, Path, path_eq, below, child}
use Rattle.folder_spec.specs.State.{Table, put, moved}
use Rattle.folder_spec.proofs.Paths.{path_eq-Decides, one_or_not, begins_or_not, below-append, not_below}
use Rattle.folder_spec.proofs.Tables.{put-same, put-other, moved-new, moved-old, moved-other}
use Rattle.folder_model.specs.Order.{part_cmp, path_cmp}
use Rattle.folder_model.specs.Steps.{base_table}
use Rattle.folder_model.specs.Tables.{spot_found, table_of, placed, placed_by, HasParents, MovesPath}
use Rattle.folder_model.proofs.StepLemmas.{stands_or_not}

-- the order tells paths apart
same_path : (p q : Path) → path_eq p q ≡ is_eq (path_cmp p q)
same_path p q = lists_ties part_cmp texts_ties p q

-- after a change at a path
pub found_after : (m n : BTreeMap Path Spot) (at : Path) (x : Spot) (w : Option Spot) → spot_found w ≡ x
    → ((q : Path) → get path_cmp n q ≡ cond (is_at (path_cmp at) q) w (get path_cmp m q)) → table_of n ≡ put (table_of m) at x
found_after m n at x w is updates = fun_ext (λ q. ap spot_found (updates q) ∙ by_test q (is_at (path_cmp at) q) refl)
  where
    by_test : (q : Path) (b : Bool) → is_at (path_cmp at) q ≡ b → spot_found (cond (is_at (path_cmp at) q) w (get path_cmp m q)) ≡ put (table_of m) at x q
    by_test q true e = rw (e, same_path at q, e) is
    by_test q false e = rw (e, same_path at q, e) refl

pub same_entries : (m n : BTreeMap Path Spot) → n.entries ≡ m.entries → table_of n ≡ table_of m
same_entries m n e = ap (λ (es : List (Path × Spot)). λ p. spot_found (lookup (is_at (path_cmp p)) es)) e

-- an empty map
pub none_found : (m : BTreeMap Path Spot) (q : Path) → m.entries ≡ [] → table_of m q ≡ Nothing
none_found m q e = ap (λ (es : List (Path × Spot)). spot_found (lookup (is_at (path_cmp q)) es)) e

-- the base alone
pub base_alone : (m n : BTreeMap Path Spot) → m.entries ≡ [] → table_of n ≡ put (table_of m) [] Directory → table_of n ≡ base_table
base_alone m n none e = e ∙ fun_ext at
  where
    at : (q : Path) → put (table_of m) [] Directory q ≡ base_table q
    at [] = refl
    at (a ∷ q) = none_found m (a ∷ q) none

contains_more : (xs : List Path) (y x : Path) → Contains xs x → Contains (y ∷ xs) x
contains_more xs y x h = (suc h.0, (let less : h.0 < length xs = h.1 in omega (arith, less)), h.2)

pub contains_cases : {X : Type 0} (xs : List X) (y x : X) → Contains (y ∷ xs) x → (y ≡ x) ⊎ Contains xs x
contains_cases xs y x (ℕ.zero, less, is) = inl is
contains_cases xs y x (suc k, less, is) = inr (k, omega (arith, less), is)

pub none_contained : {X : Type 0} (x : X) → Contains [] x → ⊥
none_contained x h = let none : h.0 < 0 = h.1 in omega (arith, none)

-- each path at which something stands is a key
pub key_there : (m : BTreeMap Path Spot) (p : Path) → table_of m p ≢ Nothing → Contains (keys m) p
key_there m p stands = among m.entries stands
  where
    by_test : (es : List (Path × Spot)) (e : Path × Spot) (b : Bool) → is_eq (path_cmp p e.0) ≡ b → spot_found (cond b (Some e.1) (lookup (is_at (path_cmp p)) es)) ≢ Nothing
        → (spot_found (lookup (is_at (path_cmp p)) es) ≢ Nothing → Contains (keys_of es) p) → Contains (keys_of (e ∷ es)) p
    by_test es e true same stands rest = (0, omega arith, sym ((path_eq-Decides p e.0).0 (same_path p e.0 ∙ same)))
    by_test es e false other stands rest = contains_more (keys_of es) e.0 p (rest stands)

    among : (es : List (Path × Spot)) → spot_found (lookup (is_at (path_cmp p)) es) ≢ Nothing → Contains (keys_of es) p
    among [] stands = absurd (stands refl)
    among (e ∷ es) stands = by_test es e (is_eq (path_cmp p e.0)) refl stands (among es)

-- nothing stands below what is no directory
pub nothing_below : (t : Table) → HasParents t → (w : Path) → t w ≢ Directory → (b : Part) (rest : Path) → t (w ++ b ∷ rest) ≡ Nothing
nothing_below t parents w no_directory b rest = elim (stands_or_not (t (w ++ b ∷ rest))) [
  | inl none ↦ none
  | inr stands ↦ absurd (no_directory (above w b rest stands))
]
  where
    above : (w : Path) (b : Part) (rest : Path) → t (w ++ b ∷ rest) ≢ Nothing → t w ≡ Directory
    above w b [] stands = parents w b stands
    above w b (c ∷ rest) stands = parents w b (λ none.
        let directory : t (child w b) ≡ Directory = above (child w b) c rest (λ e. stands (ap t (sym (append_assoc w (b ∷ []) (c ∷ rest))) ∙ e)) in
        cc)

-- What is no directory moves alone.
module _ (t : Table) (old new : Path) (parents : HasParents t) (file : t old ≢ Directory) (place : t new ≢ Directory) (apart : below old new ≡ None) where
  old_is_not_new : old ≢ new
  old_is_not_new e = not_below old [] (ap (below old) (append-nil old ∙ e) ∙ apart)

  at_new : (rest : Path) → put (put t new (t old)) old Nothing (new ++ rest) ≡ t (old ++ rest)
  at_new [] =
      put-other (put t new (t old)) old Nothing (new ++ []) (λ e. old_is_not_new (e ∙ append-nil new))
      ∙ ap (put t new (t old)) (append-nil new) ∙ put-same t new (t old) ∙ ap t (sym (append-nil old))
  at_new (c ∷ rest) = elim (one_or_not old (new ++ c ∷ rest)) as (λ _. put (put t new (t old)) old Nothing (new ++ c ∷ rest) ≡ t (old ++ c ∷ rest)) [
    | inl e ↦ ap (put (put t new (t old)) old Nothing) (sym e) ∙ put-same (put t new (t old)) old Nothing ∙ sym (nothing_below t parents old file c rest)
    | inr k ↦
        put-other (put t new (t old)) old Nothing (new ++ c ∷ rest) k.0
        ∙ put-other t new (t old) (new ++ c ∷ rest) (λ e. longer e)
        ∙ nothing_below t parents new place c rest ∙ sym (nothing_below t parents old file c rest)
  ]
    where
      longer : new ≡ new ++ c ∷ rest → ⊥
      longer e = let some : below new new ≡ Some (c ∷ rest) = ap (below new) e ∙ below-append new (c ∷ rest) in
          let none : below new new ≡ Some [] = ap (below new) (sym (append-nil new)) ∙ below-append new [] in
          cc

  at_old : (rest : Path) → below new (old ++ rest) ≡ None → put (put t new (t old)) old Nothing (old ++ rest) ≡ Nothing
  at_old [] none = ap (put (put t new (t old)) old Nothing) (append-nil old) ∙ put-same (put t new (t old)) old Nothing
  at_old (c ∷ rest) none = elim (one_or_not old (old ++ c ∷ rest)) as (λ _. put (put t new (t old)) old Nothing (old ++ c ∷ rest) ≡ Nothing) [
    | inl e ↦ ap (put (put t new (t old)) old Nothing) (sym e) ∙ put-same (put t new (t old)) old Nothing
    | inr k ↦
        put-other (put t new (t old)) old Nothing (old ++ c ∷ rest) k.0
        ∙ put-other t new (t old) (old ++ c ∷ rest) (λ e. not_below new [] (ap (below new) (append-nil new ∙ e) ∙ none))
        ∙ nothing_below t parents old file c rest
  ]

  pub file_moved : put (put t new (t old)) old Nothing ≡ moved t old new
  file_moved = fun_ext (λ q. elim (begins_or_not new q) as (λ _. put (put t new (t old)) old Nothing q ≡ moved t old new q) [
    | inl k ↦ ap (put (put t new (t old)) old Nothing) k.1 ∙ at_new k.0 ∙ sym (ap (moved t old new) k.1 ∙ moved-new t old new k.0)
    | inr not_new ↦ elim (begins_or_not old q) as (λ _. put (put t new (t old)) old Nothing q ≡ moved t old new q) [
      | inl k ↦
          let none : below new (old ++ k.0) ≡ None = ap (below new) (sym k.1) ∙ not_new in
          ap (put (put t new (t old)) old Nothing) k.1 ∙ at_old k.0 none ∙ sym (ap (moved t old new) k.1 ∙ moved-old t old new k.0 none)
      | inr not_old ↦
          put-other (put t new (t old)) old Nothing q (λ e. not_below old [] (ap (below old) (append-nil old ∙ e) ∙ not_old))
          ∙ put-other t new (t old) q (λ e. not_below new [] (ap (below new) (append-nil new ∙ e) ∙ not_new))
          ∙ sym (moved-other t old new q not_new not_old)
    ]
  ])

-- A table is moved path by path, to where nothing stands: f is what is made so far, and these paths are left.
pub record IsMovedSoFar (t f : Table) (old new : Path) (left : List Path) : Type 0 where
  pub right : (q : Path) → (f q ≡ Nothing) ⊎ (f q ≡ moved t old new q)
  pub done : (p : Path) → t p ≢ Nothing → Contains left p ⊎ (f (placed old new p) ≡ t p)

module _ (t : Table) (old new : Path) (parents : HasParents t) (apart : below old new ≡ None) (place : t new ≡ Nothing) where
  -- where what stands goes
  moved_placed : (p : Path) → t p ≢ Nothing → moved t old new (placed old new p) ≡ t p
  moved_placed p stands = elim (begins_or_not old p) as (λ _. moved t old new (placed old new p) ≡ t p) [
    | inl k ↦
        ap (λ o. moved t old new (placed_by new p o)) (ap (below old) k.1 ∙ below-append old k.0) ∙ moved-new t old new k.0 ∙ ap t (sym k.1)
    | inr not_old ↦
        ap (λ o. moved t old new (placed_by new p o)) not_old ∙ moved-other t old new p (not_new p stands) not_old
  ]
    where
      not_new : (p : Path) → t p ≢ Nothing → below new p ≡ None
      not_new p stands = elim (begins_or_not new p) [
        | inl k ↦ absurd (stands (ap t k.1 ∙ at k.0))
        | inr none ↦ none
      ]
        where
          at : (rest : Path) → t (new ++ rest) ≡ Nothing
          at [] = ap t (append-nil new) ∙ place
          at (c ∷ rest) = nothing_below t parents new (λ directory. (let none : t new ≡ Nothing = place in cc)) c rest

  pub moved_at_first : (f : Table) (left : List Path) → ((q : Path) → f q ≡ Nothing) → ((p : Path) → t p ≢ Nothing → Contains left p) → IsMovedSoFar t f old new left
  moved_at_first f left empty all = record { right = λ q. inl (empty q); done = λ p stands. inl (all p stands) }

  -- one path more
  pub moved_one : (f : Table) (p : Path) (left : List Path) → t p ≢ Nothing → IsMovedSoFar t f old new (p ∷ left) → IsMovedSoFar t (put f (placed old new p) (t p)) old new left
  moved_one f p left stood so_far = record {
    right = λ q. elim (one_or_not (placed old new p) q) as (λ _. (put f (placed old new p) (t p) q ≡ Nothing) ⊎ (put f (placed old new p) (t p) q ≡ moved t old new q)) [
      | inl e ↦ inr (ap (put f (placed old new p) (t p)) (sym e) ∙ put-same f (placed old new p) (t p) ∙ sym (moved_placed p stood) ∙ ap (moved t old new) e)
      | inr k ↦ elim (so_far.right q) as (λ _. (put f (placed old new p) (t p) q ≡ Nothing) ⊎ (put f (placed old new p) (t p) q ≡ moved t old new q)) [
        | inl none ↦ inl (put-other f (placed old new p) (t p) q k.0 ∙ none)
        | inr right ↦ inr (put-other f (placed old new p) (t p) q k.0 ∙ right)
      ]
    ];
    done = λ r stands. elim (so_far.done r stands) as (λ _. Contains left r ⊎ (put f (placed old new p) (t p) (placed old new r) ≡ t r)) [
      | inl among ↦ elim (contains_cases left p r among) as (λ _. Contains left r ⊎ (put f (placed old new p) (t p) (placed old new r) ≡ t r)) [
        | inl e ↦ inr (ap (put f (placed old new p) (t p)) (ap (placed old new) (sym e)) ∙ put-same f (placed old new p) (t p) ∙ ap t e)
        | inr more ↦ inl more
      ]
      | inr there ↦ inr (elim (one_or_not (placed old new p) (placed old new r)) as (λ _. put f (placed old new p) (t p) (placed old new r) ≡ t r) [
        | inl e ↦
            ap (put f (placed old new p) (t p)) (sym e) ∙ put-same f (placed old new p) (t p)
            ∙ sym (moved_placed p stood) ∙ ap (moved t old new) e ∙ moved_placed r stands
        | inr k ↦ put-other f (placed old new p) (t p) (placed old new r) k.0 ∙ there
      ])
    ];
  }

  -- a path at which nothing stands
  pub moved_none : (f : Table) (p : Path) (left : List Path) → t p ≡ Nothing → IsMovedSoFar t f old new (p ∷ left) → IsMovedSoFar t f old new left
  moved_none f p left none so_far = record {
    right = so_far.right;
    done = λ r stands. elim (so_far.done r stands) as (λ _. Contains left r ⊎ (f (placed old new r) ≡ t r)) [
      | inl among ↦ elim (contains_cases left p r among) as (λ _. Contains left r ⊎ (f (placed old new r) ≡ t r)) [
        | inl e ↦ absurd (stands (ap t (sym e) ∙ none))
        | inr more ↦ inl more
      ]
      | inr there ↦ inr there
    ];
  }

  pub moved_next : (f g : Table) (p : Path) (left : List Path) → MovesPath t f g old new p → IsMovedSoFar t f old new (p ∷ left) → IsMovedSoFar t g old new left
  moved_next f g p left moves so_far = elim (stands_or_not (t p)) as (λ _. IsMovedSoFar t g old new left) [
    | inl none ↦ subst (λ h. IsMovedSoFar t h old new left) (sym (moves.none none)) (moved_none f p left none so_far)
    | inr stands ↦ subst (λ h. IsMovedSoFar t h old new left) (sym (moves.some stands)) (moved_one f p left stands so_far)
  ]

  at_path : (f : Table) → IsMovedSoFar t f old new [] → (q : Path) → f q ≡ moved t old new q
  at_path f so_far q = elim (so_far.right q) as (λ _. f q ≡ moved t old new q) [
    | inr right ↦ right
    | inl none ↦ none ∙ sym (elim (stands_or_not (moved t old new q)) [
      | inl nothing ↦ nothing
      | inr stands ↦ absurd (by_old stands none)
    ])
  ]
    where
      gone : (p : Path) → t p ≢ Nothing → f (placed old new p) ≡ t p
      gone p stands = elim (so_far.done p stands) [ inl among ↦ absurd (none_contained p among) | inr there ↦ there ]

      by_old : moved t old new q ≢ Nothing → f q ≡ Nothing → ⊥
      by_old stands none = elim (begins_or_not new q) [
        | inl k ↦
            let here : t (old ++ k.0) ≢ Nothing = λ e. stands (ap (moved t old new) k.1 ∙ moved-new t old new k.0 ∙ e) in
            let place_is : placed old new (old ++ k.0) ≡ q = ap (placed_by new (old ++ k.0)) (below-append old k.0) ∙ sym k.1 in
            here (sym (gone (old ++ k.0) here) ∙ ap f place_is ∙ none)
        | inr not_new ↦ elim (begins_or_not old q) [
          | inl k ↦ stands (ap (moved t old new) k.1 ∙ moved-old t old new k.0 (ap (below new) (sym k.1) ∙ not_new))
          | inr not_old ↦
              let here : t q ≢ Nothing = λ e. stands (moved-other t old new q not_new not_old ∙ e) in
              here (sym (gone q here) ∙ ap f (ap (placed_by new q) not_old) ∙ none)
        ]
      ]

  pub moved_at_last : (f : Table) → IsMovedSoFar t f old new [] → f ≡ moved t old new
  moved_at_last f so_far = fun_ext (at_path f so_far)
