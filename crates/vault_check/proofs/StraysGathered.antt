-- Of findings in order, the paths of strays that are below no other.
use Rattle.std.proofs.Common.{◌≡◌, ◌⊎◌, inl, inr, ◌<◌, ◌-◌, Bool, true, false, ◌&&◌, not, cond, List, [], ◌∷◌, ◌++◌, length, get_or, Some, is_some, IsTrue, Contains, AllPairs, refl, sym, ap, ◌∙◌, subst, length-append, append_assoc, append-nil, arith}
use Rattle.std.specs.Cmp.Lexicographic.{lists_total, nat_list_cmp_total}
use Rattle.std.specs.Ordering.{ordering_reverse, ordering_then}
use Rattle.std.specs.declared.cmp.Ordering.{Ordering}
use Rattle.std.specs.declared.cmp.Ordering.TheVariants.{Less, Equal, Greater}
use Rattle.std.proofs.lemmas.Cmp.{tied_itself}
use Rattle.std.proofs.lemmas.List.Elements.{Contains-append_left, Contains-push, Contains-push_cases, Contains-get_or}
use Rattle.std.proofs.lemmas.Option.{slice_get-get_or}
use Rattle.std.proofs.lemmas.Bool.{cases_eq}
use Rattle.std.proofs.lemmas.List.Quantifiers.{all_pairs_push}
use Rattle.std.proofs.lemmas.Map.Lookups.{exact_bytes}
use Rattle.folder_model.specs.Order.{part_cmp, path_cmp}
use Rattle.folder_spec.specs.Path.{Part, Path, below}
use Rattle.folder_spec.proofs.Paths.{begins_or_not, below-append}
use Rattle.vault_check.specs.Strays.{is_covered, last_path, moves_number, strays_after, with_stray}
use Rattle.vault_walk.specs.declared.fault.Finding.{Finding}
use Rattle.vault_check.proofs.Contained.{further, head_pairs, none_within, tail_pairs}

-- ---- the order of paths

path_tied : (p : Path) → path_cmp p p ≡ Equal
path_tied p = tied_itself (lists_total nat_list_cmp_total) p

-- a path comes before what is below it
pub above_less : (p : Path) (a : Part) (rest : Path) → path_cmp p (p ++ a ∷ rest) ≡ Less
above_less [] a rest = refl
above_less (b ∷ p) a rest = ap (λ o. ordering_then o (path_cmp p (p ++ a ∷ rest))) (tied_itself nat_list_cmp_total b) ∙ above_less p a rest

abbrev pub IsUpTo : Path → Path → Type 0
IsUpTo p q = (p ≡ q) ⊎ (path_cmp p q ≡ Less)

flipped : (a b : Part) (o : Ordering) → part_cmp a b ≡ o → part_cmp b a ≡ ordering_reverse o
flipped a b o e = nat_list_cmp_total.antisymm b a ∙ ap ordering_reverse e

-- what is between a path and one below it is below it too
between : (p q rest : Path) → IsUpTo p q → IsUpTo q (p ++ rest) → (more : Path) × (q ≡ p ++ more)
between [] q rest first second = (q, refl)
between (a ∷ p) [] rest (inl same) second = cc
between (a ∷ p) [] rest (inr less) second = cc
between (a ∷ p) (b ∷ q) rest first second = by_parts (part_cmp a b) refl (λ one two. between p q rest one two)
  where
    rest_of : a ≡ b → IsUpTo (a ∷ p) (b ∷ q) → IsUpTo p q
    rest_of same (inl whole) = inl cc
    rest_of same (inr less) = inr (sym (ap (λ o. ordering_then o (path_cmp p q)) (ap (part_cmp a) (sym same) ∙ tied_itself nat_list_cmp_total a)) ∙ less)

    rest_to : a ≡ b → IsUpTo (b ∷ q) (a ∷ (p ++ rest)) → IsUpTo q (p ++ rest)
    rest_to same (inl whole) = inl cc
    rest_to same (inr less) = inr (sym (ap (λ o. ordering_then o (path_cmp q (p ++ rest))) (ap (part_cmp b) same ∙ tied_itself nat_list_cmp_total b)) ∙ less)

    ends : a ≡ b → (more : Path) × (q ≡ p ++ more) → (more : Path) × (b ∷ q ≡ a ∷ (p ++ more))
    ends same (more, is) = (more, ap (λ x. x ∷ q) (sym same) ∙ ap (λ r. a ∷ r) is)

    not_after : part_cmp b a ≡ Greater → IsUpTo (b ∷ q) (a ∷ (p ++ rest)) → ⊥
    not_after more (inl whole) = (let same : b ≡ a = cc in let clash : Equal ≡ Greater = sym (tied_itself nat_list_cmp_total b) ∙ ap (part_cmp b) same ∙ more in cc)
    not_after more (inr less) = (let clash : Greater ≡ Less = sym (ap (λ o. ordering_then o (path_cmp q (p ++ rest))) more) ∙ less in cc)

    not_before : part_cmp a b ≡ Greater → IsUpTo (a ∷ p) (b ∷ q) → ⊥
    not_before more (inl whole) = (let same : a ≡ b = cc in let clash : Equal ≡ Greater = sym (tied_itself nat_list_cmp_total a) ∙ ap (part_cmp a) same ∙ more in cc)
    not_before more (inr less) = (let clash : Greater ≡ Less = sym (ap (λ o. ordering_then o (path_cmp p q)) more) ∙ less in cc)

    by_parts : (o : Ordering) → part_cmp a b ≡ o → (IsUpTo p q → IsUpTo q (p ++ rest) → (more : Path) × (q ≡ p ++ more)) → (more : Path) × (b ∷ q ≡ a ∷ (p ++ more))
    by_parts Less e later = absurd (not_after (flipped a b Less e) second)
    by_parts Greater e later = absurd (not_before e first)
    by_parts Equal e later = let same : a ≡ b = exact_bytes a b e in ends same (later (rest_of same first) (rest_to same second))

-- ---- gathering

abbrev pub IsMovedFinding : Finding → Type 0
IsMovedFinding x = IsTrue (moves_number x.number)

-- of the findings so far, these paths are the strays that are below no other
pub record Gathered (past : List Finding) (ss : List Path) : Type 0 where
  pub ordered : AllPairs (λ (x y : Path). path_cmp x y ≡ Less) ss
  pub from : (at : Path) → Contains ss at → (x : Finding) × Contains past x × IsMovedFinding x × (x.at ≡ at)
  pub covers : (x : Finding) → Contains past x → IsMovedFinding x → (at : Path) × (rest : Path) × Contains ss at × (x.at ≡ at ++ rest)
  pub outer : (at : Path) → Contains ss at → (x : Finding) → Contains past x → IsMovedFinding x → (a : Part) (rest : Path) → at ≡ x.at ++ a ∷ rest → ⊥

pub gathered_none : Gathered [] []
gathered_none = record {
  ordered = λ i j d below within. absurd (let none : j < 0 = within in omega (arith, none));
  from = λ at found. absurd (none_within at found);
  covers = λ x found. absurd (none_within x found);
  outer = λ at found. absurd (none_within at found);
}

last_is : (ss : List Path) (d : Path) → 0 < length ss → last_path ss ≡ Some (get_or ss (length ss - 1) d)
last_is ss d some = slice_get-get_or ss (length ss - 1) d (omega (arith, some))

module _ (past : List Finding) (ss : List Path) (h : Gathered past ss) (x : Finding) (latest : (y : Finding) → Contains past y → IsUpTo y.at x.at) where
  -- what is below a stray is below the last one
  covered_by : (at rest : Path) → Contains ss at → x.at ≡ at ++ rest → is_covered (last_path ss) x.at ≡ true
  covered_by at rest found is = by_more (between at last rest at_last last_x)
    where
      some : 0 < length ss
      some = let less : found.0 < length ss = found.1 in omega (arith, less)

      last : Path
      last = get_or ss (length ss - 1) at

      last_in : Contains ss (get_or ss (length ss - 1) at)
      last_in = Contains-get_or ss (length ss - 1) at (let s = some in omega (arith, s))

      at_last : IsUpTo at (get_or ss (length ss - 1) at)
      at_last = elim (cases_eq found.0 (length ss - 1)) as (λ _. IsUpTo at (get_or ss (length ss - 1) at)) [
        | inl same ↦ inl (sym found.2 ∙ ap (λ k. get_or ss k at) same)
        | inr other ↦
            let less : found.0 < length ss = found.1 in
            let before : found.0 < length ss - 1 = omega (arith, less, other) in
            inr (subst (λ p. path_cmp p (get_or ss (length ss - 1) at) ≡ Less) found.2 (h.ordered found.0 (length ss - 1) at before (omega (arith, less))))
      ]

      last_x : IsUpTo (get_or ss (length ss - 1) at) (at ++ rest)
      last_x =
          let source = h.from (get_or ss (length ss - 1) at) last_in in
          subst (IsUpTo (get_or ss (length ss - 1) at)) is (subst (λ p. IsUpTo p x.at) source.3 (latest source.0 source.1))

      by_more : ((more : Path) × (get_or ss (length ss - 1) at ≡ at ++ more)) → is_covered (last_path ss) x.at ≡ true
      by_more ([], same) =
          ap (λ o. is_covered o x.at) (last_is ss at some) ∙ ap (λ p. is_some (below p x.at)) (same ∙ append-nil at) ∙ ap (λ p. is_some (below at p)) is ∙ ap is_some (below-append at rest)
      by_more (a ∷ more, same) =
          let source = h.from at found in
          absurd (h.outer (get_or ss (length ss - 1) at) last_in source.0 source.1 source.2 a more (same ∙ ap (λ p. p ++ a ∷ more) (sym source.3)))

  kept : (y : Finding) → Contains (past ++ x ∷ []) y → Contains past y ⊎ (x ≡ y)
  kept y found = Contains-push_cases past x y found

  -- a finding that isn't moved
  pub gathered_passed : moves_number x.number ≡ false → Gathered (past ++ x ∷ []) ss
  gathered_passed other = record {
    ordered = h.ordered;
    from = λ at found. let source = h.from at found in (source.0, Contains-append_left past (x ∷ []) source.0 source.1, source.2, source.3);
    covers = λ y found moved. elim (kept y found) as (λ _. (at : Path) × (rest : Path) × Contains ss at × (y.at ≡ at ++ rest)) [
      | inl before ↦ h.covers y before moved
      | inr same ↦ absurd (no_moved y same moved)
    ];
    outer = λ at found y seen moved a rest is. elim (kept y seen) [
      | inl before ↦ h.outer at found y before moved a rest is
      | inr same ↦ no_moved y same moved
    ];
  }
    where
      no_moved : (y : Finding) → x ≡ y → IsMovedFinding y → ⊥
      no_moved y same moved = (let clash : true ≡ false = sym moved ∙ ap (λ (z : Finding). moves_number z.number) (sym same) ∙ other in cc)

  not_above : (at : Path) → Contains ss at → (a : Part) (rest : Path) → at ≡ x.at ++ a ∷ rest → ⊥
  not_above at found a rest is =
      let source = h.from at found in
      let up : IsUpTo at x.at = subst (λ p. IsUpTo p x.at) source.3 (latest source.0 source.1) in
      let back : path_cmp x.at at ≡ Less = ap (path_cmp x.at) is ∙ above_less x.at a rest in
      elim up [
        | inl same ↦ (let clash : Equal ≡ Less = sym (path_tied x.at) ∙ ap (path_cmp x.at) (sym same) ∙ back in cc)
        | inr less ↦ (let clash : Less ≡ Greater = sym less ∙ (lists_total nat_list_cmp_total).antisymm at x.at ∙ ap ordering_reverse back in cc)
      ]

  -- one that is below the last stray
  pub gathered_covered : (last : Path) (more : Path) → Contains ss last → x.at ≡ last ++ more → Gathered (past ++ x ∷ []) ss
  gathered_covered last more last_in is = record {
    ordered = h.ordered;
    from = λ at found. let source = h.from at found in (source.0, Contains-append_left past (x ∷ []) source.0 source.1, source.2, source.3);
    covers = λ y found moved. elim (kept y found) as (λ _. (at : Path) × (rest : Path) × Contains ss at × (y.at ≡ at ++ rest)) [
      | inl before ↦ h.covers y before moved
      | inr same ↦ (last, more, last_in, ap (λ (z : Finding). z.at) (sym same) ∙ is)
    ];
    outer = λ at found y seen moved a rest e. elim (kept y seen) [
      | inl before ↦ h.outer at found y before moved a rest e
      | inr same ↦ not_above at found a rest (e ∙ ap (λ (z : Finding). z.at ++ a ∷ rest) (sym same))
    ];
  }

  -- one that is below none
  pub gathered_more : IsMovedFinding x → is_covered (last_path ss) x.at ≡ false → Gathered (past ++ x ∷ []) (ss ++ x.at ∷ [])
  gathered_more moved free = record {
    ordered = all_pairs_push (λ (p q : Path). path_cmp p q ≡ Less) ss x.at h.ordered (λ k d less. before (get_or ss k d) (Contains-get_or ss k d less));
    from = λ at found. elim (Contains-push_cases ss x.at at found) as (λ _. (y : Finding) × Contains (past ++ x ∷ []) y × IsMovedFinding y × (y.at ≡ at)) [
      | inl old ↦ (let source = h.from at old in (source.0, Contains-append_left past (x ∷ []) source.0 source.1, source.2, source.3))
      | inr same ↦ (x, Contains-push past x, moved, same)
    ];
    covers = λ y found moves. elim (kept y found) as (λ _. (at : Path) × (rest : Path) × Contains (ss ++ x.at ∷ []) at × (y.at ≡ at ++ rest)) [
      | inl old ↦ (let k = h.covers y old moves in (k.0, k.1, Contains-append_left ss (x.at ∷ []) k.0 k.2, k.3))
      | inr same ↦ (x.at, [], Contains-push ss x.at, ap (λ (z : Finding). z.at) (sym same) ∙ sym (append-nil x.at))
    ];
    outer = λ at found y seen moves a rest e. by_cases at (Contains-push_cases ss x.at at found) y (kept y seen) moves a rest e;
  }
    where
      not_covered : (at rest : Path) → Contains ss at → x.at ≡ at ++ rest → ⊥
      not_covered at rest found is = (let clash : true ≡ false = sym (covered_by at rest found is) ∙ free in cc)

      before : (at : Path) → Contains ss at → path_cmp at x.at ≡ Less
      before at found =
          let source = h.from at found in
          elim (subst (λ p. IsUpTo p x.at) source.3 (latest source.0 source.1)) as (λ _. path_cmp at x.at ≡ Less) [
            | inl same ↦ absurd (not_covered at [] found (sym same ∙ sym (append-nil at)))
            | inr less ↦ less
          ]

      by_cases : (at : Path) → Contains ss at ⊎ (x.at ≡ at) → (y : Finding) → Contains past y ⊎ (x ≡ y) → IsMovedFinding y → (a : Part) (rest : Path) → at ≡ y.at ++ a ∷ rest → ⊥
      by_cases at (inl old) y (inl seen) moves a rest e = h.outer at old y seen moves a rest e
      by_cases at (inl old) y (inr same) moves a rest e = not_above at old a rest (e ∙ ap (λ (z : Finding). z.at ++ a ∷ rest) (sym same))
      by_cases at (inr here) y (inl seen) moves a rest e =
          let k = h.covers y seen moves in
          not_covered k.0 (k.1 ++ a ∷ rest) k.2 (here ∙ e ∙ ap (λ p. p ++ a ∷ rest) k.3 ∙ append_assoc k.0 k.1 (a ∷ rest))
      by_cases at (inr here) y (inr same) moves a rest e =
          let longer : length at ≡ length (at ++ a ∷ rest) = ap length (e ∙ ap (λ (z : Finding). z.at ++ a ∷ rest) (sym same) ∙ ap (λ p. p ++ a ∷ rest) here) in
          omega (arith, longer, length-append at (a ∷ rest))

-- ---- all of them

last_covers : (ss : List Path) (at : Path) → is_covered (last_path ss) at ≡ true → (last : Path) × (more : Path) × Contains ss last × (at ≡ last ++ more)
last_covers [] at covered = cc
last_covers (s ∷ ss) at covered =
    let d : Path = s in
    let some : 0 < length (s ∷ ss) = omega arith in
    let last : Path = get_or (s ∷ ss) (length (s ∷ ss) - 1) s in
    let here : is_some (below (get_or (s ∷ ss) (length (s ∷ ss) - 1) s) at) ≡ true = ap (λ o. is_covered o at) (sym (last_is (s ∷ ss) s some)) ∙ covered in
    elim (begins_or_not (get_or (s ∷ ss) (length (s ∷ ss) - 1) s) at) as (λ _. (last : Path) × (more : Path) × Contains (s ∷ ss) last × (at ≡ last ++ more)) [
      | inl k ↦ (get_or (s ∷ ss) (length (s ∷ ss) - 1) s, k.0, Contains-get_or (s ∷ ss) (length (s ∷ ss) - 1) s (omega (arith, some)), k.1)
      | inr none ↦ absurd (let clash : false ≡ true = sym (ap is_some none) ∙ here in cc)
    ]

one_gathered : (past : List Finding) (ss : List Path) (x : Finding) → Gathered past ss → ((y : Finding) → Contains past y → IsUpTo y.at x.at) → Gathered (past ++ x ∷ []) (with_stray ss x)
one_gathered past ss x h latest = by_tests (moves_number x.number) refl (is_covered (last_path ss) x.at) refl
  where
    by_tests : (b : Bool) → moves_number x.number ≡ b → (t : Bool) → is_covered (last_path ss) x.at ≡ t → Gathered (past ++ x ∷ []) (cond (b && not t) (ss ++ x.at ∷ []) ss)
    by_tests false e t k = gathered_passed past ss h x latest e
    by_tests true e false k = gathered_more past ss h x latest e k
    by_tests true e true k = let c = last_covers ss x.at k in gathered_covered past ss h x latest c.0 c.1 c.2 c.3

gathered_on : (past : List Finding) (ss : List Path) (xs : List Finding) → Gathered past ss → ((y : Finding) → Contains past y → (x : Finding) → Contains xs x → IsUpTo y.at x.at)
    → AllPairs (λ (x y : Finding). IsUpTo x.at y.at) xs → Gathered (past ++ xs) (strays_after ss xs)
gathered_on past ss [] h upto pairs = subst (λ p. Gathered p ss) (sym (append-nil past)) h
gathered_on past ss (x ∷ xs) h upto pairs =
    subst (λ p. Gathered p (strays_after (with_stray ss x) xs)) (append_assoc past (x ∷ []) xs)
    (gathered_on (past ++ x ∷ []) (with_stray ss x) xs (one_gathered past ss x h (λ y found. upto y found x (0, omega arith, refl)))
    (λ y found z later. elim (Contains-push_cases past x y found) as (λ _. IsUpTo y.at z.at) [
      | inl before ↦ upto y before z (further x xs z later)
      | inr same ↦ subst (λ (w : Finding). IsUpTo w.at z.at) same (head_pairs (λ (v w : Finding). IsUpTo v.at w.at) x xs pairs z later)
    ])
    (tail_pairs (λ (v w : Finding). IsUpTo v.at w.at) x xs pairs))

pub gathered_all : (xs : List Finding) → AllPairs (λ (x y : Finding). IsUpTo x.at y.at) xs → Gathered xs (strays_after [] xs)
gathered_all xs pairs = gathered_on [] [] xs gathered_none (λ y found. absurd (none_within y found)) pairs
