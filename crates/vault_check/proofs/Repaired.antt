-- A repair: that strays may be moved, and what is told of their moving.
use Rattle.std.proofs.Common.{◌≡◌, ◌≢◌, inl, inr, List, [], ◌∷◌, ◌++◌, get_or, Option, Some, None, IfSome, Result, Ok, Err, OnOk, Contains, AllPairs, refl, sym, ap, ◌∙◌, subst, append_assoc, append-nil, arith}
use Rattle.std.specs.declared.cmp.Ordering.TheVariants.{Less, Equal}
use Rattle.std.specs.Cmp.Lexicographic.{lists_total, nat_list_cmp_total}
use Rattle.std.proofs.lemmas.Cmp.{tied_itself}
use Rattle.std.specs.Ordering.{ordering_reverse}
use Rattle.std.proofs.lemmas.List.Elements.{Contains-get_or}
use Rattle.folder_model.specs.Order.{path_cmp}
use Rattle.folder_spec.specs.declared.FolderFault.{FolderFault}
use Rattle.folder_spec.specs.Path.{Path, below}
use Rattle.folder_spec.specs.State.{State, present}
use Rattle.folder_spec.specs.Event.{IsFree, Told, FromTo}
use Rattle.folder_spec.specs.Moments.{Went}
use Rattle.folder_spec.specs.Seen.{IfSeen, IsSeen, seen, under}
use Rattle.folder_spec.specs.View.{View, found}
use Rattle.folder_spec.proofs.Moments.{went_nowhere, went_more, went_to}
use Rattle.folder_spec.proofs.Paths.{begins_or_not, below-append, below-apart, below-both}
use Rattle.folder_spec.proofs.Seen.{free_seen}
use Rattle.folder_spec.proofs.Tellings.{from_to_both, from_to_more, from_to_same}
use Rattle.vault_spec.specs.Format.{Format}
use Rattle.vault_spec.specs.Moving.{IsStray, StraysGoAlone}
use Rattle.vault_check.specs.Repairing.{AreMovable, AreMoved, AreStraysBehind, HasMadeAll, HasMovedAll, HasNoStrays, HasRepaired, IsMoving, IsRepairing, Unchanged, Moving, MayMoveTo, Moves, MovesInto, RepairsAt, StopsIn, StopsMoving, behind, moving_calls, repair_calls}
use Rattle.folder_spec.specs.Apart.{AreApart}
use Rattle.vault_spec.proofs.Mapped.{all_pairs_mapped, mapped_from}
use Rattle.vault_check.proofs.MadeCalls.{some_strays}

none_or : (w q : Path) → ((rest : Path) → q ≡ w ++ rest → ⊥) → below w q ≡ None
none_or w q apart = elim (begins_or_not w q) as (λ _. below w q ≡ None) [ inl k ↦ absurd (apart k.0 k.1) | inr none ↦ none ]

module _ (root lost : Path) (f : Format) (alone : StraysGoAlone f) (v : View) (may : MayMoveTo v root lost) where
  stray_aside : (p : Path) → AreApart lost (root ++ p)
  stray_aside p = record {
    one = below-apart lost root p may.apart.other may.apart.one;
    other = none_or (root ++ p) lost (λ more is.
        let there : below root lost ≡ Some (p ++ more) = ap (below root) (is ∙ append_assoc root p more) ∙ below-append root (p ++ more) in
        let none = may.apart.one in cc);
  }

  module _ (paths : List Path) (are : AreStraysBehind root f (under root v) paths) where
    stray : (p : Path) → Contains are.strays p → IsStray f (under root v) p
    stray p there = ((are.are.each p).0 there).stray

    not_below_other : (p q : Path) → Contains are.strays p → Contains are.strays q → path_cmp p q ≢ Equal → below p q ≡ None
    not_below_other p q one two apart = none_or p q by_rest
      where
        by_rest : (rest : Path) → q ≡ p ++ rest → ⊥
        by_rest [] is = apart (ap (path_cmp p) (is ∙ append-nil p) ∙ tied_itself (lists_total nat_list_cmp_total) p)
        by_rest (a ∷ rest) is = ((are.are.each q).0 two).outer p a rest is (stray p one)

    pairs : AllPairs AreApart paths
    pairs = subst (AllPairs AreApart) (sym are.behind_root) (all_pairs_mapped AreApart (λ (p : Path). root ++ p) are.strays each)
      where
        each : AllPairs (λ (p q : Path). AreApart (root ++ p) (root ++ q)) are.strays
        each i j d below_ less =
            let p = get_or are.strays i d in
            let q = get_or are.strays j d in
            let one : Contains are.strays (get_or are.strays i d) = Contains-get_or are.strays i d (omega (arith, below_, less)) in
            let two : Contains are.strays (get_or are.strays j d) = Contains-get_or are.strays j d less in
            let up : path_cmp (get_or are.strays i d) (get_or are.strays j d) ≡ Less = are.are.ordered i j d below_ less in
            record {
              one = below-both root (get_or are.strays i d) (get_or are.strays j d) ∙ not_below_other (get_or are.strays i d) (get_or are.strays j d) one two (λ tied. let clash : Less ≡ Equal = sym up ∙ tied in cc);
              other = below-both root (get_or are.strays j d) (get_or are.strays i d) ∙ not_below_other (get_or are.strays j d) (get_or are.strays i d) two one
                  (λ tied. let clash : Less ≡ Equal = sym up ∙ (lists_total nat_list_cmp_total).antisymm (get_or are.strays i d) (get_or are.strays j d) ∙ ap ordering_reverse tied in cc);
            }

    pub are_movable : (s : State) → v ≡ seen s → AreMovable lost paths (present s)
    are_movable s is = record {
      stand = λ at there.
          let from = mapped_from (λ (p : Path). root ++ p) are.strays at (subst (λ xs. Contains xs at) are.behind_root there) in
          let law = alone.there (under root v) from.0 (stray from.0 from.1) in (
            λ none. law.1 (end_of root from.0 (from.2 ∙ none)),
            λ none. law.0 (ap (λ (w : View). w (root ++ from.0)) is ∙ ap (λ q. seen s q) from.2 ∙ ap (found (λ n. (s.nodes n).now)) none),
          );
      aside = λ at there.
          let from = mapped_from (λ (p : Path). root ++ p) are.strays at (subst (λ xs. Contains xs at) are.behind_root there) in
          subst (AreApart lost) from.2 (stray_aside from.0);
      apart = pairs;
    }
      where
        end_of : (r p : Path) → r ++ p ≡ [] → p ≡ []
        end_of [] p e = e
        end_of (a ∷ r) p e = cc

-- a vault without strays
pub none_behind : (root : Path) (f : Format) (v : View) (paths : List Path) → AreStraysBehind root f v paths → HasNoStrays f v → paths ≡ []
none_behind root f v paths are none = are.behind_root ∙ ap (behind root) (by are.strays (λ at there. none at ((are.are.each at).0 there).stray))
  where
    by : (strays : List Path) → ((at : Path) → ¬ Contains strays at) → strays ≡ []
    by [] empty = refl
    by (s ∷ strays) empty = absurd (empty s (0, omega arith, refl))

-- each call was done, of some strays
pub all_of_some : (lost : Path) (paths : List Path) (t u : Option Told) (result : Result (Unit {0}) FolderFault) → paths ≢ [] → OnOk result (FromTo (HasMovedAll lost paths) t u)
    → OnOk result (FromTo (HasMadeAll (repair_calls lost paths)) t u)
all_of_some lost paths t u (Err fault) some h = tt
all_of_some lost paths t u (Ok done) some h =
    subst (λ calls. FromTo (HasMadeAll calls) t u) (some_strays lost paths some)
    (from_to_more (HasMovedAll lost paths) (HasMadeAll (moving_calls lost paths)) t u (λ a b is k. k.all) h)

-- ---- of a folder that may tell nothing

module _ (root lost : Path) (f : Format) where
  abbrev Goes : Told → Told → Type 0
  Goes a b = Went (IsRepairing root f lost a.state) (λ s e. MovesInto lost s e.call) a b

  pub repairs_none : (t u : Option Told) → u ≡ t → RepairsAt root f lost t u
  repairs_none t u same = from_to_same Goes t u same (λ a. went_nowhere (IsRepairing root f lost a.state) (λ s e. MovesInto lost s e.call) a (Unchanged refl))

  module _ (paths : List Path) (t : Option Told) (are : IfSeen t (λ v. AreStraysBehind root f (under root v) paths)) where
    are_at : (a : Told) → t ≡ Some a → AreStraysBehind root f (under root (seen a.state)) paths
    are_at a is = are (seen a.state) (subst (λ o. IsSeen o (seen a.state)) (sym is) refl)

    pub repairs_by : (t1 u : Option Told) → t1 ≡ t → Moves lost paths t1 u → RepairsAt root f lost t u
    repairs_by t1 u same moves =
        from_to_more (λ a b. Went (IsMoving lost paths a.state) (λ s e. MovesInto lost s e.call) a b) Goes t u
        (λ a b is went. went_more (IsMoving lost paths a.state) (IsRepairing root f lost a.state) (λ s e. MovesInto lost s e.call) (λ s e. MovesInto lost s e.call) a b
        (λ s moving. Moving paths (are_at a is) moving) (λ s e k. k) went) (subst (λ o. Moves lost paths o u) same moves)

    -- nothing to move
    pub repaired_none : paths ≡ [] → FromTo (λ a b. AreMoved root f lost paths a b) t t
    repaired_none none =
        from_to_more (λ a b. b ≡ a) (λ a b. AreMoved root f lost paths a b) t t
        (λ a b is same. subst (λ c. AreMoved root f lost paths a c) (sym same)
        (record { are = are_at a is; repaired = record { nothing = λ _. refl; moves = λ some. absurd (some none); settled = λ some. absurd (some none) }; unwritten = refl }))
        (from_to_same (λ a b. b ≡ a) t t refl (λ a. refl))

    pub stops_by : (t1 u : Option Told) → t1 ≡ t → FromTo (StopsIn (repair_calls lost paths)) t1 u → FromTo (StopsMoving root f lost) t u
    stops_by t1 u same stops =
        from_to_more (StopsIn (repair_calls lost paths)) (StopsMoving root f lost) t u (λ a b is k. record { strays = paths; are = are_at a is; stops = k })
        (subst (λ o. FromTo (StopsIn (repair_calls lost paths)) o u) same stops)

    pub repaired_by : (t1 u : Option Told) → t1 ≡ t → Moves lost paths t1 u → FromTo (λ a b. HasRepaired lost paths a.state b.state) t1 u → FromTo (λ a b. AreMoved root f lost paths a b) t u
    repaired_by t1 u same moves h =
        from_to_more (λ a b. Went (IsMoving lost paths a.state) (λ s e. MovesInto lost s e.call) a b × HasRepaired lost paths a.state b.state) (λ a b. AreMoved root f lost paths a b) t u
        (λ a b is k. record { are = are_at a is; repaired = k.1; unwritten = (went_to (IsMoving lost paths a.state) (λ s e. MovesInto lost s e.call) a b k.0).nodes })
        (subst (λ o. FromTo (λ a b. Went (IsMoving lost paths a.state) (λ s e. MovesInto lost s e.call) a b × HasRepaired lost paths a.state b.state) o u) same
        (from_to_both (λ a b. Went (IsMoving lost paths a.state) (λ s e. MovesInto lost s e.call) a b) (λ a b. HasRepaired lost paths a.state b.state) t1 u moves h))

    -- what was moved, if there was something
    pub repaired_all : paths ≢ [] → (u : Option Told) (result : Result (Unit {0}) FolderFault) → Moves lost paths t u → OnOk result (FromTo (HasMovedAll lost paths) t u)
        → OnOk result (FromTo (λ a b. AreMoved root f lost paths a b) t u)
    repaired_all some u (Err fault) moves h = tt
    repaired_all some u (Ok done) moves h =
        repaired_by t u refl moves
        (from_to_more (HasMovedAll lost paths) (λ a b. HasRepaired lost paths a.state b.state) t u
        (λ a b is k. record { nothing = λ none. absurd (some none); moves = λ _. k.moved; settled = λ _. k.settled }) h)

    module _ (alone : StraysGoAlone f) (may : IfSeen t (λ v. MayMoveTo v root lost)) where
      pub all_movable : (t1 : Option Told) → t1 ≡ t → IfSome t1 (λ a. AreMovable lost paths (present a.state))
      all_movable None same = tt
      all_movable (Some a) same =
          let shown : IsSeen t (seen a.state) = subst (λ o. IsSeen o (seen a.state)) same refl in
          are_movable root lost f alone (seen a.state) (may (seen a.state) shown) paths (are (seen a.state) shown) a.state refl

      pub is_free : (t1 : Option Told) → t1 ≡ t → IfSome t1 (λ a. IsFree (present a.state) lost)
      is_free None same = tt
      is_free (Some a) same =
          let shown : IsSeen t (seen a.state) = subst (λ o. IsSeen o (seen a.state)) same refl in
          free_seen a.state lost (may (seen a.state) shown).free
