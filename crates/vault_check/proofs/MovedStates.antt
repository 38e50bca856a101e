-- The states of a folder while strays are moved.
use Rattle.std.proofs.Common.{◌≡◌, ◌⊎◌, inl, inr, ℕ, suc, ◌+◌, ◌<◌, ◌≤◌, ◌^◌, List, [], ◌∷◌, ◌++◌, length, take, get_or, Option, Some, None, IfSome, Result, Ok, Err, OnOk, Contains, get_or-take, refl, sym, ap, ◌∙◌, append_assoc, subst, arith}
use Rattle.std.proofs.Math.Seq.{take-length, take-suc}
use Rattle.std.proofs.lemmas.List.Elements.{Contains-get_or}
use Rattle.std.proofs.lemmas.List.{get_or_default, length-take, length-take-le}
use Rattle.folder_spec.specs.declared.FolderFault.{FolderFault}
use Rattle.folder_spec.specs.declared.Spot.TheVariants.{Directory}
use Rattle.folder_spec.specs.Path.{Path}
use Rattle.folder_spec.specs.State.{Table, State, IsAmong, last_of, present, moved, put, IsTableOf, IsSound}
use Rattle.folder_spec.specs.Event.{Call, MakeDir, Rename, Settle, Allowed, IsFree, changed, with_table, Told, Steps, Changes, FromTo}
use Rattle.folder_spec.specs.Moments.{Went}
use Rattle.folder_spec.proofs.Tables.{present_is_table, last_of-push, among-push}
use Rattle.folder_spec.proofs.Moments.{went_nowhere, went_on, went_by_call, went_more, went_to}
use Rattle.folder_spec.proofs.Tellings.{at_told, from_to_both, from_to_more, from_to_on}
use Rattle.vault_check.specs.Repairing.{AreMovable, HasMadeAll, HasMadeLost, HasMoved, HasMovedAll, HasMovedEach, HasMovedSome, IsMoving, Moves, MovesInto, Stays, making_calls, moving_calls, place_of, renames}
use Rattle.folder_spec.specs.Apart.{AreApart}
use Rattle.vault_check.proofs.MadeCalls.{all_next}
use Rattle.vault_check.proofs.MovedTables.{apart_by, bare_itself, may_move, moved_none, moved_one_more, moved_since}

module _ (lost : Path) (strays : List Path) where
  -- from a to b these were being moved, and so many of them are
  pub record HasGone (count : ℕ) (a b : Told) : Type 0 where
    pub went : Went (IsMoving lost strays a.state) (λ s e. MovesInto lost s e.call) a b
    pub moved : HasMoved lost (take count strays) (present b.state) (present a.state)

  abbrev Doing : Told → Told → Type 0
  Doing a b = Went (IsMoving lost strays a.state) (λ s e. MovesInto lost s e.call) a b

  doing_none : (a : Told) → Doing a a
  doing_none a = went_nowhere (IsMoving lost strays a.state) (λ s e. MovesInto lost s e.call) a (record { tables = λ t is_table. inl is_table; nodes = refl; made = refl })

  -- a table comes after the others
  table_more : (s0 s : State) (t : Table) → IsMoving lost strays s0 s → HasMovedSome lost strays t (present s0) → IsMoving lost strays s0 (with_table s t)
  table_more s0 s t h moved = record {
    tables = λ u is_table. elim is_table as (λ _. IsTableOf s0 u ⊎ HasMovedSome lost strays u (present s0)) [
      | inl kept ↦ h.tables u (inl kept)
      | inr more ↦ elim (among-push u t s.later more) as (λ _. IsTableOf s0 u ⊎ HasMovedSome lost strays u (present s0)) [
        | inl before ↦ h.tables u (inr before)
        | inr new ↦ inr (subst (λ w. HasMovedSome lost strays w (present s0)) (sym new) moved)
      ]
    ];
    nodes = h.nodes;
    made = h.made;
  }

  -- the last table alone stays
  settle_moving : (s0 s : State) → IsMoving lost strays s0 s → IsMoving lost strays s0 (changed s Settle)
  settle_moving s0 s h = record {
    tables = λ u is_table. elim is_table as (λ _. IsTableOf s0 u ⊎ HasMovedSome lost strays u (present s0)) [
      | inl kept ↦ h.tables u (subst (IsTableOf s) (sym kept) (present_is_table s))
      | inr more ↦ absurd more
    ];
    nodes = h.nodes;
    made = h.made;
  }

  pub moving_none : (s : State) → IsMoving lost strays s s
  moving_none s = record { tables = λ t is_table. inl is_table; nodes = refl; made = refl }

  moving_now : (a b : Told) → Doing a b → IsMoving lost strays a.state b.state
  moving_now a b went = went_to (IsMoving lost strays a.state) (λ s e. MovesInto lost s e.call) a b went

  -- where the folder of lost ones stayed, it stays
  stays_moving : (s0 s : State) → Stays lost s0 → IsMoving lost strays s0 s → Stays lost s
  stays_moving s0 s stays moving t is_table = elim (moving.tables t is_table) as (λ _. t lost ≡ Directory) [ inl before ↦ stays t before | inr some ↦ some.moved.folder ]

  take_few : (count : ℕ) → count < length strays → take (count + 1) strays ≡ take count strays ++ get_or strays count [] ∷ []
  take_few count less = ap (λ n. take n strays) (let one : count + 1 ≡ suc count = omega arith in one) ∙ take-suc strays count [] less

  -- a stray is aside of those before it
  aside_before : (t : Table) → AreMovable lost strays t → (count : ℕ) → count < length strays → (g : Path) → Contains (take count strays) g → AreApart g (get_or strays count [])
  aside_before t movable count less g found =
      let within : found.0 < length (take count strays) = found.1 in
      let size : length (take count strays) ≡ count = length-take-le count strays (omega (arith, less)) in
      let before : found.0 < count = omega (arith, within, size) in
      let is : get_or strays found.0 g ≡ g = sym (get_or-take count strays found.0 g before) ∙ found.2 in
      let pair : AreApart (get_or strays found.0 g) (get_or strays count g) = movable.apart found.0 count g before less in
      subst (λ p. AreApart p (get_or strays count [])) is (subst (AreApart (get_or strays found.0 g)) (get_or_default strays count g [] less) pair)

  -- ---- one more is moved
  module _ (a b : Told) (count : ℕ) (less : count < length strays) (few : count < 2 ^ 63) (movable : AreMovable lost strays (present a.state)) (h : HasGone count a b) where
    front_size : length (take count strays) ≡ count
    front_size = length-take-le count strays (omega (arith, less))

    within : Contains strays (get_or strays count [])
    within = Contains-get_or strays count [] less

    rename : Call
    rename = Rename (get_or strays count []) (place_of lost count)

    pub rename_allowed : Allowed b.state (Rename (get_or strays count []) (place_of lost count))
    rename_allowed =
        subst (λ n. Allowed b.state (Rename (get_or strays count []) (place_of lost n))) front_size
        (may_move lost (present a.state) (present b.state) (take count strays) (get_or strays count []) h.moved (movable.aside (get_or strays count []) within)
        (aside_before (present a.state) movable count less) (let size = front_size in omega (arith, size, less, few))
        (movable.stand (get_or strays count []) within).0 (movable.stand (get_or strays count []) within).1)

    moved_table : HasMoved lost (take (count + 1) strays) (moved (present b.state) (get_or strays count []) (place_of lost count)) (present a.state)
    moved_table =
        subst (λ gone. HasMoved lost gone (moved (present b.state) (get_or strays count []) (place_of lost count)) (present a.state)) (sym (take_few count less))
        (subst (λ n. HasMoved lost (take count strays ++ get_or strays count [] ∷ []) (moved (present b.state) (get_or strays count []) (place_of lost n)) (present a.state)) front_size
        (moved_one_more lost (present a.state) (present b.state) (take count strays) (get_or strays count []) h.moved (movable.aside (get_or strays count []) within)
        (aside_before (present a.state) movable count less) (let size = front_size in omega (arith, size, less, few))))

    moving_b : IsMoving lost strays a.state b.state
    moving_b = moving_now a b h.went

    renamed_doing : Stays lost a.state → (c : Told) (result : Result (Unit {0}) FolderFault) → Steps (Rename (get_or strays count []) (place_of lost count)) b c result → Doing a c
    renamed_doing stays c result steps =
        went_on (IsMoving lost strays a.state) (λ s e. MovesInto lost s e.call) a b c h.went
        (went_by_call (IsMoving lost strays a.state) (λ s e. MovesInto lost s e.call) (Rename (get_or strays count []) (place_of lost count)) b c result moving_b
        (λ allowed. table_more a.state b.state (moved (present b.state) (get_or strays count []) (place_of lost count)) moving_b
        (record { count = count + 1; few = (let more : count + 1 ≤ length strays = omega (arith, less) in more); moved = moved_table }))
        (λ added allowed. moving_b) (λ outcome. ((count, refl), stays_moving a.state b.state stays moving_b)) steps)

    renamed_table : (c : Told) (result : Result (Unit {0}) FolderFault) → Steps (Rename (get_or strays count []) (place_of lost count)) b c result
        → OnOk result (HasMoved lost (take (count + 1) strays) (present c.state) (present a.state))
    renamed_table c (Err fault) steps = tt
    renamed_table c (Ok done) steps =
        subst (λ t. HasMoved lost (take (count + 1) strays) t (present a.state))
        (sym (ap (λ (d : Told). present d.state) steps.1 ∙ last_of-push b.state.kept b.state.later (moved (present b.state) (get_or strays count []) (place_of lost count)))) moved_table

  -- ---- of a folder that may tell nothing

  pub gone_none : (t : Option Told) → IfSome t (λ a. HasMoved lost [] (present a.state) (present a.state)) → FromTo (HasGone 0) t t
  gone_none None bare = tt
  gone_none (Some a) bare = record { went = doing_none a; moved = bare }

  pub gone_moments : (count : ℕ) (t u : Option Told) → FromTo (HasGone count) t u → Moves lost strays t u
  gone_moments count t u h = from_to_more (HasGone count) Doing t u (λ a b is k. k.went) h

  pub gone_all : (count : ℕ) (t u : Option Told) → count ≡ length strays → FromTo (HasGone count) t u → FromTo (λ a b. HasMoved lost strays (present b.state) (present a.state)) t u
  gone_all count t u all h =
      from_to_more (HasGone count) (λ a b. HasMoved lost strays (present b.state) (present a.state)) t u
      (λ a b is k. subst (λ gone. HasMoved lost gone (present b.state) (present a.state)) (ap (λ n. take n strays) all ∙ take-length strays) k.moved) h

  pub each_moved : (t u : Option Told) → FromTo (λ a b. HasMoved lost strays (present b.state) (present a.state)) t u → FromTo (HasMadeAll (renames lost 0 strays)) t u → FromTo (HasMovedEach lost strays) t u
  each_moved t u moves all =
      from_to_more (λ a b. HasMoved lost strays (present b.state) (present a.state) × HasMadeAll (renames lost 0 strays) a b) (HasMovedEach lost strays) t u
      (λ a b is k. record { moved = k.0; all = k.1 }) (from_to_both (λ a b. HasMoved lost strays (present b.state) (present a.state)) (HasMadeAll (renames lost 0 strays)) t u moves all)

  module _ (count : ℕ) (less : count < length strays) (few : count < 2 ^ 63) where
    pub renamed_moments : (t0 t1 t2 : Option Told) (result : Result (Unit {0}) FolderFault) → IfSome t0 (λ a. AreMovable lost strays (present a.state)) → IfSome t0 (λ a. Stays lost a.state)
        → FromTo (HasGone count) t0 t1 → Changes (Rename (get_or strays count []) (place_of lost count)) t1 t2 result → Moves lost strays t0 t2
    renamed_moments None None None result movable stays h changes = tt
    renamed_moments (Some a) (Some b) (Some c) result movable stays h changes = renamed_doing a b count less few movable h stays c result changes
    renamed_moments None (Some b) t2 result movable stays h changes = absurd h
    renamed_moments (Some a) None t2 result movable stays h changes = absurd h
    renamed_moments None None (Some c) result movable stays h changes = absurd changes
    renamed_moments (Some a) (Some b) None result movable stays h changes = absurd changes

    pub renamed_gone : (t0 t1 t2 : Option Told) (done : Unit {0}) → IfSome t0 (λ a. AreMovable lost strays (present a.state)) → IfSome t0 (λ a. Stays lost a.state)
        → FromTo (HasGone count) t0 t1 → Changes (Rename (get_or strays count []) (place_of lost count)) t1 t2 (Ok done) → FromTo (HasGone (count + 1)) t0 t2
    renamed_gone None None None done movable stays h changes = tt
    renamed_gone (Some a) (Some b) (Some c) done movable stays h changes =
        record { went = renamed_doing a b count less few movable h stays c (Ok done) changes; moved = renamed_table a b count less few movable h c (Ok done) changes }
    renamed_gone None (Some b) t2 done movable stays h changes = absurd h
    renamed_gone (Some a) None t2 done movable stays h changes = absurd h
    renamed_gone None None (Some c) done movable stays h changes = absurd changes
    renamed_gone (Some a) (Some b) None done movable stays h changes = absurd changes

    pub may_rename : (t0 t1 : Option Told) → IfSome t0 (λ a. AreMovable lost strays (present a.state)) → FromTo (HasGone count) t0 t1
        → (b : Told) → t1 ≡ Some b → Allowed b.state (Rename (get_or strays count []) (place_of lost count))
    may_rename (Some a) (Some b) movable h c is =
        let same : b ≡ c = cc is in subst (λ (d : Told). Allowed d.state (Rename (get_or strays count []) (place_of lost count))) same (rename_allowed a b count less few movable h)
    may_rename None (Some b) movable h c is = absurd h
    may_rename t0 None movable h c is = cc is

  -- ---- the folder is made where all is settled

  abbrev HasSettled : List Path → Told → Told → Type 0
  HasSettled gone a c = HasMoved lost gone (present c.state) (present a.state) × (c.state.later ≡ [])

  -- from a to b it was settled
  pub record HasBegun (a b : Told) : Type 0 where
    pub went : Doing a b
    pub same : present b.state ≡ present a.state
    pub settled : b.state.later ≡ []

  settle_doing : (result : Result (Unit {0}) FolderFault) (a b c : Told) → Doing a b → Steps Settle b c result → Doing a c
  settle_doing result a b c went steps =
      went_on (IsMoving lost strays a.state) (λ s e. MovesInto lost s e.call) a b c went
      (went_by_call (IsMoving lost strays a.state) (λ s e. MovesInto lost s e.call) Settle b c result (moving_now a b went)
      (λ allowed. settle_moving a.state b.state (moving_now a b went)) (λ added allowed. moving_now a b went) (λ outcome. tt) steps)

  made_table : (a b c : Told) → IsSound a.state → IsFree (present a.state) lost → HasBegun a b → Steps (MakeDir lost) b c (Ok tt) → HasMoved lost [] (present c.state) (present a.state)
  made_table a b c sound free begun steps =
      subst (λ t. HasMoved lost [] t (present a.state))
      (sym (ap (λ (d : Told). present d.state) steps.1 ∙ last_of-push b.state.kept b.state.later (put (present b.state) lost Directory) ∙ ap (λ t. put t lost Directory) begun.same))
      (moved_none lost (present a.state) a.state.made (sound.tables (present a.state) (present_is_table a.state)) free.0)

  made_doing : (a b c : Told) (result : Result (Unit {0}) FolderFault) → IsSound a.state → IsFree (present a.state) lost → HasBegun a b → Steps (MakeDir lost) b c result → Doing a c
  made_doing a b c result sound free begun steps =
      let moving : IsMoving lost strays a.state b.state = moving_now a b begun.went in
      let table : HasMoved lost [] (put (present b.state) lost Directory) (present a.state) = subst (λ t. HasMoved lost [] (put t lost Directory) (present a.state)) (sym begun.same)
      (moved_none lost (present a.state) a.state.made (sound.tables (present a.state) (present_is_table a.state)) free.0) in
      went_on (IsMoving lost strays a.state) (λ s e. MovesInto lost s e.call) a b c begun.went
      (went_by_call (IsMoving lost strays a.state) (λ s e. MovesInto lost s e.call) (MakeDir lost) b c result moving
      (λ allowed. table_more a.state b.state (put (present b.state) lost Directory) moving (record { count = 0; few = omega arith; moved = table }))
      (λ added allowed. moving) (λ outcome. (refl, begun.settled)) steps)

  pub settle_moments : (result : Result (Unit {0}) FolderFault) (t u : Option Told) → Changes Settle t u result → Moves lost strays t u
  settle_moments result t u changes = from_to_more (λ a b. Steps Settle a b result) Doing t u (λ a b is steps. settle_doing result a a b (doing_none a) steps) changes

  pub has_begun : (done : Unit {0}) (t u : Option Told) → Changes Settle t u (Ok done) → FromTo HasBegun t u
  has_begun done t u changes =
      from_to_more (λ a b. Steps Settle a b (Ok done)) HasBegun t u
      (λ a b is steps. record {
        went = settle_doing (Ok done) a a b (doing_none a) steps;
        same = ap (λ (d : Told). present d.state) steps.1;
        settled = ap (λ (d : Told). d.state.later) steps.1;
      }) changes

  module _ (t0 : Option Told) (sound : (a : Told) → t0 ≡ Some a → IsSound a.state) (free : IfSome t0 (λ a. IsFree (present a.state) lost)) where
    free_at : (a : Told) → t0 ≡ Some a → IsFree (present a.state) lost
    free_at a is = at_told (λ (b : Told). IsFree (present b.state) lost) t0 free a is

    pub may_make : (t1 : Option Told) → FromTo HasBegun t0 t1 → (b : Told) → t1 ≡ Some b → Allowed b.state (MakeDir lost)
    may_make t1 begun b is = by t0 t1 begun free is
      where
        by : (t0 t1 : Option Told) → FromTo HasBegun t0 t1 → IfSome t0 (λ a. IsFree (present a.state) lost) → t1 ≡ Some b → IsFree (present b.state) lost
        by (Some a) (Some c) h here same =
            let one : c ≡ b = cc same in subst (λ (d : Told). IsFree (present d.state) lost) one (subst (λ t. IsFree t lost) (sym h.same) here)
        by None (Some c) h here same = absurd h
        by t None h here same = cc same

    made_from : (t1 t2 : Option Told) (result : Result (Unit {0}) FolderFault) → FromTo HasBegun t0 t1 → Changes (MakeDir lost) t1 t2 result
        → FromTo (λ a c. (b : Told) × HasBegun a b × Steps (MakeDir lost) b c result) t0 t2
    made_from t1 t2 result begun changes =
        from_to_on HasBegun (λ b c. Steps (MakeDir lost) b c result) (λ a c. (b : Told) × HasBegun a b × Steps (MakeDir lost) b c result) t0 t1 t2 (λ a b c h steps. (b, h, steps)) begun changes

    pub made_moments : (t1 t2 : Option Told) (result : Result (Unit {0}) FolderFault) → FromTo HasBegun t0 t1 → Changes (MakeDir lost) t1 t2 result → Moves lost strays t0 t2
    made_moments t1 t2 result begun changes =
        from_to_more (λ a c. (b : Told) × HasBegun a b × Steps (MakeDir lost) b c result) Doing t0 t2
        (λ a c is k. made_doing a k.0 c result (sound a is) (free_at a is) k.1 k.2) (made_from t1 t2 result begun changes)

    pub made_gone : (t1 t2 : Option Told) (done : Unit {0}) → FromTo HasBegun t0 t1 → Changes (MakeDir lost) t1 t2 (Ok done) → FromTo (HasGone 0) t0 t2
    made_gone t1 t2 done begun changes =
        from_to_more (λ a c. (b : Told) × HasBegun a b × Steps (MakeDir lost) b c (Ok done)) (HasGone 0) t0 t2
        (λ a c is k. record { went = made_doing a k.0 c (Ok done) (sound a is) (free_at a is) k.1 k.2; moved = made_table a k.0 c (sound a is) (free_at a is) k.1 k.2 })
        (made_from t1 t2 (Ok done) begun changes)

    pub lost_moments : (t2 t3 : Option Told) (result : Result (Unit {0}) FolderFault) → FromTo (HasGone 0) t0 t2 → Changes Settle t2 t3 result → Moves lost strays t0 t3
    lost_moments t2 t3 result gone changes =
        from_to_on (HasGone 0) (λ b c. Steps Settle b c result) Doing t0 t2 t3 (λ a b c h steps. settle_doing result a b c h.went steps) gone changes

  -- and settled again
  made_lost : (t2 t3 : Option Told) (t0 : Option Told) (done : Unit {0}) → FromTo (HasGone 0) t0 t2 → Changes Settle t2 t3 (Ok done) → FromTo (HasMadeAll (making_calls lost)) t0 t3
      → FromTo (HasMadeLost lost) t0 t3
  made_lost t2 t3 t0 done gone changes all =
      from_to_more (λ a c. HasSettled [] a c × HasMadeAll (making_calls lost) a c) (HasMadeLost lost) t0 t3
      (λ a c is k. record { bare = k.0.0; settled = k.0.1; all = k.1 })
      (from_to_both (HasSettled []) (HasMadeAll (making_calls lost)) t0 t3 settled all)
    where
      settled : FromTo (HasSettled []) t0 t3
      settled =
          from_to_on (HasGone 0) (λ b c. Steps Settle b c (Ok done)) (HasSettled []) t0 t2 t3
          (λ a b c h steps. (
            subst (λ t. HasMoved lost [] t (present a.state)) (sym (ap (λ (d : Told). present d.state) steps.1)) h.moved,
            ap (λ (d : Told). d.state.later) steps.1,
          )) gone changes

  pub made_lost_by : (t0 t2 t3 : Option Told) (result : Result (Unit {0}) FolderFault) → FromTo (HasGone 0) t0 t2 → FromTo (HasMadeAll (Settle ∷ MakeDir lost ∷ [])) t0 t2
      → Changes Settle t2 t3 result → OnOk result (FromTo (HasMadeLost lost) t0 t3)
  made_lost_by t0 t2 t3 (Err fault) gone all changes = tt
  made_lost_by t0 t2 t3 (Ok done) gone all changes = made_lost t2 t3 t0 done gone changes (all_next (Settle ∷ MakeDir lost ∷ []) Settle done t0 t2 t3 all changes)

  pub gone_lost : (t0 t1 : Option Told) → Moves lost strays t0 t1 → FromTo (HasMadeLost lost) t0 t1 → FromTo (HasGone 0) t0 t1
  gone_lost t0 t1 moves made =
      from_to_more (λ a b. Doing a b × HasMadeLost lost a b) (HasGone 0) t0 t1 (λ a b is k. record { went = k.0; moved = k.1.bare }) (from_to_both Doing (HasMadeLost lost) t0 t1 moves made)

  pub all_of_lost : (t u : Option Told) → FromTo (HasMadeLost lost) t u → FromTo (HasMadeAll (making_calls lost)) t u
  all_of_lost t u made = from_to_more (HasMadeLost lost) (HasMadeAll (making_calls lost)) t u (λ a b is k. k.all) made

  pub all_of_each : (t u : Option Told) → FromTo (HasMovedEach lost strays) t u → FromTo (HasMadeAll (renames lost 0 strays)) t u
  all_of_each t u each = from_to_more (HasMovedEach lost strays) (HasMadeAll (renames lost 0 strays)) t u (λ a b is k. k.all) each

  pub moved_of_each : (t u : Option Told) → FromTo (HasMovedEach lost strays) t u → FromTo (λ a b. HasMoved lost strays (present b.state) (present a.state)) t u
  moved_of_each t u each = from_to_more (HasMovedEach lost strays) (λ a b. HasMoved lost strays (present b.state) (present a.state)) t u (λ a b is k. k.moved) each

  only_kept : (t kept : Table) → IsAmong t (kept ∷ []) → t ≡ kept
  only_kept t kept (inl same) = same
  only_kept t kept (inr none) = absurd none

  pub stays_now : (t0 t1 : Option Told) → FromTo (HasMadeLost lost) t0 t1 → IfSome t1 (λ b. Stays lost b.state)
  stays_now t0 None h = tt
  stays_now (Some a) (Some b) h = λ t is_table.
      let last : present b.state ≡ b.state.kept = ap (last_of b.state.kept) h.settled in
      let only : t ≡ b.state.kept = only_kept t b.state.kept (subst (λ later. IsAmong t (b.state.kept ∷ later)) h.settled is_table) in
      ap (λ (u : Table). u lost) (only ∙ sym last) ∙ h.bare.folder
  stays_now None (Some b) h = absurd h

  pub bare_now : (t0 t1 : Option Told) → FromTo (HasGone 0) t0 t1 → IfSome t1 (λ b. HasMoved lost [] (present b.state) (present b.state))
  bare_now t0 None h = tt
  bare_now (Some a) (Some b) h = bare_itself lost (present b.state) (present a.state) h.moved
  bare_now None (Some b) h = absurd h

  movable_then : (t u : Table) → HasMoved lost [] t u → AreMovable lost strays u → AreMovable lost strays t
  movable_then t u h movable = record {
    stand = λ at found.
        let aside : AreApart lost at = movable.aside at found in
        ((movable.stand at found).0, λ none. (movable.stand at found).1 (sym (h.others at (apart_by lost at aside.one)) ∙ none));
    aside = movable.aside;
    apart = movable.apart;
  }

  pub movable_now : (t0 t1 : Option Told) → IfSome t0 (λ a. AreMovable lost strays (present a.state)) → FromTo (HasGone 0) t0 t1 → IfSome t1 (λ b. AreMovable lost strays (present b.state))
  movable_now t0 None movable h = tt
  movable_now (Some a) (Some b) movable h = movable_then (present b.state) (present a.state) h.moved movable
  movable_now None (Some b) movable h = absurd h

  -- ---- then each is moved

  in_front : (count : ℕ) (g : Path) → Contains (take count strays) g → Contains strays g
  in_front count g found =
      let within : found.0 < length (take count strays) = found.1 in
      let size : length (take count strays) ≤ length strays = omega (arith, length-take count strays) in
      let front : length (take count strays) ≤ count = omega (arith, length-take count strays) in
      (found.0, omega (arith, within, size), sym (get_or-take count strays found.0 g (omega (arith, within, front))) ∙ found.2)

  since : (a b : Told) → AreMovable lost strays (present a.state) → HasGone 0 a b → (s : State) → IsMoving lost strays b.state s → IsMoving lost strays a.state s
  since a b movable h s moving = record {
    tables = λ t is_table. elim (moving.tables t is_table) as (λ _. IsTableOf a.state t ⊎ HasMovedSome lost strays t (present a.state)) [
      | inl before ↦ (moving_now a b h.went).tables t before
      | inr some ↦ inr (record {
        count = some.count;
        few = some.few;
        moved = moved_since lost (take some.count strays) t (present b.state) (present a.state) (λ g found. movable.aside g (in_front some.count g found)) h.moved some.moved;
      })
    ];
    nodes = moving.nodes ∙ (moving_now a b h.went).nodes;
    made = moving.made ∙ (moving_now a b h.went).made;
  }

  doing_since : (a b c : Told) → AreMovable lost strays (present a.state) → HasGone 0 a b → Doing b c → Doing a c
  doing_since a b c movable h more =
      went_on (IsMoving lost strays a.state) (λ s e. MovesInto lost s e.call) a b c h.went
      (went_more (IsMoving lost strays b.state) (IsMoving lost strays a.state) (λ s e. MovesInto lost s e.call) (λ s e. MovesInto lost s e.call) b c
      (λ s k. since a b movable h s k) (λ s e k. k) more)

  pub moments_since : (t0 t1 t2 : Option Told) → IfSome t0 (λ a. AreMovable lost strays (present a.state)) → FromTo (HasGone 0) t0 t1 → Moves lost strays t1 t2 → Moves lost strays t0 t2
  moments_since None None None movable h more = tt
  moments_since (Some a) (Some b) (Some c) movable h more = doing_since a b c movable h more
  moments_since None (Some b) t2 movable h more = absurd h
  moments_since (Some a) None t2 movable h more = absurd h
  moments_since None None (Some c) movable h more = absurd more
  moments_since (Some a) (Some b) None movable h more = absurd more

  pub moved_all : (t0 t1 t2 : Option Told) → IfSome t0 (λ a. AreMovable lost strays (present a.state)) → FromTo (HasGone 0) t0 t1
      → FromTo (λ b c. HasMoved lost strays (present c.state) (present b.state)) t1 t2 → FromTo (λ a c. HasMoved lost strays (present c.state) (present a.state)) t0 t2
  moved_all None None None movable h more = tt
  moved_all (Some a) (Some b) (Some c) movable h more = moved_since lost strays (present c.state) (present b.state) (present a.state) movable.aside h.moved more
  moved_all None (Some b) t2 movable h more = absurd h
  moved_all (Some a) None t2 movable h more = absurd h
  moved_all None None (Some c) movable h more = absurd more
  moved_all (Some a) (Some b) None movable h more = absurd more

  -- ---- and it is settled

  pub settled_moments : (result : Result (Unit {0}) FolderFault) (t0 t1 t2 : Option Told) → Moves lost strays t0 t1 → Changes Settle t1 t2 result → Moves lost strays t0 t2
  settled_moments result t0 t1 t2 went changes = from_to_on Doing (λ b c. Steps Settle b c result) Doing t0 t1 t2 (settle_doing result) went changes

  settled_all : (done : Unit {0}) (t0 t1 t2 : Option Told) → FromTo (λ a b. HasMoved lost strays (present b.state) (present a.state)) t0 t1 → Changes Settle t1 t2 (Ok done)
      → FromTo (HasMadeAll (moving_calls lost strays)) t0 t2 → FromTo (HasMovedAll lost strays) t0 t2
  settled_all done t0 t1 t2 moved changes all =
      from_to_more (λ a c. HasSettled strays a c × HasMadeAll (moving_calls lost strays) a c) (HasMovedAll lost strays) t0 t2
      (λ a c is k. record { moved = k.0.0; settled = k.0.1; all = k.1 })
      (from_to_both (HasSettled strays) (HasMadeAll (moving_calls lost strays)) t0 t2 settled all)
    where
      settled : FromTo (HasSettled strays) t0 t2
      settled =
          from_to_on (λ a b. HasMoved lost strays (present b.state) (present a.state)) (λ b c. Steps Settle b c (Ok done)) (HasSettled strays) t0 t1 t2
          (λ a b c h steps. (
            subst (λ t. HasMoved lost strays t (present a.state)) (sym (ap (λ (d : Told). present d.state) steps.1)) h,
            ap (λ (d : Told). d.state.later) steps.1,
          )) moved changes

  pub settled_by : (result : Result (Unit {0}) FolderFault) (t0 t1 t2 : Option Told) → FromTo (λ a b. HasMoved lost strays (present b.state) (present a.state)) t0 t1
      → FromTo (HasMadeAll (making_calls lost ++ renames lost 0 strays)) t0 t1 → Changes Settle t1 t2 result → OnOk result (FromTo (HasMovedAll lost strays) t0 t2)
  settled_by (Err fault) t0 t1 t2 moved all changes = tt
  settled_by (Ok done) t0 t1 t2 moved all changes = settled_all done t0 t1 t2 moved changes
      (subst (λ calls. FromTo (HasMadeAll calls) t0 t2) (append_assoc (making_calls lost) (renames lost 0 strays) (Settle ∷ [])) (all_next (making_calls lost ++ renames lost 0 strays) Settle done t0 t1 t2 all changes))
