-- The source is moved into the work folder, and that is settled: what changes, what is seen, and that a finished migration stays guarded.
use Rattle.std.proofs.Common.{◌≡◌, ◌≢◌, false, [], ◌∷◌, ◌++◌, Option, Some, None, Result, Ok, Err, refl, sym, ap, ◌∙◌, inl, subst, append-nil, codes, bytes_eq}
use Rattle.folder_spec.proofs.Moments.{went_by_call, went_on, went_to}
use Rattle.folder_spec.proofs.Paths.{below-apart, below-append, below-both, parent-child}
use Rattle.folder_spec.proofs.Regions.{as_before, as_before_on}
use Rattle.folder_spec.proofs.Seen.{may_call_allowed, one_view}
use Rattle.folder_spec.proofs.Tellings.{from_to_more, from_to_on}
use Rattle.folder_spec.specs.declared.FolderFault.{FolderFault}
use Rattle.folder_spec.specs.declared.FolderFault.TheVariants.{Failed, NoMemory, Refused}
use Rattle.folder_spec.specs.Event.{Allowed, Changes, Rename, Settle, Steps, Told, changed}
use Rattle.folder_spec.specs.Moments.{Went}
use Rattle.folder_spec.specs.Path.{Part, Path, below, child}
use Rattle.folder_spec.specs.Region.{IsAsBefore, Spares, apart_from_both}
use Rattle.folder_spec.specs.Seen.{IfSeen, IsSeen, moved_view, seen}
use Rattle.folder_spec.specs.State.{IsSound}
use Rattle.folder_spec.specs.View.{Folder, NoEntry, View}
use Rattle.migration_spec.proofs.Guards.{ImagesShow, RootsAreAlike}
use Rattle.migration_spec.proofs.Kept.{behind_none, turned, beside_both}
use Rattle.migration_spec.specs.Alone.{StaysGuarded}
use Rattle.migration_spec.specs.Guard.{Guarded, Migration, old_path}
use Rattle.folder_spec.specs.Apart.{AreApart}
use Rattle.retire_core.proofs.Cleared.{isnt_eq, seen_then}
use Rattle.retire_core.proofs.Renamed.{HasNoSpecial, moved_guarded, moved_settled}
use Rattle.retire_core.specs.Clearing.{IsGone, IsInOrder, MovesAway, MovesOnly}
use Rattle.retire_core.specs.Guarding.{ComesFromDone, IsDoneAtRest, IsRetiring, KeepsDone}
use Rattle.migration_spec.proofs.Tellings.{AreSound}
use Rattle.migration_spec.proofs.Staying.{Kind, stays_on, stays_same, stays_settled}
use Rattle.migration_spec.proofs.Settling.{SettlesGuarded}

-- ---- regions

-- ---- what changes

rename_spares : (from work : Path) → Spares (apart_from_both from work) (Rename from (old_path work))
rename_spares from work q inside = let none = beside_both from work q inside in (behind_none work (codes "old" ∷ []) q none.1, none.0)

pub moves_same : (from work : Path) (t u : Option Told) → u ≡ t → MovesOnly from work t u
moves_same from work = stays_same (apart_from_both from work) (λ s0 s e. MovesAway from work s0 s e.call)

pub moves_call : (from work : Path) (t u : Option Told) (result : Result (Unit {0}) FolderFault) → Changes (Rename from (old_path work)) t u result → MovesOnly from work t u
moves_call from work t u result changes =
    let R = apart_from_both from work in
    from_to_more (λ a b. Steps (Rename from (old_path work)) a b result) (λ a b. Went (IsAsBefore R a.state) (λ s e. MovesAway from work a.state s e.call) a b) t u
    (λ a b is steps. went_by_call (IsAsBefore R a.state) (λ s e. MovesAway from work a.state s e.call) (Rename from (old_path work)) a b result (as_before R a.state)
    (λ allowed. as_before_on R a.state a.state (Rename from (old_path work)) (rename_spares from work) tt (as_before R a.state))
    (λ added allowed. as_before R a.state) (λ outcome. (refl, refl, refl)) steps) changes

pub moves_settled : (from work : Path) (t u w : Option Told) (result : Result (Unit {0}) FolderFault) → MovesOnly from work t u → Changes Settle u w result → MovesOnly from work t w
moves_settled from work t u w result first changes =
    let R = apart_from_both from work in
    let Settles : Kind = λ s0 s e. e.call ≡ Settle in
    stays_on R R (λ s0 s e. MovesAway from work s0 s e.call) Settles t u w (λ q apart. apart) (λ s0 s1 s e is. subst (MovesAway from work s0 s) (sym is) tt) first
    (stays_settled R Settles u w result (λ s outcome. refl) changes)

-- ---- it may be moved

-- what overlaps nothing isn't the base
pub not_base : (p q : Path) → AreApart p q → q ≢ []
not_base p q apart is = clash (subst (λ z. below z p ≡ None) is apart.other)
  where
    clash : {x : Path} → Some x ≡ None → ⊥
    clash e = cc e

pub move_allowed : (from work : Path) (t : Option Told) → AreApart from work → IfSeen t (λ v. v from ≢ NoEntry) → IsGone (old_path work) t → IfSeen t (λ v. v work ≡ Folder)
    → (a : Told) → t ≡ Some a → Allowed a.state (Rename from (old_path work))
move_allowed from work t apart there free folder a is =
    let shown : IsSeen t (seen a.state) = subst (λ o. IsSeen o (seen a.state)) (sym is) refl in
    may_call_allowed a.state (Rename from (old_path work)) (
      not_base work from (turned apart),
      there (seen a.state) shown,
      below-apart from work (codes "old" ∷ []) apart.one apart.other,
      inl (free (seen a.state) shown, ap (seen a.state) (parent-child work (codes "old")) ∙ folder (seen a.state) shown),
    )

-- ---- guarded

-- the laws that are cited
pub record AreLaws : Type 0 where
  pub alike : RootsAreAlike
  pub shown : ImagesShow
  pub settles : SettlesGuarded
  pub none_special : HasNoSpecial

pub away_guarded : AreLaws → (g : Migration) (t u : Option Told) (result : Result (Unit {0}) FolderFault) → Changes (Rename g.source.root (old_path g.work)) t u result → KeepsDone g t u
away_guarded laws g t u result changes =
    let call = Rename g.source.root (old_path g.work) in
    from_to_more (λ a b. Steps call a b result) (λ a b. IsDoneAtRest g a.state → StaysGuarded g a b) t u
    (λ a b is steps at. went_by_call (Guarded g) (λ s e. Unit {0}) call a b result at.rest.guarded
    (λ allowed. moved_guarded laws.alike laws.none_special g a.state at laws.shown) (λ added allowed. at.rest.guarded) (λ outcome. tt) steps) changes

pub away_settled : AreLaws → (g : Migration) (t u w : Option Told) (result : Result (Unit {0}) FolderFault) → KeepsDone g t u → Changes Settle u w result → KeepsDone g t w
away_settled laws g t u w result keeps changes =
    from_to_on (λ a b. IsDoneAtRest g a.state → StaysGuarded g a b) (λ a b. Steps Settle a b result) (λ a b. IsDoneAtRest g a.state → StaysGuarded g a b) t u w
    (λ a b c first steps at.
    let went : StaysGuarded g a b = first at in
    let guarded : Guarded g b.state = went_to (Guarded g) (λ s e. Unit {0}) a b went in
    went_on (Guarded g) (λ s e. Unit {0}) a b c went
    (went_by_call (Guarded g) (λ s e. Unit {0}) Settle b c result guarded (λ allowed. laws.settles g b.state guarded) (λ added allowed. guarded) (λ outcome. tt) steps)) keeps changes

-- and then it is retired
pub away_comes : AreLaws → (g : Migration) (t u w : Option Told) (one two : Unit {0}) → Changes (Rename g.source.root (old_path g.work)) t u (Ok one) → Changes Settle u w (Ok two) → AreSound w → ComesFromDone g t w
away_comes laws g (Some a) (Some b) (Some c) one two moves settles sound = λ at.
    let is : c.state ≡ changed (changed a.state (Rename g.source.root (old_path g.work))) Settle = ap (λ (x : Told). x.state) settles.1 ∙ ap (λ (x : Told). changed x.state Settle) moves.1 in
    subst (IsRetiring g) (sym is) (moved_settled laws.alike laws.none_special g a.state at (subst IsSound is (sound c refl)))
away_comes laws g None None None one two moves settles sound = tt
away_comes laws g None (Some b) w one two moves settles sound = absurd moves
away_comes laws g (Some a) None w one two moves settles sound = absurd moves
away_comes laws g None None (Some c) one two moves settles sound = absurd settles
away_comes laws g (Some a) (Some b) None one two moves settles sound = absurd settles

-- ---- what is seen

-- the source is gone
pub away_gone : (from work : Path) (t u w : Option Told) (one two : Unit {0}) → AreApart from work → AreSound t → AreSound u → Changes (Rename from (old_path work)) t u (Ok one) → Changes Settle u w (Ok two)
    → IsGone from w
away_gone from work t u w one two apart sound sound_then moves settles v is =
    let settled = seen_then Settle u w two sound_then settles v is in
    let moved = seen_then (Rename from (old_path work)) t u one sound moves settled.0 settled.1 in
    ap (λ (x : View). x from) (settled.2 ∙ moved.2) ∙ gone moved.0
  where
    gone : (x : View) → moved_view x from (old_path work) from ≡ NoEntry
    gone x =
        let one : below (old_path work) from ≡ None = behind_none work (codes "old" ∷ []) from apart.other in
        let two : below from from ≡ Some [] = ap (below from) (sym (append-nil from)) ∙ below-append from [] in
        rw (one, two) refl

-- and the work folder has but `old` more
order_moved : (from work : Path) → AreApart from work → (v : View) → IsInOrder v work → IsInOrder (moved_view v from (old_path work)) work
order_moved from work apart v order = record {
  folder = root_stays ∙ order.folder;
  journal = (order.journal.0, entry_stays (codes "journal") refl ∙ order.journal.1);
  others = λ name one two three four. entry_stays name (isnt_eq name (codes "old") four) ∙ order.others name one two three four;
}
  where
    stays : (q : Path) → below (old_path work) q ≡ None → below from q ≡ None → moved_view v from (old_path work) q ≡ v q
    stays q one two = rw (one, two) refl

    in_work : (rest : Path) → below from (work ++ rest) ≡ None
    in_work rest = below-apart from work rest apart.one apart.other

    root_stays : moved_view v from (old_path work) work ≡ v work
    root_stays = stays work (subst (λ q. below (old_path work) q ≡ None) (append-nil work) (below-both work (codes "old" ∷ []) [])) apart.one

    entry_stays : (name : Part) → bytes_eq (codes "old") name ≡ false → moved_view v from (old_path work) (child work name) ≡ v (child work name)
    entry_stays name other = stays (child work name) (below-both work (codes "old" ∷ []) (name ∷ []) ∙ rw other refl) (in_work (name ∷ []))

-- the same whether or not it was moved
abbrev pub StaysInOrder : Path → Option Told → Option Told → Type 0
StaysInOrder work t u = (v w : View) → IsSeen t v → IsSeen u w → IsInOrder v work → IsInOrder w work

pub order_same : (work : Path) (t u : Option Told) → u ≡ t → StaysInOrder work t u
order_same work t u same v w is is_now order = subst (λ (x : View). IsInOrder x work) (one_view t v w is (subst (λ o. IsSeen o w) same is_now)) order

pub order_call : (from work : Path) (t u : Option Told) (result : Result (Unit {0}) FolderFault) → AreApart from work → AreSound t → Changes (Rename from (old_path work)) t u result → StaysInOrder work t u
order_call from work t u (Ok done) apart sound changes v w is is_now order =
    let then_ = seen_then (Rename from (old_path work)) t u done sound changes w is_now in
    subst (λ (x : View). IsInOrder x work) (sym then_.2) (order_moved from work apart then_.0 (order_same work t t refl v then_.0 is then_.1 order))
order_call from work (Some a) (Some b) (Err Failed) apart sound changes v w is is_now order =
    subst (λ (x : View). IsInOrder x work) (is ∙ sym (is_now ∙ ap (λ (c : Told). seen c.state) changes.1.2)) order
order_call from work (Some a) (Some b) (Err Refused) apart sound changes v w is is_now order =
    subst (λ (x : View). IsInOrder x work) (is ∙ sym (is_now ∙ ap (λ (c : Told). seen c.state) changes.1)) order
order_call from work (Some a) (Some b) (Err NoMemory) apart sound changes v w is is_now order =
    subst (λ (x : View). IsInOrder x work) (is ∙ sym (is_now ∙ ap (λ (c : Told). seen c.state) changes)) order
order_call from work None u (Err fault) apart sound changes v w is is_now order = absurd is
order_call from work (Some a) None (Err fault) apart sound changes v w is is_now order = absurd is_now

pub order_settled : (work : Path) (t u w : Option Told) (result : Result (Unit {0}) FolderFault) → StaysInOrder work t u → Changes Settle u w result → IfSeen w (λ x. IsSeen u x) → StaysInOrder work t w
order_settled work t u w result first changes same v x is is_now order = first v x is (same x is_now) order
