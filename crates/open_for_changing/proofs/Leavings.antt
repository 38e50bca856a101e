-- What the beginning of a command leaves of the work folder, and what the making that follows does.
use Rattle.std.proofs.Common.{◌≡◌, ◌≢◌, ◌⊎◌, ◌&&◌, not, Bool, true, false, [], ◌∷◌, ◌++◌, codes, Option, Some, None, Result, Ok, inl, inr, refl, sym, ap, ◌∙◌, subst, append_assoc, append-nil, IsTrue}
use Rattle.folder_spec.specs.declared.FolderFault.{FolderFault}
use Rattle.folder_spec.specs.Apart.{AreApart}
use Rattle.folder_spec.specs.Path.{Part, Path, below, child}
use Rattle.folder_spec.specs.State.{Table, present, IsSound}
use Rattle.folder_spec.specs.Edit.{IsPartOf}
use Rattle.folder_spec.specs.Event.{Settle, Told, Steps, Changes}
use Rattle.folder_spec.specs.Moments.{Went}
use Rattle.folder_spec.specs.Region.{IsAsBefore, AlikeIn, apart_from}
use Rattle.folder_spec.specs.Seen.{IfSeen, seen}
use Rattle.folder_spec.specs.View.{View}
use Rattle.folder_spec.proofs.Moments.{went_by_call, went_more, went_nowhere, went_on, went_to}
use Rattle.folder_spec.proofs.Paths.{append-cancel, begins_or_not, below-append, below-apart}
use Rattle.folder_spec.proofs.Regions.{as_before, as_before_on, seen_as_before}
use Rattle.folder_spec.proofs.Replaces.{apart-from_below}
use Rattle.folder_spec.proofs.Tellings.{from_to_more, from_to_on, from_to_same}
use Rattle.item_making.specs.Making.{is_apart, is_inside, is_unstaged}
use Rattle.work_folder.specs.Changing.{ChangesAt, IsChanged}
use Rattle.work_folder.specs.Entering.{EntersAs, IsFresh, IsLeftOver, IsReady, IsWorkOrStage}
use Rattle.work_folder.specs.Entries.{stage_path}
use Rattle.work_folder.specs.Looking.{Tests}
use Rattle.open_for_changing.proofs.Beginnings.{as_before_in, as_before_then, still_seen}
use Rattle.open_for_changing.specs.Staying.{Leaves, StaysIn, everywhere, is_of_others, is_unused}
use Rattle.open_for_reading.proofs.Overlaps.{apart_by}
use Rattle.open_for_reading.specs.Places.{overlap}

-- ---- a region stays

module _ (region : Path → Bool) where
  abbrev Stays : Told → Told → Type 0
  Stays a b = Went (IsAsBefore region a.state) (λ s e. Unit {0}) a b

  pub stays_nowhere : (t u : Option Told) → u ≡ t → StaysIn region t u
  stays_nowhere t u same = from_to_same Stays t u same (λ a. went_nowhere (IsAsBefore region a.state) (λ s e. Unit {0}) a (as_before region a.state))

  pub stays_then : (t u w : Option Told) → StaysIn region t u → StaysIn region u w → StaysIn region t w
  stays_then t u w first second =
      from_to_on Stays Stays Stays t u w
      (λ a b c one two. went_on (IsAsBefore region a.state) (λ s e. Unit {0}) a b c one
      (went_more (IsAsBefore region b.state) (IsAsBefore region a.state) (λ s e. Unit {0}) (λ s e. Unit {0}) b c
      (λ s. as_before_then region a.state b.state s (went_to (IsAsBefore region a.state) (λ s e. Unit {0}) a b one)) (λ s e is. is) two)) first second

  stays_settled : (t u : Option Told) (result : Result (Unit {0}) FolderFault) → Changes Settle t u result → StaysIn region t u
  stays_settled t u result changes =
      from_to_more (λ a b. Steps Settle a b result) Stays t u
      (λ a b is steps. went_by_call (IsAsBefore region a.state) (λ s e. Unit {0}) Settle a b result (as_before region a.state)
      (λ allowed. as_before_on region a.state a.state Settle tt tt (as_before region a.state)) (λ added allowed. as_before region a.state) (λ outcome. tt) steps) changes

pub stays_in_part : (part whole : Path → Bool) (t u : Option Told) → IsPartOf part whole → StaysIn whole t u → StaysIn part t u
stays_in_part part whole t u within stays =
    from_to_more (Stays whole) (Stays part) t u (λ a b is went. went_more (IsAsBefore whole a.state) (IsAsBefore part a.state) (λ s e. Unit {0}) (λ s e. Unit {0}) a b
    (λ s. as_before_in part whole a.state s within) (λ s e is. is) went) stays

-- ---- what is not used

module _ (work : Path) where
  -- it comes behind the work folder, and neither `journal.new` nor `stage` does
  unused_behind : (q rest : Path) → q ≡ work ++ rest → IsTrue (is_unused work q) → IsTrue (is_of_others (Some rest))
  unused_behind q rest is unused = subst (λ o. IsTrue (is_of_others o)) (ap (below work) is ∙ below-append work rest) unused

  unused_comes : (q : Path) → IsTrue (is_unused work q) → IsWorkOrStage work q → ⊥
  unused_comes q unused (inl is) = let clash : IsTrue (is_of_others (Some [])) = unused_behind q [] (is ∙ sym (append-nil work)) unused in cc
  unused_comes q unused (inr is) = let clash : IsTrue (is_of_others (Some (codes "stage" ∷ []))) = unused_behind q (codes "stage" ∷ []) is unused in cc

  unused_goes : (q : Path) → IsTrue (is_unused work q) → IsLeftOver work q → ⊥
  unused_goes q unused (inl is) = let clash : IsTrue (is_of_others (Some (codes "journal.new" ∷ []))) = unused_behind q (codes "journal.new" ∷ []) is unused in cc
  unused_goes q unused (inr within) =
      let clash : IsTrue (is_of_others (Some (codes "stage" ∷ within.rest))) =
      unused_behind q (codes "stage" ∷ within.rest) (within.is ∙ append_assoc work (codes "stage" ∷ []) within.rest) unused in cc

  unused_stays : (t u : Table) → IsChanged (IsWorkOrStage work) (IsLeftOver work) t u → AlikeIn (is_unused work) t u
  unused_stays t u changed q unused = elim (changed q) [
    | inl same ↦ same
    | inr (inl comes) ↦ absurd (unused_comes q unused comes.0)
    | inr (inr goes) ↦ absurd (unused_goes q unused goes.0)
  ]

  entering_stays : (t u : Option Told) → ChangesAt work (IsWorkOrStage work) (IsLeftOver work) t u → StaysIn (is_unused work) t u
  entering_stays t u enters =
      from_to_more _ (Stays (is_unused work)) t u (λ a b is went. went_more _ (IsAsBefore (is_unused work) a.state) _ (λ s e. Unit {0}) a b
      (λ s h. record {
        tables = λ x is_table. (let old = h.changing.tables x is_table in (old.0, old.1, unused_stays x old.0 old.2));
        seen = unused_stays (present s) (present a.state) h.changing.seen;
        nodes = h.others.nodes;
        made = h.others.made;
      }) (λ s e h. tt) went) enters

  -- ---- by the beginning

  pub leaves_all : (t u : Option Told) → u ≡ t → Leaves work t u
  leaves_all t u same = record { unused = stays_nowhere (is_unused work) t u same; unready = λ v is fails. stays_nowhere everywhere t u same }

  pub leaves_settled : (t u : Option Told) (result : Result (Unit {0}) FolderFault) → Changes Settle t u result → Leaves work t u
  leaves_settled t u result changes = record { unused = stays_settled (is_unused work) t u result changes; unready = λ v is fails. stays_settled everywhere t u result changes }

  pub leaves_entered : (t u w : Option Told) → Changes Settle t u (Ok tt) → ChangesAt work (IsWorkOrStage work) (IsLeftOver work) u w → IfSeen u (λ v. ¬ Tests v work (Ok tt) → w ≡ u)
      → Leaves work t w
  leaves_entered t u w changes enters kept = record {
    unused = stays_then (is_unused work) t u w (stays_settled (is_unused work) t u (Ok tt) changes) (entering_stays u w enters);
    unready = λ v is fails. subst (StaysIn everywhere t) (sym (kept v (still_seen t u changes v is) fails)) (stays_settled everywhere t u (Ok tt) changes);
  }

  -- ---- by what follows

  passed : (v : View) → EntersAs v work (Ok tt) → Tests v work (Ok tt)
  passed v (inl none) = none.0
  passed v (inr emptied) = emptied.0

  pub leaves_then : (t u w : Option Told) → Leaves work t u → IfSeen t (λ v. EntersAs v work (Ok tt)) → StaysIn (is_unused work) u w → Leaves work t w
  leaves_then t u w first entered second = record {
    unused = stays_then (is_unused work) t u w first.unused second;
    unready = λ v is fails. absurd (fails (passed v (entered v is)));
  }

  module _ (at : Path) (apart : overlap at work ≡ false) where
    none : AreApart at work
    none = apart_by at work apart

    below_work : (rest : Path) → IsTrue (apart_from at (work ++ rest))
    below_work rest = apart-from_below at (work ++ rest) (below-apart at work rest none.one none.other)

    not_staged : (name : Part) (rest : Path) → name ≢ codes "stage" → IsTrue (is_unstaged work (work ++ name ∷ rest))
    not_staged name rest other = elim (begins_or_not (stage_path work) (work ++ name ∷ rest)) [
      | inr off ↦ ap (λ o. not (is_inside o)) off
      | inl k ↦ absurd (other (ap first (append-cancel work (name ∷ rest) (codes "stage" ∷ k.0) (k.1 ∙ append_assoc work (codes "stage" ∷ []) k.0))))
    ]
      where
        first : Path → Part
        first [] = []
        first (a ∷ more) = a

    away : (name : Part) (rest : Path) → name ≢ codes "stage" → IsTrue (is_apart work at (work ++ name ∷ rest))
    away name rest other = both (is_unstaged work (work ++ name ∷ rest)) (apart_from at (work ++ name ∷ rest)) (not_staged name rest other) (below_work (name ∷ rest))
      where
        both : (a b : Bool) → IsTrue a → IsTrue b → IsTrue (a && b)
        both true b is more = more
        both false b is more = cc

    -- what isn't used is neither staged nor in the vault
    pub unused_apart : IsPartOf (is_unused work) (is_apart work at)
    unused_apart q unused = elim (begins_or_not work q) [
      | inl k ↦ subst (λ p. IsTrue (is_apart work at p)) (sym k.1) (behind k.0 (unused_behind q k.0 k.1 unused))
      | inr off ↦ let clash : IsTrue (is_of_others None) = subst (λ o. IsTrue (is_of_others o)) off unused in cc
    ]
      where
        behind : (rest : Path) → IsTrue (is_of_others (Some rest)) → IsTrue (is_apart work at (work ++ rest))
        behind [] is = cc
        behind (name ∷ rest) is = away name rest (λ same. let clash : IsTrue (is_of_others (Some (codes "stage" ∷ rest))) = subst (λ a. IsTrue (is_of_others (Some (a ∷ rest)))) same is in cc)

    -- and where nothing but the stage stood in the work folder, nothing else comes there
    pub fresh_then : (u w : Option Told) → ((a : Told) → u ≡ Some a → IsSound a.state) → StaysIn (is_apart work at) u w → IfSeen u (λ v. IsFresh v work) → IfSeen w (λ v. IsReady v work)
        → IfSeen w (λ v. IsFresh v work)
    fresh_then None None sound stays fresh ready v is = absurd is
    fresh_then None (Some b) sound stays fresh ready v is = absurd stays
    fresh_then (Some a) None sound stays fresh ready v is = absurd is
    fresh_then (Some a) (Some b) sound stays fresh ready v is = record {
      ready = ready v is;
      alone = λ name other.
          let same : seen b.state (child work name) ≡ seen a.state (child work name) =
          seen_as_before (is_apart work at) a.state b.state (sound a refl) (went_to (IsAsBefore (is_apart work at) a.state) (λ s e. Unit {0}) a b stays) (child work name) (away name [] other) in
          ap (λ x. x (child work name)) is ∙ same ∙ (fresh (seen a.state) refl).alone name other;
    }
