-- A file is set, call by call.
use Rattle.std.proofs.Common.{◌≡◌, ◌⊎◌, ℕ, zero, suc, ◌+◌, Bool, List, [], ◌∷◌, ◌++◌, length, length-append, codes, Option, Some, None, Result, Ok, Err, OnOk, IfSome, refl, sym, ap, ◌∙◌, subst, inl, inr, arith, append_assoc, IsTrue}
use Rattle.std.specs.Prelude.{Contains}
use Rattle.std.specs.Cmp.{first_so, second_so}
use Rattle.folder_spec.specs.declared.FolderFault.{FolderFault}
use Rattle.folder_spec.specs.declared.FolderFault.TheVariants.{Failed, Refused, NoMemory}
use Rattle.folder_spec.specs.declared.Spot.TheVariants.{Directory, FileNode}
use Rattle.folder_spec.specs.Path.{Part, Path, below, parent, child}
use Rattle.folder_spec.specs.State.{Table, State, present, last_of, HasFile, IsAmong, IsTableOf, IsSound, HasNothingPendingIn}
use Rattle.folder_spec.specs.Image.{Image, IsImage}
use Rattle.folder_spec.specs.Event.{Settle, Rename, IsFree, IsFilePlace, Allowed, Event, Fell, Denied, Told, Steps, Changes, FromTo}
use Rattle.folder_spec.specs.Moments.{Went}
use Rattle.folder_spec.specs.Region.{IsAsBefore, SparesOld, StagesOrPuts, apart_from}
use Rattle.folder_spec.specs.Replace.{IsNewFile, IsReplacing, HasReplaced}
use Rattle.folder_spec.specs.View.{View, view_of, AgreeIn, Shows, ShowsAmong}
use Rattle.folder_spec.specs.Seen.{IfSeen, IsSeen, ShowsFilePlace, seen}
use Rattle.folder_spec.specs.Edit.{edited, file_edit, IsPartOf}
use Rattle.folder_spec.proofs.Paths.{below-apart, begins_or_not, not_below, parent-child, child-not_base, below-parent}
use Rattle.folder_spec.proofs.Tables.{present_is_table}
use Rattle.folder_spec.proofs.Replaces.{apart-below, apart-from_below, images_show_new}
use Rattle.folder_spec.proofs.Moments.{went_on, went_through, went_more, went_to}
use Rattle.folder_spec.proofs.Tellings.{from_to_on, from_to_more, from_to_both}
use Rattle.folder_spec.proofs.Edits.{settled_alone}
use Rattle.folder_spec.proofs.Seen.{file_place_seen, file_place_shown}
use Rattle.folder_spec.proofs.Stages.{Staging, IsStagedFile, Replacing, IsRenamed, staging_so_far, place_stays, puts_spare, replacing_none, replacing_from, renamed_from, settling_from, settled_from}
use Rattle.folder_staging.specs.Places.{ArePlacesApart}
use Rattle.work_folder.specs.Entries.{stage_path}
use Rattle.work_folder.specs.Setting.{staged_file, beside, IsSetting, IsSet, Sets, HasSet, SetsIf}

-- what was done was allowed
allowed_done : (R : Told → Told → Type 0) (X : Told → Type 0) (t u : Option Told) → ((a b : Told) → R a b → X a) → FromTo R t u → (a : Told) → t ≡ Some a → X a
allowed_done R X (Some b) (Some c) so h a is = let same : b ≡ a = cc is in subst X same (so b c h)
allowed_done R X (Some b) None so h a is = absurd h
allowed_done R X None u so h a is = cc is

-- ---- paths

below_longer : (w more q : Path) → below w q ≡ None → below (w ++ more) q ≡ None
below_longer w more q none = elim (begins_or_not (w ++ more) q) as (λ _. below (w ++ more) q ≡ None) [
  | inl k ↦ absurd (not_below w (more ++ k.0) (ap (below w) (sym (k.1 ∙ append_assoc w more k.0)) ∙ none))
  | inr apart ↦ apart
]

abbrev in_stage : Path
in_stage = codes "stage" ∷ codes "f" ∷ []

staged_is : (work : Path) → staged_file work ≡ work ++ in_stage
staged_is work = append_assoc work (codes "stage" ∷ []) (codes "f" ∷ [])

child_behind : (p : Path) (a : Part) → below (child p a) p ≡ None
child_behind p a = elim (begins_or_not (child p a) p) as (λ _. below (child p a) p ≡ None) [
  | inl k ↦ absurd (
      let one : length p ≡ length (child p a) + length (k.0) = ap length k.1 ∙ length-append (child p a) (k.0) in
      let two : length (child p a) ≡ length p + length (a ∷ []) = length-append p (a ∷ []) in
      omega (arith, one, two))
  | inr none ↦ none
]

-- the laws of what images show
pub record ViewsShown : Type 0 where
  pub images : (region : Path → Bool) (s : State) (image : Image) (views : List View) → ShowsAmong region s views → IsImage s image → (v : View) × Contains views v × AgreeIn region (view_of image) v
  pub settled : (region : Path → Bool) (s : State) → HasNothingPendingIn region s → ShowsAmong region s (seen s ∷ [])

module _ (law : ViewsShown) (work at : Path) (bytes : List ℕ) (apart : ArePlacesApart work at) where
  staged_apart : below (staged_file work) at ≡ None
  staged_apart = subst (λ p. below p at ≡ None) (sym (staged_is work)) (below_longer work in_stage at apart.apart)

  staged_beside : below at (staged_file work) ≡ None
  staged_beside = subst (λ p. below at p ≡ None) (sym (staged_is work)) (below-apart at work in_stage apart.beside apart.apart)

  outside : IsPartOf (apart_from work) (apart_from (staged_file work))
  outside q inside = apart-from_below (staged_file work) q (subst (λ p. below p q ≡ None) (sym (staged_is work)) (below_longer work in_stage q (apart-below work q inside)))

  -- ---- states

  shown_now : (s0 : State) → HasNothingPendingIn (apart_from work) s0 → Shows (apart_from work) s0 (present s0) (seen s0)
  shown_now s0 none = record { agrees = λ q inside. refl; clean = none.clean }

  one_of_two : (image : Image) (v w u : View) → Contains (v ∷ w ∷ []) u → AgreeIn (apart_from work) (view_of image) u
      → AgreeIn (apart_from work) (view_of image) v ⊎ AgreeIn (apart_from work) (view_of image) w
  one_of_two image v w u (zero, lt, is) agree = inl (subst (AgreeIn (apart_from work) (view_of image)) (sym is) agree)
  one_of_two image v w u (suc zero, lt, is) agree = inr (subst (AgreeIn (apart_from work) (view_of image)) (sym is) agree)
  one_of_two image v w u (suc (suc k), lt, is) agree = absurd (omega (arith, lt))

  one_alone : (image : Image) (v u : View) → Contains (v ∷ []) u → AgreeIn (apart_from work) (view_of image) u → AgreeIn (apart_from work) (view_of image) v
  one_alone image v u (zero, lt, is) agree = subst (AgreeIn (apart_from work) (view_of image)) (sym is) agree
  one_alone image v u (suc k, lt, is) agree = absurd (omega (arith, lt))

  setting : (s0 s : State) → IsReplacing (staged_file work) at bytes s0 s → IsSetting work at bytes s0 s
  setting s0 s h = record {
    file = h.change;
    publishes = h.publishes;
    fronts = h.fronts;
    images = λ none image is.
        let views : List View = seen s0 ∷ edited (seen s0) (file_edit at bytes) ∷ [] in
        let shown : ShowsAmong (apart_from work) s views = h.publishes (apart_from work) (seen s0 ∷ []) (seen s0) outside (law.settled (apart_from work) s0 none) (shown_now s0 none) in
        let found = law.images (apart_from work) s image views shown is in
        one_of_two image (seen s0) (edited (seen s0) (file_edit at bytes)) found.0 found.1 found.2;
  }

  has_set : (s0 s : State) → HasReplaced (staged_file work) at bytes s0 s → IsSet work at bytes s0 s
  has_set s0 s h = record {
    file = h.replaced;
    published = h.published;
    shown = λ image is. images_show_new (beside work at) at bytes s0 s image h.replaced is;
    nothing_pending = λ none. record {
      agree = λ t p is inside. ap (λ u. u p) (only t is);
      clean = λ p n inside here. (alone none (present s) (present_is_table s)).2.clean p n inside here;
    };
    images = λ none image is.
        let found = law.images (apart_from work) s image (new ∷ []) (alone none) is in
        one_alone image new found.0 found.1 found.2;
  }
    where
      new : View
      new = edited (seen s0) (file_edit at bytes)

      alone : HasNothingPendingIn (apart_from work) s0 → ShowsAmong (apart_from work) s (new ∷ [])
      alone none = settled_alone (apart_from (staged_file work)) (file_edit at bytes ∷ []) s0 s h.published (apart_from work) (seen s0) outside (shown_now s0 none)

      only : (t : Table) → IsTableOf s t → t ≡ present s
      only t is = elim is as (λ _. t ≡ present s) [
        | inl e ↦ e ∙ sym (ap (λ us. last_of s.kept us) h.published.settled)
        | inr among ↦ absurd (subst (IsAmong t) h.published.settled among)
      ]

  -- the stage has room for a file again
  free_again : (s0 s : State) → IsSound s0 → HasReplaced (staged_file work) at bytes s0 s → IsFilePlace (present s0) (staged_file work) → IsFree (present s) (staged_file work)
  free_again s0 s sound h place = (h.gone, ap (present s) up ∙ above ∙ directory)
    where
      up : parent (staged_file work) ≡ stage_path work
      up = parent-child (stage_path work) (codes "f")

      inside : IsTrue (beside work at (stage_path work))
      inside = rw (child_behind (stage_path work) (codes "f"), below-apart at work (codes "stage" ∷ []) apart.beside apart.apart) refl

      above : present s (stage_path work) ≡ present s0 (stage_path work)
      above = h.replaced.change.seen (stage_path work) inside

      directory : present s0 (stage_path work) ≡ Directory
      directory = elim place as (λ _. present s0 (stage_path work) ≡ Directory) [
        | inl free ↦ ap (present s0) (sym up) ∙ free.1
        | inr file ↦ (sound.tables (present s0) (present_is_table s0)).parents (stage_path work) (codes "f") (λ none. (let there : present s0 (staged_file work) ≡ FileNode (file.0) = file.1 in cc))
      ]

  -- a staged file may be renamed onto a place for one, and only there
  place_allowed : (s0 s : State) → IsAsBefore (apart_from (staged_file work)) s0 s → IsNewFile bytes s0 s (present s (staged_file work)) → IsFilePlace (present s0) at → Allowed s (Rename (staged_file work) at)
  place_allowed s0 s others new place = (
    child-not_base (stage_path work) (codes "f"),
    λ none. (let file : present s (staged_file work) ≡ FileNode new.number = new.is in cc),
    staged_apart,
    elim (place_stays (staged_file work) at bytes staged_apart s0 s others place) as (λ _. IsFree (present s) at ⊎ (HasFile (present s) (staged_file work) × HasFile (present s) at)) [
      | inl free ↦ inl free
      | inr there ↦ inr ((new.number, new.is), there)
    ],
  )

  allowed_place : (s0 s : State) → IsAsBefore (apart_from (staged_file work)) s0 s → Allowed s (Rename (staged_file work) at) → IsFilePlace (present s0) at
  allowed_place s0 s others allowed =
      let here : present s at ≡ present s0 at = others.seen at (apart-from_below (staged_file work) at staged_apart) in
      let above : present s (parent at) ≡ present s0 (parent at) = others.seen (parent at) (apart-from_below (staged_file work) (parent at) (below-parent (staged_file work) at staged_apart)) in
      elim allowed.3 as (λ _. IsFilePlace (present s0) at) [
        | inl free ↦ inl (sym here ∙ free.0, sym above ∙ free.1)
        | inr files ↦ inr (files.1.0, sym here ∙ files.1.1)
      ]

  -- ---- calls

  abbrev Setting : Told → Told → Type 0
  Setting a b = Went (IsSetting work at bytes a.state) (λ s e. SparesOld (beside work at) a.state s e.call) a b

  sets_from : (t u : Option Told) → FromTo (Replacing (staged_file work) at bytes) t u → Sets work at bytes t u
  sets_from t u moments =
      from_to_more (Replacing (staged_file work) at bytes) Setting t u
      (λ a b is went. went_more (IsReplacing (staged_file work) at bytes a.state) (IsSetting work at bytes a.state)
      (λ s e. StagesOrPuts (staged_file work) at a.state s e.call) (λ s e. SparesOld (beside work at) a.state s e.call) a b
      (λ s h. setting a.state s h) (λ s e h. puts_spare (staged_file work) at a.state s e.call h) went) moments

  pub sets_nothing : (t : Option Told) → ((a : Told) → t ≡ Some a → IsSound a.state) → Sets work at bytes t t
  sets_nothing t sound = sets_from t t (replacing_none (staged_file work) at bytes staged_apart t sound)

  pub sets_staged : (t u : Option Told) → ((a : Told) → t ≡ Some a → IsSound a.state) → FromTo (Staging (bytes ∷ []) (staged_file work)) t u → Sets work at bytes t u
  sets_staged t u sound stages = sets_from t u (replacing_from (staged_file work) at bytes staged_apart t u sound stages)

  rename_spares : (s0 s : State) → SparesOld (beside work at) s0 s (Rename (staged_file work) at)
  rename_spares s0 s = (
    λ q inside. (
      apart-below at q (second_so (apart_from (staged_file work) q) (apart_from at q) inside),
      apart-below (staged_file work) q (first_so (apart_from (staged_file work) q) (apart_from at q) inside),
    ),
    tt,
  )

  -- a rename that wasn't done
  fallen_run : (fault : FolderFault) (a0 a b : Told) → Setting a0 a → Steps (Rename (staged_file work) at) a b (Err fault) → Setting a0 b
  fallen_run Failed a0 a b went steps =
      let P : State → Type 0 = IsSetting work at bytes a0.state in
      let Q : State → Event → Type 0 = λ s e. SparesOld (beside work at) a0.state s e.call in
      let here : P a.state = went_to P Q a0 a went in
      went_on P Q a0 a b went (subst (Went P Q a) (sym steps.1.2) (went_through P Q a (Rename (staged_file work) at) (Fell steps.1.0) here here (rename_spares a0.state a.state) steps.0))
  fallen_run Refused a0 a b went steps =
      let P : State → Type 0 = IsSetting work at bytes a0.state in
      let Q : State → Event → Type 0 = λ s e. SparesOld (beside work at) a0.state s e.call in
      let here : P a.state = went_to P Q a0 a went in
      went_on P Q a0 a b went (subst (Went P Q a) (sym steps.1) (went_through P Q a (Rename (staged_file work) at) Denied here here (rename_spares a0.state a.state) steps.0))
  fallen_run NoMemory a0 a b went steps = subst (Setting a0) (sym steps) went

  module _ (t0 t1 : Option Told) (sound : (a : Told) → t0 ≡ Some a → IsSound a.state) (sound_now : (a : Told) → t1 ≡ Some a → IsSound a.state)
      (stages : FromTo (Staging (bytes ∷ []) (staged_file work)) t0 t1)
      (new : FromTo (λ a b. IsNewFile bytes a.state b.state (present b.state (staged_file work))) t0 t1) where
    so_far : FromTo (IsStagedFile (staged_file work) bytes) t0 t1
    so_far = from_to_both (Staging (bytes ∷ []) (staged_file work)) (λ a b. IsNewFile bytes a.state b.state (present b.state (staged_file work))) t0 t1 stages new

    pub rename_failed : (t2 : Option Told) (fault : FolderFault) → Changes (Rename (staged_file work) at) t1 t2 (Err fault) → Sets work at bytes t0 t2
    rename_failed t2 fault changes =
        from_to_on Setting (λ a b. Steps (Rename (staged_file work) at) a b (Err fault)) Setting t0 t1 t2 (λ a0 a b went steps. fallen_run fault a0 a b went steps)
        (sets_staged t0 t1 sound stages) changes

    pub rename_refused : (t2 : Option Told) (fault : FolderFault) → Changes (Rename (staged_file work) at) t1 t2 (Err fault) → IfSeen t0 (λ v. SetsIf (ShowsFilePlace v at) (Err fault))
    rename_refused t2 Failed changes v is = tt
    rename_refused t2 NoMemory changes v is = tt
    rename_refused t2 Refused changes v is = λ place. by_told t0 t1 t2 so_far changes v is place
      where
        by_told : (t u w : Option Told) → FromTo (IsStagedFile (staged_file work) bytes) t u → Changes (Rename (staged_file work) at) u w (Err Refused)
            → (v : View) → IsSeen t v → ShowsFilePlace v at → ⊥
        by_told (Some a) (Some b) (Some c) h steps v is place =
            steps.0 (place_allowed a.state b.state (staging_so_far (bytes ∷ []) (staged_file work) a b h.0).others h.1
            (file_place_seen (Some a) at (λ w seen_. subst (λ x. ShowsFilePlace x at) (is ∙ sym seen_) place)))
        by_told (Some a) (Some b) None h steps v is place = absurd steps
        by_told (Some a) None w h steps v is place = absurd h
        by_told None u w h steps v is place = absurd is

    module _ (t2 : Option Told) (changes : Changes (Rename (staged_file work) at) t1 t2 (Ok tt)) where
      renamed : FromTo (IsRenamed (staged_file work) at bytes) t0 t2
      renamed =
          renamed_from (staged_file work) at bytes staged_apart t0 t1 t2 staged_beside sound sound_now
          (allowed_done (λ a b. Steps (Rename (staged_file work) at) a b (Ok tt)) (λ a. Allowed a.state (Rename (staged_file work) at)) t1 t2 (λ a b steps. steps.0) changes) so_far changes

      there : IfSeen t0 (λ v. ShowsFilePlace v at)
      there = file_place_shown t0 at (by_told t0 t1 t2 so_far changes)
        where
          by_told : (t u w : Option Told) → FromTo (IsStagedFile (staged_file work) bytes) t u → Changes (Rename (staged_file work) at) u w (Ok tt) → IfSome t (λ a. IsFilePlace (present a.state) at)
          by_told (Some a) (Some b) (Some c) h steps = allowed_place a.state b.state (staging_so_far (bytes ∷ []) (staged_file work) a b h.0).others steps.0
          by_told (Some a) (Some b) None h steps = absurd steps
          by_told (Some a) None w h steps = absurd h
          by_told None u w h steps = tt

      module _ (t3 : Option Told) (result : Result (Unit {0}) FolderFault) (settles : Changes Settle t2 t3 result) where
        pub sets_settled : Sets work at bytes t0 t3
        sets_settled = sets_from t0 t3 (settling_from (staged_file work) at bytes staged_apart t0 t2 t3 result renamed settles)

        replaced : OnOk result (FromTo (λ a b. HasReplaced (staged_file work) at bytes a.state b.state) t0 t3)
        replaced = settled_from (staged_file work) at bytes staged_apart t0 t2 t3 result renamed settles

        pub set_settled : OnOk result (HasSet work at bytes t0 t3)
        set_settled = by_result result replaced
          where
            by_result : (result : Result (Unit {0}) FolderFault) → OnOk result (FromTo (λ a b. HasReplaced (staged_file work) at bytes a.state b.state) t0 t3) → OnOk result (HasSet work at bytes t0 t3)
            by_result (Err fault) h = tt
            by_result (Ok done) h =
                from_to_more (λ a b. HasReplaced (staged_file work) at bytes a.state b.state) (λ a b. IsSet work at bytes a.state b.state) t0 t3 (λ a b is k. has_set a.state b.state k) h

        pub answer_settled : IfSeen t0 (λ v. SetsIf (ShowsFilePlace v at) result)
        answer_settled v is = by_result t0 t2 t3 result renamed settles is
          where
            by_result : (t u w : Option Told) (result : Result (Unit {0}) FolderFault) → FromTo (IsRenamed (staged_file work) at bytes) t u → Changes Settle u w result → IsSeen t v
                → SetsIf (ShowsFilePlace v at) result
            by_result t u w (Err Failed) h steps seen_ = tt
            by_result t u w (Err NoMemory) h steps seen_ = tt
            by_result t u w (Ok done) h steps seen_ = there v is
            by_result (Some a) (Some b) (Some c) (Err Refused) h steps seen_ = absurd (steps.0 tt)
            by_result (Some a) (Some b) None (Err Refused) h steps seen_ = absurd steps
            by_result (Some a) None w (Err Refused) h steps seen_ = absurd h
            by_result None u w (Err Refused) h steps seen_ = absurd seen_

        pub stage_again : IfSeen t0 (λ v. ShowsFilePlace v (staged_file work)) → OnOk result (IfSeen t3 (λ v. ShowsFilePlace v (staged_file work)))
        stage_again place = by_result result replaced
          where
            by_told : (t u : Option Told) → ((a : Told) → t ≡ Some a → IsSound a.state) → FromTo (λ a b. HasReplaced (staged_file work) at bytes a.state b.state) t u
                → IfSome t (λ a. IsFilePlace (present a.state) (staged_file work)) → IfSome u (λ a. IsFilePlace (present a.state) (staged_file work))
            by_told (Some a) (Some b) sound h place = inl (free_again a.state b.state (sound a refl) h place)
            by_told None None sound h place = tt
            by_told None (Some b) sound h place = absurd h
            by_told (Some a) None sound h place = absurd h

            by_result : (result : Result (Unit {0}) FolderFault) → OnOk result (FromTo (λ a b. HasReplaced (staged_file work) at bytes a.state b.state) t0 t3)
                → OnOk result (IfSeen t3 (λ v. ShowsFilePlace v (staged_file work)))
            by_result (Err fault) h = tt
            by_result (Ok done) h = file_place_shown t3 (staged_file work) (by_told t0 t3 sound h (file_place_seen t0 (staged_file work) place))
