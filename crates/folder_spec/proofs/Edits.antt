-- How edits are published, and that calls join by joining their edits.
use Rattle.std.proofs.Common.{◌≡◌, ◌≢◌, ◌⊎◌, ℕ, ◌<◌, Bool, List, [], ◌∷◌, ◌++◌, Some, None, refl, sym, ap, ◌∙◌, subst, inl, inr, arith, append-nil, append_assoc, IsTrue}
use Rattle.std.specs.Prelude.{Contains}
use Rattle.std.proofs.lemmas.List.Elements.{Contains-append_left, Contains-append_right}
use Rattle.folder_spec.specs.Path.{Part, Path, below}
use Rattle.folder_spec.specs.State.{Spot, Nothing, Directory, FileNode, Odd, Table, Node, State, last_of, present, put, moved, IsAmong, IsTableOf, IsClean, IsSoundTable, IsSound}
use Rattle.folder_spec.specs.Event.{Call, MakeDir, Create, Append, Sync, Settle, Rename, RemoveFile, RemoveDir, IsFree, Allowed, with_table, with_file, grown, synced, changed}
use Rattle.folder_spec.specs.View.{FileOf, View, found, Shows, ShowsAmong}
use Rattle.folder_spec.specs.Region.{AlikeIn, IsAsBefore, OnlyAdds}
use Rattle.folder_spec.specs.Edit.{Edit, grafted, edited, directory_view, directory_edit, views_after, view_after, IsPartOf, IsStagedView, PublishesIn, HasPublishedIn, HasSettledIn}
use Rattle.folder_spec.proofs.Paths.{one_or_not, begins_or_not, below-append}
use Rattle.folder_spec.proofs.Sound.{above_is_directory}
use Rattle.folder_spec.proofs.Tables.{put-same, put-other, moved-new, moved-other, present_is_table, among-push, last_of-push}

-- A region shows what it showed, where a table has there what a table of a sound state had, and the files of then are as they were.
pub shows_as_before : (region : Path → Bool) (s0 s : State) (t u : Table) (v : View) → IsSoundTable s0.made u → AlikeIn region t u
    → ((n : ℕ) → n < s0.made → s.nodes n ≡ s0.nodes n) → Shows region s0 u v → Shows region s t v
shows_as_before region s0 s t u v sound alike stay shows = record {
  agrees = λ p inside. ap (found (λ n. (s.nodes n).now)) (alike p inside) ∙ same (u p) (λ n here. sound.is_made p n here) ∙ shows.agrees p inside;
  clean = λ p n inside here.
      let was : u p ≡ FileNode n = sym (alike p inside) ∙ here in
      subst IsClean (sym (stay n (sound.is_made p n was))) (shows.clean p n inside was);
}
  where
    same : (x : Spot) → ((n : ℕ) → x ≡ FileNode n → n < s0.made) → found (λ n. (s.nodes n).now) x ≡ found (λ n. (s0.nodes n).now) x
    same Nothing made = refl
    same Directory made = refl
    same Odd made = refl
    same (FileNode n) made = ap (λ (node : Node). FileOf node.now) (stay n (made n refl))

alike_within : (small large : Path → Bool) (t u : Table) → ((q : Path) → IsTrue (small q) → IsTrue (large q)) → AlikeIn large t u → AlikeIn small t u
alike_within small large t u within alike q inside = alike q (within q inside)

-- more views
pub among_more : (region : Path → Bool) (s : State) (views more : List View) → ShowsAmong region s views → ShowsAmong region s (views ++ more)
among_more region s views more shown t is_table =
    let there : (v : View) × Contains views v × Shows region s t v = shown t is_table in (there.0, Contains-append_left views more there.0 there.1, there.2)

-- while a region is left as it was, whatever was shown in it is shown
pub unchanged_shows : (whole : Path → Bool) (region : Path → Bool) (s0 s : State) (views : List View) → IsSound s0 → IsPartOf region whole → IsAsBefore whole s0 s
    → ShowsAmong region s0 views → ShowsAmong region s views
unchanged_shows whole region s0 s views sound within_whole as_was shown t is_table =
    let old : (u : Table) × IsTableOf s0 u × AlikeIn whole t u = as_was.tables t is_table in
    let there : (v : View) × Contains views v × Shows region s0 old.0 v = shown old.0 old.1 in (
      there.0,
      there.1,
      shows_as_before region s0 s t old.0 there.0 (sound.tables old.0 old.1) (alike_within region whole t old.0 within_whole old.2) as_was.nodes there.2,
    )

pub unchanged_present : (whole : Path → Bool) (region : Path → Bool) (s0 s : State) (v : View) → IsSound s0 → IsPartOf region whole → IsAsBefore whole s0 s
    → Shows region s0 (present s0) v → Shows region s (present s) v
unchanged_present whole region s0 s v sound within_whole as_was shows =
    shows_as_before region s0 s (present s) (present s0) v (sound.tables (present s0) (present_is_table s0))
    (alike_within region whole (present s) (present s0) within_whole as_was.seen) as_was.nodes shows

-- so nothing is published yet
pub publishes_nothing : (whole : Path → Bool) (edits : List Edit) (s0 s : State) → IsSound s0 → IsAsBefore whole s0 s → PublishesIn whole edits s0 s
publishes_nothing whole edits s0 s sound as_was region views v within_whole shown now =
    among_more region s views (views_after v edits) (unchanged_shows whole region s0 s views sound within_whole as_was shown)

-- A call makes a table that shows an edit.
module _ (whole : Path → Bool) (e : Edit) (s0 s : State) (u : Table) (sound : IsSound s0) (as_was : IsAsBefore whole s0 s)
    (edits : (region : Path → Bool) (v : View) → IsPartOf region whole → Shows region s (present s) v → Shows region s u (edited v e)) where
  same_nodes : (region : Path → Bool) (t : Table) (v : View) → Shows region s t v → Shows region (with_table s u) t v
  same_nodes region t v shows = record { agrees = shows.agrees; clean = shows.clean }

  new_shown : (region : Path → Bool) (v : View) → IsPartOf region whole → Shows region s0 (present s0) v → Shows region (with_table s u) u (edited v e)
  new_shown region v within_whole now = same_nodes region u (edited v e) (edits region v within_whole (unchanged_present whole region s0 s v sound within_whole as_was now))

  old_shown : (region : Path → Bool) (views : List View) (v : View) → IsPartOf region whole → ShowsAmong region s0 views → (t : Table) → IsTableOf s t
      → (w : View) × Contains (views ++ edited v e ∷ []) w × Shows region (with_table s u) t w
  old_shown region views v within_whole shown t is_table =
      let there : (w : View) × Contains views w × Shows region s t w = unchanged_shows whole region s0 s views sound within_whole as_was shown t is_table in
      (there.0, Contains-append_left views (edited v e ∷ []) there.0 there.1, same_nodes region t there.0 there.2)

  pub table_published : HasPublishedIn whole (e ∷ []) s0 (with_table s u)
  table_published = record {
    publishes = λ region views v within_whole shown now t is_table. elim is_table as (λ _. (w : View) × Contains (views ++ edited v e ∷ []) w × Shows region (with_table s u) t w) [
      | inl same ↦ old_shown region views v within_whole shown t (inl same)
      | inr more ↦ elim (among-push t u s.later more) as (λ _. (w : View) × Contains (views ++ edited v e ∷ []) w × Shows region (with_table s u) t w) [
        | inl before ↦ old_shown region views v within_whole shown t (inr before)
        | inr new ↦ (
          edited v e,
          Contains-append_right views (edited v e ∷ []) (edited v e) (0, omega arith, refl),
          subst (λ w. Shows region (with_table s u) w (edited v e)) (sym new) (new_shown region v within_whole now),
        )
      ]
    ];
    shows = λ region v within_whole now.
        subst (λ w. Shows region (with_table s u) w (edited v e)) (sym (last_of-push s.kept s.later u)) (new_shown region v within_whole now);
  }

pub at_edit : (v : View) (e : Edit) (q rest : Path) → q ≡ e.at ++ rest → edited v e q ≡ e.made rest
at_edit v e q rest is = ap (grafted v e q) (ap (below e.at) is ∙ below-append e.at rest)

pub off_edit : (v : View) (e : Edit) (q : Path) → below e.at q ≡ None → edited v e q ≡ v q
off_edit v e q none = ap (grafted v e q) none

-- A rename from within_whole the region puts it in its place.
module _ (whole : Path → Bool) (p : Path) (e : Edit) (s0 s : State) (sound : IsSound s0) (as_was : IsAsBefore whole s0 s)
    (apart_ : (q : Path) → IsTrue (whole q) → below p q ≡ None) (staged : IsStagedView s (present s) p e.made) where
  shows_edited : (region : Path → Bool) (v : View) → IsPartOf region whole → Shows region s (present s) v → Shows region s (moved (present s) p e.at) (edited v e)
  shows_edited region v within_whole shows = record {
    agrees = λ q inside. elim (begins_or_not e.at q) as (λ _. found (λ n. (s.nodes n).now) (moved (present s) p e.at q) ≡ edited v e q) [
      | inl k ↦
          ap (found (λ n. (s.nodes n).now)) (ap (moved (present s) p e.at) k.1 ∙ moved-new (present s) p e.at k.0) ∙ staged.shown k.0
          ∙ sym (at_edit v e q k.0 k.1)
      | inr none ↦
          ap (found (λ n. (s.nodes n).now)) (moved-other (present s) p e.at q none (apart_ q (within_whole q inside))) ∙ shows.agrees q inside
          ∙ sym (off_edit v e q none)
    ];
    clean = λ q n inside here. elim (begins_or_not e.at q) as (λ _. IsClean (s.nodes n)) [
      | inl k ↦ staged.clean k.0 n (sym (ap (moved (present s) p e.at) k.1 ∙ moved-new (present s) p e.at k.0) ∙ here)
      | inr none ↦ shows.clean q n inside (sym (moved-other (present s) p e.at q none (apart_ q (within_whole q inside))) ∙ here)
    ];
  }

  pub published : HasPublishedIn whole (e ∷ []) s0 (changed s (Rename p e.at))
  published = table_published whole e s0 s (moved (present s) p e.at) sound as_was shows_edited

-- nothing stands below what is no directory
pub nothing_below_file : (made : ℕ) (t : Table) → IsSoundTable made t → (w : Path) (b : Part) (rest : Path) → t w ≢ Directory → t (w ++ b ∷ rest) ≡ Nothing
nothing_below_file made t sound w b rest other = elim (spot_or_nothing (t (w ++ b ∷ rest))) [
  | inl nothing ↦ nothing
  | inr stands ↦ absurd (other (above_is_directory made t sound w b rest stands))
]
  where
    spot_or_nothing : (x : Spot) → (x ≡ Nothing) ⊎ (x ≢ Nothing)
    spot_or_nothing Nothing = inl refl
    spot_or_nothing Directory = inr (λ e. cc)
    spot_or_nothing (FileNode n) = inr (λ e. cc)
    spot_or_nothing Odd = inr (λ e. cc)

nothing_below : (made : ℕ) (t : Table) → IsSoundTable made t → (w : Path) (b : Part) (rest : Path) → t w ≡ Nothing → t (w ++ b ∷ rest) ≡ Nothing
nothing_below made t sound w b rest none = nothing_below_file made t sound w b rest (λ directory. cc)

-- A directory is made in its place.
module _ (whole : Path → Bool) (at : Path) (s0 s : State) (sound : IsSound s0) (sound_now : IsSound s) (as_was : IsAsBefore whole s0 s) (free : IsFree (present s) at) where
  shows_directory : (region : Path → Bool) (v : View) → IsPartOf region whole → Shows region s (present s) v
      → Shows region s (put (present s) at Directory) (edited v (directory_edit at))
  shows_directory region v within_whole shows = record {
    agrees = λ q inside. elim (begins_or_not at q) as (λ _. found (λ n. (s.nodes n).now) (put (present s) at Directory q) ≡ edited v (directory_edit at) q) [
      | inl k ↦ ap (λ r. found (λ n. (s.nodes n).now) (put (present s) at Directory r)) k.1 ∙ at_rest k.0 ∙ sym (at_edit v (directory_edit at) q k.0 k.1)
      | inr none ↦ ap (found (λ n. (s.nodes n).now)) (put-other (present s) at Directory q (apart q none)) ∙ shows.agrees q inside ∙ sym (off_edit v (directory_edit at) q none)
    ];
    clean = λ q n inside here. elim (one_or_not at q) as (λ _. IsClean (s.nodes n)) [
      | inl e ↦ absurd (let directory : put (present s) at Directory q ≡ Directory = ap (put (present s) at Directory) (sym e) ∙ put-same (present s) at Directory in cc)
      | inr k ↦ shows.clean q n inside (sym (put-other (present s) at Directory q k.0) ∙ here)
    ];
  }
    where
      apart : (q : Path) → below at q ≡ None → at ≢ q
      apart q none e = let some : below at at ≡ Some [] = ap (below at) (sym (append-nil at)) ∙ below-append at [] in let no_ : below at at ≡ None = ap (below at) e ∙ none in cc

      at_rest : (rest : Path) → found (λ n. (s.nodes n).now) (put (present s) at Directory (at ++ rest)) ≡ directory_view rest
      at_rest [] = ap (found (λ n. (s.nodes n).now)) (ap (put (present s) at Directory) (append-nil at) ∙ put-same (present s) at Directory)
      at_rest (a ∷ rest) =
          ap (found (λ n. (s.nodes n).now))
          (put-other (present s) at Directory (at ++ a ∷ rest) (λ e. longer a rest e)
          ∙ nothing_below s.made (present s) (sound_now.tables (present s) (present_is_table s)) at a rest free.0)
        where
          longer : (a : Part) (rest : Path) → at ≡ at ++ a ∷ rest → ⊥
          longer a rest e = let some : below at at ≡ Some (a ∷ rest) = ap (below at) e ∙ below-append at (a ∷ rest) in
              let none : below at at ≡ Some [] = ap (below at) (sym (append-nil at)) ∙ below-append at [] in
              cc

  pub directory_published : HasPublishedIn whole (directory_edit at ∷ []) s0 (changed s (MakeDir at))
  directory_published = table_published whole (directory_edit at) s0 s (put (present s) at Directory) sound as_was shows_directory

-- a settle leaves one table
pub settle_publishes : (whole : Path → Bool) (edits : List Edit) (s0 s : State) → PublishesIn whole edits s0 s → PublishesIn whole edits s0 (changed s Settle)
settle_publishes whole edits s0 s publishes region views v within_whole shown now t is_table = elim is_table [
  | inl same ↦
      let there : (w : View) × Contains (views ++ views_after v edits) w × Shows region s (present s) w =
      publishes region views v within_whole shown now (present s) (present_is_table s) in (
        there.0,
        there.1,
        subst (λ u. Shows region (changed s Settle) u there.0) (sym same) (record { agrees = there.2.agrees; clean = there.2.clean }),
      )
  | inr none ↦ absurd none
]

pub settled : (whole : Path → Bool) (edits : List Edit) (s0 s : State) → HasPublishedIn whole edits s0 s → HasSettledIn whole edits s0 (changed s Settle)
settled whole edits s0 s published = record {
  published = record {
    publishes = settle_publishes whole edits s0 s published.publishes;
    shows = λ region v within_whole now. (let there : Shows region s (present s) (view_after v edits) = published.shows region v within_whole now in
        record { agrees = there.agrees; clean = there.clean });
  };
  settled = refl;
}

-- then the last view is shown alone
pub settled_alone : (whole : Path → Bool) (edits : List Edit) (s0 s : State) → HasSettledIn whole edits s0 s → (region : Path → Bool) (v : View) → IsPartOf region whole
    → Shows region s0 (present s0) v → ShowsAmong region s (view_after v edits ∷ [])
settled_alone whole edits s0 s h region v within_whole now t is_table = (
  view_after v edits,
  (0, omega arith, refl),
  subst (λ u. Shows region s u (view_after v edits)) (sym (only t (subst (λ us. IsAmong t (s.kept ∷ us)) h.settled is_table))) (h.published.shows region v within_whole now),
)
  where
    only : (t : Table) → IsAmong t (s.kept ∷ []) → t ≡ present s
    only t is = elim is as (λ _. t ≡ present s) [
      | inl e ↦ e ∙ sym (ap (λ us. last_of s.kept us) h.settled)
      | inr none ↦ absurd none
    ]

-- Two calls join by joining their edits.
views_joined : (v : View) (edits more : List Edit) → views_after v (edits ++ more) ≡ views_after v edits ++ views_after (view_after v edits) more
views_joined v [] more = refl
views_joined v (e ∷ edits) more = ap (λ views. edited v e ∷ views) (views_joined (edited v e) edits more)

view_joined : (v : View) (edits more : List Edit) → view_after v (edits ++ more) ≡ view_after (view_after v edits) more
view_joined v [] more = refl
view_joined v (e ∷ edits) more = view_joined (edited v e) edits more

-- more edits may come
pub publishes_more : (whole : Path → Bool) (edits more : List Edit) (s0 s : State) → PublishesIn whole edits s0 s → PublishesIn whole (edits ++ more) s0 s
publishes_more whole edits more s0 s publishes region views v within_whole shown now =
    subst (ShowsAmong region s)
    (append_assoc views (views_after v edits) (views_after (view_after v edits) more) ∙ ap (λ after. views ++ after) (sym (views_joined v edits more)))
    (among_more region s (views ++ views_after v edits) (views_after (view_after v edits) more) (publishes region views v within_whole shown now))

pub publishes_joined : (whole : Path → Bool) (edits more : List Edit) (s0 s1 s : State) → HasPublishedIn whole edits s0 s1 → PublishesIn whole more s1 s → PublishesIn whole (edits ++ more) s0 s
publishes_joined whole edits more s0 s1 s first then_ region views v within_whole shown now =
    subst (ShowsAmong region s)
    (append_assoc views (views_after v edits) (views_after (view_after v edits) more) ∙ ap (λ after. views ++ after) (sym (views_joined v edits more)))
    (then_ region (views ++ views_after v edits) (view_after v edits) within_whole (first.publishes region views v within_whole shown now) (first.shows region v within_whole now))

pub published_joined : (whole : Path → Bool) (edits more : List Edit) (s0 s1 s : State) → HasPublishedIn whole edits s0 s1 → HasPublishedIn whole more s1 s → HasPublishedIn whole (edits ++ more) s0 s
published_joined whole edits more s0 s1 s first then_ = record {
  publishes = publishes_joined whole edits more s0 s1 s first then_.publishes;
  shows = λ region v within_whole now.
      subst (Shows region s (present s)) (sym (view_joined v edits more)) (then_.shows region (view_after v edits) within_whole (first.shows region v within_whole now));
}

-- what is published in a region is published in each part of it
pub publishes_in_part : (whole part : Path → Bool) (edits : List Edit) (s0 s : State) → IsPartOf part whole → PublishesIn whole edits s0 s → PublishesIn part edits s0 s
publishes_in_part whole part edits s0 s within publishes region views v inside shown now =
    publishes region views v (λ q in_region. within q (inside q in_region)) shown now

pub published_in_part : (whole part : Path → Bool) (edits : List Edit) (s0 s : State) → IsPartOf part whole → HasPublishedIn whole edits s0 s → HasPublishedIn part edits s0 s
published_in_part whole part edits s0 s within published = record {
  publishes = publishes_in_part whole part edits s0 s within published.publishes;
  shows = λ region v inside now. published.shows region v (λ q in_region. within q (inside q in_region)) now;
}

pub settled_in_part : (whole part : Path → Bool) (edits : List Edit) (s0 s : State) → IsPartOf part whole → HasSettledIn whole edits s0 s → HasSettledIn part edits s0 s
settled_in_part whole part edits s0 s within settled =
    record { published = published_in_part whole part edits s0 s within settled.published; settled = settled.settled }

-- what stands in a region to which a call only adds stays
pub additions_keep : (region : Path → Bool) (s : State) (call : Call) → IsSound s → Allowed s call → OnlyAdds region s call → (q : Path) → IsTrue (region q)
    → present s q ≢ Nothing → present (changed s call) q ≡ present s q
additions_keep region s call sound allowed adds q inside stands = by_call call allowed adds
  where
    t : Table
    t = present s

    new_table : (v : Table) → v q ≡ present s q → present (with_table s v) q ≡ present s q
    new_table v e = ap (λ w. w q) (last_of-push s.kept s.later v) ∙ e

    file_changed : (x : Spot) (change : Node → Node) → present (with_file s x change) q ≡ present s q
    file_changed Nothing change = refl
    file_changed Directory change = refl
    file_changed Odd change = refl
    file_changed (FileNode n) change = refl

    not_at : (p : Path) → IsFree (present s) p → p ≢ q
    not_at p free e = stands (ap (present s) (sym e) ∙ free.0)

    not_below : (p : Path) → IsFree (present s) p → below p q ≡ None
    not_below p free = elim (begins_or_not p q) [
      | inl k ↦ absurd (stands (ap (present s) k.1 ∙ at k.0))
      | inr none ↦ none
    ]
      where
        at : (rest : Path) → present s (p ++ rest) ≡ Nothing
        at [] = ap (present s) (append-nil p) ∙ free.0
        at (a ∷ rest) = nothing_below s.made (present s) (sound.tables (present s) (present_is_table s)) p a rest free.0

    by_call : (call : Call) → Allowed s call → OnlyAdds region s call → present (changed s call) q ≡ present s q
    by_call (MakeDir p) allowed adds = new_table (put (present s) p Directory) (put-other (present s) p Directory q (not_at p allowed))
    by_call (Create p) allowed adds = new_table (put (present s) p (FileNode s.made)) (put-other (present s) p (FileNode s.made) q (adds q inside))
    by_call (Append p piece) allowed adds = file_changed (present s p) (grown piece)
    by_call (Sync p) allowed adds = file_changed (present s p) synced
    by_call Settle allowed adds = refl
    by_call (Rename old new) allowed adds = new_table (moved (present s) old new) (moved-other (present s) old new q (not_below new adds.1) (adds.0 q inside))
    by_call (RemoveFile p) allowed adds = new_table (put (present s) p Nothing) (put-other (present s) p Nothing q (adds q inside))
    by_call (RemoveDir p) allowed adds = new_table (put (present s) p Nothing) (put-other (present s) p Nothing q (adds q inside))
