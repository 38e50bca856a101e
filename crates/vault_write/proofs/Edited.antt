-- The edits of an item are published one after the other: what is staged, a rename, a directory that is made, and the settle.
use Rattle.std.specs.Prelude.{Contains}
use Rattle.std.proofs.Common.{arith, zero, suc, length, length-append, ◌+◌, cond, ◌≤◌, ◌≡◌, ◌≢◌, ℕ, false, List, [], ◌∷◌, ◌++◌, Option, Some, None, Result, Ok, refl, sym, ap, ◌∙◌, inl, inr, subst, append_assoc, append-nil, IsTrue, is_some, codes}
use Rattle.std.proofs.lemmas.List.Elements.{Contains-append_right}
use Rattle.folder_spec.specs.declared.FolderFault.{FolderFault}
use Rattle.folder_spec.specs.Path.{Part, Path, below, child, parent}
use Rattle.folder_spec.specs.declared.Spot.TheVariants.{Nothing, Directory, FileNode}
use Rattle.folder_spec.specs.State.{State, present, IsClean, IsSound}
use Rattle.folder_spec.specs.Edit.{Edit, edited, directory_edit, view_after, IsStagedView, PublishesIn, HasPublishedIn, HasSettledIn}
use Rattle.folder_spec.specs.Event.{MakeDir, Settle, Rename, IsFree, Allowed, Outcome, Done, changed, Told, told_after, Steps}
use Rattle.folder_spec.specs.Moments.{Went}
use Rattle.folder_spec.specs.Region.{IsAsBefore, StagesAt, apart_from, at_or_below}
use Rattle.folder_spec.specs.Seen.{seen, put_found, moved_view, moved_found, ShowsFree}
use Rattle.folder_spec.specs.View.{NoEntry, Folder, View, found}
use Rattle.folder_spec.proofs.Tables.{present_is_table}
use Rattle.folder_spec.proofs.Paths.{begins_or_not, below-append, below-apart, below-parent, below-sibling, not_below, one_or_not, path_eq-same}
use Rattle.folder_spec.proofs.Moments.{went_on, went_nowhere, went_by_call, went_to}
use Rattle.folder_spec.proofs.Regions.{as_before, as_before_on, as_before_then, as_before_within, seen_as_before}
use Rattle.folder_spec.proofs.Replaces.{apart-from_below}
use Rattle.folder_spec.proofs.Edits.{shows_as_before, publishes_nothing, publishes_more, publishes_joined, published_joined, published, directory_published, nothing_below_file, settle_publishes, settled, at_edit, off_edit}
use Rattle.folder_spec.proofs.Seen.{free_seen, seen_changed}
use Rattle.folder_spec.proofs.Sound.{changed_sound}
use Rattle.folder_spec.proofs.Written.{fronts_of_none, fronts_then}
use Rattle.folder_staging.specs.Folders.{IsStagingFolder}
use Rattle.work_folder.specs.Entries.{stage_path}
use Rattle.folder_staging.specs.Removal.{IsBare}
use Rattle.work_folder.specs.Entering.{IsReady, below_stage}
use Rattle.item_making.specs.Making.{Making, is_unstaged, is_apart, HasPlace, StagesOrPlaces}
use Rattle.vault_write.specs.Editing.{IsEditing, IsReadyBut, Edits, HasEdited, HasFinished, Holds, entry_stage}
use Rattle.vault_write.proofs.Stages.{in_stage, unstaged_below, unstaged_apart, apart_unstaged, apart_root, at_root, root_unstaged, off_root, stage_beside, staged_beside, work_unstaged, stage_unstaged}
use Rattle.vault_write.proofs.Runs.{went_with, works_in_stage}

-- what is staged at a place, all else as it was
abbrev pub StagingAt : List (List ℕ) → Path → Told → Told → Type 0
StagingAt files at a b = Went (IsStagingFolder files at a.state) (λ s e. StagesAt at a.state s e.call) a b

view_after-last : (v : View) (done : List Edit) (e : Edit) → view_after v (done ++ e ∷ []) ≡ edited (view_after v done) e
view_after-last v [] e = refl
view_after-last v (first ∷ done) e = view_after-last (edited v first) done e

-- the edit of two views that are alike at a path
edited_alike : (v w : View) (e : Edit) (q : Path) → v q ≡ w q → edited v e q ≡ edited w e q
edited_alike v w e q same = elim (begins_or_not e.at q) [
  | inl k ↦ at_edit v e q k.0 k.1 ∙ sym (at_edit w e q k.0 k.1)
  | inr none ↦ off_edit v e q none ∙ same ∙ sym (off_edit w e q none)
]

first_of : (e : Edit) (more : List Edit) → Contains (e ∷ more) e
first_of e more = (zero, (let size : length (e ∷ more) ≡ suc (length more) = refl in omega (arith, size)), refl)

pub some_part : (y : Part) (rest : Path) → 1 ≤ length (y ∷ rest)
some_part y rest = let size : length (y ∷ rest) ≡ suc (length rest) = refl in omega (arith, size)

-- the stage is bare where nothing is seen in it
pub bare_of : (v : View) (work : Path) → ((y : Part) (rest : Path) → v (stage_path work ++ y ∷ rest) ≡ NoEntry) → IsBare (below_stage work) v
bare_of v work none [] more = absurd (omega (arith, more))
bare_of v work none (y ∷ rest) more = none y rest

-- a place that isn't where an entry is staged, if one is
abbrev pub Beside : Path → Option View → Part → Type 0
Beside work None x = Unit {0}
Beside work (Some made) x = (below (child (stage_path work) x) (entry_stage work) ≡ None) × (below (entry_stage work) (child (stage_path work) x) ≡ None)

-- that of a long name's text isn't
pub name_beside : (work : Path) (held : Option View) → Beside work held (codes "n")
name_beside work None = tt
name_beside work (Some made) = (below-sibling (stage_path work) (codes "n") (codes "f") refl, below-sibling (stage_path work) (codes "f") (codes "n") refl)

ready_but : (place : Path) (v : View) (work : Path) → IsReady v work → IsReadyBut place v work
ready_but place v work ready = record { folder = ready.folder; stage = ready.stage; bare = λ y rest none. ready.bare (y ∷ rest) (some_part y rest) }

-- what is staged at a place stays while all there is as it was
staged_stays : (at : Path) (made : View) (s0 s : State) → IsSound s0 → IsAsBefore (at_or_below at) s0 s → IsStagedView s0 (present s0) at made → IsStagedView s (present s) at made
staged_stays at made s0 s sound was staged = record {
  shown = λ rest. seen_as_before (at_or_below at) s0 s sound was (at ++ rest) (there rest) ∙ staged.shown rest;
  clean = λ rest n is.
      let before : present s0 (at ++ rest) ≡ FileNode n = sym (was.seen (at ++ rest) (there rest)) ∙ is in
      subst IsClean (sym (was.nodes n ((sound.tables (present s0) (present_is_table s0)).is_made (at ++ rest) n before))) (staged.clean rest n before);
}
  where
    there : (rest : Path) → IsTrue (at_or_below at (at ++ rest))
    there rest = ap is_some (below-append at rest)

module _ (work root : Path) (m : Making) where
  so_far : {held : Option View} (done more : List Edit) (a b : Told) → HasEdited held work root m done more a b → IsEditing work root m a.state b.state
  so_far done more a b h = went_to (IsEditing work root m a.state) (λ s e. StagesOrPlaces work m s e.call) a b h.went

  -- none is done yet
  pub begun : (a : Told) → IsSound a.state → IsReady (seen a.state) work → below work root ≡ None → below root work ≡ None
      → ((e : Edit) → Contains m.edits e → IsTrue (at_or_below root e.at)) → m.replaces ≡ false → HasEdited None work root m [] m.edits a a
  begun a sound ready apart beside inside new = record {
    is = refl;
    went = went_nowhere (IsEditing work root m a.state) (λ s e. StagesOrPlaces work m s e.call) a (record {
      publishes = publishes_nothing (is_unstaged work) m.edits a.state a.state sound (as_before (is_unstaged work) a.state);
      others = as_before (is_apart work root) a.state;
      fronts = fronts_of_none m.files a.state;
      sees = record { done = []; more = m.edits; is = refl; views = λ q unstaged. refl };
    });
    published = record {
      publishes = publishes_nothing (is_unstaged work) [] a.state a.state sound (as_before (is_unstaged work) a.state);
      shows = λ region v part now. now;
    };
    views = λ q unstaged. refl;
    ready = ready;
    sound = sound;
    sound_now = sound;
    apart = apart;
    beside = beside;
    inside = inside;
    new = new;
  }

  -- while something is staged
  module _ {held : Option View} (done more : List Edit) (a b : Told) (h : HasEdited held work root m done more a b) (x : Part) where
    staging_is : (s : State) → IsStagingFolder m.files (child (stage_path work) x) b.state s → IsEditing work root m a.state s
    staging_is s k = record {
      publishes = subst (λ edits. PublishesIn (is_unstaged work) edits a.state s) (sym h.is)
          (publishes_joined (is_unstaged work) done more a.state b.state s h.published
          (publishes_nothing (is_unstaged work) more b.state s h.sound_now (as_before_within (is_unstaged work) (apart_from (child (stage_path work) x)) b.state s (unstaged_apart work x) k.others)));
      others = as_before_then (is_apart work root) (apart_from (child (stage_path work) x)) a.state b.state s
          (λ q is. unstaged_apart work x q (apart_unstaged work root q is)) (so_far done more a b h).others k.others;
      fronts = fronts_then m.files a.state b.state s (so_far done more a b h).fronts k.fronts k.others.nodes;
      sees = record {
        done = done;
        more = more;
        is = h.is;
        views = λ q unstaged. seen_as_before (apart_from (child (stage_path work) x)) b.state s h.sound_now k.others q (unstaged_apart work x q unstaged) ∙ h.views q unstaged;
      };
    }

    pub staging_edits : (c : Told) → StagingAt m.files (child (stage_path work) x) b c → Edits work root m a c
    staging_edits c went =
        went_on (IsEditing work root m a.state) (λ s e. StagesOrPlaces work m s e.call) a b c h.went
        (went_with (IsStagingFolder m.files (child (stage_path work) x) b.state) (IsEditing work root m a.state) (λ s e. StagesAt (child (stage_path work) x) b.state s e.call)
        (λ s e. StagesOrPlaces work m s e.call) b c staging_is (λ s e k spares. works_in_stage work m x b.state s e.call spares) went)

  edit_among : (done more : List Edit) (e : Edit) → m.edits ≡ done ++ e ∷ more → Contains m.edits e
  edit_among done more e is = subst (λ edits. Contains edits e) (sym is) (Contains-append_right done (e ∷ more) e (first_of e more))

  -- what was staged is put in its place
  module _ {held : Option View} (done more : List Edit) (e : Edit) (a b c d : Told) (x : Part) (h : HasEdited held work root m done (e ∷ more) a b)
      (staging : StagingAt m.files (child (stage_path work) x) b c) (staged : IsStagedView c.state (present c.state) (child (stage_path work) x) e.made)
      (sound : IsSound c.state) (free : ShowsFree (seen b.state) e.at) where
    in_root : IsTrue (at_or_below root e.at)
    in_root = h.inside e (edit_among done more e h.is)

    since : IsStagingFolder m.files (child (stage_path work) x) b.state c.state
    since = went_to (IsStagingFolder m.files (child (stage_path work) x) b.state) (λ s k. StagesAt (child (stage_path work) x) b.state s k.call) b c staging

    here : IsEditing work root m a.state c.state
    here = staging_is done (e ∷ more) a b h x c.state since

    place_unstaged : IsTrue (is_unstaged work e.at)
    place_unstaged = root_unstaged work root e.at h.apart h.beside in_root

    free_now : IsFree (present c.state) e.at
    free_now =
        let was : IsFree (present b.state) e.at = free_seen b.state e.at free in (
          since.others.seen e.at (unstaged_apart work x e.at place_unstaged) ∙ was.0,
          since.others.seen (parent e.at) (apart-from_below (child (stage_path work) x) (parent e.at) (below-parent (child (stage_path work) x) e.at (unstaged_below work x e.at place_unstaged))) ∙ was.1,
        )

    renamed_one : HasPublishedIn (is_unstaged work) (e ∷ []) b.state (changed c.state (Rename (child (stage_path work) x) e.at))
    renamed_one = published (is_unstaged work) (child (stage_path work) x) e b.state c.state h.sound_now
        (as_before_within (is_unstaged work) (apart_from (child (stage_path work) x)) b.state c.state (unstaged_apart work x) since.others) (unstaged_below work x) staged

    off_place : (q : Path) → below root q ≡ None → below e.at q ≡ None
    off_place q apart = elim (begins_or_not e.at q) [
      | inr none ↦ none
      | inl k ↦
          let place : (rest : Path) × (e.at ≡ root ++ rest) = at_root root e.at in_root in
          absurd (not_below root (place.0 ++ k.0) (ap (below root) (sym (k.1 ∙ ap (λ p. p ++ k.0) place.1 ∙ append_assoc root place.0 k.0)) ∙ apart))
    ]

    -- what is seen then
    seen_then : Allowed c.state (Rename (child (stage_path work) x) e.at) → seen (changed c.state (Rename (child (stage_path work) x) e.at)) ≡ moved_view (seen c.state) (child (stage_path work) x) e.at
    seen_then allowed = seen_changed c.state (Rename (child (stage_path work) x) e.at) sound allowed

    moved_off : (q : Path) → below e.at q ≡ None → below (child (stage_path work) x) q ≡ None → moved_view (seen c.state) (child (stage_path work) x) e.at q ≡ seen c.state q
    moved_off q off none = ap (λ o. moved_found (seen c.state) (child (stage_path work) x) q o (below (child (stage_path work) x) q)) off ∙ ap (moved_found (seen c.state) (child (stage_path work) x) q None) none

    moved_edit : (q : Path) → IsTrue (is_unstaged work q) → moved_view (seen c.state) (child (stage_path work) x) e.at q ≡ edited (seen c.state) e q
    moved_edit q unstaged = elim (begins_or_not e.at q) [
      | inl k ↦
          ap (λ p. moved_view (seen c.state) (child (stage_path work) x) e.at p) k.1
          ∙ ap (λ o. moved_found (seen c.state) (child (stage_path work) x) (e.at ++ k.0) o (below (child (stage_path work) x) (e.at ++ k.0))) (below-append e.at k.0)
          ∙ staged.shown k.0 ∙ sym (at_edit (seen c.state) e q k.0 k.1)
      | inr none ↦ moved_off q none (unstaged_below work x q unstaged) ∙ sym (off_edit (seen c.state) e q none)
    ]

    still : (q : Path) → IsTrue (apart_from (child (stage_path work) x) q) → seen c.state q ≡ seen b.state q
    still = seen_as_before (apart_from (child (stage_path work) x)) b.state c.state h.sound_now since.others

    views_then : Allowed c.state (Rename (child (stage_path work) x) e.at) → (q : Path) → IsTrue (is_unstaged work q)
        → seen (changed c.state (Rename (child (stage_path work) x) e.at)) q ≡ view_after (seen a.state) (done ++ e ∷ []) q
    views_then allowed q unstaged =
        ap (λ v. v q) (seen_then allowed) ∙ moved_edit q unstaged
        ∙ edited_alike (seen c.state) (view_after (seen a.state) done) e q (still q (unstaged_apart work x q unstaged) ∙ h.views q unstaged)
        ∙ ap (λ v. v q) (sym (view_after-last (seen a.state) done e))

    kept_then : Allowed c.state (Rename (child (stage_path work) x) e.at) → (q : Path) → IsTrue (is_unstaged work q) → below e.at q ≡ None → seen (changed c.state (Rename (child (stage_path work) x) e.at)) q ≡ seen b.state q
    kept_then allowed q unstaged off = ap (λ v. v q) (seen_then allowed) ∙ moved_off q off (unstaged_below work x q unstaged) ∙ still q (unstaged_apart work x q unstaged)

    bare_then : Allowed c.state (Rename (child (stage_path work) x) e.at) → (y : Part) (rest : Path) → (below (child (stage_path work) x) (stage_path work ++ y ∷ rest) ≡ None → seen b.state (stage_path work ++ y ∷ rest) ≡ NoEntry)
        → seen (changed c.state (Rename (child (stage_path work) x) e.at)) (stage_path work ++ y ∷ rest) ≡ NoEntry
    bare_then allowed y rest was = ap (λ v. v (stage_path work ++ y ∷ rest)) (seen_then allowed)
        ∙ ap (λ o. moved_found (seen c.state) (child (stage_path work) x) (stage_path work ++ y ∷ rest) o (below (child (stage_path work) x) (stage_path work ++ y ∷ rest)))
        (staged_beside work root e.at (y ∷ rest) h.apart h.beside in_root)
        ∙ elim (begins_or_not (child (stage_path work) x) (stage_path work ++ y ∷ rest)) [
          | inl k ↦ ap (moved_found (seen c.state) (child (stage_path work) x) (stage_path work ++ y ∷ rest) None) (ap (below (child (stage_path work) x)) k.1 ∙ below-append (child (stage_path work) x) k.0)
          | inr none ↦ ap (moved_found (seen c.state) (child (stage_path work) x) (stage_path work ++ y ∷ rest) None) none
              ∙ still (stage_path work ++ y ∷ rest) (apart-from_below (child (stage_path work) x) (stage_path work ++ y ∷ rest) none) ∙ was none
        ]

    folder_then : Allowed c.state (Rename (child (stage_path work) x) e.at) → seen (changed c.state (Rename (child (stage_path work) x) e.at)) work ≡ seen b.state work
    folder_then allowed = kept_then allowed work (work_unstaged work) (off_root root e.at work h.beside in_root)

    stage_then : Allowed c.state (Rename (child (stage_path work) x) e.at) → seen (changed c.state (Rename (child (stage_path work) x) e.at)) (stage_path work) ≡ seen b.state (stage_path work)
    stage_then allowed = kept_then allowed (stage_path work) (stage_unstaged work) (stage_beside work root e.at h.apart h.beside in_root)

    -- where nothing but this was in the stage, nothing is
    pub ready_then : IsReadyBut (child (stage_path work) x) (seen b.state) work → Allowed c.state (Rename (child (stage_path work) x) e.at)
        → IsReady (seen (changed c.state (Rename (child (stage_path work) x) e.at))) work
    ready_then but allowed = record {
      folder = folder_then allowed ∙ but.folder;
      stage = stage_then allowed ∙ but.stage;
      bare = bare_of (seen (changed c.state (Rename (child (stage_path work) x) e.at))) work (λ y rest. bare_then allowed y rest (but.bare y rest));
    }

    -- an entry stays there
    entry_spared : below (child (stage_path work) x) (entry_stage work) ≡ None → below (entry_stage work) (child (stage_path work) x) ≡ None
        → IsAsBefore (at_or_below (entry_stage work)) b.state (changed c.state (Rename (child (stage_path work) x) e.at))
    entry_spared apart beside =
        as_before_on (at_or_below (entry_stage work)) b.state c.state (Rename (child (stage_path work) x) e.at) (λ q is. (off_entry q is, off_stage q is)) tt
        (as_before_within (at_or_below (entry_stage work)) (apart_from (child (stage_path work) x)) b.state c.state (λ q is. apart-from_below (child (stage_path work) x) q (off_stage q is)) since.others)
      where
        off_stage : (q : Path) → IsTrue (at_or_below (entry_stage work) q) → below (child (stage_path work) x) q ≡ None
        off_stage q is =
            let place : (rest : Path) × (q ≡ entry_stage work ++ rest) = at_root (entry_stage work) q is in
            ap (below (child (stage_path work) x)) place.1 ∙ below-apart (child (stage_path work) x) (entry_stage work) place.0 apart beside

        off_entry : (q : Path) → IsTrue (at_or_below (entry_stage work) q) → below e.at q ≡ None
        off_entry q is =
            let place : (rest : Path) × (q ≡ entry_stage work ++ rest) = at_root (entry_stage work) q is in
            ap (below e.at) (place.1 ∙ append_assoc (stage_path work) (codes "f" ∷ []) place.0) ∙ staged_beside work root e.at (codes "f" ∷ place.0) h.apart h.beside in_root

    pub holds_then : (now : Option View) → Beside work now x → Holds now b.state work → Allowed c.state (Rename (child (stage_path work) x) e.at)
        → Holds now (changed c.state (Rename (child (stage_path work) x) e.at)) work
    holds_then None beside ready allowed = ready_then (ready_but (child (stage_path work) x) (seen b.state) work ready) allowed
    holds_then (Some made) beside holds allowed = record {
      entry = staged_stays (entry_stage work) made b.state (changed c.state (Rename (child (stage_path work) x) e.at)) h.sound_now (entry_spared beside.0 beside.1) holds.entry;
      others = record {
        folder = folder_then allowed ∙ holds.others.folder;
        stage = stage_then allowed ∙ holds.others.stage;
        bare = λ y rest none. bare_then allowed y rest (λ off. holds.others.bare y rest none);
      };
    }

    renamed_is : Allowed c.state (Rename (child (stage_path work) x) e.at) → IsEditing work root m a.state (changed c.state (Rename (child (stage_path work) x) e.at))
    renamed_is allowed = record {
      publishes = subst (λ edits. PublishesIn (is_unstaged work) edits a.state (changed c.state (Rename (child (stage_path work) x) e.at))) (sym h.is)
          (publishes_joined (is_unstaged work) done (e ∷ more) a.state b.state (changed c.state (Rename (child (stage_path work) x) e.at)) h.published
          (publishes_more (is_unstaged work) (e ∷ []) more b.state (changed c.state (Rename (child (stage_path work) x) e.at)) renamed_one.publishes));
      others = as_before_on (is_apart work root) a.state c.state (Rename (child (stage_path work) x) e.at)
          (λ q is. (off_place q (apart_root work root q is), unstaged_below work x q (apart_unstaged work root q is))) tt here.others;
      fronts = here.fronts;
      sees = record { done = done ++ e ∷ []; more = more; is = h.is ∙ sym (append_assoc done (e ∷ []) more); views = views_then allowed };
    }

    renaming : (outcome : Outcome) → StagesOrPlaces work m c.state (Rename (child (stage_path work) x) e.at)
    renaming outcome = (
      in_stage work x [] (child (stage_path work) x) (sym (append-nil (child (stage_path work) x))),
      (e, edit_among done more e h.is, refl),
      subst (λ replaces. HasPlace replaces c.state (child (stage_path work) x) e.at) (sym h.new) free_now,
    )

    pub renamed_edits : (result : Result (Unit {0}) FolderFault) → Steps (Rename (child (stage_path work) x) e.at) c d result → Edits work root m a d
    renamed_edits result steps =
        went_on (IsEditing work root m a.state) (λ s k. StagesOrPlaces work m s k.call) a c d (staging_edits done (e ∷ more) a b h x c staging)
        (went_by_call (IsEditing work root m a.state) (λ s k. StagesOrPlaces work m s k.call) (Rename (child (stage_path work) x) e.at) c d result here
        renamed_is (λ added allowed. here) renaming steps)

    renamed_then : (now : Option View) → Holds now (changed c.state (Rename (child (stage_path work) x) e.at)) work → Allowed c.state (Rename (child (stage_path work) x) e.at) → (d : Told)
        → d ≡ told_after c (Rename (child (stage_path work) x) e.at) Done → Edits work root m a d → HasEdited now work root m (done ++ e ∷ []) more a d
    renamed_then now holds allowed d is went = record {
      is = h.is ∙ sym (append_assoc done (e ∷ []) more);
      went = went;
      published = subst (λ (t : Told). HasPublishedIn (is_unstaged work) (done ++ e ∷ []) a.state t.state) (sym is)
          (published_joined (is_unstaged work) done (e ∷ []) a.state b.state (changed c.state (Rename (child (stage_path work) x) e.at)) h.published renamed_one);
      views = λ q unstaged. ap (λ (t : Told). seen t.state q) is ∙ views_then allowed q unstaged;
      ready = subst (λ (t : Told). Holds now t.state work) (sym is) holds;
      sound = h.sound;
      sound_now = subst (λ (t : Told). IsSound t.state) (sym is) (changed_sound c.state (Rename (child (stage_path work) x) e.at) sound allowed);
      apart = h.apart;
      beside = h.beside;
      inside = h.inside;
      new = h.new;
    }

    pub renamed_so : (now : Option View) → (Allowed c.state (Rename (child (stage_path work) x) e.at) → Holds now (changed c.state (Rename (child (stage_path work) x) e.at)) work)
        → Steps (Rename (child (stage_path work) x) e.at) c d (Ok tt) → HasEdited now work root m (done ++ e ∷ []) more a d
    renamed_so now holds steps = renamed_then now (holds steps.0) steps.0 d steps.1 (renamed_edits (Ok tt) steps)

    pub renamed_done : Beside work held x → Steps (Rename (child (stage_path work) x) e.at) c d (Ok tt) → HasEdited held work root m (done ++ e ∷ []) more a d
    renamed_done beside steps = renamed_so held (holds_then held beside h.ready) steps

  -- an entry comes to the stage
  pub entry_held : (done more : List Edit) (made : View) (a b c : Told) → HasEdited None work root m done more a b → StagingAt m.files (entry_stage work) b c
      → IsStagedView c.state (present c.state) (entry_stage work) made → IsSound c.state → HasEdited (Some made) work root m done more a c
  entry_held done more made a b c h staging staged sound = record {
    is = h.is;
    went = staging_edits done more a b h (codes "f") c staging;
    published = record {
      publishes = subst (λ edits. PublishesIn (is_unstaged work) edits a.state c.state) (append-nil done)
          (publishes_joined (is_unstaged work) done [] a.state b.state c.state h.published
          (publishes_nothing (is_unstaged work) [] b.state c.state h.sound_now (as_before_within (is_unstaged work) (apart_from (entry_stage work)) b.state c.state (unstaged_apart work (codes "f")) since.others)));
      shows = λ region v part now.
          shows_as_before region b.state c.state (present c.state) (present b.state) (view_after v done) (h.sound_now.tables (present b.state) (present_is_table b.state))
          (λ q inside. since.others.seen q (unstaged_apart work (codes "f") q (part q inside))) since.others.nodes (h.published.shows region v part now);
    };
    views = λ q unstaged. still q (unstaged_below work (codes "f") q unstaged) ∙ h.views q unstaged;
    ready = record {
      entry = staged;
      others = record {
        folder = still work (unstaged_below work (codes "f") work (work_unstaged work)) ∙ h.ready.folder;
        stage = still (stage_path work) (unstaged_below work (codes "f") (stage_path work) (stage_unstaged work)) ∙ h.ready.stage;
        bare = λ y rest none. still (stage_path work ++ y ∷ rest) none ∙ h.ready.bare (y ∷ rest) (some_part y rest);
      };
    };
    sound = h.sound;
    sound_now = sound;
    apart = h.apart;
    beside = h.beside;
    inside = h.inside;
    new = h.new;
  }
    where
      since : IsStagingFolder m.files (entry_stage work) b.state c.state
      since = went_to (IsStagingFolder m.files (entry_stage work) b.state) (λ s k. StagesAt (entry_stage work) b.state s k.call) b c staging

      still : (q : Path) → below (entry_stage work) q ≡ None → seen c.state q ≡ seen b.state q
      still q none = seen_as_before (apart_from (entry_stage work)) b.state c.state h.sound_now since.others q (apart-from_below (entry_stage work) q none)

  -- and is put in its place
  module _ (done more : List Edit) (e : Edit) (a b d : Told) (h : HasEdited (Some e.made) work root m done (e ∷ more) a b) (free : ShowsFree (seen b.state) e.at) where
    staged_yet : StagingAt m.files (entry_stage work) b b
    staged_yet = went_nowhere (IsStagingFolder m.files (entry_stage work) b.state) (λ s k. StagesAt (entry_stage work) b.state s k.call) b
        (record { others = as_before (apart_from (entry_stage work)) b.state; fronts = fronts_of_none m.files b.state })

    pub entry_edits : (result : Result (Unit {0}) FolderFault) → Steps (Rename (entry_stage work) e.at) b d result → Edits work root m a d
    entry_edits result steps = renamed_edits done more e a b b d (codes "f") h staged_yet h.ready.entry h.sound_now free result steps

    pub entry_done : Steps (Rename (entry_stage work) e.at) b d (Ok tt) → HasEdited None work root m (done ++ e ∷ []) more a d
    entry_done steps = renamed_so done more e a b b d (codes "f") h staged_yet h.ready.entry h.sound_now free None
        (ready_then done more e a b b d (codes "f") h staged_yet h.ready.entry h.sound_now free h.ready.others) steps

  -- a directory is made at its place
  module _ (done more : List Edit) (at : Path) (a b c : Told) (h : HasEdited None work root m done (directory_edit at ∷ more) a b) (free : ShowsFree (seen b.state) at) where
    dir_in_root : IsTrue (at_or_below root at)
    dir_in_root = h.inside (directory_edit at) (edit_among done more (directory_edit at) h.is)

    made_one : HasPublishedIn (is_unstaged work) (directory_edit at ∷ []) b.state (changed b.state (MakeDir at))
    made_one = directory_published (is_unstaged work) at b.state b.state h.sound_now h.sound_now (as_before (is_unstaged work) b.state) (free_seen b.state at free)

    not_there : (q : Path) → below root q ≡ None → at ≢ q
    not_there q apart same =
        let place : (rest : Path) × (at ≡ root ++ rest) = at_root root at dir_in_root in
        not_below root place.0 (ap (below root) (sym place.1 ∙ same) ∙ apart)

    put_off : (q : Path) → at ≢ q → put_found (seen b.state) at Folder q ≡ seen b.state q
    put_off q apart = elim (one_or_not at q) [ inl same ↦ absurd (apart same) | inr other ↦ ap (λ t. cond t Folder (seen b.state q)) other.1 ]

    not_itself : (q : Path) → below at q ≡ None → at ≢ q
    not_itself q none same = not_below at [] (ap (below at) (append-nil at ∙ same) ∙ none)

    bare_place : (y : Part) (rest : Path) → seen b.state (at ++ y ∷ rest) ≡ NoEntry
    bare_place y rest = ap (found (λ n. (b.state.nodes n).now)) (nothing_below_file b.state.made (present b.state) (h.sound_now.tables (present b.state) (present_is_table b.state)) at y rest
        (λ dir. let clash : Nothing ≡ Directory = sym (free_seen b.state at free).0 ∙ dir in cc))

    put_edit : (q : Path) → put_found (seen b.state) at Folder q ≡ edited (seen b.state) (directory_edit at) q
    put_edit q = elim (begins_or_not at q) [
      | inl k ↦ there k.0 k.1
      | inr none ↦ put_off q (not_itself q none) ∙ sym (off_edit (seen b.state) (directory_edit at) q none)
    ]
      where
        longer : (y : Part) (rest : Path) → at ≡ at ++ y ∷ rest → ⊥
        longer y rest is =
            let sizes : length at ≡ length at + length (y ∷ rest) = ap length is ∙ length-append at (y ∷ rest) in
            let more : 1 ≤ length (y ∷ rest) = some_part y rest in
            omega (arith, sizes, more)

        there : (rest : Path) → q ≡ at ++ rest → put_found (seen b.state) at Folder q ≡ edited (seen b.state) (directory_edit at) q
        there [] is =
            let same : at ≡ q = sym (is ∙ append-nil at) in
            ap (put_found (seen b.state) at Folder) (sym same) ∙ ap (λ t. cond t Folder (seen b.state at)) (path_eq-same at) ∙ sym (at_edit (seen b.state) (directory_edit at) q [] is)
        there (y ∷ rest) is =
            put_off q (λ same. longer y rest (same ∙ is)) ∙ ap (seen b.state) is ∙ bare_place y rest ∙ sym (at_edit (seen b.state) (directory_edit at) q (y ∷ rest) is)

    made_seen : Allowed b.state (MakeDir at) → (q : Path) → seen (changed b.state (MakeDir at)) q ≡ edited (seen b.state) (directory_edit at) q
    made_seen allowed q = ap (λ v. v q) (seen_changed b.state (MakeDir at) h.sound_now allowed) ∙ put_edit q

    made_views : Allowed b.state (MakeDir at) → (q : Path) → IsTrue (is_unstaged work q) → seen (changed b.state (MakeDir at)) q ≡ view_after (seen a.state) (done ++ directory_edit at ∷ []) q
    made_views allowed q unstaged = made_seen allowed q ∙ edited_alike (seen b.state) (view_after (seen a.state) done) (directory_edit at) q (h.views q unstaged)
        ∙ ap (λ v. v q) (sym (view_after-last (seen a.state) done (directory_edit at)))

    made_is : Allowed b.state (MakeDir at) → IsEditing work root m a.state (changed b.state (MakeDir at))
    made_is allowed = record {
      publishes = subst (λ edits. PublishesIn (is_unstaged work) edits a.state (changed b.state (MakeDir at))) (sym h.is)
          (publishes_joined (is_unstaged work) done (directory_edit at ∷ more) a.state b.state (changed b.state (MakeDir at)) h.published
          (publishes_more (is_unstaged work) (directory_edit at ∷ []) more b.state (changed b.state (MakeDir at)) made_one.publishes));
      others = as_before_on (is_apart work root) a.state b.state (MakeDir at) (λ q is. not_there q (apart_root work root q is)) tt (so_far done (directory_edit at ∷ more) a b h).others;
      fronts = (so_far done (directory_edit at ∷ more) a b h).fronts;
      sees = record { done = done ++ directory_edit at ∷ []; more = more; is = h.is ∙ sym (append_assoc done (directory_edit at ∷ []) more); views = made_views allowed };
    }

    pub made_edits : (result : Result (Unit {0}) FolderFault) → Steps (MakeDir at) b c result → Edits work root m a c
    made_edits result steps =
        went_on (IsEditing work root m a.state) (λ s k. StagesOrPlaces work m s k.call) a b c h.went
        (went_by_call (IsEditing work root m a.state) (λ s k. StagesOrPlaces work m s k.call) (MakeDir at) b c result (so_far done (directory_edit at ∷ more) a b h)
        made_is (λ added allowed. so_far done (directory_edit at ∷ more) a b h)
        (λ outcome. inr (directory_edit at, edit_among done more (directory_edit at) h.is, refl)) steps)

    made_then : Allowed b.state (MakeDir at) → (c : Told) → c ≡ told_after b (MakeDir at) Done → Edits work root m a c → HasEdited None work root m (done ++ directory_edit at ∷ []) more a c
    made_then allowed c is went = record {
      is = h.is ∙ sym (append_assoc done (directory_edit at ∷ []) more);
      went = went;
      published = subst (λ (t : Told). HasPublishedIn (is_unstaged work) (done ++ directory_edit at ∷ []) a.state t.state) (sym is)
          (published_joined (is_unstaged work) done (directory_edit at ∷ []) a.state b.state (changed b.state (MakeDir at)) h.published made_one);
      views = λ q unstaged. ap (λ (t : Told). seen t.state q) is ∙ made_views allowed q unstaged;
      ready = subst (λ (t : Told). IsReady (seen t.state) work) (sym is) (record {
        folder = kept work (off_root root at work h.beside dir_in_root) ∙ h.ready.folder;
        stage = kept (stage_path work) (stage_beside work root at h.apart h.beside dir_in_root) ∙ h.ready.stage;
        bare = bare_of (seen (changed b.state (MakeDir at))) work (λ y rest. kept (stage_path work ++ y ∷ rest) (staged_beside work root at (y ∷ rest) h.apart h.beside dir_in_root)
            ∙ h.ready.bare (y ∷ rest) (some_part y rest));
      });
      sound = h.sound;
      sound_now = subst (λ (t : Told). IsSound t.state) (sym is) (changed_sound b.state (MakeDir at) h.sound_now allowed);
      apart = h.apart;
      beside = h.beside;
      inside = h.inside;
      new = h.new;
    }
      where
        kept : (q : Path) → below at q ≡ None → seen (changed b.state (MakeDir at)) q ≡ seen b.state q
        kept q off = made_seen allowed q ∙ off_edit (seen b.state) (directory_edit at) q off

    pub made_done : Steps (MakeDir at) b c (Ok tt) → HasEdited None work root m (done ++ directory_edit at ∷ []) more a c
    made_done steps = made_then steps.0 c steps.1 (made_edits (Ok tt) steps)

  -- all are done, and the directory changes are settled
  module _ (a b c : Told) (done : List Edit) (h : HasEdited None work root m done [] a b) where
    settled_is : Allowed b.state Settle → IsEditing work root m a.state (changed b.state Settle)
    settled_is allowed = record {
      publishes = settle_publishes (is_unstaged work) m.edits a.state b.state (so_far done [] a b h).publishes;
      others = as_before_on (is_apart work root) a.state b.state Settle tt tt (so_far done [] a b h).others;
      fronts = (so_far done [] a b h).fronts;
      sees = record { done = done; more = []; is = h.is; views = λ q unstaged. ap (λ v. v q) (seen_changed b.state Settle h.sound_now allowed) ∙ h.views q unstaged };
    }

    pub settled_edits : (result : Result (Unit {0}) FolderFault) → Steps Settle b c result → Edits work root m a c
    settled_edits result steps =
        went_on (IsEditing work root m a.state) (λ s k. StagesOrPlaces work m s k.call) a b c h.went
        (went_by_call (IsEditing work root m a.state) (λ s k. StagesOrPlaces work m s k.call) Settle b c result (so_far done [] a b h)
        settled_is (λ added allowed. so_far done [] a b h) (λ outcome. tt) steps)

    all_done : m.edits ≡ done
    all_done = h.is ∙ append-nil done

    settled_then : Allowed b.state Settle → (c : Told) → c ≡ told_after b Settle Done → HasFinished work root m a c
    settled_then allowed c is = record {
      settled = subst (λ (t : Told). HasSettledIn (is_unstaged work) m.edits a.state t.state) (sym is)
          (settled (is_unstaged work) m.edits a.state b.state (subst (λ edits. HasPublishedIn (is_unstaged work) edits a.state b.state) (sym all_done) h.published));
      views = λ q unstaged. ap (λ (t : Told). seen t.state q) is ∙ ap (λ v. v q) same ∙ h.views q unstaged ∙ ap (λ edits. view_after (seen a.state) edits q) (sym all_done);
      ready = subst (λ (t : Told). IsReady (seen t.state) work) (sym is) (subst (λ v. IsReady v work) (sym same) h.ready);
    }
      where
        same : seen (changed b.state Settle) ≡ seen b.state
        same = seen_changed b.state Settle h.sound_now allowed

    pub settled_done : Steps Settle b c (Ok tt) → HasFinished work root m a c
    settled_done steps = settled_then steps.0 c steps.1
