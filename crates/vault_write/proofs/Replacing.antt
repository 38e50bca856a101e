-- A content file is replaced: another is staged, renamed onto it, and the folder is settled.
use Rattle.std.specs.Result.{IsErr}
use Rattle.std.proofs.Common.{arith, zero, ◌≡◌, ℕ, true, false, List, [], ◌∷◌, ◌++◌, Option, Some, None, Result, Ok, Err, IsErrAnd, refl, sym, ap, ◌∙◌, inl, inr, subst, append-nil, IsTrue, codes}
use Rattle.chunk_files.specs.Keys.{Keys}
use Rattle.port_model.specs.Draws.{ByteStream}
use Rattle.folder_spec.specs.declared.FolderFault.{FolderFault}
use Rattle.folder_spec.specs.Path.{Part, Path, below, child}
use Rattle.folder_spec.specs.State.{State, IsSound}
use Rattle.folder_spec.specs.Edit.{edited, file_edit, file_view, HasPublishedIn, HasSettledIn}
use Rattle.folder_spec.specs.Event.{Settle, Rename, Allowed, Outcome, changed, Told, Steps, Changes, FromTo}
use Rattle.folder_spec.specs.Region.{StagesAt, apart_from}
use Rattle.folder_spec.specs.Seen.{IfSeen, ShowsFile, ShowsFree, moved_found, moved_view, seen}
use Rattle.folder_spec.specs.View.{NoEntry, FileOf}
use Rattle.folder_spec.proofs.Edits.{at_edit, off_edit, published, publishes_nothing, settle_publishes, settled}
use Rattle.folder_spec.proofs.Moments.{went_on, went_by_call, went_to}
use Rattle.folder_spec.proofs.Paths.{begins_or_not, below-append, child-not_base}
use Rattle.folder_spec.proofs.Regions.{as_before_on, as_before_within, seen_as_before}
use Rattle.folder_spec.proofs.Replaces.{apart-from_below}
use Rattle.folder_spec.proofs.Seen.{has_file_seen, may_call_allowed, seen_changed}
use Rattle.folder_spec.proofs.Sound.{changed_sound}
use Rattle.folder_spec.proofs.Tellings.{from_to_more, from_to_on}
use Rattle.folder_staging.specs.Folders.{HasStaged, IsStagingFolder}
use Rattle.work_folder.specs.Entering.{IsReady}
use Rattle.work_folder.specs.Entries.{stage_path}
use Rattle.content_writing.specs.Content.{Coming}
use Rattle.item_making.specs.Faults.{of_folder}
use Rattle.item_making.specs.declared.fault.PutFault.{PutFault}
use Rattle.vault_write.specs.Editing.{IsEditing, Edits, HasFinished, entry_stage}
use Rattle.vault_write.specs.Filing.{DoesReplace, MayReplace, ReplacesContent, ReplacesEntry, StagesEntry, StopsBy, file_of, replace_making}
use Rattle.item_making.specs.Making.{StagesOrPlaces, is_apart, is_unstaged}
use Rattle.vault_write.proofs.Adding.{IsStagedWhole, free_in_stage}
use Rattle.vault_write.proofs.Edited.{StagingAt, some_part, bare_of}
use Rattle.vault_write.proofs.Directories.{whole_staged}
use Rattle.vault_write.proofs.Exits.{at_fault}
use Rattle.vault_write.proofs.Filing.{only_stages, staged_nothing, stops_folder, takes_none, takes_then, untaken}
use Rattle.vault_write.proofs.Runs.{went_with, works_in_stage}
use Rattle.vault_write.proofs.Seeing.{if_seen}
use Rattle.vault_write.proofs.Stages.{in_stage, unstaged_below, unstaged_apart, apart_unstaged, apart_root, root_unstaged, off_root, stage_beside, staged_beside, work_unstaged, stage_unstaged}

module _ (work root at : Path) (bytes : List ℕ) (x : Part) (a : Told) (may : MayReplace work root at a) where
  abbrev staged : Path
  staged = child (stage_path work) x

  staging_is : (s : State) → IsStagingFolder (bytes ∷ []) staged a.state s → IsEditing work root (replace_making at bytes) a.state s
  staging_is s k = record {
    publishes = publishes_nothing (is_unstaged work) (file_edit at bytes ∷ []) a.state s may.sound (as_before_within (is_unstaged work) (apart_from staged) a.state s (unstaged_apart work x) k.others);
    others = as_before_within (is_apart work root) (apart_from staged) a.state s (λ q is. unstaged_apart work x q (apart_unstaged work root q is)) k.others;
    fronts = k.fronts;
    sees = record {
      done = [];
      more = file_edit at bytes ∷ [];
      is = refl;
      views = λ q unstaged. seen_as_before (apart_from staged) a.state s may.sound k.others q (unstaged_apart work x q unstaged);
    };
  }

  pub replace_staging : (c : Told) → StagingAt (bytes ∷ []) staged a c → Edits work root (replace_making at bytes) a c
  replace_staging c went = went_with (IsStagingFolder (bytes ∷ []) staged a.state) (IsEditing work root (replace_making at bytes) a.state) (λ s e. StagesAt staged a.state s e.call)
      (λ s e. StagesOrPlaces work (replace_making at bytes) s e.call) a c staging_is (λ s e k spares. works_in_stage work (replace_making at bytes) x a.state s e.call spares) went

  module _ (c : Told) (whole : IsStagedWhole (bytes ∷ []) staged (file_view bytes) a c) where
    since : IsStagingFolder (bytes ∷ []) staged a.state c.state
    since = went_to (IsStagingFolder (bytes ∷ []) staged a.state) (λ s k. StagesAt staged a.state s k.call) a c whole.0

    place_unstaged : IsTrue (is_unstaged work at)
    place_unstaged = root_unstaged work root at may.apart may.beside may.inside

    still : (q : Path) → IsTrue (apart_from staged q) → seen c.state q ≡ seen a.state q
    still = seen_as_before (apart_from staged) a.state c.state may.sound since.others

    new_file : ShowsFile (seen c.state) staged
    new_file = (bytes, ap (seen c.state) (sym (append-nil staged)) ∙ whole.1.shown [])

    old_file : ShowsFile (seen c.state) at
    old_file = (may.file.0, still at (unstaged_apart work x at place_unstaged) ∙ may.file.1)

    pub replace_allowed : Allowed c.state (Rename staged at)
    replace_allowed = may_call_allowed c.state (Rename staged at) (
      child-not_base (stage_path work) x,
      λ none. (let clash : FileOf new_file.0 ≡ NoEntry = sym new_file.1 ∙ none in cc),
      unstaged_below work x at place_unstaged,
      inr (new_file, old_file),
    )

    abbrev then_ : State
    then_ = changed c.state (Rename staged at)

    published_one : HasPublishedIn (is_unstaged work) (file_edit at bytes ∷ []) a.state then_
    published_one = published (is_unstaged work) staged (file_edit at bytes) a.state c.state may.sound
        (as_before_within (is_unstaged work) (apart_from staged) a.state c.state (unstaged_apart work x) since.others) (unstaged_below work x) whole.1

    seen_then : seen then_ ≡ moved_view (seen c.state) staged at
    seen_then = seen_changed c.state (Rename staged at) whole.2 replace_allowed

    moved_off : (q : Path) → below at q ≡ None → below staged q ≡ None → moved_view (seen c.state) staged at q ≡ seen c.state q
    moved_off q off none = ap (λ o. moved_found (seen c.state) staged q o (below staged q)) off ∙ ap (moved_found (seen c.state) staged q None) none

    views_then : (q : Path) → IsTrue (is_unstaged work q) → seen then_ q ≡ edited (seen a.state) (file_edit at bytes) q
    views_then q unstaged = ap (λ v. v q) seen_then ∙ elim (begins_or_not at q) [
      | inl k ↦
          ap (λ p. moved_view (seen c.state) staged at p) k.1
          ∙ ap (λ o. moved_found (seen c.state) staged (at ++ k.0) o (below staged (at ++ k.0))) (below-append at k.0)
          ∙ whole.1.shown k.0 ∙ sym (at_edit (seen a.state) (file_edit at bytes) q k.0 k.1)
      | inr none ↦ moved_off q none (unstaged_below work x q unstaged) ∙ still q (unstaged_apart work x q unstaged) ∙ sym (off_edit (seen a.state) (file_edit at bytes) q none)
    ]

    kept_then : (q : Path) → IsTrue (is_unstaged work q) → below at q ≡ None → seen then_ q ≡ seen a.state q
    kept_then q unstaged off = views_then q unstaged ∙ off_edit (seen a.state) (file_edit at bytes) q off

    bare_then : (y : Part) (rest : Path) → seen then_ (stage_path work ++ y ∷ rest) ≡ NoEntry
    bare_then y rest = ap (λ v. v (stage_path work ++ y ∷ rest)) seen_then
        ∙ ap (λ o. moved_found (seen c.state) staged (stage_path work ++ y ∷ rest) o (below staged (stage_path work ++ y ∷ rest))) (staged_beside work root at (y ∷ rest) may.apart may.beside may.inside)
        ∙ elim (begins_or_not staged (stage_path work ++ y ∷ rest)) [
          | inl k ↦ ap (moved_found (seen c.state) staged (stage_path work ++ y ∷ rest) None) (ap (below staged) k.1 ∙ below-append staged k.0)
          | inr none ↦ ap (moved_found (seen c.state) staged (stage_path work ++ y ∷ rest) None) none
              ∙ still (stage_path work ++ y ∷ rest) (apart-from_below staged (stage_path work ++ y ∷ rest) none) ∙ may.ready.bare (y ∷ rest) (some_part y rest)
        ]

    replaced_is : IsEditing work root (replace_making at bytes) a.state then_
    replaced_is = record {
      publishes = published_one.publishes;
      others = as_before_on (is_apart work root) a.state c.state (Rename staged at)
          (λ q is. (off_root root at q (apart_root work root q is) may.inside, unstaged_below work x q (apart_unstaged work root q is))) tt (staging_is c.state since).others;
      fronts = since.fronts;
      sees = record { done = file_edit at bytes ∷ []; more = []; is = refl; views = views_then };
    }

    renaming : (outcome : Outcome) → StagesOrPlaces work (replace_making at bytes) c.state (Rename staged at)
    renaming outcome = (
      in_stage work x [] staged (sym (append-nil staged)),
      (file_edit at bytes, (zero, omega arith, refl), refl),
      (has_file_seen c.state staged new_file, has_file_seen c.state at old_file),
    )

    pub replace_renamed : (d : Told) (result : Result (Unit {0}) FolderFault) → Steps (Rename staged at) c d result → Edits work root (replace_making at bytes) a d
    replace_renamed d result steps =
        went_on (IsEditing work root (replace_making at bytes) a.state) (λ s k. StagesOrPlaces work (replace_making at bytes) s k.call) a c d (replace_staging c whole.0)
        (went_by_call (IsEditing work root (replace_making at bytes) a.state) (λ s k. StagesOrPlaces work (replace_making at bytes) s k.call) (Rename staged at) c d result (staging_is c.state since)
        (λ allowed. replaced_is) (λ added allowed. staging_is c.state since) renaming steps)

    ready_then : IsReady (seen then_) work
    ready_then = record {
      folder = kept_then work (work_unstaged work) (off_root root at work may.beside may.inside) ∙ may.ready.folder;
      stage = kept_then (stage_path work) (stage_unstaged work) (stage_beside work root at may.apart may.beside may.inside) ∙ may.ready.stage;
      bare = bare_of (seen then_) work bare_then;
    }

    -- and settled
    module _ (d : Told) (renamed : Steps (Rename staged at) c d (Ok tt)) where
      here : d.state ≡ then_
      here = ap (λ (t : Told). t.state) renamed.1

      sound_then : IsSound d.state
      sound_then = subst IsSound (sym here) (changed_sound c.state (Rename staged at) whole.2 replace_allowed)

      is_there : IsEditing work root (replace_making at bytes) a.state d.state
      is_there = subst (IsEditing work root (replace_making at bytes) a.state) (sym here) replaced_is

      same : seen (changed d.state Settle) ≡ seen d.state
      same = seen_changed d.state Settle sound_then tt

      settled_is : IsEditing work root (replace_making at bytes) a.state (changed d.state Settle)
      settled_is = record {
        publishes = settle_publishes (is_unstaged work) (file_edit at bytes ∷ []) a.state d.state is_there.publishes;
        others = as_before_on (is_apart work root) a.state d.state Settle tt tt is_there.others;
        fronts = is_there.fronts;
        sees = record { done = is_there.sees.done; more = is_there.sees.more; is = is_there.sees.is; views = λ q unstaged. ap (λ v. v q) same ∙ is_there.sees.views q unstaged };
      }

      pub replace_settled : (f : Told) (result : Result (Unit {0}) FolderFault) → Steps Settle d f result → Edits work root (replace_making at bytes) a f
      replace_settled f result steps =
          went_on (IsEditing work root (replace_making at bytes) a.state) (λ s k. StagesOrPlaces work (replace_making at bytes) s k.call) a d f (replace_renamed d (Ok tt) renamed)
          (went_by_call (IsEditing work root (replace_making at bytes) a.state) (λ s k. StagesOrPlaces work (replace_making at bytes) s k.call) Settle d f result is_there
          (λ allowed. settled_is) (λ added allowed. is_there) (λ outcome. tt) steps)

      pub replace_finished : (f : Told) → Steps Settle d f (Ok tt) → HasFinished work root (replace_making at bytes) a f
      replace_finished f steps = record {
        settled = subst (λ (t : Told). HasSettledIn (is_unstaged work) (file_edit at bytes ∷ []) a.state t.state) (sym steps.1)
            (settled (is_unstaged work) (file_edit at bytes ∷ []) a.state d.state (subst (HasPublishedIn (is_unstaged work) (file_edit at bytes ∷ []) a.state) (sym here) published_one));
        views = λ q unstaged. ap (λ (t : Told). seen t.state q) steps.1 ∙ ap (λ v. v q) (same ∙ ap seen here) ∙ views_then q unstaged;
        ready = subst (λ (t : Told). IsReady (seen t.state) work) (sym steps.1) (subst (λ v. IsReady v work) (sym (same ∙ ap seen here)) ready_then);
      }

-- ---- whether or not the folder tells its state

module _ (work root at : Path) (bytes : List ℕ) (x : Part) (staged_at : Path) (t u : Option Told) (is : staged_at ≡ child (stage_path work) x) (sound : (a : Told) → u ≡ Some a → IsSound a.state)
    (may : (a : Told) → t ≡ Some a → MayReplace work root at a) (whole : HasStaged (bytes ∷ []) staged_at (file_view bytes) t u) where
  abbrev StagedSo : Told → Told → Type 0
  StagedSo a c = IsStagedWhole (bytes ∷ []) (child (stage_path work) x) (file_view bytes) a c × MayReplace work root at a

  abbrev RenamedSo : Told → Told → Type 0
  RenamedSo a d = (c : Told) × StagedSo a c × Steps (Rename (child (stage_path work) x) at) c d (Ok tt)

  staged_so : FromTo StagedSo t u
  staged_so = from_to_more (IsStagedWhole (bytes ∷ []) (child (stage_path work) x) (file_view bytes)) StagedSo t u (λ a c told k. (k, may a told))
      (subst (λ p. FromTo (IsStagedWhole (bytes ∷ []) p (file_view bytes)) t u) is (whole_staged (bytes ∷ []) staged_at (file_view bytes) t u sound whole))

  pub replaces_failed : (v : Option Told) (fault : FolderFault) → Changes (Rename staged_at at) u v (Err fault) → DoesReplace work root at bytes t v (Err fault)
  replaces_failed v fault changes = (
    from_to_on StagedSo (λ c d. Steps (Rename (child (stage_path work) x) at) c d (Err fault)) (Edits work root (replace_making at bytes)) t u v
        (λ a c d k l. replace_renamed work root at bytes x a k.1 c k.0 d (Err fault) l) staged_so (subst (λ p. Changes (Rename p at) u v (Err fault)) is changes),
    tt,
  )

  renamed_so : (v : Option Told) → Changes (Rename staged_at at) u v (Ok tt) → FromTo RenamedSo t v
  renamed_so v changes = from_to_on StagedSo (λ c d. Steps (Rename (child (stage_path work) x) at) c d (Ok tt)) RenamedSo t u v (λ a c d k l. (c, k, l)) staged_so (subst (λ p. Changes (Rename p at) u v (Ok tt)) is changes)

  pub replaces_settled : (v w : Option Told) (result : Result (Unit {0}) FolderFault) → Changes (Rename staged_at at) u v (Ok tt) → Changes Settle v w result → DoesReplace work root at bytes t w result
  replaces_settled v w (Err fault) changes settles = (
    from_to_on RenamedSo (λ d f. Steps Settle d f (Err fault)) (Edits work root (replace_making at bytes)) t v w
        (λ a d f k l. replace_settled work root at bytes x a k.1.1 k.0 k.1.0 d k.2 f (Err fault) l) (renamed_so v changes) settles,
    tt,
  )
  replaces_settled v w (Ok value) changes settles = (
    from_to_on RenamedSo (λ d f. Steps Settle d f (Ok value)) (Edits work root (replace_making at bytes)) t v w
        (λ a d f k l. replace_settled work root at bytes x a k.1.1 k.0 k.1.0 d k.2 f (Ok value) l) (renamed_so v changes) settles,
    from_to_on RenamedSo (λ d f. Steps Settle d f (Ok value)) (HasFinished work root (replace_making at bytes)) t v w
        (λ a d f k l. replace_finished work root at bytes x a k.1.1 k.0 k.1.0 d k.2 f l) (renamed_so v changes) settles,
  )

  pub replaces_allowed : (b : Told) → u ≡ Some b → Allowed b.state (Rename staged_at at)
  replaces_allowed b there = subst (λ p. Allowed b.state (Rename p at)) (sym is) (by_told t u staged_so there)
    where
      by_told : (t u : Option Told) → FromTo StagedSo t u → u ≡ Some b → Allowed b.state (Rename (child (stage_path work) x) at)
      by_told (Some a) (Some c) k told = let same : c ≡ b = cc in subst (λ (d : Told). Allowed d.state (Rename (child (stage_path work) x) at)) same (replace_allowed work root at bytes x a k.1 c k.0)
      by_told None (Some c) k told = absurd k
      by_told t None k told = cc

-- any fault will do
pub replaces_err : (work root at : Path) (bytes : List ℕ) (t u : Option Told) (fault : FolderFault) (result : Result (Unit {0}) FolderFault) → IsErr result → DoesReplace work root at bytes t u (Err fault) → DoesReplace work root at bytes t u result
replaces_err work root at bytes t u fault (Err other) err does = does
replaces_err work root at bytes t u fault (Ok value) err does = let clash : false ≡ true = err in cc

pub replace_free : (work root at : Path) (x : Part) (place : Path) (t : Option Told) → place ≡ child (stage_path work) x → ((a : Told) → t ≡ Some a → MayReplace work root at a) → IfSeen t (λ v. ShowsFree v place)
replace_free work root at x place t is may = if_seen (λ v. ShowsFree v place) t (λ a told. subst (ShowsFree (seen a.state)) (sym is) (free_in_stage work x (seen a.state) (may a told).ready))

-- ---- a content that was staged

-- where only its stage was written
pub replace_none : {keys : Keys} {work root at : Path} {coming : Option Coming} {stream : Option ByteStream} {t : Option Told} {result : Result (Unit {0}) PutFault} (fault : PutFault)
    → IsErrAnd result (λ e. e ≡ fault) → StopsBy keys (untaken coming) fault → ReplacesContent keys work root at coming coming stream stream t t result
replace_none {keys} {work} {root} {at} {coming} {stream} {t} {result} fault by_fault stops =
    at_fault (ReplacesContent keys work root at coming coming stream stream t t) result fault by_fault (record {
      writing = untaken coming;
      enough = omega arith;
      takes = takes_none keys coming stream fault;
      ends = (stops, inl (staged_nothing work (file_of keys (untaken coming) ∷ []) t));
    })

pub replace_stopped : {keys : Keys} {work root at staged : Path} {coming left : Option Coming} {stream stream' : Option ByteStream} {t u : Option Told} {result : Result (Unit {0}) PutFault} (fault : PutFault)
    → IsErrAnd result (λ e. e ≡ fault) → staged ≡ entry_stage work → StagesEntry keys None staged coming left stream stream' t u (Err fault) → ReplacesContent keys work root at coming left stream stream' t u result
replace_stopped {keys} {work} {root} {at} {staged} {coming} {left} {stream} {stream'} {t} {u} {result} fault by_fault is k =
    at_fault (ReplacesContent keys work root at coming left stream stream' t u) result fault by_fault (record {
      writing = k.writing;
      enough = k.enough;
      takes = k.takes;
      ends = (k.ends, inl (only_stages work staged (file_of keys k.writing ∷ []) t u is k.stages));
    })

module _ {keys : Keys} {work root at staged : Path} {coming left : Option Coming} {stream stream' : Option ByteStream} {t u : Option Told} (w : Option Told) (is : staged ≡ child (stage_path work) (codes "f"))
    (may : (a : Told) → t ≡ Some a → MayReplace work root at a) (k : StagesEntry keys None staged coming left stream stream' t u (Ok tt)) where
  pub replace_failed : {result : Result (Unit {0}) PutFault} (fault : FolderFault) → IsErrAnd result (λ e. e ≡ of_folder fault) → ReplacesEntry staged at u w (Err fault) → ReplacesContent keys work root at coming left stream stream' t w result
  replace_failed {result} fault by_fault replaces =
      at_fault (ReplacesContent keys work root at coming left stream stream' t w) result (of_folder fault) by_fault (record {
        writing = k.writing;
        enough = k.enough;
        takes = takes_then keys k.writing coming left stream stream' (of_folder fault) k.takes;
        ends = (stops_folder keys k.writing fault, inr (fault, refl, k.ends.0, replaces work root (file_of keys k.writing) t is may k.ends.1));
      })

  pub replace_placed : ReplacesEntry staged at u w (Ok tt) → ReplacesContent keys work root at coming left stream stream' t w (Ok tt)
  replace_placed replaces = record { writing = k.writing; enough = k.enough; takes = k.takes; ends = (k.ends.0, replaces work root (file_of keys k.writing) t is may k.ends.1) }
