-- What making a work folder ready and writing a journal move; and what stays in the work folder.
use Rattle.std.specs.Cmp.Lexicographic.{bytes_decides}
use Rattle.std.specs.Str.{bytes_eq}
use Rattle.std.proofs.Common.{◌≡◌, ◌≢◌, Bool, true, false, not, ℕ, List, ◌++◌, ◌∷◌, [], Ok, Option, Some, None, refl, sym, ap, ◌∙◌, subst, inl, inr, append-nil, append_assoc, codes, IsTrue, is_none}
use Rattle.folder_spec.specs.Path.{Part, Path, below, child}
use Rattle.folder_spec.specs.State.{Node, State}
use Rattle.folder_spec.specs.Event.{Call, MakeDir, Create, Append, Sync, Settle, Rename, RemoveFile, RemoveDir, Told, FromTo}
use Rattle.folder_spec.specs.Moments.{Went}
use Rattle.folder_spec.specs.Region.{IsAsBefore, Spares, SparesOld, apart_from, apart_from_both}
use Rattle.folder_spec.specs.Seen.{IfSeen, ShowsNothingOrFile, seen}
use Rattle.folder_spec.specs.View.{View, FileOf, NoEntry, found}
use Rattle.folder_spec.proofs.Moments.{went_more, went_to}
use Rattle.folder_spec.proofs.Paths.{begins_or_not, below-append, below-apart, below-both, below-sibling}
use Rattle.folder_spec.proofs.Tellings.{from_to_more}
use Rattle.folder_spec.proofs.Regions.{seen_as_before}
use Rattle.move_journal.specs.Journal.{journal_text}
use Rattle.move_journal.specs.Writing.{IsWorkFolder, IsWriting, Writes, HasWritten, elsewhere}
use Rattle.work_folder.specs.Entries.{new_journal_path, journal_path, stage_path}
use Rattle.move_journal.specs.declared.journal.Journal.{Journal}
use Rattle.move_journal.specs.Reading.{StandsIn}
use Rattle.move_journal.proofs.Standing.{stands_alike}
use Rattle.migration_spec.proofs.Kept.{behind_none, entry_inside, staged_in, beside_both}
use Rattle.folder_spec.specs.Apart.{AreApart}
use Rattle.item_making.specs.Making.{is_apart, is_inside, is_staged}
use Rattle.work_folder.specs.Changing.{ChangesAt, ChangesOnly, IsChangingAt}
use Rattle.work_folder.specs.Entering.{Empties, EntersAs, IsReady, IsFresh, IsLeftOver, IsWorkOrStage}
use Rattle.migrate_core.proofs.Movings.{apart_of, moves_within, moves_on}
use Rattle.migrate_core.specs.Moved.{IsTidyWork, StaysTidyWork}
use Rattle.migrate_core.specs.Moving.{OnlyBrings, MovesBeside, MovesOnly}
use Rattle.migration_spec.proofs.Tellings.{AreSound}
use Rattle.std.proofs.lemmas.Bool.{and_from}

-- ---- calls that spare a region with the target in it

no_clash : {p : Path} → None ≡ Some p → ⊥
no_clash e = cc e

-- a path that a region at a root doesn't have isn't below the root
pub not_in_root : (region : Path → Bool) (root p : Path) → ((rest : Path) → IsTrue (region (root ++ rest))) → ((q : Path) → IsTrue (region q) → p ≢ q) → below root p ≡ None
not_in_root region root p inside spared = elim (begins_or_not root p) [
  | inl there ↦ absurd (spared (root ++ there.0) (inside there.0) there.1)
  | inr none ↦ none
]

-- nor is one below which nothing of the region lies
pub not_moved : (region : Path → Bool) (root p : Path) → ((rest : Path) → IsTrue (region (root ++ rest))) → ((q : Path) → IsTrue (region q) → below p q ≡ None) → below root p ≡ None
not_moved region root p inside spared = elim (begins_or_not root p) [
  | inl there ↦ absurd (no_clash (sym (spared p (subst (λ q. IsTrue (region q)) (sym there.1) (inside there.0))) ∙ (ap (below p) (sym (append-nil p)) ∙ below-append p [])))
  | inr none ↦ none
]

pub spared_brings : (work : Path) (region : Path → Bool) (root : Path) → ((rest : Path) → IsTrue (region (root ++ rest))) → (s : State) (call : Call) → Spares region call → OnlyBrings work root s call
spared_brings work region root inside s (MakeDir p) h = tt
spared_brings work region root inside s (Create p) h = not_in_root region root p inside h
spared_brings work region root inside s (Append p piece) h = tt
spared_brings work region root inside s (Sync p) h = tt
spared_brings work region root inside s Settle h = tt
spared_brings work region root inside s (Rename old new) h = (
  not_moved region root old inside (λ q is. (h q is).1),
  subst (λ r. below old r ≡ None) (append-nil root) (h (root ++ []) (inside [])).1,
  inl (not_moved region root new inside (λ q is. (h q is).0)),
)
spared_brings work region root inside s (RemoveFile p) h = not_in_root region root p inside h
spared_brings work region root inside s (RemoveDir p) h = not_in_root region root p inside h

-- ---- the paths

pub apart_at : (work root : Path) → AreApart root work → (rest : Path) → IsTrue (apart_from work (root ++ rest))
apart_at work root apart rest = ap is_none (below-apart work root rest apart.other apart.one)

-- what isn't in the work folder is elsewhere
pub elsewhere_of : (work q : Path) → below work q ≡ None → IsTrue (elsewhere work q)
elsewhere_of work q none = and_from (apart_from (new_journal_path work) q) (apart_from (journal_path work) q) (ap is_none (behind_none work (codes "journal.new" ∷ []) q none)) (ap is_none (behind_none work (codes "journal" ∷ []) q none))

-- and so is all in it but the two journals
pub elsewhere_in : (work rest : Path) → below (codes "journal.new" ∷ []) rest ≡ None → below (codes "journal" ∷ []) rest ≡ None → IsTrue (elsewhere work (work ++ rest))
elsewhere_in work rest new journal = and_from (apart_from (new_journal_path work) (work ++ rest)) (apart_from (journal_path work) (work ++ rest)) (ap is_none (below-both work (codes "journal.new" ∷ []) rest ∙ new)) (ap is_none (below-both work (codes "journal" ∷ []) rest ∙ journal))

pub elsewhere_at : (work root : Path) → AreApart root work → (rest : Path) → IsTrue (elsewhere work (root ++ rest))
elsewhere_at work root apart rest = elsewhere_of work (root ++ rest) (below-apart work root rest apart.other apart.one)

-- what begins neither with the work folder nor with the target is in each of these regions
module _ (work root q : Path) (is : IsTrue (apart_from_both work root q)) where
  not_in_work : below work q ≡ None
  not_in_work = (beside_both work root q is).0

  pub beside_work : IsTrue (apart_from work q)
  beside_work = ap is_none not_in_work

  pub beside_stage : IsTrue (apart_from (stage_path work) q)
  beside_stage = ap is_none (behind_none work (codes "stage" ∷ []) q not_in_work)

  pub beside_journals : IsTrue (elsewhere work q)
  beside_journals = elsewhere_of work q not_in_work

  pub beside_staged : IsTrue (is_apart work root q)
  beside_staged = apart_of work root q not_in_work (beside_both work root q is).1

-- ---- what is moved

pub changing_moves : (work : Path) (at : Path) (Comes Goes : Path → Type 0) (root : Path) (t u : Option Told) → AreApart root at → ChangesAt at Comes Goes t u → MovesBeside (apart_from at) work root t u
changing_moves work at Comes Goes root t u apart changes =
    from_to_more
    (λ a b. Went (IsChangingAt at Comes Goes a.state) (λ s e. ChangesOnly Comes Goes e.call × SparesOld (apart_from at) a.state s e.call) a b)
    (λ a b. Went (IsAsBefore (apart_from at) a.state) (λ s e. OnlyBrings work root s e.call) a b) t u
    (λ a b is went. went_more (IsChangingAt at Comes Goes a.state) (IsAsBefore (apart_from at) a.state)
    (λ s e. ChangesOnly Comes Goes e.call × SparesOld (apart_from at) a.state s e.call) (λ s e. OnlyBrings work root s e.call) a b
    (λ s changing. changing.others) (λ s e spares. spared_brings work (apart_from at) root (apart_at at root apart) s e.call spares.1.0) went) changes

pub writing_as : (work : Path) (text : List ℕ) (s0 s : State) → IsWriting work text s0 s → IsAsBefore (elsewhere work) s0 s
writing_as work text s0 s writing = record {
  tables = λ t among. (let old = writing.journal.tables t among in (old.0, old.1, old.2));
  seen = writing.journal.seen;
  nodes = writing.journal.nodes;
  made = writing.journal.made;
}

pub written_beside : (work : Path) (j : Journal) (t u : Option Told) → Writes work j t u → FromTo (λ a b. IsAsBefore (elsewhere work) a.state b.state) t u
written_beside work j t u writes =
    from_to_more (λ a b. Went (IsWriting work (journal_text j) a.state) (λ s e. SparesOld (elsewhere work) a.state s e.call) a b) (λ a b. IsAsBefore (elsewhere work) a.state b.state) t u
    (λ a b is went. writing_as work (journal_text j) a.state b.state (went_to (IsWriting work (journal_text j) a.state) (λ s e. SparesOld (elsewhere work) a.state s e.call) a b went)) writes

pub writing_moves : (work root : Path) (j : Journal) (t u : Option Told) → AreApart root work → Writes work j t u → MovesBeside (elsewhere work) work root t u
writing_moves work root j t u apart writes =
    from_to_more
    (λ a b. Went (IsWriting work (journal_text j) a.state) (λ s e. SparesOld (elsewhere work) a.state s e.call) a b)
    (λ a b. Went (IsAsBefore (elsewhere work) a.state) (λ s e. OnlyBrings work root s e.call) a b) t u
    (λ a b is went. went_more (IsWriting work (journal_text j) a.state) (IsAsBefore (elsewhere work) a.state)
    (λ s e. SparesOld (elsewhere work) a.state s e.call) (λ s e. OnlyBrings work root s e.call) a b
    (λ s writing. writing_as work (journal_text j) a.state s writing) (λ s e spares. spared_brings work (elsewhere work) root (elsewhere_at work root apart) s e.call spares.0) went) writes

-- and beside the work folder and the target
pub entered_moves : (work root : Path) (Comes Goes : Path → Type 0) (t u : Option Told) → AreApart root work → ChangesAt work Comes Goes t u → MovesOnly work root t u
entered_moves work root Comes Goes t u apart changes =
    moves_within work (apart_from_both work root) (apart_from work) root t u (beside_work work root) (changing_moves work work Comes Goes root t u apart changes)

pub written_moves : (work root : Path) (j : Journal) (t u : Option Told) → AreApart root work → Writes work j t u → MovesOnly work root t u
written_moves work root j t u apart writes = moves_within work (apart_from_both work root) (elsewhere work) root t u (beside_journals work root) (writing_moves work root j t u apart writes)

-- the work folder is made ready, and the journal written
pub begun_moves : (work root : Path) (j : Journal) (t u w : Option Told) → AreApart root work → ChangesAt work (IsWorkOrStage work) (IsLeftOver work) t u → Writes work j u w → MovesOnly work root t w
begun_moves work root j t u w apart enters writes =
    moves_on work (apart_from_both work root) root t u w (entered_moves work root (IsWorkOrStage work) (IsLeftOver work) t u apart enters) (written_moves work root j u w apart writes)

-- ---- what stays

-- what is so of what is seen stays so, by what is seen in a region
pub stays : (P : View → Type 0) (region : Path → Bool) (t u : Option Told) → AreSound t → FromTo (λ a b. IsAsBefore region a.state b.state) t u
    → ((v w : View) → ((q : Path) → IsTrue (region q) → w q ≡ v q) → P v → P w) → IfSeen t (λ v. P v) → IfSeen u (λ v. P v)
stays P region (Some a) (Some b) sound stayed keeps was v is =
    subst P (sym is) (keeps (seen a.state) (seen b.state) (seen_as_before region a.state b.state (sound a refl) stayed) (was (seen a.state) refl))
stays P region None None sound stayed keeps was v is = absurd is
stays P region (Some a) None sound stayed keeps was v is = absurd stayed
stays P region None (Some b) sound stayed keeps was v is = absurd stayed

-- the stage is as ready as it was
pub ready_stays : (work : Path) (t u : Option Told) → AreSound t → FromTo (λ a b. IsAsBefore (elsewhere work) a.state b.state) t u
    → IfSeen t (λ v. IsReady v work) → IfSeen u (λ v. IsReady v work)
ready_stays work t u sound stayed = stays (λ v. IsReady v work) (elsewhere work) t u sound stayed (λ v w same ready. record {
  folder = ap w (sym (append-nil work)) ∙ same (work ++ []) (elsewhere_in work [] refl refl) ∙ ap v (append-nil work) ∙ ready.folder;
  stage = same (stage_path work) (elsewhere_in work (codes "stage" ∷ []) refl refl) ∙ ready.stage;
  bare = λ rest some.
      let there : stage_path work ++ rest ≡ work ++ codes "stage" ∷ rest = append_assoc work (codes "stage" ∷ []) rest in
      ap w there ∙ same (work ++ codes "stage" ∷ rest) (elsewhere_in work (codes "stage" ∷ rest) refl refl) ∙ ap v (sym there) ∙ ready.bare rest some;
})

-- three paths are all that makes a work folder
nothing_or_file : (v w : View) (q : Path) → w q ≡ v q → ShowsNothingOrFile v q → ShowsNothingOrFile w q
nothing_or_file v w q same (inl none) = inl (same ∙ none)
nothing_or_file v w q same (inr there) = inr (there.0, same ∙ there.1)

pub record HasWorkFolder (region : Path → Bool) (work : Path) : Type 0 where
  pub folder : IsTrue (region work)
  pub journal : IsTrue (region (journal_path work))
  pub new_journal : IsTrue (region (new_journal_path work))

pub work_folder_stays : (region : Path → Bool) (work : Path) (t u : Option Told) → HasWorkFolder region work → AreSound t → FromTo (λ a b. IsAsBefore region a.state b.state) t u
    → IfSeen t (λ v. IsWorkFolder v work) → IfSeen u (λ v. IsWorkFolder v work)
work_folder_stays region work t u has sound stayed = stays (λ v. IsWorkFolder v work) region t u sound stayed (λ v w same is. record {
  folder = same work has.folder ∙ is.folder;
  journal = nothing_or_file v w (journal_path work) (same (journal_path work) has.journal) is.journal;
  new_journal = nothing_or_file v w (new_journal_path work) (same (new_journal_path work) has.new_journal) is.new_journal;
})

-- neither what is staged nor what is placed is in the way
pub placing_has : (work root : Path) → AreApart root work → HasWorkFolder (is_apart work root) work
placing_has work root apart = record {
  folder = subst (λ q. IsTrue (is_apart work root q)) (append-nil work) (at [] refl);
  journal = at (codes "journal" ∷ []) (entry_inside (codes "journal"));
  new_journal = at (codes "journal.new" ∷ []) (entry_inside (codes "journal.new"));
}
  where
    at : (rest : Path) → is_inside (below (codes "stage" ∷ []) rest) ≡ false → IsTrue (is_apart work root (work ++ rest))
    at rest outside = and_from (not (is_staged work (work ++ rest))) (apart_from root (work ++ rest)) (ap not (staged_in work rest ∙ outside)) (ap is_none (below-apart root work rest apart.one apart.other))

pub staging_has : (work : Path) → HasWorkFolder (apart_from (stage_path work)) work
staging_has work = record {
  folder = subst (λ q. IsTrue (apart_from (stage_path work) q)) (append-nil work) (at [] refl);
  journal = at (codes "journal" ∷ []) refl;
  new_journal = at (codes "journal.new" ∷ []) refl;
}
  where
    at : (rest : Path) → below (codes "stage" ∷ []) rest ≡ None → IsTrue (apart_from (stage_path work) (work ++ rest))
    at rest outside = ap is_none (below-both work (codes "stage" ∷ []) rest ∙ outside)

-- a work folder that was entered has nothing but its stage
pub fresh_folder : (v : View) (work : Path) → IsFresh v work → IsWorkFolder v work
fresh_folder v work fresh = record {
  folder = fresh.ready.folder;
  journal = inl (fresh.alone (codes "journal") (λ e. cc e));
  new_journal = inl (fresh.alone (codes "journal.new") (λ e. cc e));
}

-- and one in which a journal was written has that
pub written_folder : (work : Path) (j : Journal) (t u : Option Told) → AreSound t → FromTo (λ a b. IsAsBefore (elsewhere work) a.state b.state) t u → HasWritten work j t u
    → IfSeen t (λ v. IsWorkFolder v work) → IfSeen u (λ v. IsWorkFolder v work)
written_folder work j (Some a) (Some b) sound stayed written was v is = subst (λ w. IsWorkFolder w work) (sym is) (record {
  folder = ap (seen b.state) (sym (append-nil work)) ∙ seen_as_before (elsewhere work) a.state b.state (sound a refl) stayed (work ++ []) (elsewhere_in work [] refl refl)
      ∙ ap (seen a.state) (append-nil work) ∙ (was (seen a.state) refl).folder;
  journal = inr (journal_text j, ap (found (λ n. (b.state.nodes n).now)) written.replaced.new.is ∙ ap (λ (node : Node). FileOf node.now) written.replaced.new.holds);
  new_journal = inl (ap (found (λ n. (b.state.nodes n).now)) written.new_journal);
})
written_folder work j None None sound stayed written was v is = absurd is
written_folder work j (Some a) None sound stayed written was v is = absurd stayed
written_folder work j None (Some b) sound stayed written was v is = absurd stayed

-- a journal that stands stays where its path is as before
pub journal_stays : (region : Path → Bool) (work : Path) (journal : Journal) (t u : Option Told) → IsTrue (region (journal_path work)) → AreSound t → FromTo (λ a b. IsAsBefore region a.state b.state) t u
    → IfSeen t (λ v. StandsIn work journal v) → IfSeen u (λ v. StandsIn work journal v)
journal_stays region work journal t u inside sound stayed = stays (StandsIn work journal) region t u sound stayed (λ v w same stands. stands_alike work journal w v (same (journal_path work) inside) stands)

-- ---- nothing but an empty stage and a journal

-- an entry that is neither of the two journals is elsewhere
other_entry : (work : Path) (name : Part) → name ≢ codes "journal.new" → name ≢ codes "journal" → IsTrue (elsewhere work (work ++ name ∷ []))
other_entry work name new journal = elsewhere_in work (name ∷ []) (apart_entry (codes "journal.new") name new) (apart_entry (codes "journal") name journal)
  where
    apart_entry : (a b : Part) → b ≢ a → below (a ∷ []) (b ∷ []) ≡ None
    apart_entry a b other = by (bytes_eq a b) refl
      where
        by : (is : Bool) → bytes_eq a b ≡ is → below (a ∷ []) (b ∷ []) ≡ None
        by true same = absurd (other (sym ((bytes_decides a b).0 same)))
        by false apart = below-sibling [] a b apart

-- writing a journal leaves no more than that
pub tidy_written : (work : Path) (j : Journal) (t u : Option Told) → AreSound t → FromTo (λ a b. IsAsBefore (elsewhere work) a.state b.state) t u → HasWritten work j t u → StaysTidyWork work t u
tidy_written work j (Some a) (Some b) sound stayed written was v is = record {
  ready = ready_stays work (Some a) (Some b) sound stayed (λ w seen_w. (was w seen_w).ready) v is;
  alone = λ name stage journal. by name stage journal (bytes_eq name (codes "journal.new")) refl;
}
  where
    by : (name : Part) → name ≢ codes "stage" → name ≢ codes "journal" → (new : Bool) → bytes_eq name (codes "journal.new") ≡ new → v (child work name) ≡ NoEntry
    by name stage journal true same =
        ap (λ n. v (child work n)) ((bytes_decides name (codes "journal.new")).0 same) ∙ ap (λ w. w (new_journal_path work)) is ∙ ap (found (λ n. (b.state.nodes n).now)) written.new_journal
    by name stage journal false other =
        ap (λ w. w (child work name)) is ∙ seen_as_before (elsewhere work) a.state b.state (sound a refl) stayed (child work name)
        (other_entry work name (λ e. let never : true ≡ false = sym ((bytes_decides name (codes "journal.new")).1 e) ∙ other in cc never) journal) ∙ (was (seen a.state) refl).alone name stage journal
tidy_written work j None None sound stayed written was v is = absurd is
tidy_written work j (Some a) None sound stayed written was v is = absurd stayed
tidy_written work j None (Some b) sound stayed written was v is = absurd stayed

-- nor does placing items, after which the stage is ready again
pub tidy_placed : (work root : Path) (t u : Option Told) → AreApart root work → AreSound t → FromTo (λ a b. IsAsBefore (is_apart work root) a.state b.state) t u
    → IfSeen u (λ v. IsReady v work) → StaysTidyWork work t u
tidy_placed work root (Some a) (Some b) apart sound stayed ready was v is = record {
  ready = ready v is;
  alone = λ name stage journal. ap (λ w. w (child work name)) is ∙ seen_as_before (is_apart work root) a.state b.state (sound a refl) stayed (child work name) (inside name stage) ∙ (was (seen a.state) refl).alone name stage journal;
}
  where
    outside : (name : Part) → name ≢ codes "stage" → is_inside (below (codes "stage" ∷ []) (name ∷ [])) ≡ false
    outside name stage = by (bytes_eq (codes "stage") name) refl
      where
        by : (same : Bool) → bytes_eq (codes "stage") name ≡ same → is_inside (below (codes "stage" ∷ []) (name ∷ [])) ≡ false
        by true same = absurd (stage (sym ((bytes_decides (codes "stage") name).0 same)))
        by false other = ap is_inside (below-sibling [] (codes "stage") name other)

    inside : (name : Part) → name ≢ codes "stage" → IsTrue (is_apart work root (child work name))
    inside name stage =
        and_from (not (is_staged work (work ++ name ∷ []))) (apart_from root (work ++ name ∷ [])) (ap not (staged_in work (name ∷ []) ∙ outside name stage)) (ap is_none (below-apart root work (name ∷ []) apart.one apart.other))
tidy_placed work root None None apart sound stayed ready was v is = absurd is
tidy_placed work root (Some a) None apart sound stayed ready was v is = absurd stayed
tidy_placed work root None (Some b) apart sound stayed ready was v is = absurd stayed

-- a work folder that was just entered has only its stage
pub fresh_tidy : (v : View) (work : Path) → IsFresh v work → IsTidyWork work v
fresh_tidy v work fresh = record { ready = fresh.ready; alone = λ name stage journal. fresh.alone name stage }

-- calls that change nothing
pub tidy_unchanged : (work : Path) (t u : Option Told) → u ≡ t → StaysTidyWork work t u
tidy_unchanged work t u same = subst (StaysTidyWork work t) (sym same) (λ was. was)

-- it was entered by emptying its stage
pub entered_empties : (v : View) (work : Path) → EntersAs v work (Ok tt) → Empties v work (Ok tt)
entered_empties v work (inl refused) = absurd (refused.1 refl)
entered_empties v work (inr passed) = passed.1
