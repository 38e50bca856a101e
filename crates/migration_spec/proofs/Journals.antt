-- That a migration stays guarded while its journal is written, and has then gone on.
use Rattle.std.specs.Prelude.{Contains}
use Rattle.std.proofs.Common.{◌≡◌, ◌≢◌, ◌⊎◌, ℕ, zero, suc, Bool, true, false, ◌&&◌, List, [], ◌∷◌, ◌++◌, Option, Some, None, refl, sym, ap, ◌∙◌, inl, inr, subst, arith, append_assoc, append-nil, codes, bytes_eq, if◌then◌else◌, IsTrue, is_none}
use Rattle.std.proofs.lemmas.Slice.Eq.{bytes_eq-Decides}
use Rattle.folder_spec.proofs.Paths.{begins_or_not, below-both, below-apart, below-append}
use Rattle.folder_spec.proofs.Tables.{present_is_table}
use Rattle.folder_spec.specs.Path.{Part, Path, below, child}
use Rattle.folder_spec.specs.declared.Spot.{Spot}
use Rattle.folder_spec.specs.State.{Table, State, IsTableOf, IsSound, IsNothingOrFile, kind_of, present}
use Rattle.folder_spec.specs.Edit.{Edit, file_edit, edited, grafted, view_after, HasSettled, IsOutside}
use Rattle.folder_spec.specs.Event.{Event, Told, after}
use Rattle.folder_spec.specs.Moments.{run, EachState}
use Rattle.folder_spec.specs.Region.{AlikeIn}
use Rattle.folder_spec.specs.Replace.{IsNewFile}
use Rattle.folder_spec.specs.Seen.{seen, under}
use Rattle.folder_spec.specs.View.{View, FileOf, Shows, ShowsAmong}
use Rattle.folder_spec.specs.declared.Kind.TheVariants as kind
use Rattle.move_journal.proofs.Standing.{written_stands}
use Rattle.move_journal.specs.Journal.{IsJournal, journal_text}
use Rattle.move_journal.specs.Writing.{IsWriting, elsewhere, Writes, HasWritten}
use Rattle.move_journal.specs.declared.journal.Journal.{Journal}
use Rattle.move_journal.specs.declared.journal.Phase.TheVariants as phase
use Rattle.migration_spec.proofs.Along.{each_on, nothing_each}
use Rattle.migration_spec.proofs.Guards.{holds_alike, RootsAreAlike, ImagesShow, ShowsCase, guarded_by, kinds_of, source_alike, there_alike, in_target}
use Rattle.migration_spec.proofs.Kept.{behind_none, only_shown, table_work, kept_is, alone_by, case_in, none_foreign}
use Rattle.migration_spec.specs.Alone.{Progress, Unbegun, Begun, Finished, IsIn, IsAlone, StaysGuarded}
use Rattle.migration_spec.specs.Guard.{Migration, IsSeparate, IsThere, HoldsSource, HoldsAll, IsNotBegun, IsBuilding, HasJournal, Tells, IsWork, is_kept, Guarded, old_path}
use Rattle.folder_spec.specs.Apart.{AreApart}
use Rattle.vault_spec.specs.Mapped.{AllowsTree, StaysApart}
use Rattle.vault_spec.specs.Opens.{tree}
use Rattle.vault_spec.specs.Vault.{format_of}
use Rattle.item_making.specs.Making.{is_inside}
use Rattle.work_folder.specs.Entries.{journal_path, new_journal_path, stage_path, is_foreign}

-- ---- the work folder of each table

-- all in the work folder but the journal and `journal.new` is elsewhere
elsewhere_in : (work rest : Path) → below (codes "journal.new" ∷ []) rest ≡ None → below (codes "journal" ∷ []) rest ≡ None → IsTrue (elsewhere work (work ++ rest))
elsewhere_in work rest new journal =
    both (ap is_none (below-both work (codes "journal.new" ∷ []) rest ∙ new)) (ap is_none (below-both work (codes "journal" ∷ []) rest ∙ journal))
  where
    both : {a b : Bool} → a ≡ true → b ≡ true → (a && b) ≡ true
    both one other = rw (one, other) refl

by_name : (a b : Part) → (a ≡ b) ⊎ (bytes_eq a b ≡ false)
by_name a b = by_test (bytes_eq a b) refl
  where
    by_test : (c : Bool) → bytes_eq a b ≡ c → (a ≡ b) ⊎ (bytes_eq a b ≡ false)
    by_test true e = inl ((bytes_eq-Decides a b).0 e)
    by_test false e = inr e

other_entry : (a name : Part) → bytes_eq a name ≡ false → below (a ∷ []) (name ∷ []) ≡ None
other_entry a name isnt = rw isnt refl

file_or_nothing : (name : Part) → is_foreign false name kind.File ≡ false → (t : Table) (q : Path) → IsNothingOrFile t q → is_foreign false name (kind_of (t q)) ≡ false
file_or_nothing name fine t q (inl nothing) = ap (λ (y : Spot). is_foreign false name (kind_of y)) nothing
file_or_nothing name fine t q (inr file) = ap (λ (y : Spot). is_foreign false name (kind_of y)) file.1 ∙ fine

abbrev given : Bool → Option Path → Option Path
given c x = if c then x else None

none_given : (c : Bool) (p q : Path) → given c (Some p) ≡ None → given c (Some q) ≡ None
none_given true p q e = absurd (cc e)
none_given false p q e = refl

-- what begins with another part is below no other one
deeper : (b a : Part) (rest : Path) → below (b ∷ []) (a ∷ []) ≡ None → below (b ∷ []) (a ∷ rest) ≡ None
deeper b a rest none = none_given (bytes_eq b a) [] rest none

abbrev pub Written : Path → List ℕ → State → State → Table → Type 0
Written work text s0 s t = (u : Table) × IsTableOf s0 u × AlikeIn (elsewhere work) t u × ((t (journal_path work) ≡ u (journal_path work)) ⊎ IsNewFile text s0 s (t (journal_path work)))

writing_work : (g : Migration) (p : Progress) (text : List ℕ) (s0 s : State) → IsAlone g p s0 → IsWriting g.work text s0 s → (t : Table) → IsTableOf s t → IsWork false (kinds_of t) g.work
writing_work g p text s0 s b writing t among = record {
  folder = elim before_work.folder [
    | inl missing ↦ inl (root ∙ missing)
    | inr there ↦ inr (root ∙ there.0, entries)
  ];
  staged = λ q inside. subst (λ k. k ≢ kind.Other) (sym (staged q inside)) (before_work.staged q inside);
  moved = λ q inside. subst (λ k. k ≢ kind.Other) (sym (old q inside)) (before_work.moved q inside);
}
  where
    work : Path
    work = g.work

    before : Written g.work text s0 s t
    before = writing.journal.tables t among

    u : Table
    u = before.0

    before_work : IsWork false (kinds_of before.0) g.work
    before_work = table_work g p s0 b before.0 before.1

    at : (rest : Path) → below (codes "journal.new" ∷ []) rest ≡ None → below (codes "journal" ∷ []) rest ≡ None → t (g.work ++ rest) ≡ before.0 (g.work ++ rest)
    at rest new journal = before.2 (g.work ++ rest) (elsewhere_in g.work rest new journal)

    root : kinds_of t g.work ≡ kinds_of before.0 g.work
    root = ap kind_of (subst (λ q. t q ≡ before.0 q) (append-nil g.work) (at [] refl refl))

    below_part : (a : Part) → below (codes "journal.new" ∷ []) (a ∷ []) ≡ None → below (codes "journal" ∷ []) (a ∷ []) ≡ None → (rest : Path) → kinds_of t (child g.work a ++ rest) ≡ kinds_of before.0 (child g.work a ++ rest)
    below_part a new journal rest = subst (λ q. kinds_of t q ≡ kinds_of before.0 q) (sym (append_assoc g.work (a ∷ []) rest))
        (ap kind_of (at (a ∷ rest) (deeper (codes "journal.new") a rest new) (deeper (codes "journal") a rest journal)))

    staged : (q : Path) → IsTrue (is_inside (below (stage_path g.work) q)) → kinds_of t q ≡ kinds_of before.0 q
    staged q inside = elim (begins_or_not (stage_path g.work) q) [
      | inl there ↦ subst (λ z. kinds_of t z ≡ kinds_of before.0 z) (sym there.1) (below_part (codes "stage") refl refl there.0)
      | inr none ↦ absurd (never (sym (ap is_inside none) ∙ inside))
    ]
      where
        never : false ≡ true → ⊥
        never e = cc e

    old : (q : Path) → IsTrue (is_inside (below (old_path g.work) q)) → kinds_of t q ≡ kinds_of before.0 q
    old q inside = elim (begins_or_not (old_path g.work) q) [
      | inl there ↦ subst (λ z. kinds_of t z ≡ kinds_of before.0 z) (sym there.1) (below_part (codes "old") refl refl there.0)
      | inr none ↦ absurd (never (sym (ap is_inside none) ∙ inside))
    ]
      where
        never : false ≡ true → ⊥
        never e = cc e

    fine : (v : Table) → IsTableOf s0 v → (name : Part) → ¬ IsTrue (is_foreign false name (kinds_of v (child g.work name)))
    fine v is name = none_foreign g.work s0.made v (b.sound.tables v is) (table_work g p s0 b v is) name

    entries : (name : Part) → ¬ IsTrue (is_foreign false name (kinds_of t (child g.work name)))
    entries name foreign = elim (by_name (codes "journal") name) [
      | inl journal ↦ at_journal journal
      | inr other ↦ elim (by_name (codes "journal.new") name) [
        | inl new ↦ at_new new
        | inr neither ↦ fine before.0 before.1 name (ap (is_foreign false name) (sym (ap kind_of (at (name ∷ []) (other_entry (codes "journal.new") name neither) (other_entry (codes "journal") name other)))) ∙ foreign)
      ]
    ]
      where
        never : false ≡ true → ⊥
        never e = cc e

        at_journal : codes "journal" ≡ name → ⊥
        at_journal is = elim before.3 [
          | inl same ↦ fine before.0 before.1 (codes "journal") (ap (λ (y : Spot). is_foreign false (codes "journal") (kind_of y)) (sym same) ∙ ap (λ a. is_foreign false a (kinds_of t (child g.work a))) is ∙ foreign)
          | inr new ↦ never (ap (λ (y : Spot). is_foreign false (codes "journal") (kind_of y)) (sym new.is) ∙ ap (λ a. is_foreign false a (kinds_of t (child g.work a))) is ∙ foreign)
        ]

        at_new : codes "journal.new" ≡ name → ⊥
        at_new is = elim (writing.new_journal t among) [
          | inl come ↦ never (sym (file_or_nothing (codes "journal.new") refl t (new_journal_path g.work) come) ∙ ap (λ a. is_foreign false a (kinds_of t (child g.work a))) is ∙ foreign)
          | inr there ↦ fine there.0 there.1 (codes "journal.new") (ap (λ (y : Spot). is_foreign false (codes "journal.new") (kind_of y)) (sym there.2) ∙ ap (λ a. is_foreign false a (kinds_of t (child g.work a))) is ∙ foreign)
        ]

-- ---- what is shown

outside_new : (g : Migration) → IsSeparate g → IsOutside (new_journal_path g.work) (is_kept g)
outside_new g separate q kept = ap is_none (by_place (kept_is g separate q kept))
  where
    by_place : (journal_path g.work ≡ q) ⊎ (below g.work q ≡ None) → below (new_journal_path g.work) q ≡ None
    by_place (inl journal) = subst (λ z. below (new_journal_path g.work) z ≡ None) journal (below-both g.work (codes "journal.new" ∷ []) (codes "journal" ∷ []))
    by_place (inr none) = behind_none g.work (codes "journal.new" ∷ []) q none

abbrev pub journal_edit : Migration → Journal → Edit
journal_edit g j = file_edit (journal_path g.work) (journal_text j)

one_of_two : (v w x : View) → Contains (v ∷ w ∷ []) x → (x ≡ v) ⊎ (x ≡ w)
one_of_two v w x (zero, lt, at) = inl (sym at)
one_of_two v w x (suc zero, lt, at) = inr (sym at)
one_of_two v w x (suc (suc k), lt, at) = absurd (omega (arith, lt))

-- while the journal is written, what was shown is shown, or that with the new journal
writing_on : RootsAreAlike → ImagesShow → (g : Migration) (p next : Progress) (j : Journal) (s0 s : State) → (b : IsAlone g p s0) → IsIn g next (edited b.view (journal_edit g j))
    → IsWriting g.work (journal_text j) s0 s → Guarded g s
writing_on alike shown g p next j s0 s b after_ writing = guarded_by alike shown g s b.guarded.separate shows
  where
    w : View
    w = edited b.view (journal_edit g j)

    shows : (t : Table) → IsTableOf s t → ShowsCase g s t
    shows t among =
        let there : (x : View) × Contains (b.view ∷ w ∷ []) x × Shows (is_kept g) s t x =
        writing.publishes (is_kept g) (b.view ∷ []) b.view (outside_new g b.guarded.separate) b.alone (only_shown (is_kept g) s0 b.view b.alone (present s0) (present_is_table s0)) t among in
        elim (one_of_two b.view w there.0 there.1) [
          | inl old ↦ shown_case p b.view b.holds t among (subst (Shows (is_kept g) s t) old there.2)
          | inr new ↦ shown_case next w after_ t among (subst (Shows (is_kept g) s t) new there.2)
        ]
      where
        shown_case : (q : Progress) (x : View) → IsIn g q x → (t : Table) → IsTableOf s t → Shows (is_kept g) s t x → ShowsCase g s t
        shown_case q x is t among shows = record {
          view = x;
          shows = shows;
          case = (case_in g q x is).0;
          work = subst (λ old. IsWork old (kinds_of t) g.work) (sym (case_in g q x is).1) (writing_work g p (journal_text j) s0 s b writing t among);
        }

pub writes_on : RootsAreAlike → ImagesShow → (g : Migration) (p next : Progress) (j : Journal) (a b : Told) → (at : IsAlone g p a.state) → IsIn g next (edited at.view (journal_edit g j))
    → Writes g.work j (Some a) (Some b) → StaysGuarded g a b
writes_on alike shown g p next j a b at after_ went = record {
  events = went.events;
  log = went.log;
  state = went.state;
  states = each_on (IsWriting g.work (journal_text j) a.state) (Guarded g) a.state went.events (λ s writing. writing_on alike shown g p next j a.state s at after_ writing) went.states;
  each = nothing_each a.state went.events;
  allowed = went.allowed;
}

last_state : (P : State → Type 0) (s : State) (es : List Event) → EachState P s es → P (run s es)
last_state P s [] h = h
last_state P s (e ∷ es) h = last_state P (after s e) es h.1

pub written_on : RootsAreAlike → ImagesShow
    → ((stage : Path) (edits : List Edit) (s0 s : State) → HasSettled stage edits s0 s → (region : Path → Bool) (v : View) → IsOutside stage region → Shows region s0 (present s0) v → ShowsAmong region s (view_after v edits ∷ []))
    → (g : Migration) (p next : Progress) (j : Journal) (a b : Told) → (at : IsAlone g p a.state) → IsIn g next (edited at.view (journal_edit g j))
    → IsSound b.state → Writes g.work j (Some a) (Some b) → HasWritten g.work j (Some a) (Some b) → IsAlone g next b.state
written_on alike shown settled g p next j a b at after_ sound went written = alone_by alike shown g next b.state (edited at.view (journal_edit g j)) sound at.guarded.separate after_ (λ t among. (
  only_shown (is_kept g) b.state (edited at.view (journal_edit g j))
      (settled (new_journal_path g.work) (journal_edit g j ∷ []) a.state b.state written.published (is_kept g) at.view (outside_new g at.guarded.separate)
      (only_shown (is_kept g) a.state at.view at.alone (present a.state) (present_is_table a.state))) t among,
  writing_work g p (journal_text j) a.state b.state at last t among,
))
  where
    last : IsWriting g.work (journal_text j) a.state b.state
    last = subst (IsWriting g.work (journal_text j) a.state) (sym went.state) (last_state (IsWriting g.work (journal_text j) a.state) a.state went.events went.states)

-- ---- how far it has come then

-- the journal is apart from both vaults
beside : (a : Path) (work : Path) → AreApart a work → (v : View) (text : List ℕ)
    → ((root : Path) (v : View) (e : Edit) → below root e.at ≡ None → below e.at root ≡ None → under root (edited v e) ≡ under root v)
    → under a (edited v (file_edit (journal_path work) text)) ≡ under a v
beside a work apart v text elsewhere = elsewhere a v (file_edit (journal_path work) text) (below-apart a work (codes "journal" ∷ []) apart.one apart.other) (behind_none work (codes "journal" ∷ []) a apart.other)

stands_there : (at : Path) (v : View) (text : List ℕ) → edited v (file_edit at text) at ≡ FileOf text
stands_there at v text = ap (grafted v (file_edit at text) at) (ap (below at) (sym (append-nil at)) ∙ below-append at [])

abbrev pub EditedElsewhere : Type 0
EditedElsewhere = (root : Path) (v : View) (e : Edit) → below root e.at ≡ None → below e.at root ≡ None → under root (edited v e) ≡ under root v

tells_so : (g : Migration) (j : Journal) (v : View) → IsJournal j → Tells g j → HasJournal g j.phase (edited v (journal_edit g j))
tells_so g j v is tells = record { journal = j; is = is; in_phase = refl; tells = tells; stands = written_stands g.work (edited v (journal_edit g j)) j (stands_there (journal_path g.work) v (journal_text j)) }

target_there : EditedElsewhere → (g : Migration) (j : Journal) (v : View) → IsSeparate g → IsThere g.target v → IsThere g.target (edited v (journal_edit g j))
target_there elsewhere g j v separate is = there_alike g.target (edited v (journal_edit g j)) v (sym (beside g.target.root g.work separate.target v (journal_text j) elsewhere)) is

source_stays : EditedElsewhere → (g : Migration) (j : Journal) (v : View) → IsSeparate g → HoldsSource g v → HoldsSource g (edited v (journal_edit g j))
source_stays elsewhere g j v separate is = source_alike g (edited v (journal_edit g j)) v (sym (beside g.source.root g.work separate.source v (journal_text j) elsewhere)) is

pub begun : EditedElsewhere → (g : Migration) (j : Journal) (v : View) → IsSeparate g → IsNotBegun g v → StaysApart g.names g.held → AllowsTree g.names (format_of g.target.vault) g.held
    → IsJournal j → j.phase ≡ phase.Building → Tells g j → IsIn g Begun (edited v (journal_edit g j))
begun elsewhere g j v separate is apart allows journal in_phase tells = record {
  source = source_stays elsewhere g j v separate is.source;
  journal = subst (λ phase. HasJournal g phase (edited v (journal_edit g j))) in_phase (tells_so g j v journal tells);
  target = target_there elsewhere g j v separate is.target;
  apart = apart;
  part = λ path named there. absurd (there (ap (λ u. tree (format_of g.target.vault) u path) (beside g.target.root g.work separate.target v (journal_text j) elsewhere) ∙ is.empty path named));
  allowed = allows;
}

pub finished : EditedElsewhere → (g : Migration) (j : Journal) (v : View) → IsSeparate g → IsBuilding g v → HoldsAll g v → IsJournal j → j.phase ≡ phase.Done → Tells g j → IsIn g Finished (edited v (journal_edit g j))
finished elsewhere g j v separate is all journal in_phase tells = record {
  source = source_stays elsewhere g j v separate is.source;
  journal = subst (λ phase. HasJournal g phase (edited v (journal_edit g j))) in_phase (tells_so g j v journal tells);
  target = record {
    there = target_there elsewhere g j v separate is.target;
    all = holds_alike g (edited v (journal_edit g j)) v (sym (beside g.target.root g.work separate.target v (journal_text j) elsewhere)) all;
  };
  allowed = is.allowed;
}

-- ---- the journal of a migration that begins, and of one that is finished

-- what is held as it is seen is held as it is shown
shown_holds : RootsAreAlike → (g : Migration) (s : State) (v : View) → ShowsAmong (is_kept g) s (v ∷ []) → HoldsAll g (seen s) → HoldsAll g v
shown_holds alike g s v alone = holds_alike g v (seen s) (alike g.target.root (seen s) v (λ q inside. (only_shown (is_kept g) s v alone (present s) (present_is_table s)).agrees q (in_target g q inside)))

pub begun_at : EditedElsewhere → (g : Migration) (j : Journal) (s : State) (at : IsAlone g Unbegun s) → StaysApart g.names g.held → AllowsTree g.names (format_of g.target.vault) g.held
    → IsJournal j → j.phase ≡ phase.Building → Tells g j → IsIn g Begun (edited at.view (journal_edit g j))
begun_at elsewhere g j s at apart allows journal in_phase tells = begun elsewhere g j at.view at.guarded.separate at.holds apart allows journal in_phase tells

pub finished_at : RootsAreAlike → EditedElsewhere → (g : Migration) (j : Journal) (s : State) (at : IsAlone g Begun s) → HoldsAll g (seen s)
    → IsJournal j → j.phase ≡ phase.Done → Tells g j → IsIn g Finished (edited at.view (journal_edit g j))
finished_at alike elsewhere g j s at all journal in_phase tells = finished elsewhere g j at.view at.guarded.separate at.holds (shown_holds alike g s at.view at.alone all) journal in_phase tells
