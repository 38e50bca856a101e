-- What the exits of entering say.
use Rattle.std.specs.Prelude.{codes}
use Rattle.std.specs.Str.{bytes_eq}
use Rattle.std.proofs.Common.{◌≡◌, ◌≢◌, ◌⊎◌, ℕ, ◌≤◌, true, false, List, [], ◌∷◌, ◌++◌, length, Option, Some, None, Ok, Err, refl, sym, ap, ◌∙◌, subst, inl, inr, arith, length-append, append_assoc, append-nil, IsTrue}
use Rattle.std.proofs.lemmas.Slice.Eq.{bytes_eq-Decides}
use Rattle.folder_spec.specs.declared.FolderFault.{FolderFault}
use Rattle.folder_spec.specs.declared.FolderFault.TheVariants as folder
use Rattle.folder_spec.specs.Path.{Part, Path, below, child}
use Rattle.folder_spec.specs.State.{IsSound}
use Rattle.folder_spec.specs.Event.{Told}
use Rattle.folder_spec.specs.Region.{apart_from}
use Rattle.folder_spec.specs.View.{NoEntry, Folder, FileOf, View}
use Rattle.folder_spec.specs.Seen.{IfSeen, IsSeen, ShowsFree, ShowsNothingOrFile, seen}
use Rattle.folder_spec.proofs.Paths.{child-apart, child-last, not_below}
use Rattle.folder_spec.proofs.Replaces.{apart-below, apart-not_same}
use Rattle.folder_model.specs.Answers.{CountsAbove}
use Rattle.folder_model.proofs.Counting.{rose_since, counts_on}
use Rattle.work_folder.specs.declared.fault.WorkFault.{WorkFault}
use Rattle.work_folder.specs.declared.fault.WorkFault.TheVariants.{NoParent, WrongKind, Foreign, Begun, Depth, Failed, NoMemory}
use Rattle.work_folder.specs.Faults.{fault_of}
use Rattle.work_folder.specs.Entries.{new_journal_path, stage_path}
use Rattle.work_folder.specs.Looking.{Looked, Tests, Gives, Looks}
use Rattle.work_folder.specs.Changing.{ChangesAt, Alters}
use Rattle.work_folder.specs.Entering.{below_stage, IsStage, IsBelowStage, IsWorkOrStage, IsLeftOver, Empties, EntersAs, Enters, Restages, Prepares}
use Rattle.work_folder.proofs.Looks.{gives_more}
use Rattle.folder_staging.proofs.Blame.{risen_by}
use Rattle.work_folder.proofs.Changed.{alters_none, alters_then, alters_more, changes_at, at_alters, seen_stays}
use Rattle.work_folder.proofs.Steps.{stays_so}
use Rattle.work_folder.proofs.Passed.{passed, work_place, new_journal_place, stage_place, others_missing}
use Rattle.work_folder.proofs.Restaged.{longer_within, work_not_below, stage_not_below}

fault_is : (fault : FolderFault) (told : WorkFault) → fault_of fault ≡ told → (told ≡ Failed) ⊎ (told ≡ NoMemory)
fault_is folder.Failed told e = inl (sym e)
fault_is folder.Refused told e = inl (sym e)
fault_is folder.NoMemory told e = inr (sym e)

module _ (work : Path) where
  new_not_work : new_journal_path work ≢ work
  new_not_work e = child-apart work _ e

  stage_not_new : stage_path work ≢ new_journal_path work
  stage_not_new e =
      let names : codes "stage" ≡ codes "journal.new" = child-last work (codes "stage") (codes "journal.new") e in
      let sizes : 5 ≡ 11 = ap length names in omega (arith, sizes)

  new_not_below : IsBelowStage work (new_journal_path work) → ⊥
  new_not_below within =
      omega (arith, longer_within (below_stage work) (new_journal_path work) within, length-append work (codes "stage" ∷ []), length-append work (codes "journal.new" ∷ []))

  below_not_work : (rest : Path) → stage_path work ++ rest ≢ work
  below_not_work rest e =
      let size : length (stage_path work ++ rest) ≡ length work = ap length e in
      omega (arith, size, length-append (stage_path work) rest, length-append work (codes "stage" ∷ []))

  below_not_new : (rest : Path) → 1 ≤ length rest → stage_path work ++ rest ≢ new_journal_path work
  below_not_new rest least e =
      let size : length (stage_path work ++ rest) ≡ length (new_journal_path work) = ap length e in
      omega (arith, size, least, length-append (stage_path work) rest, length-append work (codes "stage" ∷ []), length-append work (codes "journal.new" ∷ []))

  never_both : (q : Path) → IsWorkOrStage work q → IsLeftOver work q → ⊥
  never_both q comes goes = elim comes [
    | inl is_work ↦ elim goes [
      | inl is_new ↦ new_not_work (sym is_new ∙ is_work)
      | inr within ↦ work_not_below work (subst (IsBelowStage work) is_work within)
    ]
    | inr is_stage ↦ elim goes [
      | inl is_new ↦ stage_not_new (sym is_stage ∙ is_new)
      | inr within ↦ stage_not_below work (subst (IsBelowStage work) is_stage within)
    ]
  ]

  child_inside : (name : Part) (rest q : Path) → q ≡ child work name ++ rest → IsTrue (apart_from work q) → ⊥
  child_inside name rest q is apart =
      let below_work : q ≡ work ++ (name ∷ rest) = is ∙ append_name in
      not_below work (name ∷ rest) (ap (below work) (sym below_work) ∙ apart-below work q apart)
    where
      append_name : child work name ++ rest ≡ work ++ (name ∷ rest)
      append_name = append_assoc work (name ∷ []) rest

  come_inside : (q : Path) → IsWorkOrStage work q → IsTrue (apart_from work q) → ⊥
  come_inside q comes apart = elim comes [
    | inl is_work ↦ apart-not_same work q apart (sym is_work)
    | inr is_stage ↦ child_inside (codes "stage") [] q (is_stage ∙ sym (append-nil (stage_path work))) apart
  ]

  go_inside : (q : Path) → IsLeftOver work q → IsTrue (apart_from work q) → ⊥
  go_inside q goes apart = elim goes [
    | inl is_new ↦ child_inside (codes "journal.new") [] q (is_new ∙ sym (append-nil (new_journal_path work))) apart
    | inr within ↦ child_inside (codes "stage") within.rest q within.is apart
  ]

  enters_at : (t u : Option Told) → Alters (IsWorkOrStage work) (IsLeftOver work) t u → ChangesAt work (IsWorkOrStage work) (IsLeftOver work) t u
  enters_at t u h = changes_at work (IsWorkOrStage work) (IsLeftOver work) come_inside go_inside t u h

  -- Preparing.
  abbrev Preparing : Option Told → Option Told → Type 0
  Preparing = Alters (λ q. q ≡ work) (λ q. q ≡ new_journal_path work)

  made_prepares : (t u : Option Told) → Alters (λ q. q ≡ work) (λ q. ⊥) t u → Preparing t u
  made_prepares t u h = alters_more (λ q. q ≡ work) (λ q. ⊥) (λ q. q ≡ work) (λ q. q ≡ new_journal_path work) (λ q k. k) (λ q no_. absurd no_) t u h

  cleared_prepares : (t0 t1 t2 : Option Told) → Alters (λ q. q ≡ work) (λ q. ⊥) t0 t1 → Alters (λ q. ⊥) (λ q. q ≡ new_journal_path work) t1 t2 → Preparing t0 t2
  cleared_prepares t0 t1 t2 first second =
      alters_then (λ q. q ≡ work) (λ q. q ≡ new_journal_path work) (λ q is_work is_new. new_not_work (sym is_new ∙ is_work)) t0 t1 t2 (made_prepares t0 t1 first)
      (alters_more (λ q. ⊥) (λ q. q ≡ new_journal_path work) (λ q. q ≡ work) (λ q. q ≡ new_journal_path work) (λ q no_. absurd no_) (λ q k. k) t1 t2 second)

  above_grows : (n0 n1 : ℕ) (fault : FolderFault) → CountsAbove {T = Unit {0}} n0 n1 (Err fault) → n0 ≤ n1
  above_grows n0 n1 folder.Failed h = h.0
  above_grows n0 n1 folder.Refused h = h.0
  above_grows n0 n1 folder.NoMemory h = h

  prepare_fell : (t u : Option Told) (n0 n1 : ℕ) (fault : FolderFault) → Preparing t u → CountsAbove {T = Unit {0}} n0 n1 (Err fault) → Prepares work t u n0 n1 (Err (fault_of fault))
  prepare_fell t u n0 n1 fault moments counts = record {
    moments = moments;
    folder = tt;
    gone = tt;
    fault = λ told e. fault_is fault told (cc e);
    grows = above_grows n0 n1 fault counts;
    failed = λ e. risen_by fault_of Failed (λ none. cc none) n0 n1 fault counts (cc e);
  }

  pub make_fell : (t u : Option Told) (n0 n1 : ℕ) (fault : FolderFault) → Alters (λ q. q ≡ work) (λ q. ⊥) t u → CountsAbove {T = Unit {0}} n0 n1 (Err fault)
      → Prepares work t u n0 n1 (Err (fault_of fault))
  make_fell t u n0 n1 fault moments counts = prepare_fell t u n0 n1 fault (made_prepares t u moments) counts

  module _ (t0 t1 t2 : Option Told) (n0 n1 n2 : ℕ) (le : n0 ≤ n1) (made : Alters (λ q. q ≡ work) (λ q. ⊥) t0 t1) (cleared : Alters (λ q. ⊥) (λ q. q ≡ new_journal_path work) t1 t2) where
    pub clear_fell : (fault : FolderFault) → CountsAbove {T = Unit {0}} n1 n2 (Err fault) → Prepares work t0 t2 n0 n2 (Err (fault_of fault))
    clear_fell fault counts = prepare_fell t0 t2 n0 n2 fault (cleared_prepares t0 t1 t2 made cleared) (counts_on {T = Unit {0}} n0 n1 n2 (Err fault) le counts)

    pub prepare_done : n1 ≤ n2 → IfSeen t1 (λ v. v work ≡ Folder) → IfSeen t2 (λ v. v (new_journal_path work) ≡ NoEntry) → Prepares work t0 t2 n0 n2 (Ok tt)
    prepare_done more folder gone = record {
      moments = cleared_prepares t0 t1 t2 made cleared;
      folder = λ w is. stays_so (λ q. ⊥) (λ q. q ≡ new_journal_path work) t1 t2 cleared work (λ no_. no_) (λ e. new_not_work (sym e)) (λ x. x ≡ Folder) folder w is;
      gone = gone;
      fault = λ told e. cc e;
      grows = omega (arith, le, more);
      failed = λ e. cc e;
    }

  pub no_memory_prepared : (t : Option Told) (n : ℕ) → Prepares work t t n n (Err NoMemory)
  no_memory_prepared t n = record {
    moments = alters_none (λ q. q ≡ work) (λ q. q ≡ new_journal_path work) t t refl;
    folder = tt;
    gone = tt;
    fault = λ told e. inr cc;
    grows = omega arith;
    failed = λ e. cc e;
  }

  module _ (t : Option Told) (sound : (a : Told) → t ≡ Some a → IsSound a.state) (tests : IfSeen t (λ v. Tests v work (Ok tt))) where
    pub place_to_make : IfSeen t (λ v. (v work ≡ Folder) ⊎ ShowsFree v work)
    place_to_make v is = work_place v work (passed t sound v is work (tests v is))

    pub place_to_clear : (u : Option Told) → Alters (λ q. q ≡ work) (λ q. ⊥) t u → IfSeen u (λ w. ShowsNothingOrFile w (new_journal_path work))
    place_to_clear u made w is =
        stays_so (λ q. q ≡ work) (λ q. ⊥) t u made (new_journal_path work) new_not_work (λ no_. no_) (λ x. (x ≡ NoEntry) ⊎ ((bytes : List ℕ) × (x ≡ FileOf bytes)))
        (λ v shown. new_journal_place v work (passed t sound v shown work (tests v shown))) w is

    pub place_of_stage : (u : Option Told) → Preparing t u → IfSeen u (λ w. (w (stage_path work) ≡ NoEntry) ⊎ (w (stage_path work) ≡ Folder))
    place_of_stage u prepared w is =
        stays_so (λ q. q ≡ work) (λ q. q ≡ new_journal_path work) t u prepared (stage_path work) (λ e. child-apart work _ e) stage_not_new (λ x. (x ≡ NoEntry) ⊎ (x ≡ Folder))
        (λ v shown. stage_place v work (passed t sound v shown work (tests v shown))) w is

-- Emptying the stage answers by what stood below it at first.
empties_back : (v w : View) (work : Path) → ((rest : Path) → 1 ≤ length rest → w (stage_path work ++ rest) ≡ v (stage_path work ++ rest)) → (answer : Looked)
    → Empties w work answer → Empties v work answer
empties_back v w work agree (Ok done) h = λ rest least.
    (λ odd. (h rest least).0 (agree rest least ∙ odd), λ deep. sym (agree rest least) ∙ (h rest least).1 deep)
empties_back v w work agree (Err (NoParent p)) h = absurd h
empties_back v w work agree (Err (WrongKind p)) h = absurd h
empties_back v w work agree (Err (Foreign p)) h =
    (h.0, ap v h.0.is ∙ sym (agree h.0.rest h.0.least) ∙ ap w (sym h.0.is) ∙ h.1)
empties_back v w work agree (Err Begun) h = absurd h
empties_back v w work agree (Err Depth) h =
    (h.0, h.1, λ none. h.2 (agree h.0 (omega (arith, h.1)) ∙ none))
empties_back v w work agree (Err Failed) h = tt
empties_back v w work agree (Err NoMemory) h = tt

gives_err : (T : Type 0) (A : Looked → Type 0) (fault : WorkFault) → Gives {T = Unit {0}} A (Err fault) → Gives {T = T} A (Err fault)
gives_err T A (NoParent p) h = h
gives_err T A (WrongKind p) h = h
gives_err T A (Foreign p) h = h
gives_err T A Begun h = h
gives_err T A Depth h = h
gives_err T A Failed h = tt
gives_err T A NoMemory h = tt

-- a test fails
refused : (T : Type 0) (v : View) (work : Path) (fault : WorkFault) → Gives {T = Unit {0}} (Tests v work) (Err fault) → Gives {T = T} (EntersAs v work) (Err fault)
refused T v work (NoParent p) h = inl (h, λ e. cc e)
refused T v work (WrongKind p) h = inl (h, λ e. cc e)
refused T v work (Foreign p) h = inl (h, λ e. cc e)
refused T v work Begun h = inl (h, λ e. cc e)
refused T v work Depth h = inl (h, λ e. cc e)
refused T v work Failed h = tt
refused T v work NoMemory h = tt

gives_nothing : (T : Type 0) (A : Looked → Type 0) (fault : WorkFault) → (fault ≡ Failed) ⊎ (fault ≡ NoMemory) → Gives {T = T} A (Err fault)
gives_nothing T A fault is = elim is as (λ _. Gives {T = T} A (Err fault)) [
  | inl e ↦ subst (λ f. Gives {T = T} A (Err f)) (sym e) tt
  | inr e ↦ subst (λ f. Gives {T = T} A (Err f)) (sym e) tt
]

module _ (T : Type 0) (work : Path) where
  pub no_memory_entered : (t : Option Told) (n : ℕ) → Enters {T = T} work t t n n (Err NoMemory)
  no_memory_entered t n = record {
    moments = enters_at work t t (alters_none (IsWorkOrStage work) (IsLeftOver work) t t refl);
    ready = tt;
    answer = λ v is. tt;
    kept = λ v is no_. refl;
    grows = omega arith;
    failed = λ e. cc e;
  }

  pub look_fell : (t0 t1 : Option Told) (n0 n1 : ℕ) (fault : WorkFault) → Looks (λ v answer. Tests v work answer) t0 t1 n0 n1 (Err fault)
      → Enters {T = T} work t0 t1 n0 n1 (Err fault)
  look_fell t0 t1 n0 n1 fault h = record {
    moments = enters_at work t0 t1 (alters_none (IsWorkOrStage work) (IsLeftOver work) t0 t1 h.told);
    ready = tt;
    answer = λ v is. refused T v work fault (h.answer v is);
    kept = λ v is no_. h.told;
    grows = h.grows;
    failed = λ e. let same : fault ≡ Failed = cc e in h.failed (ap Err same);
  }

  -- after the tests
  module _ (t0 t1 t2 : Option Told) (n0 n1 n2 : ℕ) (looked : Looks (λ v answer. Tests v work answer) t0 t1 n0 n1 (Ok tt)) where
    prepared : (result : Looked) → Prepares work t1 t2 n1 n2 result → Preparing work t0 t2
    prepared result h = subst (λ t. Preparing work t t2) looked.told h.moments

    prepared_moments : (result : Looked) → Prepares work t1 t2 n1 n2 result → Alters (IsWorkOrStage work) (IsLeftOver work) t0 t2
    prepared_moments result h =
        alters_more (λ q. q ≡ work) (λ q. q ≡ new_journal_path work) (IsWorkOrStage work) (IsLeftOver work) (λ q k. inl k) (λ q k. inl k) t0 t2 (prepared result h)

    pub preparing_fell : (fault : WorkFault) → Prepares work t1 t2 n1 n2 (Err fault) → Enters {T = T} work t0 t2 n0 n2 (Err fault)
    preparing_fell fault h = record {
      moments = enters_at work t0 t2 (prepared_moments (Err fault) h);
      ready = tt;
      answer = λ v is. gives_nothing T (EntersAs v work) fault (h.fault fault refl);
      kept = λ v is no_. absurd (no_ (looked.answer v is));
      grows = (let first : n0 ≤ n1 = looked.grows in let more : n1 ≤ n2 = h.grows in omega (arith, first, more));
      failed = λ e. let same : fault ≡ Failed = cc e in rose_since n0 n1 n2 looked.grows (h.failed (ap Err same));
    }

    module _ (t3 : Option Told) (n3 : ℕ) (h : Prepares work t1 t2 n1 n2 (Ok tt)) where
      restaged_moments : (result : Looked) → Restages {T = Unit {0}} work t2 t3 n2 n3 result → Alters (IsStage work) (IsBelowStage work) t2 t3
      restaged_moments result k = at_alters (stage_path work) (IsStage work) (IsBelowStage work) t2 t3 k.moments

      entered_moments : (result : Looked) → Restages {T = Unit {0}} work t2 t3 n2 n3 result → ChangesAt work (IsWorkOrStage work) (IsLeftOver work) t0 t3
      entered_moments result k =
          enters_at work t0 t3
          (alters_then (IsWorkOrStage work) (IsLeftOver work) (never_both work) t0 t2 t3 (prepared_moments (Ok tt) h)
          (alters_more (IsStage work) (IsBelowStage work) (IsWorkOrStage work) (IsLeftOver work) (λ q s. inr s) (λ q b. inr b) t2 t3 (restaged_moments result k)))

      entered_grows : (result : Looked) → Restages {T = Unit {0}} work t2 t3 n2 n3 result → n0 ≤ n3
      entered_grows result k =
          let first : n0 ≤ n1 = looked.grows in
          let more : n1 ≤ n2 = h.grows in
          let last : n2 ≤ n3 = k.grows in
          omega (arith, first, more, last)

      emptied : (result : Looked) → IfSeen t2 (λ w. Gives (Empties w work) result) → IfSeen t0 (λ v. Gives (Empties v work) result)
      emptied result answer v is = at t0 t2 (prepared (Ok tt) h) answer is
        where
          at : (t0 t2 : Option Told) → Preparing work t0 t2 → IfSeen t2 (λ w. Gives (Empties w work) result) → IsSeen t0 v → Gives (Empties v work) result
          at (Some a) (Some b) went answer is =
              gives_more (Empties v work) (Empties (seen b.state) work) result
              (empties_back v (seen b.state) work (λ rest least.
              seen_stays (λ q. q ≡ work) (λ q. q ≡ new_journal_path work) (Some a) (Some b) went (stage_path work ++ rest) (below_not_work work rest)
              (below_not_new work rest least) v (seen b.state) is refl))
              (answer (seen b.state) refl)
          at (Some a) None went answer is = absurd went
          at None t went answer is = absurd is

      all_pass : IfSeen t0 (λ v. (answer : Looked) → Empties v work answer → EntersAs v work answer)
      all_pass v is answer e = inr (looked.answer v is, e)

      pub restaging_fell : (fault : WorkFault) → Restages {T = Unit {0}} work t2 t3 n2 n3 (Err fault) → Enters {T = T} work t0 t3 n0 n3 (Err fault)
      restaging_fell fault k = record {
        moments = entered_moments (Err fault) k;
        ready = tt;
        answer = λ v is. gives_err T (EntersAs v work) fault (gives_more {T = Unit {0}} (EntersAs v work) (Empties v work) (Err fault) (all_pass v is) (emptied (Err fault) k.answer v is));
        kept = λ v is no_. absurd (no_ (looked.answer v is));
        grows = entered_grows (Err fault) k;
        failed = λ e.
            let same : fault ≡ Failed = cc e in
            let first : n0 ≤ n1 = looked.grows in
            let more : n1 ≤ n2 = h.grows in
            rose_since n0 n2 n3 (omega (arith, first, more)) (k.failed (ap Err same));
      }

      module _ (sound : (a : Told) → t0 ≡ Some a → IsSound a.state) (k : Restages {T = Unit {0}} work t2 t3 n2 n3 (Ok tt)) where
        entry_stays : (name : Part) → name ≢ codes "stage" → IfSeen t2 (λ v. v (child work name) ≡ NoEntry) → IfSeen t3 (λ w. w (child work name) ≡ NoEntry)
        entry_stays name not_stage none w is =
            stays_so (IsStage work) (IsBelowStage work) t2 t3 (restaged_moments (Ok tt) k) (child work name)
            (λ e. not_stage (child-last work name (codes "stage") e))
            (λ within. omega (arith, longer_within (below_stage work) (child work name) within, length-append work (codes "stage" ∷ []), length-append work (name ∷ [])))
            (λ x. x ≡ NoEntry) none w is

        nothing_else : (name : Part) → name ≢ codes "stage" → IfSeen t3 (λ w. w (child work name) ≡ NoEntry)
        nothing_else name not_stage = elim (bytes_eq name (codes "journal.new")) as (λ b. bytes_eq name (codes "journal.new") ≡ b → IfSeen t3 (λ w. w (child work name) ≡ NoEntry)) [
          | true ↦ λ e.
              let same : name ≡ codes "journal.new" = (bytes_eq-Decides name (codes "journal.new")).0 e in
              entry_stays name not_stage (λ v is. ap (λ n. v (child work n)) same ∙ h.gone v is)
          | false ↦ λ e.
              let other : name ≢ codes "journal.new" = λ same. (let yes_ : bytes_eq name (codes "journal.new") ≡ true = (bytes_eq-Decides name (codes "journal.new")).1 same in cc) in
              entry_stays name not_stage
              (stays_so (λ q. q ≡ work) (λ q. q ≡ new_journal_path work) t0 t2 (prepared (Ok tt) h) (child work name) (λ s. child-apart work name s)
              (λ s. other (child-last work name (codes "journal.new") s)) (λ x. x ≡ NoEntry)
              (λ v is. others_missing v work (passed t0 sound v is work (looked.answer v is)) name not_stage other))
        ] refl

        pub entered : (value : T) → Enters {T = T} work t0 t3 n0 n3 (Ok value)
        entered value = record {
          moments = entered_moments (Ok tt) k;
          ready = λ w is. record { ready = k.ready w is; alone = λ name not_stage. nothing_else name not_stage w is };
          answer = λ v is. all_pass v is (Ok tt) (emptied (Ok tt) k.answer v is);
          kept = λ v is no_. absurd (no_ (looked.answer v is));
          grows = entered_grows (Ok tt) k;
          failed = λ e. cc e;
        }

-- where the stage stands after the work folder is made
pub place_after : (work : Path) (t0 t1 t2 : Option Told) (n0 n1 n2 : ℕ) → Looks (λ v answer. Tests v work answer) t0 t1 n0 n1 (Ok tt)
    → ((a : Told) → t0 ≡ Some a → IsSound a.state) → Prepares work t1 t2 n1 n2 (Ok tt)
    → IfSeen t2 (λ w. (w (stage_path work) ≡ NoEntry) ⊎ (w (stage_path work) ≡ Folder))
place_after work t0 t1 t2 n0 n1 n2 looked sound h =
    place_of_stage work t0 sound (λ v is. looked.answer v is) t2 (subst (λ t. Preparing work t t2) looked.told h.moments)
