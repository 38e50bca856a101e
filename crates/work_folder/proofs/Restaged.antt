-- What the exits of making the stage ready say.
use Rattle.std.specs.Prelude.{codes}
use Rattle.std.proofs.Common.{◌+◌, ◌≡◌, ◌≢◌, ◌⊎◌, ℕ, ◌≤◌, [], ◌∷◌, ◌++◌, length, Option, Some, Result, Ok, Err, refl, sym, ap, ◌∙◌, subst, inl, inr, arith, length-append, IsTrue}
use Rattle.folder_spec.specs.declared.FolderFault.{FolderFault}
use Rattle.folder_spec.specs.declared.Kind.{Kind}
use Rattle.folder_spec.specs.declared.Kind.TheVariants.{Dir}
use Rattle.folder_spec.specs.Path.{Path, below}
use Rattle.folder_spec.specs.State.{IsSound}
use Rattle.folder_spec.specs.Event.{MakeDir, Allowed, Told, Changes}
use Rattle.folder_spec.specs.Region.{apart_from}
use Rattle.folder_spec.specs.View.{Found, NoEntry, Folder, FileOf, Special, View, kind_found}
use Rattle.folder_spec.specs.Seen.{IfSeen, IsSeen, seen}
use Rattle.folder_spec.proofs.Paths.{child-apart, parent-child, not_below}
use Rattle.folder_spec.proofs.Replaces.{apart-below, apart-not_same}
use Rattle.folder_spec.proofs.Seen.{may_call_allowed}
use Rattle.folder_model.specs.Answers.{Counts, CountsAbove}
use Rattle.folder_model.proofs.Counting.{never_falls, rose_since, counts_after}
use Rattle.folder_staging.specs.declared.removal.RemovalFault.{RemovalFault}
use Rattle.folder_staging.specs.declared.removal.RemovalFault.TheVariants as removal
use Rattle.folder_staging.specs.Removal.{Reach, IsWithin, IsBare, RemovesAs, Removes}
use Rattle.work_folder.specs.declared.fault.WorkFault.TheVariants.{Failed, NoMemory}
use Rattle.work_folder.specs.Faults.{fault_of, removal_fault}
use Rattle.work_folder.specs.Entries.{stage_path}
use Rattle.work_folder.specs.Looking.{Gives}
use Rattle.work_folder.specs.Changing.{ChangesAt, Alters}
use Rattle.work_folder.specs.Entering.{below_stage, IsStage, IsBelowStage, Empties, Restages}
use Rattle.work_folder.proofs.Looks.{fell_gives}
use Rattle.folder_staging.proofs.Blame.{risen_by}
use Rattle.work_folder.proofs.Changed.{alters_none, alters_call, alters_more, changes_at, removal_alters}
use Rattle.work_folder.proofs.Steps.{put_there, found_there, bare_below, stays_so}

pub within_inside : (r : Reach) (q : Path) → IsWithin r q → IsTrue (apart_from r.at q) → ⊥
within_inside r q within apart = not_below r.at within.rest (ap (below r.at) (sym within.is) ∙ apart-below r.at q apart)

-- nothing within the reach of what is longer is shorter
pub longer_within : (r : Reach) (q : Path) → IsWithin r q → length r.at + r.least ≤ length q
longer_within r q within =
    let size : length q ≡ length (r.at ++ within.rest) = ap length within.is in
    let least : r.least ≤ length within.rest = within.least in
    omega (arith, size, least, length-append r.at within.rest)

pub is_folder : (x : Found) (kind : Kind) → kind ≡ Dir → kind ≡ kind_found x → x ≡ Folder
is_folder Folder kind is e = refl
is_folder NoEntry kind is e = cc (is, e)
is_folder (FileOf bytes) kind is e = cc (is, e)
is_folder Special kind is e = cc (is, e)

removal_failed : (fault : RemovalFault) → removal_fault fault ≡ Failed → fault ≡ removal.Failed
removal_failed removal.Failed e = refl
removal_failed removal.Depth e = cc e
removal_failed (removal.Other p) e = cc e
removal_failed removal.NoMemory e = cc e

module _ (work : Path) where
  pub work_not_stage : IsStage work work → ⊥
  work_not_stage e = child-apart work _ (sym e)

  pub work_not_below : IsBelowStage work work → ⊥
  work_not_below within = omega (arith, longer_within (below_stage work) work within, length-append work (codes "stage" ∷ []))

  pub stage_not_below : IsBelowStage work (stage_path work) → ⊥
  stage_not_below within = omega (arith, longer_within (below_stage work) (stage_path work) within)

  alters_at : (t u : Option Told) → Alters (IsStage work) (IsBelowStage work) t u → ChangesAt (stage_path work) (IsStage work) (IsBelowStage work) t u
  alters_at t u h =
      changes_at (stage_path work) (IsStage work) (IsBelowStage work) (λ q is apart. apart-not_same (stage_path work) q apart (sym is))
      (λ q within apart. within_inside (below_stage work) q within apart) t u h

  -- it ends before any change
  pub nothing_restaged : (t u : Option Told) (n0 n1 : ℕ) (fault : FolderFault) → u ≡ t → CountsAbove {T = Unit {0}} n0 n1 (Err fault) → n0 ≤ n1
      → Restages {T = Unit {0}} work t u n0 n1 (Err (fault_of fault))
  nothing_restaged t u n0 n1 fault same counts le = record {
    moments = alters_at t u (alters_none (IsStage work) (IsBelowStage work) t u same);
    ready = tt;
    answer = λ v is. fell_gives (Unit {0}) (Empties v work) fault;
    grows = le;
    failed = λ e. risen_by fault_of Failed (λ none. cc none) n0 n1 fault counts (cc e);
  }

  pub no_memory_restaged : (T : Type 0) (t : Option Told) (n : ℕ) → Restages {T = T} work t t n n (Err NoMemory)
  no_memory_restaged T t n = record {
    moments = alters_at t t (alters_none (IsStage work) (IsBelowStage work) t t refl);
    ready = tt;
    answer = λ v is. tt;
    grows = omega arith;
    failed = λ e. cc e;
  }

  removal_gives : (v : View) (fault : RemovalFault) → RemovesAs (below_stage work) v (Err fault) → Gives {T = Unit {0}} (Empties v work) (Err (removal_fault fault))
  removal_gives v removal.Depth h = h
  removal_gives v (removal.Other p) h = h
  removal_gives v removal.Failed h = tt
  removal_gives v removal.NoMemory h = tt

  -- what stands below a stage is removed
  module _ (t0 t1 t2 : Option Told) (n0 n1 n2 : ℕ) (same : t1 ≡ t0) (le : n0 ≤ n1) where
    removal_moments : (result : Result (Unit {0}) RemovalFault) → Removes (below_stage work) t1 t2 n1 n2 result → Alters (λ q. ⊥) (IsBelowStage work) t0 t2
    removal_moments result h = subst (λ t. Alters (λ q. ⊥) (IsBelowStage work) t t2) same (removal_alters (below_stage work) (λ q. ⊥) t1 t2 h.moments)

    pub removal_fell : (fault : RemovalFault) → Removes (below_stage work) t1 t2 n1 n2 (Err fault) → Restages {T = Unit {0}} work t0 t2 n0 n2 (Err (removal_fault fault))
    removal_fell fault h = record {
      moments = alters_at t0 t2 (alters_more (λ q. ⊥) (IsBelowStage work) (IsStage work) (IsBelowStage work) (λ q no_. absurd no_) (λ q k. k) t0 t2 (removal_moments (Err fault) h));
      ready = tt;
      answer = λ v is. removal_gives v fault (h.answer v (subst (λ t. IsSeen t v) (sym same) is));
      grows = (let more : n1 ≤ n2 = h.grows in omega (arith, le, more));
      failed = λ e. rose_since n0 n1 n2 le (h.failed (ap Err (removal_failed fault (cc e))));
    }

    pub removal_done : IfSeen t0 (λ v. v work ≡ Folder) → IfSeen t0 (λ v. v (stage_path work) ≡ Folder)
        → Removes (below_stage work) t1 t2 n1 n2 (Ok tt) → Restages {T = Unit {0}} work t0 t2 n0 n2 (Ok tt)
    removal_done folder stage h = record {
      moments = alters_at t0 t2 (alters_more (λ q. ⊥) (IsBelowStage work) (IsStage work) (IsBelowStage work) (λ q no_. absurd no_) (λ q k. k) t0 t2 (removal_moments (Ok tt) h));
      ready = λ w is. record {
        folder = stays_so (λ q. ⊥) (IsBelowStage work) t0 t2 (removal_moments (Ok tt) h) work (λ no_. no_) work_not_below (λ x. x ≡ Folder) folder w is;
        stage = stays_so (λ q. ⊥) (IsBelowStage work) t0 t2 (removal_moments (Ok tt) h) (stage_path work) (λ no_. no_) stage_not_below (λ x. x ≡ Folder) stage w is;
        bare = h.bare w is;
      };
      answer = λ v is. h.answer v (subst (λ t. IsSeen t v) (sym same) is);
      grows = (let more : n1 ≤ n2 = h.grows in omega (arith, le, more));
      failed = λ e. cc e;
    }

    -- a stage is made
    module _ (folder : IfSeen t0 (λ v. v work ≡ Folder)) (free : IfSeen t0 (λ v. v (stage_path work) ≡ NoEntry)) (sound : (a : Told) → t1 ≡ Some a → IsSound a.state) where
      make_allowed : (a : Told) → t1 ≡ Some a → Allowed a.state (MakeDir (stage_path work))
      make_allowed a is =
          let shown : IsSeen t0 (seen a.state) = subst (λ o. IsSeen o (seen a.state)) (sym is ∙ same) refl in
          may_call_allowed a.state (MakeDir (stage_path work)) (free (seen a.state) shown, ap (seen a.state) (parent-child work _) ∙ folder (seen a.state) shown)

      make_moments : (result : Result (Unit {0}) FolderFault) → Changes (MakeDir (stage_path work)) t1 t2 result → Alters (IsStage work) (λ q. ⊥) t0 t2
      make_moments result changes =
          subst (λ t. Alters (IsStage work) (λ q. ⊥) t t2) same (alters_call (IsStage work) (λ q. ⊥) (MakeDir (stage_path work)) t1 t2 result refl changes)

      make_at : (result : Result (Unit {0}) FolderFault) → Changes (MakeDir (stage_path work)) t1 t2 result → ChangesAt (stage_path work) (IsStage work) (IsBelowStage work) t0 t2
      make_at result changes =
          alters_at t0 t2 (alters_more (IsStage work) (λ q. ⊥) (IsStage work) (IsBelowStage work) (λ q k. k) (λ q no_. absurd no_) t0 t2 (make_moments result changes))

      pub make_fell : (fault : FolderFault) → Changes (MakeDir (stage_path work)) t1 t2 (Err fault) → Counts {T = Unit {0}} t1 n1 n2 (Err fault)
          → Restages {T = Unit {0}} work t0 t2 n0 n2 (Err (fault_of fault))
      make_fell fault changes counts = record {
        moments = make_at (Err fault) changes;
        ready = tt;
        answer = λ v is. fell_gives (Unit {0}) (Empties v work) fault;
        grows = (let more : n1 ≤ n2 = never_falls {T = Unit {0}} t1 n1 n2 (Err fault) counts in omega (arith, le, more));
        failed = λ e. risen_by fault_of Failed (λ none. cc none) n0 n2 fault (counts_after (MakeDir (stage_path work)) t1 t2 n0 n1 n2 (Err fault) le make_allowed changes counts) (cc e);
      }

      nothing_below : IfSeen t0 (λ v. IsBare (below_stage work) v)
      nothing_below v is [] least = absurd (omega (arith, least))
      nothing_below v is (a ∷ rest) least =
          bare_below t1 sound v (subst (λ t. IsSeen t v) (sym same) is) (stage_path work) a rest (λ dir. let both : NoEntry ≡ Folder = sym (free v is) ∙ dir in cc)

      pub make_done : Changes (MakeDir (stage_path work)) t1 t2 (Ok tt) → Counts {T = Unit {0}} t1 n1 n2 (Ok tt) → Restages {T = Unit {0}} work t0 t2 n0 n2 (Ok tt)
      make_done changes counts = record {
        moments = make_at (Ok tt) changes;
        ready = λ w is. record {
          folder = stays_so (IsStage work) (λ q. ⊥) t0 t2 (make_moments (Ok tt) changes) work work_not_stage (λ no_. no_) (λ x. x ≡ Folder) folder w is;
          stage = put_there (MakeDir (stage_path work)) (stage_path work) Folder t1 t2 (Ok tt) sound (found_there (stage_path work) Folder) changes w is;
          bare = λ rest least.
              stays_so (IsStage work) (λ q. ⊥) t0 t2 (make_moments (Ok tt) changes) (stage_path work ++ rest)
              (λ e. let size : length (stage_path work ++ rest) ≡ length (stage_path work) = ap length e in omega (arith, size, least, length-append (stage_path work) rest))
              (λ no_. no_) (λ x. x ≡ NoEntry) (λ v shown. nothing_below v shown rest least) w is;
        };
        answer = λ v is rest least.
            let none : v (stage_path work ++ rest) ≡ NoEntry = nothing_below v is rest least in
            (λ odd. let both : NoEntry ≡ Special = sym none ∙ odd in cc, λ deep. none);
        grows = (let more : n1 ≤ n2 = never_falls {T = Unit {0}} t1 n1 n2 (Ok tt) counts in omega (arith, le, more));
        failed = λ e. cc e;
      }

-- where no directory stands, nothing does
pub is_free : (x : Found) (kind : Kind) → kind ≢ Dir → kind ≡ kind_found x → (x ≡ NoEntry) ⊎ (x ≡ Folder) → x ≡ NoEntry
is_free x kind other e place = elim place as (λ _. x ≡ NoEntry) [ inl none ↦ none | inr folder ↦ absurd (other (e ∙ ap kind_found folder)) ]
