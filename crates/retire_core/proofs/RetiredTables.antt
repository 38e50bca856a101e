-- Tables in which the source is retired: the migration is guarded there, and stays so while something in the work folder is removed.
use Rattle.std.proofs.Common.{◌≡◌, ◌≢◌, ◌⊎◌, ℕ, Bool, true, false, List, [], ◌∷◌, None, refl, sym, ap, ◌∙◌, inl, inr, subst, append-nil, codes, bytes_eq, is_some, IsTrue}
use Rattle.std.proofs.Math.Path.{fun_ext}
use Rattle.std.proofs.lemmas.Slice.Eq.{bytes_eq-Decides}
use Rattle.folder_spec.proofs.Paths.{one_or_not}
use Rattle.folder_spec.proofs.Tables.{among-push, present_is_table, put-other, put-same}
use Rattle.folder_spec.specs.Event.{with_table}
use Rattle.folder_spec.specs.Path.{Part, Path, below, child}
use Rattle.folder_spec.specs.Region.{at_or_below}
use Rattle.folder_spec.specs.Seen.{seen, under}
use Rattle.folder_spec.specs.State.{Node, State, Table, IsAmong, IsClean, IsSound, IsTableOf, last_of, present, put}
use Rattle.folder_spec.specs.View.{Folder, NoEntry, View, found, kind_found, view_in}
use Rattle.folder_spec.specs.declared.Kind.{Kind}
use Rattle.folder_spec.specs.declared.Kind.TheVariants as kind
use Rattle.folder_spec.specs.declared.Spot.{Spot}
use Rattle.folder_spec.specs.declared.Spot.TheVariants.{Nothing, FileNode}
use Rattle.move_journal.specs.Journal.{IsJournal}
use Rattle.move_journal.specs.declared.journal.Journal.{Journal}
use Rattle.move_journal.specs.declared.journal.Phase.TheVariants as phase
use Rattle.move_journal.proofs.Standing.{HaveOneJournal, not_missing}
use Rattle.move_journal.specs.Reading.{StandsIn}
use Rattle.migration_spec.proofs.Guards.{ImagesShow, RootsAreAlike, guarded_by, journal_alike, kind_of_found, kinds_of, target_alike}
use Rattle.migration_spec.proofs.Kept.{apart_below, table_image}
use Rattle.migration_spec.specs.Guard as guard
use Rattle.migration_spec.specs.Guard.{Migration, Building, Case, Gone, Guarded, IsDone, IsGuarded, IsRetired, IsWork, LastJournal, NotBegun, Retired, Stands, has_old, has_old_by, kinds_in, old_path}
use Rattle.work_folder.specs.Entries.{is_foreign, journal_path}
use Rattle.retire_core.specs.Guarding.{IsAtRest, IsRetiredTable, IsRetiring}

-- ---- the work folder, where entries are gone

-- each kind is as it was, or nothing stands there now
abbrev pub AreFewer : (Path → Kind) → (Path → Kind) → Type 0
AreFewer k l = (q : Path) → (l q ≡ k q) ⊎ (l q ≡ kind.Missing)

nothing_foreign : (old : Bool) (name : Part) → is_foreign old name kind.Missing ≡ true → ⊥
nothing_foreign old name e = cc e

not_other : (k l : Path → Kind) (q : Path) → AreFewer k l → k q ≢ kind.Other → l q ≢ kind.Other
not_other k l q fewer none is = elim (fewer q) [ inl same ↦ none (sym same ∙ is) | inr gone ↦ missing (sym gone ∙ is) ]
  where
    missing : kind.Missing ≢ kind.Other
    missing e = cc e

pub fewer_work : (old : Bool) (k l : Path → Kind) (work : Path) → AreFewer k l → IsWork old k work → IsWork old l work
fewer_work old k l work fewer is = record {
  folder = elim (fewer work) [
    | inl same ↦ elim is.folder [ inl missing ↦ inl (same ∙ missing) | inr there ↦ inr (same ∙ there.0, entries there.1) ]
    | inr gone ↦ inl gone
  ];
  staged = λ q inside. not_other k l q fewer (is.staged q inside);
  moved = λ q inside. not_other k l q fewer (is.moved q inside);
}
  where
    entries : ((name : Part) → ¬ IsTrue (is_foreign old name (k (child work name)))) → (name : Part) → ¬ IsTrue (is_foreign old name (l (child work name)))
    entries none name foreign = elim (fewer (child work name)) [
      | inl same ↦ none name (ap (is_foreign old name) (sym same) ∙ foreign)
      | inr gone ↦ nothing_foreign old name (ap (is_foreign old name) (sym gone) ∙ foreign)
    ]

-- an entry that isn't `old` is foreign without it where it is with it
pub same_foreign : (name : Part) (k : Kind) → bytes_eq name (codes "old") ≡ false → is_foreign true name k ≡ is_foreign false name k
same_foreign name kind.Missing other = refl
same_foreign name kind.File other = refl
same_foreign name kind.Dir other = rw other refl
same_foreign name kind.Other other = refl

pub without_old : (k : Path → Kind) (work : Path) → k (old_path work) ≡ kind.Missing → IsWork true k work → IsWork false k work
without_old k work none is = record {
  folder = elim is.folder [ inl missing ↦ inl missing | inr there ↦ inr (there.0, λ name. entries name (there.1 name)) ];
  staged = is.staged;
  moved = is.moved;
}
  where
    entries : (name : Part) → ¬ IsTrue (is_foreign true name (k (child work name))) → ¬ IsTrue (is_foreign false name (k (child work name)))
    entries name no_ foreign = by_name (bytes_eq name (codes "old")) refl
      where
        by_name : (b : Bool) → bytes_eq name (codes "old") ≡ b → ⊥
        by_name true is = nothing_foreign false name (ap (is_foreign false name) (sym (ap (λ a. k (child work a)) ((bytes_eq-Decides name (codes "old")).0 is) ∙ none)) ∙ foreign)
        by_name false is = no_ (same_foreign name (k (child work name)) is ∙ foreign)

-- what stands alike is found alike
pub found_alike : (s : State) {x y : Spot} → x ≡ y → found (λ n. (s.nodes n).now) x ≡ found (λ n. (s.nodes n).now) y
found_alike s same = ap (found (λ n. (s.nodes n).now)) same

-- ---- guarded

pub kinds_in_table : (s : State) (t : Table) → kinds_in (view_in s t) ≡ kinds_of t
kinds_in_table s t = fun_ext (λ q. kind_of_found (λ n. (s.nodes n).now) (t q))

pub retiring_guarded : RootsAreAlike → ImagesShow → (g : Migration) (s : State) → IsRetiring g s → Guarded g s
retiring_guarded alike shown g s is = guarded_by alike shown g s is.separate (λ t among.
    let x = is.tables t among in
    record {
      view = view_in s t;
      shows = record { agrees = λ q kept. refl; clean = x.clean };
      case = Retired x.retired;
      work = subst (λ k. IsWork (has_old_by g (view_in s t) x.retired.journal) k g.work) (kinds_in_table s t) x.work;
    })

-- ---- at rest

pub only_table : (s : State) (t : Table) → s.later ≡ [] → IsTableOf s t → t ≡ present s
only_table s t settled among = only s.later settled among
  where
    only : (us : List Table) → us ≡ [] → IsAmong t (s.kept ∷ us) → t ≡ last_of s.kept us
    only [] e (inl is) = is
    only [] e (inr none) = absurd none
    only (u ∷ us) e among = absurd (cc e)

-- what a reader finds
pub rest_seen : (g : Migration) (s : State) → IsAtRest g s → IsGuarded g (seen s)
rest_seen g s at = at.guarded.images (record { table = present s; bytes = λ n. (s.nodes n).now; made = s.made }) (table_image s (present s) at.sound (present_is_table s))

-- where no source is seen, it is retired
pub rest_retired : (g : Migration) (s : State) → IsAtRest g s → seen s g.source.root ≡ NoEntry → IsRetiring g s
rest_retired g s at none = record { sound = at.sound; separate = at.guarded.separate; tables = λ t among. subst (IsRetiredTable g s) (sym (only_table s t at.settled among)) (by_case guarded.case guarded.work) }
  where
    guarded : IsGuarded g (seen s)
    guarded = rest_seen g s at

    clash : Folder ≡ NoEntry → ⊥
    clash e = cc e

    gone : guard.HoldsSource g (seen s) → ⊥
    gone source = clash (sym (guard_root source) ∙ none)
      where
        guard_root : guard.HoldsSource g (seen s) → seen s g.source.root ≡ Folder
        guard_root holds = ap (seen s) (sym (append-nil g.source.root)) ∙ holds.there.good.orderly.root_there

    by_case : (c : Case g (seen s)) → IsWork (has_old g (seen s) c) (kinds_in (seen s)) g.work → IsRetiredTable g s (present s)
    by_case (NotBegun is) work = absurd (gone is.source)
    by_case (Building is) work = absurd (gone is.source)
    by_case (guard.Done is) work = absurd (gone is.source)
    by_case (Retired is) work = record { clean = λ q n kept at_node. at.guarded.clean (present s) q n (present_is_table s) kept at_node; retired = is; work = work }

-- where a source is seen, and a journal that says that all is done, all is
pub rest_done : HaveOneJournal → (g : Migration) (s : State) (journal : Journal) → IsAtRest g s → seen s g.source.root ≢ NoEntry → IsJournal journal → journal.phase ≡ phase.Done
    → StandsIn g.work journal (seen s) → IsDone g (seen s)
rest_done one_journal g s journal at there is_journal done stands = by_case (rest_seen g s at).case
  where
    differ : phase.Building ≢ phase.Done
    differ e = cc e

    by_case : Case g (seen s) → IsDone g (seen s)
    by_case (NotBegun is) = absurd (not_missing g.work journal (seen s) stands is.journal)
    by_case (Building is) =
        let same : is.journal.journal ≡ journal = one_journal g.work (seen s) is.journal.journal journal is.journal.is is_journal is.journal.stands stands in
        absurd (differ (sym is.journal.in_phase ∙ ap (λ (j : Journal). j.phase) same ∙ done))
    by_case (guard.Done is) = is
    by_case (Retired is) = absurd (there is.gone)

-- it depends on the bytes of the files alone
pub same_nodes : (g : Migration) (s z : State) (t : Table) → z.nodes ≡ s.nodes → IsRetiredTable g s t → IsRetiredTable g z t
same_nodes g s z t same is = record {
  clean = λ q n kept at. subst (λ (nodes : ℕ → Node). IsClean (nodes n)) (sym same) (is.clean q n kept at);
  retired = by_view.0;
  work = by_view.1;
}
  where
    views : view_in s t ≡ view_in z t
    views = let look : (ℕ → Node) → View = λ nodes p. found (λ n. (nodes n).now) (t p) in ap look (sym same)

    by_view : (r : IsRetired g (view_in z t)) × IsWork (has_old_by g (view_in z t) r.journal) (kinds_in (view_in z t)) g.work
    by_view = subst (λ (v : View). (r : IsRetired g v) × IsWork (has_old_by g v r.journal) (kinds_in v) g.work) views (is.retired, is.work)

-- ---- something in the work folder is removed

module _ (alike : RootsAreAlike) (g : Migration) (s : State) (p : Path) (is : IsRetiring g s) (inside : IsTrue (at_or_below g.work p))
    (last : p ≡ journal_path g.work → present s (old_path g.work) ≡ Nothing) where
  abbrev before : IsRetiredTable g s (present s)
  before = is.tables (present s) (present_is_table s)

  abbrev after : Table
  after = put (present s) p Nothing

  abbrev v : View
  v = view_in s (present s)

  abbrev w : View
  w = view_in s after

  there_or_gone : (q : Path) → ((p ≡ q) × (after q ≡ Nothing)) ⊎ ((p ≢ q) × (after q ≡ present s q))
  there_or_gone q = elim (one_or_not p q) [
    | inl same ↦ inl (same, subst (λ z. after z ≡ Nothing) same (put-same (present s) p Nothing))
    | inr other ↦ inr (other.0, put-other (present s) p Nothing q other.0)
  ]

  fewer : AreFewer (kinds_in v) (kinds_in w)
  fewer q = elim (there_or_gone q) [ inl gone ↦ inr (ap kind_found (found_alike s gone.1)) | inr same ↦ inl (ap kind_found (found_alike s same.1)) ]

  -- what is apart from the work folder stays
  stays : (q : Path) → below g.work q ≡ None → w q ≡ v q
  stays q none = elim (there_or_gone q) [
    | inl gone ↦ absurd (clash (subst (λ z. IsTrue (at_or_below g.work z)) gone.0 inside) none)
    | inr same ↦ found_alike s same.1
  ]
    where
      clash : IsTrue (at_or_below g.work q) → below g.work q ≡ None → ⊥
      clash is_in none = let e : at_or_below g.work q ≡ false = ap is_some none in cc (is_in, e)

  target_stays : under g.target.root v ≡ under g.target.root w
  target_stays = alike g.target.root v w (λ q at. sym (stays q (apart_below g.target.root g.work q is.separate.target at)))

  abbrev Left : Type 0
  Left = (j : LastJournal g w) × IsWork (has_old_by g w j) (kinds_in w) g.work

  old_gone : present s (old_path g.work) ≡ Nothing → kinds_in w (old_path g.work) ≡ kind.Missing
  old_gone none = elim (there_or_gone (old_path g.work)) [
    | inl gone ↦ ap kind_found (found_alike s gone.1)
    | inr same ↦ ap kind_found (found_alike s (same.1 ∙ none))
  ]

  left_old : (old : Bool) → present s (old_path g.work) ≡ Nothing → IsWork old (kinds_in v) g.work → IsWork false (kinds_in w) g.work
  left_old true none work = without_old (kinds_in w) g.work (old_gone none) (fewer_work true (kinds_in v) (kinds_in w) g.work fewer work)
  left_old false none work = fewer_work false (kinds_in v) (kinds_in w) g.work fewer work

  left_by : (j : LastJournal g v) → IsWork (has_old_by g v j) (kinds_in v) g.work → (w (journal_path g.work) ≡ v (journal_path g.work)) → Left
  left_by (Stands has) work same = (Stands (journal_alike g phase.Done w v same has), fewer_work true (kinds_in v) (kinds_in w) g.work fewer work)
  left_by (Gone none) work same = (Gone (same ∙ none), fewer_work false (kinds_in v) (kinds_in w) g.work fewer work)

  left : Left
  left = elim (there_or_gone (journal_path g.work)) [
    | inl gone ↦ (Gone (found_alike s gone.1), left_old (has_old_by g v before.retired.journal) (last gone.0) before.work)
    | inr same ↦ left_by before.retired.journal before.work (found_alike s same.1)
  ]

  removed_table : IsRetiredTable g s after
  removed_table = record {
    clean = λ q n kept at. elim (there_or_gone q) [
      | inl gone ↦ absurd (no_node (sym gone.1 ∙ at))
      | inr same ↦ before.clean q n kept (sym same.1 ∙ at)
    ];
    retired = record {
      gone = elim (there_or_gone g.source.root) [ inl gone ↦ found_alike s gone.1 | inr same ↦ found_alike s same.1 ∙ before.retired.gone ];
      journal = left.0;
      target = target_alike g w v target_stays before.retired.target;
    };
    work = left.1;
  }
    where
      no_node : {n : ℕ} → Nothing ≡ FileNode n → ⊥
      no_node e = cc e

  -- so it stays retired
  pub removing : IsSound (with_table s after) → IsRetiring g (with_table s after)
  removing sound = record {
    sound = sound;
    separate = is.separate;
    tables = λ t among. elim among as (λ _. IsRetiredTable g (with_table s after) t) [
      | inl kept ↦ same_nodes g s (with_table s after) t refl (is.tables t (inl kept))
      | inr more ↦ elim (among-push t after s.later more) as (λ _. IsRetiredTable g (with_table s after) t) [
        | inl earlier ↦ same_nodes g s (with_table s after) t refl (is.tables t (inr earlier))
        | inr new ↦ same_nodes g s (with_table s after) t refl (subst (IsRetiredTable g s) (sym new) removed_table)
      ]
    ];
  }
