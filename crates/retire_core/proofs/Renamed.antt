-- A source that is moved into the work folder at once: it is retired from then on.
use Rattle.std.proofs.Common.{◌≡◌, ◌≢◌, ◌⊎◌, ℕ, Bool, true, false, [], ◌∷◌, ◌++◌, None, refl, sym, ap, ◌∙◌, inl, inr, subst, append-nil, append_assoc, codes, bytes_eq, IsTrue}
use Rattle.std.proofs.lemmas.Slice.Eq.{bytes_eq-Decides}
use Rattle.folder_spec.proofs.Paths.{begins_or_not, below-apart, below-both}
use Rattle.folder_spec.proofs.Tables.{among-push, last_of-push, moved-new, moved-old, moved-other, present_is_table}
use Rattle.folder_spec.specs.Event.{Settle, changed, with_table}
use Rattle.folder_spec.specs.Path.{Part, Path, below, child}
use Rattle.folder_spec.specs.Seen.{seen, under}
use Rattle.folder_spec.specs.State.{State, Table, IsClean as CleanNode, IsSound, IsTableOf, moved, present}
use Rattle.folder_spec.specs.View.{FileOf, Folder, Found, NoEntry, Special, View, kind_found, view_in}
use Rattle.folder_spec.specs.declared.Kind.TheVariants as kind
use Rattle.folder_spec.specs.declared.Spot.TheVariants.{Nothing, FileNode}
use Rattle.move_journal.specs.declared.journal.Phase.TheVariants as phase
use Rattle.migration_spec.proofs.Guards.{ImagesShow, RootsAreAlike, guarded_by, ShowsCase, journal_alike, target_alike}
use Rattle.migration_spec.proofs.Kept.{apart_below, behind_none, is_below, kept_is}
use Rattle.migration_spec.specs.Guard as guard
use Rattle.migration_spec.specs.Guard.{Migration, Guarded, IsGuarded, IsRetired, IsWork, Stands, has_old, is_kept, kinds_in, old_path}
use Rattle.vault_spec.specs.Alike.{IsOrderly}
use Rattle.vault_spec.specs.Findings.{IsClean}
use Rattle.vault_spec.specs.Vault.{Vault, format_of}
use Rattle.item_making.specs.Making.{is_inside}
use Rattle.work_folder.specs.Entries.{is_foreign, journal_path, stage_path}
use Rattle.retire_core.proofs.RetiredTables.{found_alike, kinds_in_table, only_table, rest_seen, same_foreign, same_nodes}
use Rattle.retire_core.specs.Guarding.{IsDoneAtRest, IsRetiredTable, IsRetiring}

-- below the root of a clean vault are only files and directories
abbrev pub HasNoSpecial : Type 0
HasNoSpecial = (vault : Vault) (v : View) → IsClean (format_of vault) v → IsOrderly (format_of vault) v → (p : Path) → v p ≢ Special

kind_special : (x : Found) → kind_found x ≡ kind.Other → x ≡ Special
kind_special NoEntry e = cc e
kind_special Folder e = cc e
kind_special (FileOf bytes) e = cc e
kind_special Special e = refl

-- what is inside a path is behind it
inside_is : (at q : Path) → IsTrue (is_inside (below at q)) → (rest : Path) × (q ≡ at ++ rest)
inside_is at q is = elim (begins_or_not at q) [
  | inl there ↦ there
  | inr none ↦ absurd (clash (ap is_inside none) is)
]
  where
    clash : {b : Bool} → b ≡ false → b ≡ true → ⊥
    clash isnt is = cc (isnt, is)

module _ (alike : RootsAreAlike) (none_special : HasNoSpecial) (g : Migration) (s : State) (at : IsDoneAtRest g s) where
  abbrev t : Table
  t = present s

  abbrev old : Path
  old = old_path g.work

  abbrev after : Table
  after = moved t g.source.root old

  abbrev v : View
  v = view_in s t

  abbrev w : View
  w = view_in s after

  -- the work folder before: nothing is foreign, and `old` isn't there
  guarded : IsGuarded g (seen s)
  guarded = rest_seen g s at.rest

  work_before : IsWork false (kinds_in v) g.work
  work_before = by_case guarded.case guarded.work
    where
      clash : {x : Found} → x ≡ Folder → x ≡ NoEntry → ⊥
      clash one two = let e : Folder ≡ NoEntry = sym one ∙ two in cc e

      root_there : v g.source.root ≡ Folder
      root_there = ap v (sym (append-nil g.source.root)) ∙ at.done.source.there.good.orderly.root_there

      by_case : (c : guard.Case g (seen s)) → IsWork (has_old g (seen s) c) (kinds_in (seen s)) g.work → IsWork false (kinds_in v) g.work
      by_case (guard.NotBegun is) work = work
      by_case (guard.Building is) work = work
      by_case (guard.Done is) work = work
      by_case (guard.Retired is) work = absurd (clash root_there is.gone)

  source_apart : (rest : Path) → below old (g.source.root ++ rest) ≡ None
  source_apart rest = behind_none g.work (codes "old" ∷ []) (g.source.root ++ rest) (below-apart g.work g.source.root rest at.rest.guarded.separate.source.other at.rest.guarded.separate.source.one)

  -- what is neither moved nor where it is moved to stays
  stays : (q : Path) → below old q ≡ None → below g.source.root q ≡ None → after q ≡ t q
  stays q not_new not_old = moved-other t g.source.root old q not_new not_old

  in_work : (rest : Path) → below g.source.root (g.work ++ rest) ≡ None
  in_work rest = below-apart g.source.root g.work rest at.rest.guarded.separate.source.one at.rest.guarded.separate.source.other

  entry_stays : (name : Part) → bytes_eq (codes "old") name ≡ false → after (child g.work name) ≡ t (child g.work name)
  entry_stays name other = stays (child g.work name) (below-both g.work (codes "old" ∷ []) (name ∷ []) ∙ rw other refl) (in_work (name ∷ []))

  source_gone : after g.source.root ≡ Nothing
  source_gone = subst (λ q. after q ≡ Nothing) (append-nil g.source.root) (moved-old t g.source.root old [] (source_apart []))

  old_there : (rest : Path) → after (old ++ rest) ≡ t (g.source.root ++ rest)
  old_there rest = moved-new t g.source.root old rest

  target_stays : under g.target.root v ≡ under g.target.root w
  target_stays = alike g.target.root v w (λ q inside.
      let there = is_below g.target.root q inside in
      sym (found_alike s (stays q
      (behind_none g.work (codes "old" ∷ []) q (apart_below g.target.root g.work q at.rest.guarded.separate.target inside))
      (ap (below g.source.root) there.1 ∙ below-apart g.source.root g.target.root there.0 at.rest.guarded.separate.vaults.one at.rest.guarded.separate.vaults.other))))

  journal_stays : w (journal_path g.work) ≡ v (journal_path g.work)
  journal_stays = found_alike s (entry_stays (codes "journal") refl)

  clean_after : (q : Path) (n : ℕ) → IsTrue (is_kept g q) → after q ≡ FileNode n → CleanNode (s.nodes n)
  clean_after q n kept at_node = by_source (begins_or_not g.source.root q)
    where
      not_in_old : below old q ≡ None
      not_in_old = elim (kept_is g at.rest.guarded.separate q kept) [
        | inl journal ↦ subst (λ z. below old z ≡ None) journal (below-both g.work (codes "old" ∷ []) (codes "journal" ∷ []))
        | inr none ↦ behind_none g.work (codes "old" ∷ []) q none
      ]

      no_node : Nothing ≡ FileNode n → ⊥
      no_node e = cc e

      by_source : ((rest : Path) × (q ≡ g.source.root ++ rest)) ⊎ (below g.source.root q ≡ None) → CleanNode (s.nodes n)
      by_source (inl there) = absurd (no_node (sym (moved-old t g.source.root old there.0 (source_apart there.0)) ∙ ap after (sym there.1) ∙ at_node))
      by_source (inr none) = at.rest.guarded.clean t q n (present_is_table s) kept (sym (stays q not_in_old none) ∙ at_node)

  -- the work folder afterwards
  kind_stays : (q : Path) → after q ≡ t q → kinds_in w q ≡ kinds_in v q
  kind_stays q same = ap kind_found (found_alike s same)

  work_stays : after g.work ≡ t g.work
  work_stays = stays g.work (subst (λ q. below old q ≡ None) (append-nil g.work) (below-both g.work (codes "old" ∷ []) [])) (subst (λ q. below g.source.root q ≡ None) (append-nil g.work) (in_work []))

  old_folder : kinds_in w old ≡ kind.Dir
  old_folder = ap kind_found (found_alike s (ap after (sym (append-nil old)) ∙ old_there []) ∙ at.done.source.there.good.orderly.root_there)

  entries : ((name : Part) → ¬ IsTrue (is_foreign false name (kinds_in v (child g.work name)))) → (name : Part) → ¬ IsTrue (is_foreign true name (kinds_in w (child g.work name)))
  entries none name foreign = by_name (bytes_eq name (codes "old")) refl
    where
      no_foreign : is_foreign true (codes "old") kind.Dir ≡ true → ⊥
      no_foreign e = cc e

      turn : (b : Bool) → bytes_eq name (codes "old") ≡ false → bytes_eq (codes "old") name ≡ b → bytes_eq (codes "old") name ≡ false
      turn false isnt e = e
      turn true isnt e =
          let same : codes "old" ≡ name = (bytes_eq-Decides (codes "old") name).0 e in
          let is : bytes_eq name (codes "old") ≡ true = (bytes_eq-Decides name (codes "old")).1 (sym same) in
          cc (isnt, is)

      by_name : (b : Bool) → bytes_eq name (codes "old") ≡ b → ⊥
      by_name true e =
          let same : name ≡ codes "old" = (bytes_eq-Decides name (codes "old")).0 e in
          no_foreign (ap (is_foreign true (codes "old")) (sym old_folder) ∙ ap (λ a. is_foreign true a (kinds_in w (child g.work a))) (sym same) ∙ foreign)
      by_name false e =
          none name (sym (same_foreign name (kinds_in v (child g.work name)) e)
          ∙ ap (is_foreign true name) (sym (kind_stays (child g.work name) (entry_stays name (turn (bytes_eq (codes "old") name) e refl)))) ∙ foreign)

  work_after : IsWork true (kinds_in w) g.work
  work_after = record {
    folder = elim work_before.folder [
      | inl missing ↦ inl (kind_stays g.work work_stays ∙ missing)
      | inr there ↦ inr (kind_stays g.work work_stays ∙ there.0, entries there.1)
    ];
    staged = λ q inside other.
        let there = inside_is (stage_path g.work) q inside in
        let same : after q ≡ t q = stays q (ap (below old) (there.1 ∙ append_assoc g.work (codes "stage" ∷ []) there.0) ∙ below-both g.work (codes "old" ∷ []) (codes "stage" ∷ there.0))
        (ap (below g.source.root) (there.1 ∙ append_assoc g.work (codes "stage" ∷ []) there.0) ∙ in_work (codes "stage" ∷ there.0)) in
        work_before.staged q inside (sym (kind_stays q same) ∙ other);
    moved = λ q inside other.
        let there = inside_is old q inside in
        none_special g.source.vault (under g.source.root v) at.done.source.there.good.clean at.done.source.there.good.orderly there.0
        (kind_special (v (g.source.root ++ there.0)) (ap kind_found (found_alike s (sym (old_there there.0))) ∙ ap (kinds_in w) (sym there.1) ∙ other));
  }

  abbrev retired_after : IsRetired g w
  retired_after = record {
    gone = found_alike s source_gone;
    journal = Stands (journal_alike g phase.Done w v journal_stays at.done.journal);
    target = target_alike g w v target_stays at.done.target;
  }

  moved_table : IsRetiredTable g s after
  moved_table = record { clean = clean_after; retired = retired_after; work = work_after }

  -- guarded once it is moved, and retired once that is settled
  pub moved_guarded : ImagesShow → Guarded g (with_table s after)
  moved_guarded shown = guarded_by alike shown g (with_table s after) at.rest.guarded.separate (λ u among. by_table u among)
    where
      before_shows : ShowsCase g s t
      before_shows = record {
        view = v;
        shows = record { agrees = λ q kept. refl; clean = λ q n kept at_node. at.rest.guarded.clean t q n (present_is_table s) kept at_node };
        case = guard.Done at.done;
        work = subst (λ k. IsWork false k g.work) (kinds_in_table s t) work_before;
      }

      after_shows : ShowsCase g s after
      after_shows = record {
        view = w;
        shows = record { agrees = λ q kept. refl; clean = clean_after };
        case = guard.Retired retired_after;
        work = subst (λ k. IsWork true k g.work) (kinds_in_table s after) work_after;
      }

      on_later : (u : Table) → ShowsCase g s u → ShowsCase g (with_table s after) u
      on_later u x = record { view = x.view; shows = record { agrees = x.shows.agrees; clean = x.shows.clean }; case = x.case; work = x.work }

      by_table : (u : Table) → IsTableOf (with_table s after) u → ShowsCase g (with_table s after) u
      by_table u among = elim among as (λ _. ShowsCase g (with_table s after) u) [
        | inl kept ↦ on_later u (subst (ShowsCase g s) (sym (only_table s u at.rest.settled (inl kept))) before_shows)
        | inr more ↦ elim (among-push u after s.later more) as (λ _. ShowsCase g (with_table s after) u) [
          | inl earlier ↦ on_later u (subst (ShowsCase g s) (sym (only_table s u at.rest.settled (inr earlier))) before_shows)
          | inr new ↦ on_later u (subst (ShowsCase g s) (sym new) after_shows)
        ]
      ]

  pub moved_settled : IsSound (changed (with_table s after) Settle) → IsRetiring g (changed (with_table s after) Settle)
  moved_settled sound = record {
    sound = sound;
    separate = at.rest.guarded.separate;
    tables = λ u among. elim among as (λ _. IsRetiredTable g (changed (with_table s after) Settle) u) [
      | inl is ↦ same_nodes g s (changed (with_table s after) Settle) u refl (subst (IsRetiredTable g s) (sym (is ∙ last_of-push s.kept s.later after)) moved_table)
      | inr none ↦ absurd none
    ];
  }
